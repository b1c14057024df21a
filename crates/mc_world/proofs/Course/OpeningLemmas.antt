-- The parts of a world when it is opened.
use Rattle.std.proofs.Common.{◌≡◌, ◌∙◌, ℕ, List, [], length, ap}
use Rattle.std.specs.Prelude.{replicate, sum}
use Rattle.mc_ring.specs.Rings.{RingState}
use Rattle.mc_route.specs.declared.losses.Losses.{Losses}
use Rattle.mc_cache.specs.CacheState.{opening_cache}
use Rattle.mc_proxy.specs.ProxyState.{ProxyState}
use Rattle.mc_world.specs.Logs.{Log}
use Rattle.mc_world.specs.WorldState.{PoolState, SiteState}
use Rattle.mc_world.specs.Worlds.{ClientState, CourseState, WorldState, first_site, homes_from, nobody, opening_proxies, world_opened}

-- a pool and a course, from their parts
abbrev parts_of : List ℕ → List ProxyState → List SiteState → PoolState
parts_of homes proxies sites = record { homes = homes; proxies = proxies; sites = sites }

abbrev course_with : PoolState → List ClientState → Log → CourseState
course_with pool clients log = record { pool = pool; clients = clients; log = log }

-- the course, from its parts
pub opened_as : (losses : Losses) (ring : RingState) (clients : List ℕ) (budget items stores : ℕ) (pool : PoolState) (homes : List ℕ) (proxies : List ProxyState) (sites : List SiteState)
    (list : List ClientState) (log : Log) → pool ≡ record { homes = homes; proxies = proxies; sites = sites } → homes ≡ homes_from 0 clients
    → proxies ≡ opening_proxies losses ring 0 clients → sites ≡ replicate stores (first_site (opening_cache budget items 0) (length clients)) → stores ≡ length ring.servers
    → list ≡ replicate (sum clients) nobody → log ≡ [] → record { pool = pool; clients = list; log = log } ≡ (world_opened losses ring clients budget items).course
opened_as losses ring clients budget items stores pool homes proxies sites list log pool_is homes_is proxies_is sites_is each list_is log_is =
    let opened : PoolState = (world_opened losses ring clients budget items).course.pool in
    ap (λ (p : PoolState). course_with p list log) (pool_is
    ∙ ap (λ (hs : List ℕ). parts_of hs proxies sites) homes_is
    ∙ ap (λ (ps : List ProxyState). parts_of (homes_from 0 clients) ps sites) proxies_is
    ∙ ap (λ (ss : List SiteState). parts_of (homes_from 0 clients) (opening_proxies losses ring 0 clients) ss) (sites_is
    ∙ ap (λ (n : ℕ). replicate n (first_site (opening_cache budget items 0) (length clients))) each))
    ∙ ap (λ (cs : List ClientState). course_with opened cs log) list_is
    ∙ ap (λ (l : Log). course_with opened (replicate (sum clients) nobody) l) log_is

-- the world, from its course
abbrev pub world_of : CourseState → Losses → RingState → ℕ → ℕ → WorldState
world_of course losses opening budget items = record { course = course; losses = losses; opening = opening; budget = budget; items = items }

pub opened_world : (losses : Losses) (ring opening : RingState) (clients : List ℕ) (budget items : ℕ) (course : CourseState)
    → course ≡ (world_opened losses ring clients budget items).course → opening ≡ ring → world_of course losses opening budget items ≡ world_opened losses ring clients budget items
opened_world losses ring opening clients budget items course course_is ring_is =
    ap (λ (c : CourseState). world_of c losses opening budget items) course_is
    ∙ ap (λ (r : RingState). world_of (world_opened losses ring clients budget items).course losses r budget items) ring_is
