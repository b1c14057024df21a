-- A world that was just opened holds.
use Rattle.std.proofs.Common.{◌≡◌, ◌≢◌, ◌∙◌, ⊎_elim, ℕ, zero, suc, ◌+◌, ◌<◌, ◌≤◌, ◌==◌, ◌⊎◌, inl, inr, Bool, true, false, if◌then◌else◌, List, [], ◌∷◌, ◌++◌, length, fold, Some, None, slice_get, slice_index_or, refl, sym, ap, subst, arith}
use Rattle.std.specs.Prelude.{replicate, sum}
use Rattle.std.specs.List.{list_all}
use Rattle.std.proofs.lemmas.Bool.{cases_lt}
use Rattle.std.proofs.lemmas.List.Elements.{All-nil}
use Rattle.std.proofs.lemmas.List.{drop_all, get_or-replicate, length-replicate}
use Rattle.std.proofs.lemmas.Option.{none-some, same_Some}
use Rattle.mc_request.specs.Requests.{requests_of, requests_within}
use Rattle.mc_ring.specs.Rings.{IsRing, RingState}
use Rattle.mc_route.specs.declared.losses.Losses.{Losses}
use Rattle.mc_route.specs.declared.losses.Losses.TheVariants.{Told}
use Rattle.mc_link.specs.LinkState.{LinkState, down_link, up_link}
use Rattle.mc_cache.specs.CacheState.{CacheState, opening_cache}
use Rattle.mc_cache_laws.specs.GoodCaches.{IsGoodCache}
use Rattle.mc_cache_laws.proofs.GoodStepLemmas.{opening_is_good}
use Rattle.mc_server.specs.Holds.{ServerHolds}
use Rattle.mc_server.specs.ServerState.{ServerState, connection_at, fresh_connection}
use Rattle.mc_server.proofs.ConnectionLemmas.{fresh_other, fresh_own}
use Rattle.mc_server.proofs.HoldsLemmas.{ServerHolds-admitted, ServerHolds-new}
use Rattle.mc_proxy.specs.SessionState.{SessionState, answered, fresh_session, link_at}
use Rattle.mc_proxy.specs.ProxyState.{ProxyState, output_of, session_at, session_in}
use Rattle.mc_account.specs.Lanes.{Lane, LinkHolds, fresh_lane, sent_on}
use Rattle.mc_account.specs.Orders.{HasChoice, IsSized, Order, Tagged, commands_to}
use Rattle.mc_account.specs.Holds.{ProxyHolds}
use Rattle.mc_account.proofs.LaneLemmas.{lane_fresh}
use Rattle.mc_account.proofs.OpenSessions.{other_number}
use Rattle.mc_account.proofs.HoldsLemmas.{holds-admitted}
use Rattle.mc_history.specs.Generations.{is_good}
use Rattle.mc_history.specs.Made.{Each}
use Rattle.mc_history.specs.Named.{AreReplied, IsNamed}
use Rattle.mc_world.specs.CourseHolds.{CourseHolds, HaveOneGeneration}
use Rattle.mc_world.specs.Homes.{Homes, of_proxy, own_of}
use Rattle.mc_world.specs.LogHolds.{IsFresh}
use Rattle.mc_world.specs.Pools.{PoolHolds}
use Rattle.mc_world.specs.Sites.{SiteHolds}
use Rattle.mc_world.specs.WorldState.{PoolState, SiteState, WayState, begun_of, histories_of, home_of, link_of, no_proxy, no_way, proxy_at, proxy_in, session_of}
use Rattle.mc_world.specs.Worlds.{ClientState, admitting, client_at, first_site, first_ways, fresh_sessions, nobody, opening_pool, opening_proxies, opening_proxy, world_opened}
use Rattle.mc_world.proofs.Course.DoneLemmas.{stood_as}
use Rattle.mc_world.proofs.Course.GenerationStayLemmas.{never_lost}
use Rattle.mc_world.proofs.Course.OpeningPartLemmas.{admitting_count, one_admitted}
use Rattle.mc_world.proofs.Log.AccountLemmas.{log_begins}

no_requests : requests_of [] ≡ []
unfolding requests_of requests_within
no_requests = refl

-- the number of the next one is not in use
session_above : (from count number : ℕ) → from + count ≤ number → session_in (fresh_sessions from count) number ≡ None
session_above from zero number above = refl
session_above from (suc count) number above =
    let again = session_above (suc from) count number (omega (arith, above)) in
    ap (λ (v : Bool). if v then Some fresh_session else session_in (fresh_sessions (suc from) count) number) (other_number from number (λ e. omega (arith, above, e))) ∙ again

-- what holds of each proxy that has just been opened, and of none, holds of those of a pool
each_proxy : (P : ProxyState → Type 0) (losses : Losses) (ring : RingState) (first : ℕ) (clients : List ℕ) (proxy : ℕ) → P no_proxy
    → ((number count : ℕ) → P (opening_proxy losses ring number count)) → P (proxy_in (opening_proxies losses ring first clients) proxy)
each_proxy P losses ring first [] proxy none each = none
each_proxy P losses ring first (c ∷ cs) zero none each = each first c
each_proxy P losses ring first (c ∷ cs) (suc proxy) none each = each_proxy P losses ring (first + c) cs proxy none each

each_inside : (P : ProxyState → Type 0) (losses : Losses) (ring : RingState) (first : ℕ) (clients : List ℕ) (proxy : ℕ) → proxy < length clients
    → ((number count : ℕ) → P (opening_proxy losses ring number count)) → P (proxy_in (opening_proxies losses ring first clients) proxy)
each_inside P losses ring first [] proxy inside each = absurd (omega (arith, inside))
each_inside P losses ring first (c ∷ cs) zero inside each = each first c
each_inside P losses ring first (c ∷ cs) (suc proxy) inside each = each_inside P losses ring (first + c) cs proxy (omega (arith, inside)) each

proxies-length : (losses : Losses) (ring : RingState) (first : ℕ) (clients : List ℕ) → length (opening_proxies losses ring first clients) ≡ length clients
proxies-length losses ring first [] = refl
proxies-length losses ring first (c ∷ cs) = ap suc (proxies-length losses ring (first + c) cs)

-- each has the choice for lost commands
pub opening_losses : (losses : Losses) (opening : CacheState) (ring : RingState) (clients : List ℕ) (proxy : ℕ) → proxy < length (opening_pool losses opening ring clients).proxies
    → (proxy_at (opening_pool losses opening ring clients) proxy).losses ≡ losses
opening_losses losses opening ring clients proxy inside =
    let size = proxies-length losses ring 0 clients in
    each_inside (λ p. p.losses ≡ losses) losses ring 0 clients proxy (omega (arith, inside, size)) (λ number count. refl)

-- a link of a pool that was just opened
up_or_none : (n place : ℕ) → (link_at (replicate n (up_link 1)) place ≡ up_link 1) ⊎ (link_at (replicate n (up_link 1)) place ≡ down_link 0)
up_or_none zero zero = inr refl
up_or_none zero (suc place) = inr refl
up_or_none (suc n) zero = inl refl
up_or_none (suc n) (suc place) = up_or_none n place

link_opens : (n place : ℕ) → LinkHolds place [] (fresh_lane 0) (link_at (replicate n (up_link 1)) place)
link_opens n place =
    ⊎_elim
    (λ up. subst (λ (l : LinkState). LinkHolds place [] (fresh_lane 0) l) (sym up) (λ _. lane_fresh place 1 [] refl, λ down. absurd (down refl)))
    (λ none. subst (λ (l : LinkState). LinkHolds place [] (fresh_lane 0) l) (sym none) (λ up. absurd cc, λ _. record { nothing = refl; outcomes = refl }))
    (up_or_none n place)

-- a proxy without clients, with this many links, and one with some
unused_opens : (losses : Losses) (ring : RingState) (admitted links : ℕ) → ProxyHolds (λ _. []) (λ _. []) [] (λ _. fresh_lane 0)
    (record { losses = losses; ring = ring; sessions = []; admitted = admitted; links = replicate links (up_link 1) })
unused_opens losses ring admitted links = record {
  sized = All-nil IsSized;
  chosen = All-nil (HasChoice losses);
  numbered = λ number. refl;
  sessions = λ number. record { untaken = []; rest = sym no_requests; done = []; incomplete = []; split = refl; complete = refl; unsent = []; answered = refl };
  unused = λ number above. record { not_open = refl; nothing_came = refl; nothing_taken = refl; nothing_sent = refl };
  links = λ place. link_opens links place;
}

proxy_opens : (losses : Losses) (ring : RingState) (first clients : ℕ) → ProxyHolds (λ _. []) (λ _. []) [] (λ _. fresh_lane 0) (opening_proxy losses ring first clients)
proxy_opens losses ring first zero = unused_opens losses ring (first + 0) (length ring.servers)
proxy_opens losses ring first (suc clients) =
    subst (λ (p : ProxyState). ProxyHolds (λ _. []) (λ _. []) [] (λ _. fresh_lane 0) p) (one_admitted losses ring first clients)
    (holds-admitted (λ _. []) (λ _. []) [] (λ _. fresh_lane 0) (opening_proxy losses ring first clients) (proxy_opens losses ring first clients)
    (session_above first clients (first + clients) (omega arith)))

-- nothing is a proxy's own of nothing
own_none : (home : Homes) (proxy client : ℕ) → [] ≡ own_of home proxy (λ _. []) client
own_none home proxy client = elim (home client == proxy) as (λ v. ◌≡◌ {A = List ℕ} [] (if v then [] else [])) [
  | true ↦ refl
  | false ↦ refl
]

proxies_open : (losses : Losses) (ring : RingState) (first : ℕ) (clients : List ℕ) (home : Homes) (proxy : ℕ)
    → ProxyHolds (own_of home proxy (λ _. [])) (own_of home proxy (λ _. [])) [] (λ _. fresh_lane 0) (proxy_in (opening_proxies losses ring first clients) proxy)
proxies_open losses ring first clients home proxy =
    let nothing : ◌≡◌ {A = ℕ → List ℕ} (λ _. []) (own_of home proxy (λ _. [])) = λ i n. own_none home proxy n i in
    subst (λ (bytes : ℕ → List ℕ). ProxyHolds bytes bytes [] (λ _. fresh_lane 0) (proxy_in (opening_proxies losses ring first clients) proxy)) nothing
    (each_proxy (λ p. ProxyHolds (λ _. []) (λ _. []) [] (λ _. fresh_lane 0) p) losses ring first clients proxy
    (unused_opens Told (record { servers = []; points = [] }) 0 0) (proxy_opens losses ring))

-- a server that has admitted connections alone
admitting_cache : (opening : CacheState) (n : ℕ) → (admitting opening n).cache ≡ opening
admitting_cache opening zero = refl
admitting_cache opening (suc n) = admitting_cache opening n

admitting_holds : (opening : CacheState) (n : ℕ) → ServerHolds opening (λ _. []) (λ _. []) [] (admitting opening n)
admitting_holds opening zero = ServerHolds-new opening
admitting_holds opening (suc n) = ServerHolds-admitted opening (λ _. []) (λ _. []) [] (admitting opening n) (admitting_holds opening n)

admitting_open : (opening : CacheState) (n number : ℕ) → number < n → connection_at (admitting opening n) number ≡ Some fresh_connection
admitting_open opening zero number inside = absurd (omega (arith, inside))
admitting_open opening (suc n) number inside =
    let s : ServerState = admitting opening n in
    let count = admitting_count opening n in
    ⊎_elim
    (λ (below : number < n). fresh_other s.admitted number fresh_connection s.connections (λ same. omega (arith, below, count, same)) ∙ admitting_open opening n number below)
    (λ (above : n ≤ number). let last : s.admitted ≡ number = omega (arith, above, inside, count) in
    subst (λ (m : ℕ). connection_at (admitting opening (suc n)) m ≡ Some fresh_connection) last
    (fresh_own s.admitted fresh_connection s.connections ((admitting_holds opening n).unused s.admitted (omega arith)).not_open))
    (cases_lt number n)

-- the way of a proxy to a server of a pool that was just opened
ways-length : (from n : ℕ) → length (first_ways from n) ≡ n
ways-length from zero = refl
ways-length from (suc n) = ap suc (ways-length (suc from) n)

first_way : (from n proxy : ℕ) → proxy < n → slice_index_or (first_ways from n) proxy no_way ≡ record { generation = 1; connection = from + proxy; ahead = 0 }
first_way from zero proxy inside = absurd (omega (arith, inside))
first_way from (suc n) zero inside = let same : from ≡ from + 0 = omega arith in ap (λ (c : ℕ). record { generation = 1; connection = c; ahead = 0 }) same
first_way from (suc n) (suc proxy) inside =
    let same : suc from + proxy ≡ from + suc proxy = omega arith in
    first_way (suc from) n proxy (omega (arith, inside)) ∙ ap (λ (c : ℕ). record { generation = 1; connection = c; ahead = 0 }) same

-- the way of a link that just came up for the first time, and over which nothing was sent: its connection is open, and nothing passed
pub record IsFirstWay (home : Homes) (proxy : ℕ) (order : Order) (lane : Lane) (server : ServerState) (way : WayState) : Type 0 where
  pub is_open : connection_at server way.connection ≡ Some fresh_connection
  pub ahead : way.ahead ≡ 0
  pub passed : lane ≡ fresh_lane (length (of_proxy home proxy order))

-- the site of a server that has admitted connections alone, and to which nothing was sent yet
pub new_site_holds : (home : Homes) (place : ℕ) (order : Order) (lanes : ℕ → Lane) (links : ℕ → LinkState) (opening : CacheState) (server : ServerState) (ways : List WayState)
    → IsGoodCache opening → server.cache ≡ opening → ServerHolds opening (λ _. []) (λ _. []) [] server → commands_to place order ≡ [] → AreReplied place order []
    → ((proxy : ℕ) → (links proxy).up ≡ true → IsFirstWay home proxy order (lanes proxy) server (slice_index_or ways proxy no_way))
    → ((p q : ℕ) → (links p).up ≡ true → (links q).up ≡ true → p ≢ q → (slice_index_or ways p no_way).connection ≢ (slice_index_or ways q no_way).connection)
    → SiteHolds home place order lanes links opening (record { server = server; history = []; begun = 0; ways = ways; lost = [] })
new_site_holds home place order lanes links opening server ways good cache holds none replied first apart = record {
  past = [];
  made = [];
  begun = refl;
  texts = λ _. [];
  sent = λ _. [];
  server = holds;
  good_cache = subst (λ (c : CacheState). IsGoodCache c) (sym cache) good;
  answers = tt;
  history = refl;
  good = ap (λ (commands : List Tagged). list_all is_good commands) none;
  named = tt;
  all_named = subst (λ (commands : List Tagged). Each (IsNamed place order) commands) (sym none) tt;
  replied = replied;
  once = λ tag. omega arith;
  living = λ proxy up.
      let new = first proxy up in
      let nothing : length (lanes proxy).replies ≡ 0 = ap (λ (l : Lane). length l.replies) new.passed in
      let taken = new.ahead in
      record {
        end = fresh_connection;
        is_open = new.is_open;
        out = sym (ap (λ (l : Lane). l.out) new.passed);
        came = sym (ap (λ (l : Lane). l.came) new.passed);
        others = [];
        commands = ap (λ (l : Lane). sent_on place (of_proxy home proxy order) l) new.passed
            ∙ ap (λ (later : Order). commands_to place later) (drop_all (length (of_proxy home proxy order)) (of_proxy home proxy order) (omega arith));
        ahead = omega (arith, nothing, taken);
        once = λ tag. omega arith;
      };
  lost = λ i way at. absurd (none-some way at);
  apart = λ i j v w at. absurd (none-some v at);
  apart_living = λ proxy up i way at. absurd (none-some way at);
  apart_ways = apart;
}

first_site_holds : (home : Homes) (place : ℕ) (links : ℕ → LinkState) (opening : CacheState) (n : ℕ) → IsGoodCache opening → ((proxy : ℕ) → (links proxy).up ≡ true → proxy < n)
    → SiteHolds home place [] (λ _. fresh_lane 0) links opening (first_site opening n)
first_site_holds home place links opening n good inside =
    new_site_holds home place [] (λ _. fresh_lane 0) links opening (admitting opening n) (first_ways 0 n) good (admitting_cache opening n) (admitting_holds opening n) refl
    (λ tag atom reply is. absurd (none-some _ is))
    (λ proxy up.
    let way = first_way 0 n proxy (inside proxy up) in
    let same : 0 + proxy ≡ proxy = omega arith in
    record {
      is_open = ap (λ (w : WayState). connection_at (admitting opening n) w.connection) way ∙ ap (λ (c : ℕ). connection_at (admitting opening n) c) same
          ∙ admitting_open opening n proxy (inside proxy up);
      ahead = ap (λ (w : WayState). w.ahead) way;
      passed = refl;
    })
    (λ p q up also differ same.
    let one : (slice_index_or (first_ways 0 n) p no_way).connection ≡ 0 + p = ap (λ (w : WayState). w.connection) (first_way 0 n p (inside p up)) in
    let two : (slice_index_or (first_ways 0 n) q no_way).connection ≡ 0 + q = ap (λ (w : WayState). w.connection) (first_way 0 n q (inside q also)) in
    differ (omega (arith, one, two, same)))

same_site : (opening : CacheState) (proxies n place : ℕ) (site : SiteState) → slice_get (replicate n (first_site opening proxies)) place ≡ Some site → first_site opening proxies ≡ site
same_site opening proxies zero zero site at = absurd (none-some site at)
same_site opening proxies zero (suc place) site at = absurd (none-some site at)
same_site opening proxies (suc n) zero site at = same_Some (first_site opening proxies) site at
same_site opening proxies (suc n) (suc place) site at = same_site opening proxies n place site at

-- a link that is up is of a proxy that exists
up_proxy_inside : (losses : Losses) (ring : RingState) (first : ℕ) (clients : List ℕ) (proxy place : ℕ)
    → (link_at (proxy_in (opening_proxies losses ring first clients) proxy).links place).up ≡ true → proxy < length clients
up_proxy_inside losses ring first [] proxy place up = absurd cc
up_proxy_inside losses ring first (c ∷ cs) zero place up = omega arith
up_proxy_inside losses ring first (c ∷ cs) (suc proxy) place up = let there = up_proxy_inside losses ring (first + c) cs proxy place up in omega (arith, there)

pub opening_pool_holds : (losses : Losses) (opening : CacheState) (ring : RingState) (clients : List ℕ) → IsGoodCache opening
    → PoolHolds opening (λ _. []) (λ _. []) [] (λ _ _. fresh_lane 0) (opening_pool losses opening ring clients)
opening_pool_holds losses opening ring clients good =
    let pool : PoolState = opening_pool losses opening ring clients in
    record {
      proxies = λ proxy. proxies_open losses ring 0 clients (home_of pool) proxy;
      sites = λ place site at. subst (λ (s : SiteState). SiteHolds (home_of pool) place [] (λ _. fresh_lane 0) (λ proxy. link_of pool proxy place) opening s)
          (same_site opening (length clients) (length ring.servers) place site at)
          (first_site_holds (home_of pool) place (λ proxy. link_of pool proxy place) opening (length clients) good (λ proxy up. up_proxy_inside losses ring 0 clients proxy place up));
      ways = λ place site at. ap (λ (s : SiteState). length s.ways) (sym (same_site opening (length clients) (length ring.servers) place site at))
          ∙ ways-length 0 (length clients) ∙ sym (proxies-length losses ring 0 clients);
      bytes = λ client. All-nil (λ (b : ℕ). b < 256);
    }

-- a session of a proxy that was just opened
fresh_or_none : (from count number : ℕ) → (session_in (fresh_sessions from count) number ≡ None) ⊎ (session_in (fresh_sessions from count) number ≡ Some fresh_session)
fresh_or_none from zero number = inl refl
fresh_or_none from (suc count) number =
    let again = fresh_or_none (suc from) count number in
    elim (from == number) as (λ v. ((if v then Some fresh_session else session_in (fresh_sessions (suc from) count) number) ≡ None)
    ⊎ ((if v then Some fresh_session else session_in (fresh_sessions (suc from) count) number) ≡ Some fresh_session)) [
      | true ↦ inr refl
      | false ↦ again
    ]

-- nothing is emitted
nothing_put : (losses : Losses) (ring : RingState) (clients : List ℕ) (proxy number : ℕ) → output_of (session_at (proxy_in (opening_proxies losses ring 0 clients) proxy) number) ≡ []
nothing_put losses ring clients proxy number =
    each_proxy (λ p. output_of (session_at p number) ≡ []) losses ring 0 clients proxy refl
    (λ from count. ⊎_elim (λ none. ap output_of none) (λ fresh. ap output_of fresh) (fresh_or_none from count number))

-- nothing was answered
fresh_answered : (from count number : ℕ) (session : SessionState) → session_in (fresh_sessions from count) number ≡ Some session → answered session ≡ 0
fresh_answered from count number session at =
    ⊎_elim
    (λ none. absurd (none-some session (sym none ∙ at)))
    (λ fresh. let same : fresh_session ≡ session = same_Some fresh_session session (sym fresh ∙ at) in ap answered (sym same))
    (fresh_or_none from count number)

nothing_answered : (losses : Losses) (ring : RingState) (clients : List ℕ) (proxy number : ℕ) (session : SessionState)
    → session_at (proxy_in (opening_proxies losses ring 0 clients) proxy) number ≡ Some session → answered session ≡ 0
nothing_answered losses ring clients proxy number =
    each_proxy (λ p. (session : SessionState) → session_at p number ≡ Some session → answered session ≡ 0) losses ring 0 clients proxy
    (λ session at. absurd (none-some session at)) (λ from count session at. fresh_answered from count number session at)

-- the links of a pool that was just opened are up, and its histories empty
up_inside : (n place : ℕ) → place < n → (link_at (replicate n (up_link 1)) place).up ≡ true
up_inside zero place inside = absurd (omega (arith, inside))
up_inside (suc n) zero inside = refl
up_inside (suc n) (suc place) inside = up_inside n place (omega (arith, inside))

no_history : (opening : CacheState) (proxies n place : ℕ) → histories_of (replicate n (first_site opening proxies)) place ≡ []
no_history opening proxies zero place = refl
no_history opening proxies (suc n) zero = refl
no_history opening proxies (suc n) (suc place) = no_history opening proxies n place

none_begun : (opening : CacheState) (proxies n place : ℕ) → begun_of (replicate n (first_site opening proxies)) place ≡ 0
none_begun opening proxies zero place = refl
none_begun opening proxies (suc n) zero = refl
none_begun opening proxies (suc n) (suc place) = none_begun opening proxies n place

fresh_pool : (losses : Losses) (ring : RingState) (opening : CacheState) (clients : List ℕ) → IsRing ring → IsFresh ring (opening_pool losses opening ring clients)
fresh_pool losses ring opening clients is_ring =
    let size = proxies-length losses ring 0 clients in
    record {
      ring = λ proxy inside. each_inside (λ p. p.ring ≡ ring) losses ring 0 clients proxy (omega (arith, inside, size)) (λ number count. refl);
      is_ring = is_ring;
      linked = λ proxy. each_proxy (λ p. length p.links ≡ length p.ring.servers) losses ring 0 clients proxy refl
          (λ number count. length-replicate (length ring.servers) (up_link 1));
      sited = length-replicate (length ring.servers) (first_site opening (length clients));
      ways = λ place site at.
          ap (λ (s : SiteState). length s.ways) (sym (same_site opening (length clients) (length ring.servers) place site at)) ∙ ways-length 0 (length clients) ∙ sym size;
      ups = λ proxy place. each_proxy (λ p. place < length p.links → (link_at p.links place).up ≡ true) losses ring 0 clients proxy
          (λ inside. absurd (omega (arith, inside)))
          (λ number count inside. let many = length-replicate (length ring.servers) (up_link 1) in up_inside (length ring.servers) place (omega (arith, inside, many)));
      unanswered = λ client session at. nothing_answered losses ring clients (home_of (opening_pool losses opening ring clients) client) client session at;
      histories = no_history opening (length clients) (length ring.servers);
      none_lost = λ place site at. ap (λ (s : SiteState). s.lost) (sym (same_site opening (length clients) (length ring.servers) place site at));
    }

-- the clients of a world that was just opened
nobody_there : (n client : ℕ) → client_at (replicate n nobody) client ≡ nobody
nobody_there zero client = refl
nobody_there (suc n) zero = refl
nobody_there (suc n) (suc client) = nobody_there n client

-- their numbers are below their count
fold_grows : (from : ℕ) (clients : List ℕ) → from ≤ fold (λ (a x : ℕ). a + x) from clients
fold_grows from [] = omega arith
fold_grows from (c ∷ cs) = let more = fold_grows (from + c) cs in omega (arith, more)

numbers_below : (losses : Losses) (ring : RingState) (first : ℕ) (clients : List ℕ) (proxy : ℕ)
    → (proxy_in (opening_proxies losses ring first clients) proxy).admitted ≤ fold (λ (a x : ℕ). a + x) first clients
numbers_below losses ring first [] proxy = omega arith
numbers_below losses ring first (c ∷ cs) zero = fold_grows (first + c) cs
numbers_below losses ring first (c ∷ cs) (suc proxy) = numbers_below losses ring (first + c) cs proxy

-- the sites and links of a world that was just opened are of the first generation
same_generation : (losses : Losses) (ring : RingState) (from first : ℕ) (clients : List ℕ) (proxy place : ℕ) → place < length ring.servers
    → (slice_index_or (first_ways from (length clients)) proxy no_way).generation ≡ (link_at (proxy_in (opening_proxies losses ring first clients) proxy).links place).generation
same_generation losses ring from first [] proxy place inside = refl
same_generation losses ring from first (c ∷ cs) zero place inside =
    sym (ap (λ (l : LinkState). l.generation) (get_or-replicate (length ring.servers) place (up_link 1) (down_link 0) inside))
same_generation losses ring from first (c ∷ cs) (suc proxy) place inside = same_generation losses ring (suc from) (first + c) cs proxy place inside

place_inside : (opening : CacheState) (proxies n place : ℕ) (site : SiteState) → slice_get (replicate n (first_site opening proxies)) place ≡ Some site → place < n
place_inside opening proxies zero zero site at = absurd (none-some site at)
place_inside opening proxies zero (suc place) site at = absurd (none-some site at)
place_inside opening proxies (suc n) zero site at = omega arith
place_inside opening proxies (suc n) (suc place) site at = let there = place_inside opening proxies n place site at in omega (arith, there)

opening_generations : (losses : Losses) (opening : CacheState) (ring : RingState) (clients : List ℕ) → HaveOneGeneration (opening_pool losses opening ring clients)
opening_generations losses opening ring clients place site at =
    let is = same_site opening (length clients) (length ring.servers) place site at in
    let inside = place_inside opening (length clients) (length ring.servers) place site at in
    never_lost (λ proxy. link_of (opening_pool losses opening ring clients) proxy place) site (ap (λ (s : SiteState). s.lost) (sym is))
    (λ proxy. ap (λ (s : SiteState). (slice_index_or s.ways proxy no_way).generation) (sym is) ∙ same_generation losses ring 0 0 clients proxy place inside)

-- a world that was just opened
pub course_opens : (losses : Losses) (ring : RingState) (clients : List ℕ) (budget items : ℕ) → IsRing ring → 1 ≤ items
    → CourseHolds ring (opening_cache budget items 0) (world_opened losses ring clients budget items).course
course_opens losses ring clients budget items is_ring some =
    let opening : CacheState = opening_cache budget items 0 in
    let pool : PoolState = opening_pool losses opening ring clients in
    stood_as ring opening [] (λ _ _. fresh_lane 0) (world_opened losses ring clients budget items).course (λ _. []) (λ _. []) (λ _. [])
    (λ n. sym (ap (λ (c : ClientState). c.text) (nobody_there (sum clients) n)))
    (λ n. sym (ap (λ (c : ClientState). c.taken) (nobody_there (sum clients) n)))
    (λ n. sym (ap (λ (c : ClientState). c.taken ++ output_of (session_of pool n)) (nobody_there (sum clients) n) ∙ nothing_put losses ring clients (home_of pool n) n))
    (opening_pool_holds losses opening ring clients (opening_is_good budget items 0 some (omega arith)))
    (log_begins ring pool (fresh_pool losses ring opening clients is_ring))
    (λ proxy. let size = length-replicate (sum clients) nobody in let below = numbers_below losses ring 0 clients proxy in
    let few : (proxy_at pool proxy).admitted ≤ sum clients = below in omega (arith, few, size))
    (opening_generations losses opening ring clients)
    (λ proxy place never. refl)
    (record {
      begun = none_begun opening (length clients) (length ring.servers);
      ended = λ place life early. absurd (omega (arith, early));
    })
