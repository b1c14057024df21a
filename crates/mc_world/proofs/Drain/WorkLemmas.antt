-- How much is left to do after one thing has changed.
use Rattle.std.proofs.Common.{◌≡◌, ◌≢◌, ◌∙◌, ⊎_elim, ℕ, zero, suc, ◌+◌, ◌*◌, ◌<◌, ◌≤◌, ◌==◌, Bool, true, false, if◌then◌else◌, List, [], ◌∷◌, length, drop, remove, Option, Some, None, slice_get, slice_set, refl, sym, ap, subst, arith}
use Rattle.std.specs.Prelude.{nat_lt}
use Rattle.std.proofs.lemmas.Bool.{cases_lt}
use Rattle.std.proofs.lemmas.List.{get_or_past, length-append, set-get_or}
use Rattle.std.proofs.lemmas.Option.{get_or_from_slice_get, same_Some, slice_get-get_or}
use Rattle.mc_request.specs.declared.parts.Atom.{Atom}
use Rattle.mc_ring.specs.Rings.{RingState}
use Rattle.mc_route.specs.declared.outcomes.Outcome.{Outcome}
use Rattle.mc_route.specs.declared.routes.Routed.{Routed}
use Rattle.mc_link.specs.LinkState.{LinkState, down_link}
use Rattle.mc_link.specs.declared.turns.Tag.{Tag}
use Rattle.mc_server.specs.ServerState.{ServerState, connection_at, output_of}
use Rattle.mc_proxy.specs.Emits.{emitted, emitted_from}
use Rattle.mc_proxy.specs.SessionNoting.{set_outcome_in_session, set_outcome_of_request}
use Rattle.mc_proxy.specs.Sending.{handed, handed_to}
use Rattle.mc_proxy.specs.SessionState.{SessionState, Unanswered, link_at, with_link}
use Rattle.mc_proxy.specs.Noting.{noted}
use Rattle.mc_proxy.specs.ProxyState.{ProxyState, Sessions, session_at, session_in, updated}
use Rattle.mc_world.specs.WorkLeft.{moves_of, work_left, work_of_link, work_of_links, work_of_proxies, work_of_session, work_of_sessions, work_of_sites, work_of_ways, work_on}
use Rattle.mc_world.specs.WorldState.{PoolState, SiteState, StaleState, WayState, home_of, link_of, no_proxy, proxy_at, session_of, way_by, with_proxy}

-- bytes are one move at most; they are one if there are some, and none once all are moved
pub moves_most : (xs : List ℕ) → moves_of xs ≤ 1
moves_most [] = omega arith
moves_most (x ∷ xs) = omega arith

pub moves_some : (xs : List ℕ) → 0 < length xs → moves_of xs ≡ 1
moves_some [] some = absurd (omega (arith, some))
moves_some (x ∷ xs) some = refl

drop_all : (xs : List ℕ) → drop (length xs) xs ≡ []
drop_all [] = refl
drop_all (x ∷ xs) = drop_all xs

pub moves_all : (xs : List ℕ) → moves_of (drop (length xs) xs) ≡ 0
moves_all xs = ap moves_of (drop_all xs)

-- one session has changed
pub sessions_updated : (ring : RingState) (number : ℕ) (before after : SessionState) (open_ones : Sessions) → session_in open_ones number ≡ Some before
    → work_of_sessions ring (updated number after open_ones) + work_of_session ring before ≡ work_of_sessions ring open_ones + work_of_session ring after
sessions_updated ring number before after [] at = absurd cc
sessions_updated ring number before after (s ∷ others) at =
    (elim (s.0 == number) as (λ v. (if v then Some s.1 else session_in others number) ≡ Some before
    → work_of_sessions ring (if v then (s.0, after) ∷ others else s ∷ updated number after others) + work_of_session ring before
    ≡ (work_of_session ring s.1 + work_of_sessions ring others) + work_of_session ring after) [
      | true ↦ λ is. let same : work_of_session ring s.1 ≡ work_of_session ring before = ap (work_of_session ring) (same_Some s.1 before is) in omega (arith, same)
      | false ↦ λ is. omega (arith, sessions_updated ring number before after others is)
    ]) at

-- an outcome is noted: as much is left to do in the sessions
set_outcome_of_request-length : (place atom : ℕ) (outcome : Outcome) (us : List Unanswered) → length (set_outcome_of_request place atom outcome us) ≡ length us
set_outcome_of_request-length place atom outcome [] = refl
set_outcome_of_request-length zero atom outcome (u ∷ us) = refl
set_outcome_of_request-length (suc place) atom outcome (u ∷ us) = ap suc (set_outcome_of_request-length place atom outcome us)

session_noted : (ring : RingState) (tag : Tag) (outcome : Outcome) (s : SessionState)
    → work_of_session ring (set_outcome_in_session tag outcome s) ≡ work_of_session ring s
session_noted ring tag outcome s = grind (arith, nat_lt, set_outcome_of_request-length)

pub sessions_noted : (ring : RingState) (tag : Tag) (outcome : Outcome) (open_ones : Sessions) → work_of_sessions ring (noted tag outcome open_ones) ≡ work_of_sessions ring open_ones
sessions_noted ring tag outcome [] = refl
sessions_noted ring tag outcome (s ∷ others) = grind (arith, session_noted, sessions_noted ring tag outcome others)

-- an answer was emitted
put_from : (ring : RingState) (session after : SessionState) (us : List Unanswered) → session.unanswered ≡ us → emitted_from session us ≡ Some after
    → work_of_session ring after < work_of_session ring session
put_from ring session after [] is put = absurd cc
put_from ring session after (u ∷ us) is put = grind (arith, same_Some, moves_most)

pub put_less : (ring : RingState) (session after : SessionState) → emitted session ≡ Some after → work_of_session ring after < work_of_session ring session
put_less ring session after put = put_from ring session after session.unanswered refl put

-- a link that is up, and one that is down
pub up_work : (link : LinkState) (way : WayState) (server : ServerState) → link.up ≡ true → work_of_link link way server ≡ work_on link way server
up_work link way server up = ap (λ (v : Bool). if v then work_on link way server else 0) up

pub down_work : (link : LinkState) (way : WayState) (server : ServerState) → link.up ≡ false → work_of_link link way server ≡ 0
down_work link way server down = ap (λ (v : Bool). if v then work_on link way server else 0) down

-- a link of a proxy or its site has changed, or the site alone
pub links_changed : (proxy : ℕ) (links : List LinkState) (sites : List SiteState) (place : ℕ) (link : LinkState) (site now : SiteState) → slice_get sites place ≡ Some site
    → place < length links → work_of_links proxy (with_link place link links) (slice_set sites place now) + work_of_link (link_at links place) (way_by site proxy) site.server
    ≡ work_of_links proxy links sites + work_of_link link (way_by now proxy) now.server
links_changed proxy [] sites place link site now at inside = absurd (omega (arith, inside))
links_changed proxy (l ∷ ls) [] place link site now at inside = absurd cc
links_changed proxy (l ∷ ls) (s ∷ ss) zero link site now at inside =
    let same : work_of_link l (way_by s proxy) s.server ≡ work_of_link l (way_by site proxy) site.server = ap (λ (x : SiteState). work_of_link l (way_by x proxy) x.server) (same_Some s site at) in
    omega (arith, same)
links_changed proxy (l ∷ ls) (s ∷ ss) (suc place) link site now at inside =
    omega (arith, links_changed proxy ls ss place link site now at (omega (arith, inside)))

pub links_stayed : (proxy : ℕ) (links : List LinkState) (sites : List SiteState) (place : ℕ) (site now : SiteState) → slice_get sites place ≡ Some site
    → place < length links → work_of_links proxy links (slice_set sites place now) + work_of_link (link_at links place) (way_by site proxy) site.server
    ≡ work_of_links proxy links sites + work_of_link (link_at links place) (way_by now proxy) now.server
links_stayed proxy links sites place site now at inside =
    subst (λ (ls : List LinkState). work_of_links proxy ls (slice_set sites place now) + work_of_link (link_at links place) (way_by site proxy) site.server
    ≡ work_of_links proxy links sites + work_of_link (link_at links place) (way_by now proxy) now.server)
    (set-get_or links place (down_link 0)) (links_changed proxy links sites place (link_at links place) site now at inside)

-- if a link has no more to do over a site, its proxy's links have not
pub links_least : (proxy : ℕ) (links : List LinkState) (sites : List SiteState) (place : ℕ) (site now : SiteState) → slice_get sites place ≡ Some site
    → work_of_link (link_at links place) (way_by now proxy) now.server ≤ work_of_link (link_at links place) (way_by site proxy) site.server
    → work_of_links proxy links (slice_set sites place now) ≤ work_of_links proxy links sites
links_least proxy [] sites place site now at least = omega arith
links_least proxy (l ∷ ls) [] place site now at least = absurd cc
links_least proxy (l ∷ ls) (s ∷ ss) zero site now at least =
    let same : work_of_link l (way_by s proxy) s.server ≡ work_of_link l (way_by site proxy) site.server = ap (λ (x : SiteState). work_of_link l (way_by x proxy) x.server) (same_Some s site at) in
    omega (arith, same, least)
links_least proxy (l ∷ ls) (s ∷ ss) (suc place) site now at least = omega (arith, links_least proxy ls ss place site now at least)

-- commands that are handed to links: at most four more things for each
link_handed : (tag : Tag) (atom : Atom (List ℕ)) (link : LinkState) (way : WayState) (server : ServerState)
    → work_of_link (handed_to tag atom link) way server ≤ work_of_link link way server + 4
link_handed tag atom link way server = grind (arith, length-append, moves_most, up_work)

one_handed : (proxy : ℕ) (links : List LinkState) (sites : List SiteState) (place : ℕ) (tag : Tag) (atom : Atom (List ℕ))
    → work_of_links proxy (with_link place (handed_to tag atom (link_at links place)) links) sites ≤ work_of_links proxy links sites + 4
one_handed proxy [] sites place tag atom = omega arith
one_handed proxy (l ∷ ls) [] zero tag atom = omega arith
one_handed proxy (l ∷ ls) [] (suc place) tag atom = omega arith
one_handed proxy (l ∷ ls) (s ∷ ss) zero tag atom = omega (arith, link_handed tag atom l (way_by s proxy) s.server)
one_handed proxy (l ∷ ls) (s ∷ ss) (suc place) tag atom = omega (arith, one_handed proxy ls ss place tag atom)

pub links_handed : (proxy session request at : ℕ) (commands : List Routed) (links : List LinkState) (sites : List SiteState)
    → work_of_links proxy (handed session request at commands links) sites ≤ work_of_links proxy links sites + 4 * length commands
links_handed proxy session request at [] links sites = omega arith
links_handed proxy session request at (c ∷ cs) links sites = grind (arith, one_handed, links_handed proxy session request (suc at) cs)

-- what is left at a proxy of a number
abbrev pub work_of_one : ℕ → ProxyState → List SiteState → ℕ
work_of_one number p sites = work_of_sessions p.ring p.sessions + work_of_links number p.links sites

pub one_as : (number : ℕ) (p : ProxyState) (sites : List SiteState) (ring : RingState) (sessions : Sessions) (links : List LinkState) → p.ring ≡ ring → p.sessions ≡ sessions → p.links ≡ links
    → work_of_one number p sites ≡ work_of_sessions ring sessions + work_of_links number links sites
one_as number p sites ring sessions links ring_is sessions_are links_are =
    ap (λ (r : RingState). work_of_sessions r p.sessions + work_of_links number p.links sites) ring_is
    ∙ ap (λ (ss : Sessions). work_of_sessions ring ss + work_of_links number p.links sites) sessions_are
    ∙ ap (λ (ls : List LinkState). work_of_sessions ring sessions + work_of_links number ls sites) links_are

-- proxies that have no more to do over other sites, and one of which is another
proxies_least : (from : ℕ) (ps : List ProxyState) (sites now : List SiteState)
    → ((k q : ℕ) (p : ProxyState) → q ≡ from + k → slice_get ps k ≡ Some p → work_of_links q p.links now ≤ work_of_links q p.links sites)
    → work_of_proxies from ps now ≤ work_of_proxies from ps sites
proxies_least from [] sites now least = omega arith
proxies_least from (p ∷ ps) sites now least =
    let first = least zero from p (omega arith) refl in
    let others = proxies_least (suc from) ps sites now (λ k q x is at. least (suc k) q x (omega (arith, is)) at) in
    omega (arith, first, others)

one_least : (at q from : ℕ) (was state : ProxyState) (ps : List ProxyState) (sites now : List SiteState) → q ≡ from + at → slice_get ps at ≡ Some was
    → ((k r : ℕ) (p : ProxyState) → k ≢ at → r ≡ from + k → slice_get ps k ≡ Some p → work_of_links r p.links now ≤ work_of_links r p.links sites)
    → work_of_proxies from (with_proxy at state ps) now + work_of_one q was sites ≤ work_of_proxies from ps sites + work_of_one q state now
one_least at q from was state [] sites now is there least = absurd cc
one_least zero q from was state (p ∷ ps) sites now is there least =
    let here : from ≡ q = omega (arith, is) in
    let first : work_of_one from p sites ≡ work_of_one q was sites =
    ap (λ (x : ProxyState). work_of_one from x sites) (same_Some p was there) ∙ ap (λ (n : ℕ). work_of_one n was sites) here in
    let own : work_of_one from state now ≡ work_of_one q state now = ap (λ (n : ℕ). work_of_one n state now) here in
    let others = proxies_least (suc from) ps sites now (λ k r x r_is x_at. least (suc k) r x (λ e. omega (arith, e)) (omega (arith, r_is)) x_at) in
    omega (arith, first, own, others)
one_least (suc at) q from was state (p ∷ ps) sites now is there least =
    let first = least zero from p (λ e. omega (arith, e)) (omega arith) refl in
    let others = one_least at q (suc from) was state ps sites now (omega (arith, is)) there
    (λ k r x differ r_is x_at. least (suc k) r x (λ e. differ (omega (arith, e))) (omega (arith, r_is)) x_at) in
    omega (arith, first, others)

-- a site has changed
pub sites_set : (sites : List SiteState) (place : ℕ) (site now : SiteState) → slice_get sites place ≡ Some site
    → work_of_sites (slice_set sites place now) + work_of_ways site.lost ≡ work_of_sites sites + work_of_ways now.lost
sites_set [] place site now at = absurd cc
sites_set (s ∷ ss) zero site now at = let same : work_of_ways s.lost ≡ work_of_ways site.lost = ap (λ (x : SiteState). work_of_ways x.lost) (same_Some s site at) in omega (arith, same)
sites_set (s ∷ ss) (suc place) site now at = omega (arith, sites_set ss place site now at)

-- lost generations: one has ended; a command of one was taken
pub ways_removed : (ways : List StaleState) (i : ℕ) (way : StaleState) → slice_get ways i ≡ Some way → work_of_ways (remove ways i) < work_of_ways ways
ways_removed [] i way at = absurd cc
ways_removed (w ∷ ws) zero way at = omega arith
ways_removed (w ∷ ws) (suc i) way at = omega (arith, ways_removed ws i way at)

pub ways_changed : (ways : List StaleState) (i : ℕ) (way now : StaleState) → slice_get ways i ≡ Some way
    → work_of_ways (slice_set ways i now) + length way.untaken ≡ work_of_ways ways + length now.untaken
ways_changed [] i way now at = absurd cc
ways_changed (w ∷ ws) zero way now at = let same : length w.untaken ≡ length way.untaken = ap (λ (x : StaleState). length x.untaken) (same_Some w way at) in omega (arith, same)
ways_changed (w ∷ ws) (suc i) way now at = omega (arith, ways_changed ws i way now at)

-- a proxy with a link that is up, or with an open session, is in the pool
pub up_inside : (pool : PoolState) (proxy place : ℕ) → (link_of pool proxy place).up ≡ true → proxy < length pool.proxies
up_inside pool proxy place up =
    ⊎_elim (λ inside. inside)
    (λ past. let none : proxy_at pool proxy ≡ no_proxy = get_or_past pool.proxies proxy no_proxy past in
    let clash : false ≡ true = sym (ap (λ (p : ProxyState). (link_at p.links place).up) none) ∙ up in absurd cc)
    (cases_lt proxy (length pool.proxies))

pub session_inside : (pool : PoolState) (client : ℕ) (session : SessionState) → session_of pool client ≡ Some session → home_of pool client < length pool.proxies
session_inside pool client session at =
    ⊎_elim (λ inside. inside)
    (λ past. let none : proxy_at pool (home_of pool client) ≡ no_proxy = get_or_past pool.proxies (home_of pool client) no_proxy past in
    let clash : ◌≡◌ {A = Option SessionState} None (Some session) = sym (ap (λ (p : ProxyState). session_at p client) none) ∙ at in absurd cc)
    (cases_lt (home_of pool client) (length pool.proxies))

-- what is left, by parts
left_as : (pool : PoolState) (proxies : List ProxyState) (sites : List SiteState) → pool.proxies ≡ proxies → pool.sites ≡ sites
    → work_left pool ≡ work_of_proxies 0 proxies sites + work_of_sites sites
left_as pool proxies sites proxies_are sites_are =
    ap (λ (ps : List ProxyState). work_of_proxies 0 ps pool.sites + work_of_sites pool.sites) proxies_are ∙ ap (λ (ss : List SiteState). work_of_proxies 0 proxies ss + work_of_sites ss) sites_are

-- what is left after a proxy has changed; after the site of a place has, over which no link has more to do; and after both have, if no other proxy's link
-- has more to do
pub left_own : (proxy : ℕ) (state : ProxyState) (old new : PoolState) → proxy < length old.proxies → new.proxies ≡ with_proxy proxy state old.proxies → new.sites ≡ old.sites
    → work_left new + work_of_one proxy (proxy_at old proxy) old.sites ≤ work_left old + work_of_one proxy state old.sites
left_own proxy state old new inside proxies sites =
    let left = left_as new (with_proxy proxy state old.proxies) old.sites proxies sites in
    let most = one_least proxy proxy 0 (proxy_at old proxy) state old.proxies old.sites old.sites (omega arith) (slice_get-get_or old.proxies proxy no_proxy inside) (λ k r p differ is at. omega arith) in
    omega (arith, left, most)

-- a proxy's links have no more to do over the site of a place, by the number that the list has for it
abbrev LeastBy : ℕ → SiteState → SiteState → PoolState → ℕ → Type 0
LeastBy place site now old q = work_of_link (link_of old q place) (way_by now q) now.server ≤ work_of_link (link_of old q place) (way_by site q) site.server

least_at : (place : ℕ) (site now : SiteState) (old : PoolState) (k q : ℕ) (p : ProxyState) → slice_get old.sites place ≡ Some site → q ≡ 0 + k → slice_get old.proxies k ≡ Some p
    → LeastBy place site now old k → work_of_links q p.links (slice_set old.sites place now) ≤ work_of_links q p.links old.sites
least_at place site now old k q p at is p_at least =
    let same : k ≡ q = omega (arith, is) in
    let here : LeastBy place site now old q = subst (λ (n : ℕ). LeastBy place site now old n) same least in
    let there : proxy_at old q ≡ p = get_or_from_slice_get old.proxies q p no_proxy (subst (λ (n : ℕ). slice_get old.proxies n ≡ Some p) same p_at) in
    links_least q p.links old.sites place site now at
    (subst (λ (x : ProxyState). work_of_link (link_at x.links place) (way_by now q) now.server ≤ work_of_link (link_at x.links place) (way_by site q) site.server) there here)

pub left_stayed : (place : ℕ) (site now : SiteState) (old new : PoolState) → slice_get old.sites place ≡ Some site → new.proxies ≡ old.proxies → new.sites ≡ slice_set old.sites place now
    → ((q : ℕ) → work_of_link (link_of old q place) (way_by now q) now.server ≤ work_of_link (link_of old q place) (way_by site q) site.server)
    → work_left new + work_of_ways site.lost ≤ work_left old + work_of_ways now.lost
left_stayed place site now old new at proxies sites least =
    let left = left_as new old.proxies (slice_set old.sites place now) proxies sites in
    let most = proxies_least 0 old.proxies old.sites (slice_set old.sites place now) (λ k q p is p_at. least_at place site now old k q p at is p_at (least k)) in
    omega (arith, left, most, sites_set old.sites place site now at)

pub left_moved : (proxy place : ℕ) (state : ProxyState) (site now : SiteState) (old new : PoolState) → proxy < length old.proxies → slice_get old.sites place ≡ Some site
    → new.proxies ≡ with_proxy proxy state old.proxies → new.sites ≡ slice_set old.sites place now
    → ((q : ℕ) → q ≢ proxy → work_of_link (link_of old q place) (way_by now q) now.server ≤ work_of_link (link_of old q place) (way_by site q) site.server)
    → work_left new + work_of_one proxy (proxy_at old proxy) old.sites + work_of_ways site.lost
    ≤ work_left old + work_of_one proxy state (slice_set old.sites place now) + work_of_ways now.lost
left_moved proxy place state site now old new inside at proxies sites least =
    let left = left_as new (with_proxy proxy state old.proxies) (slice_set old.sites place now) proxies sites in
    let most = one_least proxy proxy 0 (proxy_at old proxy) state old.proxies old.sites (slice_set old.sites place now) (omega arith) (slice_get-get_or old.proxies proxy no_proxy inside)
    (λ k q p differ is p_at. least_at place site now old k q p at is p_at (least k differ)) in
    omega (arith, left, most, sites_set old.sites place site now at)

-- a link has no more to do after its server has changed, if its connection has no more bytes
pub link_least : (link : LinkState) (way : WayState) (old new : ServerState)
    → (link.up ≡ true → moves_of (output_of (connection_at new way.connection)) ≤ moves_of (output_of (connection_at old way.connection)))
    → work_of_link link way new ≤ work_of_link link way old
link_least link way old new least =
    (elim link.up as (λ v. link.up ≡ v → work_of_link link way new ≤ work_of_link link way old) [
      | true ↦ λ up. let fewer = least up in omega (arith, fewer, up_work link way new up, up_work link way old up)
      | false ↦ λ down. omega (arith, down_work link way new down, down_work link way old down)
    ]) refl
