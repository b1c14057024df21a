-- A pool holds after each thing that happens: one lemma for each.
use Rattle.std.proofs.Common.{◌≡◌, ◌≢◌, ◌∙◌, ⊎_elim, ℕ, zero, suc, ◌+◌, ◌-◌, ◌^◌, ◌<◌, ◌≤◌, ◌&&◌, ◌⊎◌, inl, inr, Bool, true, not, List, [], ◌∷◌, ◌++◌, length, map, drop, take, Option, Some, None, slice_get, slice_set, refl, sym, ap, subst, append_assoc, arith}
use Rattle.std.specs.Prelude.{All, nat_lt}
use Rattle.std.proofs.lemmas.Bool.{cases_Bool}
use Rattle.std.proofs.lemmas.Bool.Decides.{eqb_tells}
use Rattle.std.proofs.lemmas.List.{length-map, length-set, take-append-drop}
use Rattle.std.proofs.lemmas.Option.{none-some, same_Some}
use Rattle.mc_request.specs.declared.parts.Atom.{Atom}
use Rattle.mc_route.specs.Routes.{route_of_taken, to_place}
use Rattle.mc_route.specs.declared.outcomes.Outcome.{Outcome}
use Rattle.mc_route.specs.declared.outcomes.Outcome.TheVariants.{Lost, Reply}
use Rattle.mc_link.specs.LinkState.{LinkState, Waiting, down_link, up_link}
use Rattle.mc_link.specs.declared.turns.Tag.{Tag}
use Rattle.mc_cache.specs.CacheState.{CacheState}
use Rattle.mc_cache_laws.specs.GoodCaches.{IsGoodCache}
use Rattle.mc_server.specs.ServerState.{connection_at, output_of}
use Rattle.mc_proxy.specs.LinkTurns.{lost_at}
use Rattle.mc_proxy.specs.Sending.{at_once, handed}
use Rattle.mc_proxy.specs.SessionState.{SessionState, link_at, with_link}
use Rattle.mc_proxy.specs.ProxyState.{ProxyState, output_of as output_at, sent_by, session_at, without}
use Rattle.mc_account.specs.Lanes.{Lane, LaneHolds, LinkHolds, as_waiting, replies_text, fresh_lane, sent_on}
use Rattle.mc_account.specs.Lookups.{command_at}
use Rattle.mc_account.specs.Orders.{Order, Tagged, TakenRequest, commands_to, entries_of, note, note_all}
use Rattle.mc_account.specs.Holds.{ProxyHolds, SessionHolds, SessionHoldsAt, changed, grown}
use Rattle.mc_account.proofs.HandingLemmas.{handed_at, received_down}
use Rattle.mc_account.proofs.LaneLemmas.{lane_fresh, link_other, link_own, up_is_there}
use Rattle.mc_account.proofs.LinkLemmas.{holds-lost, holds-replied}
use Rattle.mc_account.proofs.OrderLemmas.{commands-note}
use Rattle.mc_account.proofs.HoldsLemmas.{holds-gone, holds-sent, changed-other, changed-own, holds-emitted, holds-fed, holds-took}
use Rattle.mc_history.specs.Made.{Each}
use Rattle.mc_history.proofs.GoodLemmas.{good_in, taken_is_good}
use Rattle.mc_history.proofs.OutcomeLemmas.{NoNews, command_note, news_all_lost, news_elsewhere, note_back, taken_fresh}
use Rattle.mc_history.proofs.NamedLemmas.{Keeps, each_back, keeps_note, keeps_note_all}
use Rattle.mc_world.specs.Homes.{Homes, home_in, of_proxy, own_of}
use Rattle.mc_world.specs.Pools.{ClientGoes, TakesBytes, EndSeen, LateBytes, LateTurn, LinkReturns, HearsClient, LosesLink, PoolHolds, ProxiesStay, ProxyBecomes, PutsAnswer, ReachesProxy, ReachesServer, ServerTakes, TakesReply, TakesRequest, asked_by, relaned, relinked}
use Rattle.mc_world.specs.Restarts.{ServerRestarts, restarted}
use Rattle.mc_world.specs.Sites.{SiteHolds}
use Rattle.mc_world.specs.WorldState.{PoolState, SiteState, WayState, home_of, link_of, proxy_at, proxy_of, session_of, way_by}
use Rattle.mc_world.proofs.Homes.CommandLemmas.{commands_own, each_since}
use Rattle.mc_world.proofs.Homes.OrderLemmas.{entries_own, numbered_whole, of_proxy-note, of_proxy-note_all, of_proxy_note_all_other, of_proxy_note_other, of_proxy_push_other, of_proxy_push_own, sent_noted, sent_noted_all}
use Rattle.mc_world.proofs.Homes.OwnLemmas.{other_grown, own_bytes, own_grown}
use Rattle.mc_world.proofs.SiteEvents.LateLemmas.{site_ended, site_late_fed, site_late_turned}
use Rattle.mc_world.proofs.SiteEvents.LossLemmas.{site_back, site_lost, site_restarted}
use Rattle.mc_world.proofs.SiteEvents.MoveLemmas.{site_asked, site_kept, site_replied, site_returned}
use Rattle.mc_world.proofs.SiteEvents.SiteLemmas.{site_along, site_fed, site_turned}
use Rattle.mc_world.proofs.SiteEvents.TurnLemmas.{entered_site, late_site}
use Rattle.mc_world.proofs.PoolEvents.ProxyLemmas.{lanes_elsewhere, lanes_here, lanes_other, lanes_own, link_elsewhere, link_is_there, links_become, links_changed, links_other, links_stay, proxies_count, proxy_along, proxy_other, proxy_own, proxy_own_if, proxy_past, proxy_stays, session_is_there, session_own_if, up_proxy_is_there}

-- the element at a place after the site of one place is replaced
pub set_site : (sites : List SiteState) (i : ℕ) (now : SiteState) (j : ℕ) (s : SiteState) → slice_get (slice_set sites i now) j ≡ Some s
    → ((i ≡ j) × (s ≡ now)) ⊎ ((i ≢ j) × (slice_get sites j ≡ Some s))
set_site [] i now zero s e = absurd (none-some s e)
set_site [] i now (suc j) s e = absurd (none-some s e)
set_site (x ∷ xs) zero now zero s e = inl (refl, sym (same_Some now s e))
set_site (x ∷ xs) zero now (suc j) s e = inr (λ same. omega (arith, same), e)
set_site (x ∷ xs) (suc i) now zero s e = inr (λ same. omega (arith, same), e)
set_site (x ∷ xs) (suc i) now (suc j) s e = grind (arith, set_site xs i now j s e)

-- the sites hold, if the one of a place does and the others do
sites_with : (opening : CacheState) (home : Homes) (order : Order) (lanes : ℕ → ℕ → Lane) (links : ℕ → ℕ → LinkState) (old new : List SiteState) (place : ℕ) (now : SiteState)
    → new ≡ slice_set old place now → SiteHolds home place order (λ p. lanes p place) (λ p. links p place) opening now
    → ((other : ℕ) (site : SiteState) → place ≢ other → slice_get old other ≡ Some site → SiteHolds home other order (λ p. lanes p other) (λ p. links p other) opening site)
    → (other : ℕ) (site : SiteState) → slice_get new other ≡ Some site → SiteHolds home other order (λ p. lanes p other) (λ p. links p other) opening site
sites_with opening home order lanes links old new place now is own others other site at =
    ⊎_elim
    (λ same. subst (λ (s : SiteState). SiteHolds home other order (λ p. lanes p other) (λ p. links p other) opening s) (sym same.1)
    (subst (λ (n : ℕ). SiteHolds home n order (λ p. lanes p n) (λ p. links p n) opening now) same.0 own))
    (λ apart. others other site apart.0 apart.1)
    (set_site old place now other site (ap (λ (ss : List SiteState). slice_get ss other) (sym is) ∙ at))

-- the sites have this many ways, if the one of a place does and the others do
ways_with : (old new : List SiteState) (count place : ℕ) (now : SiteState) → new ≡ slice_set old place now → length now.ways ≡ count
    → ((other : ℕ) (site : SiteState) → slice_get old other ≡ Some site → length site.ways ≡ count)
    → (other : ℕ) (site : SiteState) → slice_get new other ≡ Some site → length site.ways ≡ count
ways_with old new count place now is own others other site at =
    ⊎_elim (λ same. ap (λ (s : SiteState). length s.ways) same.1 ∙ own) (λ apart. others other site apart.1)
    (set_site old place now other site (ap (λ (ss : List SiteState). slice_get ss other) (sym is) ∙ at))

same_ways : (now : ProxyState) (old new : PoolState) (proxy : ℕ) → ProxyBecomes proxy now old new → new.sites ≡ old.sites
    → ((place : ℕ) (site : SiteState) → slice_get old.sites place ≡ Some site → length site.ways ≡ length old.proxies)
    → (place : ℕ) (site : SiteState) → slice_get new.sites place ≡ Some site → length site.ways ≡ length new.proxies
same_ways now old new proxy b sites ways place site at =
    ways place site (ap (λ (ss : List SiteState). slice_get ss place) (sym sites) ∙ at) ∙ sym (proxies_count proxy now old new b)

-- a proxy with a link that is up has a way at each site
up_has_way : (proxy place : ℕ) (pool : PoolState) (site : SiteState) → (link_of pool proxy place).up ≡ true → length site.ways ≡ length pool.proxies → proxy < length site.ways
up_has_way proxy place pool site up sized = let there = up_proxy_is_there proxy place pool up in omega (arith, there, sized)

-- each proxy holds, if the one that changed does and the others do
proxies_with : (texts sent : ℕ → List ℕ) (order : Order) (lanes : ℕ → ℕ → Lane) (home : Homes) (proxy : ℕ) (now : ProxyState) (old new : PoolState)
    → ProxyBecomes proxy now old new → (length old.proxies ≤ proxy → now ≡ proxy_at old proxy)
    → ProxyHolds (own_of home proxy texts) (own_of home proxy sent) (of_proxy home proxy order) (lanes proxy) now
    → ((other : ℕ) → proxy ≢ other → ProxyHolds (own_of home other texts) (own_of home other sent) (of_proxy home other order) (lanes other) (proxy_at old other))
    → (other : ℕ) → ProxyHolds (own_of home other texts) (own_of home other sent) (of_proxy home other order) (lanes other) (proxy_at new other)
proxies_with texts sent order lanes home proxy now old new b past own others other =
    ⊎_elim
    (λ same. subst (λ (n : ℕ). ProxyHolds (own_of home n texts) (own_of home n sent) (of_proxy home n order) (lanes n) (proxy_at new n)) same.1
    (subst (λ (p : ProxyState). ProxyHolds (own_of home proxy texts) (own_of home proxy sent) (of_proxy home proxy order) (lanes proxy) p)
    (sym (proxy_own_if proxy now old new b past)) own))
    (λ differ. subst (λ (p : ProxyState). ProxyHolds (own_of home other texts) (own_of home other sent) (of_proxy home other order) (lanes other) p)
    (sym (proxy_other proxy other now old new b differ.1)) (others other differ.1))
    (eqb_tells proxy other)

-- a pool holds, if its proxies and sites do with the proxies of the clients as they were
pool_after : (opening : CacheState) (texts sent : ℕ → List ℕ) (order : Order) (lanes : ℕ → ℕ → Lane) (old new : PoolState) → new.homes ≡ old.homes
    → ((proxy : ℕ) → ProxyHolds (own_of (home_of old) proxy texts) (own_of (home_of old) proxy sent) (of_proxy (home_of old) proxy order) (lanes proxy) (proxy_at new proxy))
    → ((place : ℕ) (site : SiteState) → slice_get new.sites place ≡ Some site
    → SiteHolds (home_of old) place order (λ p. lanes p place) (λ p. link_of new p place) opening site)
    → ((place : ℕ) (site : SiteState) → slice_get new.sites place ≡ Some site → length site.ways ≡ length new.proxies)
    → ((client : ℕ) → All (λ b. b < 256) (texts client)) → PoolHolds opening texts sent order lanes new
pool_after opening texts sent order lanes old new homes proxies sites ways bytes = record {
  proxies = λ proxy.
      subst (λ (hs : List ℕ). ProxyHolds (own_of (home_in hs) proxy texts) (own_of (home_in hs) proxy sent) (of_proxy (home_in hs) proxy order) (lanes proxy) (proxy_at new proxy))
      (sym homes) (proxies proxy);
  sites = λ place site at.
      subst (λ (hs : List ℕ). SiteHolds (home_in hs) place order (λ p. lanes p place) (λ p. link_of new p place) opening site) (sym homes) (sites place site at);
  ways = ways;
  bytes = bytes;
}

-- a pool holds after the proxy of a client changed, whose links stay
pool_stepped : (opening : CacheState) (texts texts' sent sent' : ℕ → List ℕ) (order : Order) (lanes : ℕ → ℕ → Lane) (client : ℕ) (now : ProxyState) (old new : PoolState)
    → ProxyBecomes (home_of old client) now old new → (length old.proxies ≤ home_of old client → now ≡ proxy_of old client) → now.links ≡ (proxy_of old client).links
    → new.sites ≡ old.sites
    → ProxyHolds (own_of (home_of old) (home_of old client) texts') (own_of (home_of old) (home_of old client) sent') (of_proxy (home_of old) (home_of old client) order)
    (lanes (home_of old client)) now
    → ((other : ℕ) → home_of old client ≢ other → (number : ℕ) → own_of (home_of old) other texts' number ≡ own_of (home_of old) other texts number)
    → ((other : ℕ) → home_of old client ≢ other → (number : ℕ) → own_of (home_of old) other sent' number ≡ own_of (home_of old) other sent number)
    → ((number : ℕ) → All (λ b. b < 256) (texts' number)) → PoolHolds opening texts sent order lanes old → PoolHolds opening texts' sent' order lanes new
pool_stepped opening texts texts' sent sent' order lanes client now old new b past links sites own texts_are sent_are bytes h =
    let home : Homes = home_of old in
    let proxy : ℕ = home_of old client in
    pool_after opening texts' sent' order lanes old new b.homes
    (proxies_with texts' sent' order lanes home proxy now old new b past own
    (λ other differ. proxy_along (own_of home other texts) (own_of home other texts') (own_of home other sent) (own_of home other sent') (of_proxy home other order) (lanes other) (lanes other)
    (proxy_at old other) (texts_are other differ) (sent_are other differ) (λ _. refl) (h.proxies other)))
    (λ place site at. site_along home place order (λ p. lanes p place) (λ p. lanes p place) (λ p. link_of old p place) (λ p. link_of new p place) opening site
    (λ _. refl) (λ p. links_become proxy now old new b links p place) (h.sites place site (ap (λ (ss : List SiteState). slice_get ss place) (sym sites) ∙ at)))
    (same_ways now old new proxy b sites h.ways) bytes

-- a pool holds after the site of a place changed, and no proxy
pool_resited : (opening : CacheState) (texts sent : ℕ → List ℕ) (order : Order) (lanes : ℕ → ℕ → Lane) (place : ℕ) (now : SiteState) (old new : PoolState)
    → ProxiesStay old new → new.sites ≡ slice_set old.sites place now
    → SiteHolds (home_of old) place order (λ p. lanes p place) (λ p. link_of old p place) opening now → length now.ways ≡ length old.proxies
    → PoolHolds opening texts sent order lanes old → PoolHolds opening texts sent order lanes new
pool_resited opening texts sent order lanes place now old new s sites own sized h =
    let home : Homes = home_of old in
    let along : (other : ℕ) (site : SiteState) → SiteHolds home other order (λ p. lanes p other) (λ p. link_of old p other) opening site
    → SiteHolds home other order (λ p. lanes p other) (λ p. link_of new p other) opening site =
    λ other site holds. site_along home other order (λ p. lanes p other) (λ p. lanes p other) (λ p. link_of old p other) (λ p. link_of new p other) opening site
    (λ _. refl) (λ p. links_stay old new s p other) holds in
    pool_after opening texts sent order lanes old new s.homes
    (λ proxy. subst (λ (p : ProxyState). ProxyHolds (own_of home proxy texts) (own_of home proxy sent) (of_proxy home proxy order) (lanes proxy) p)
    (sym (proxy_stays old new s proxy)) (h.proxies proxy))
    (sites_with opening home order lanes (λ p q. link_of new p q) old.sites new.sites place now sites (along place now own)
    (λ other site differ at. along other site (h.sites other site at)))
    (subst (λ (ps : List ProxyState). (other : ℕ) (site : SiteState) → slice_get new.sites other ≡ Some site → length site.ways ≡ length ps) (sym s.proxies)
    (ways_with old.sites new.sites (length old.proxies) place now sites sized h.ways))
    h.bytes

-- an order after outcomes of commands of one proxy, to the server of one place, were noted
record IsNoted (home : Homes) (proxy place : ℕ) (order order' : Order) : Type 0 where
  pub elsewhere : (other : ℕ) → proxy ≢ other → of_proxy home other order' ≡ of_proxy home other order
  pub keeps : Keeps order order'
  pub news : (other : ℕ) → place ≢ other → NoNews other order order'
  pub commands : (other : ℕ) → commands_to other order' ≡ commands_to other order
  pub sent : (p other : ℕ) (lane : Lane) → sent_on other (of_proxy home p order') lane ≡ sent_on other (of_proxy home p order) lane

nothing_noted : (home : Homes) (proxy place : ℕ) (order : Order) → IsNoted home proxy place order order
nothing_noted home proxy place order = record {
  elsewhere = λ _ _. refl;
  keeps = λ _ _ k. k;
  news = λ _ _ _ _ _ is known. (is, known);
  commands = λ _. refl;
  sent = λ _ _ _. refl;
}

-- a pool holds after a link of a proxy and the site there changed, and outcomes of its commands were noted
pool_linked : (opening : CacheState) (texts sent : ℕ → List ℕ) (order order' : Order) (lanes lanes' : ℕ → ℕ → Lane) (proxy place : ℕ) (now : ProxyState) (link : LinkState) (site : SiteState)
    (old new : PoolState)
    → ProxyBecomes proxy now old new → now.links ≡ with_link place link (proxy_at old proxy).links → place < length (proxy_at old proxy).links
    → new.sites ≡ slice_set old.sites place site → IsNoted (home_of old) proxy place order order'
    → ((other : ℕ) → proxy ≢ other → (elsewhere : ℕ) → lanes' other elsewhere ≡ lanes other elsewhere)
    → ((other elsewhere : ℕ) → place ≢ elsewhere → lanes' other elsewhere ≡ lanes other elsewhere)
    → ProxyHolds (own_of (home_of old) proxy texts) (own_of (home_of old) proxy sent) (of_proxy (home_of old) proxy order') (lanes' proxy) now
    → SiteHolds (home_of old) place order' (λ p. lanes' p place) (changed proxy link (λ p. link_of old p place)) opening site → length site.ways ≡ length old.proxies
    → PoolHolds opening texts sent order lanes old → PoolHolds opening texts sent order' lanes' new
pool_linked opening texts sent order order' lanes lanes' proxy place now link site old new b links inside sites noted lanes_apart lanes_elsewhere own here sized h =
    let home : Homes = home_of old in
    let there = link_is_there proxy place old inside in
    pool_after opening texts sent order' lanes' old new b.homes
    (proxies_with texts sent order' lanes' home proxy now old new b (λ past. absurd (omega (arith, past, there))) own
    (λ other differ. subst (λ (es : Order). ProxyHolds (own_of home other texts) (own_of home other sent) es (lanes' other) (proxy_at old other)) (sym (noted.elsewhere other differ))
    (proxy_along (own_of home other texts) (own_of home other texts) (own_of home other sent) (own_of home other sent) (of_proxy home other order) (lanes other) (lanes' other)
    (proxy_at old other) (λ _. refl) (λ _. refl) (lanes_apart other differ) (h.proxies other))))
    (sites_with opening home order' lanes' (λ p q. link_of new p q) old.sites new.sites place site sites
    (site_along home place order' (λ p. lanes' p place) (λ p. lanes' p place) (changed proxy link (λ p. link_of old p place)) (λ p. link_of new p place) opening site
    (λ _. refl) (λ p. links_changed proxy place link now old new b links inside p) here)
    (λ other s differ at. site_along home other order' (λ p. lanes p other) (λ p. lanes' p other) (λ p. link_of old p other) (λ p. link_of new p other) opening s
    (λ p. lanes_elsewhere p other differ) (λ p. link_elsewhere proxy place link now old new b links p other differ)
    (site_kept home other order order' (λ p. lanes p other) (λ p. lanes p other) (λ p. link_of old p other) (λ p. link_of old p other) opening s noted.keeps (noted.news other differ)
    (noted.commands other) (λ p up. up) (λ p up. (noted.sent p other (lanes p other), refl, refl, refl)) (h.sites other s at))))
    (ways_with old.sites new.sites (length new.proxies) place site sites (sized ∙ sym (proxies_count proxy now old new b))
    (λ other s at. h.ways other s at ∙ sym (proxies_count proxy now old new b)))
    h.bytes

-- a proxy holds after the link of one place and its lane are replaced
holds_relinked : (texts sent : ℕ → List ℕ) (order : Order) (lanes : ℕ → Lane) (place : ℕ) (lane : Lane) (link : LinkState) (old : ProxyState) → place < length old.links
    → LinkHolds place order lane link → ProxyHolds texts sent order lanes old → ProxyHolds texts sent order (changed place lane lanes) (relinked place link old)
holds_relinked texts sent order lanes place lane link old inside own h =
    grind (arith, eqb_tells, link_other, link_own, changed-other, changed-own)

-- a pool holds after a link of a proxy, its lane and the site there are replaced
pool_relinked : (opening : CacheState) (texts sent : ℕ → List ℕ) (order : Order) (lanes : ℕ → ℕ → Lane) (proxy place : ℕ) (lane : Lane) (link : LinkState) (site : SiteState) (old new : PoolState)
    → ProxyBecomes proxy (relinked place link (proxy_at old proxy)) old new → place < length (proxy_at old proxy).links
    → LinkHolds place (of_proxy (home_of old) proxy order) lane link → new.sites ≡ slice_set old.sites place site
    → SiteHolds (home_of old) place order (changed proxy lane (λ p. lanes p place)) (changed proxy link (λ p. link_of old p place)) opening site
    → length site.ways ≡ length old.proxies
    → PoolHolds opening texts sent order lanes old → PoolHolds opening texts sent order (relaned proxy place lane lanes) new
pool_relinked opening texts sent order lanes proxy place lane link site old new b inside own sites here sized h =
    let home : Homes = home_of old in
    let links : ℕ → LinkState = changed proxy link (λ p. link_of old p place) in
    pool_linked opening texts sent order order lanes (relaned proxy place lane lanes) proxy place (relinked place link (proxy_at old proxy)) link site old new b refl inside sites
    (nothing_noted home proxy place order)
    (λ other differ elsewhere. ap (λ (ls : ℕ → Lane). ls elsewhere) (lanes_other proxy place lane lanes other differ))
    (λ other elsewhere differ. lanes_elsewhere proxy place lane lanes other elsewhere differ)
    (subst (λ (ls : ℕ → Lane). ProxyHolds (own_of home proxy texts) (own_of home proxy sent) (of_proxy home proxy order) ls (relinked place link (proxy_at old proxy)))
    (sym (lanes_own proxy place lane lanes))
    (holds_relinked (own_of home proxy texts) (own_of home proxy sent) (of_proxy home proxy order) (lanes proxy) place lane link (proxy_at old proxy) inside own (h.proxies proxy)))
    (site_along home place order (changed proxy lane (λ p. lanes p place)) (λ p. relaned proxy place lane lanes p place) links links opening site
    (λ p. lanes_here proxy place lane lanes p) (λ _. refl) here)
    sized h

-- ClientBytes
pub pool_hears : (opening : CacheState) (texts sent : ℕ → List ℕ) (order : Order) (lanes : ℕ → ℕ → Lane) (client : ℕ) (piece : List ℕ) (old new : PoolState)
    → ((number : ℕ) → All (λ b. b < 256) (grown client piece texts number)) → HearsClient client piece old new → PoolHolds opening texts sent order lanes old
    → PoolHolds opening (grown client piece texts) sent order lanes new
pool_hears opening texts sent order lanes client piece old new bytes e h =
    let home : Homes = home_of old in
    let proxy : ℕ = home_of old client in
    let there = session_is_there client e.steps.before old e.steps.was in
    pool_stepped opening texts (grown client piece texts) sent sent order lanes client e.now old new e.proxy (λ past. absurd (omega (arith, past, there))) e.steps.step.0 e.sites
    (proxy_along (grown client piece (own_of home proxy texts)) (own_of home proxy (grown client piece texts)) (own_of home proxy sent) (own_of home proxy sent) (of_proxy home proxy order)
    (lanes proxy) (lanes proxy) e.now (own_grown home proxy client piece texts refl) (λ _. refl) (λ _. refl)
    (holds-fed (own_of home proxy texts) (own_of home proxy sent) (of_proxy home proxy order) (lanes proxy) client piece (proxy_at old proxy) e.now (h.proxies proxy) e.steps))
    (λ other differ. other_grown home other client piece texts differ) (λ _ _ _. refl) bytes h

-- Emit
pub pool_puts : (opening : CacheState) (texts sent : ℕ → List ℕ) (order : Order) (lanes : ℕ → ℕ → Lane) (client : ℕ) (old new : PoolState)
    → PutsAnswer client old new → PoolHolds opening texts sent order lanes old → PoolHolds opening texts sent order lanes new
pool_puts opening texts sent order lanes client old new e h =
    let home : Homes = home_of old in
    let proxy : ℕ = home_of old client in
    let there = session_is_there client e.steps.before old e.steps.was in
    pool_stepped opening texts texts sent sent order lanes client e.now old new e.proxy (λ past. absurd (omega (arith, past, there))) e.steps.step.0 e.sites
    (holds-emitted (own_of home proxy texts) (own_of home proxy sent) (of_proxy home proxy order) (lanes proxy) client (proxy_at old proxy) e.now (h.proxies proxy) e.steps)
    (λ _ _ _. refl) (λ _ _ _. refl) h.bytes h

-- ProxyTurn: a link that is up was up
still_up : (place session request : ℕ) (e : TakenRequest) (links now : List LinkState) → now ≡ handed session request 0 (route_of_taken e.ring e.what) links
    → (link_at now place).up ≡ true → (link_at links place).up ≡ true
still_up place session request e links now is up = grind (arith, cases_Bool, handed_at, received_down)

ups_before : (place session request : ℕ) (e : TakenRequest) (proxy : ℕ) (now : ProxyState) (old new : PoolState) → ProxyBecomes proxy now old new → proxy < length old.proxies
    → now.links ≡ handed session request 0 (route_of_taken e.ring e.what) (proxy_at old proxy).links
    → (other : ℕ) → (link_of new other place).up ≡ true → (link_of old other place).up ≡ true
ups_before place session request e proxy now old new b inside is other up =
    ⊎_elim
    (λ same. subst (λ (n : ℕ). (link_of old n place).up ≡ true) same.1
    (still_up place session request e (proxy_at old proxy).links now.links is
    (ap (λ (p : ProxyState). (link_at p.links place).up) (sym (proxy_own proxy now old new b inside)) ∙ subst (λ (n : ℕ). (link_of new n place).up ≡ true) (sym same.1) up)))
    (λ differ. ap (λ (l : LinkState). l.up) (sym (links_other proxy other now old new b differ.1 place)) ∙ up)
    (eqb_tells proxy other)

pub pool_takes : (opening : CacheState) (texts sent : ℕ → List ℕ) (order : Order) (lanes : ℕ → ℕ → Lane) (client : ℕ) (old new : PoolState)
    → (e : TakesRequest client old new) → PoolHolds opening texts sent order lanes old → PoolHolds opening texts sent (order ++ asked_by e ∷ []) lanes new
pool_takes opening texts sent order lanes client old new e h =
    let home : Homes = home_of old in
    let proxy : ℕ = home_of old client in
    let p : ProxyState = proxy_at old proxy in
    let own : Order = of_proxy home proxy order in
    let taken : TakenRequest = asked_by e in
    let there = session_is_there client e.steps.before old e.steps.was in
    let stood : SessionHolds client own (own_of home proxy texts client) (own_of home proxy sent client) e.steps.before =
    subst (λ (s : Option SessionState). SessionHoldsAt client own (own_of home proxy texts client) (own_of home proxy sent client) s) e.steps.was ((h.proxies proxy).sessions client) in
    let bytes : All (λ b. b < 256) (own_of home proxy texts client) = subst (λ (text : List ℕ). All (λ b. b < 256) text) (sym (own_bytes home proxy texts client refl)) (h.bytes client) in
    let good = taken_is_good client own (own_of home proxy texts client) (own_of home proxy sent client) e.steps.before e.steps.after e.steps.step.0 bytes stood e.steps.step.1.first in
    let number : taken.request ≡ length (entries_of client order) = stood.taken ∙ ap (λ (es : Order). length es) (entries_own home proxy client order refl) in
    pool_after opening texts sent (order ++ taken ∷ []) lanes old new e.proxy.homes
    (proxies_with texts sent (order ++ taken ∷ []) lanes home proxy e.now old new e.proxy (λ past. absurd (omega (arith, past, there)))
    (subst (λ (es : Order). ProxyHolds (own_of home proxy texts) (own_of home proxy sent) es (lanes proxy) e.now) (sym (of_proxy_push_own home proxy order taken refl))
    (holds-took (own_of home proxy texts) (own_of home proxy sent) own (lanes proxy) client p e.now (h.proxies proxy) e.steps))
    (λ other differ. subst (λ (es : Order). ProxyHolds (own_of home other texts) (own_of home other sent) es (lanes other) (proxy_at old other))
    (sym (of_proxy_push_other home other order taken differ)) (h.proxies other)))
    (λ place site at.
    site_asked home place order taken (λ q. lanes q place) (λ q. link_of old q place) (λ q. link_of new q place) opening site
    (λ q up. ups_before place client e.steps.before.taken taken proxy e.now old new e.proxy there e.steps.step.1.sent q up)
    (λ up. (((h.proxies proxy).links place).0 up).since)
    (good_in place taken good) number (taken_fresh p.links (route_of_taken p.ring e.steps.step.0) (map (at_once p.links) (route_of_taken p.ring e.steps.step.0)) refl)
    (h.sites place site (ap (λ (ss : List SiteState). slice_get ss place) (sym e.sites) ∙ at)))
    (same_ways e.now old new proxy e.proxy e.sites h.ways) h.bytes

-- ToServer, of the living generation
pub pool_reaches_server : (opening : CacheState) (texts sent : ℕ → List ℕ) (order : Order) (lanes : ℕ → ℕ → Lane) (proxy place count : ℕ) (old new : PoolState)
    → ReachesServer proxy place count old new → PoolHolds opening texts sent order lanes old
    → PoolHolds opening texts sent order
    (relaned proxy place (record (lanes proxy place) { out = (lanes proxy place).out ++ take count (link_of old proxy place).output }) lanes) new
pool_reaches_server opening texts sent order lanes proxy place count old new e h =
    let home : Homes = home_of old in
    let own_order : Order = of_proxy home proxy order in
    let link : LinkState = link_of old proxy place in
    let piece : List ℕ = take count link.output in
    let after : LinkState = record link { output = drop count link.output } in
    let lane : Lane = record (lanes proxy place) { out = (lanes proxy place).out ++ piece } in
    let inside = up_is_there place (proxy_at old proxy).links e.there.up in
    let holds = ((h.proxies proxy).links place).0 e.there.up in
    let own : LaneHolds place own_order lane after = record {
      since = holds.since;
      put = append_assoc (lanes proxy place).out piece (drop count link.output)
          ∙ ap (λ (bytes : List ℕ). (lanes proxy place).out ++ bytes) (take-append-drop count link.output) ∙ holds.put;
      came = holds.came;
      can = holds.can;
      waiting = holds.waiting;
      outcomes = holds.outcomes;
      before = holds.before;
    } in
    let site = site_fed home proxy place order (λ p. lanes p place) (λ p. link_of old p place) after opening e.there.site e.there.now.server piece e.there.up e.arrives.steps
    (h.sites place e.there.site e.there.at) in
    pool_relinked opening texts sent order lanes proxy place lane after e.there.now old new e.proxy inside (λ _. own, λ down. absurd (down e.there.up)) e.there.sites
    (subst (λ (s : SiteState). SiteHolds home place order (changed proxy lane (λ p. lanes p place)) (changed proxy after (λ p. link_of old p place)) opening s) (sym e.arrives.all_else) site)
    (ap (λ (s : SiteState). length s.ways) e.arrives.all_else ∙ h.ways place e.there.site e.there.at) h

-- ServerTurn, of the living generation
pub pool_server_takes : (opening : CacheState) (texts sent : ℕ → List ℕ) (order : Order) (lanes : ℕ → ℕ → Lane) (proxy place moment : ℕ) (old new : PoolState)
    → (e : ServerTakes proxy place moment old new) → moment < 2 ^ 63 → PoolHolds opening texts sent order lanes old
    → PoolHolds opening texts sent order lanes new
pool_server_takes opening texts sent order lanes proxy place moment old new e below h =
    let home : Homes = home_of old in
    let holds = ((h.proxies proxy).links place).0 e.there.up in
    let site = site_turned home proxy place order (λ p. lanes p place) (λ p. link_of old p place) opening e.there.site e.there.now.server moment e.tag e.enters.on.reply
    (up_has_way proxy place old e.there.site e.there.up (h.ways place e.there.site e.there.at)) e.there.up e.enters.on.steps e.next
    e.enters.on.appended below holds (h.sites place e.there.site e.there.at) in
    pool_resited opening texts sent order lanes place e.there.now old new e.proxies e.there.sites
    (subst (λ (s : SiteState). SiteHolds home place order (λ p. lanes p place) (λ p. link_of old p place) opening s)
    (sym (entered_site proxy moment e.tag e.there.site e.there.now e.enters)) site)
    (ap (λ (s : SiteState). length s.ways) e.enters.all_else
    ∙ length-set e.there.site.ways proxy (record (way_by e.there.site proxy) { ahead = (way_by e.there.site proxy).ahead + 1 }) ∙ h.ways place e.there.site e.there.at) h

-- ToProxy
pub pool_reaches_proxy : (opening : CacheState) (texts sent : ℕ → List ℕ) (order : Order) (lanes : ℕ → ℕ → Lane) (proxy place count : ℕ) (old new : PoolState)
    → (e : ReachesProxy proxy place count old new) → PoolHolds opening texts sent order lanes old
    → PoolHolds opening texts sent order (relaned proxy place (record (lanes proxy place) {
      came = (lanes proxy place).came ++ take count (output_of (connection_at e.there.site.server (way_by e.there.site proxy).connection));
    }) lanes) new
pool_reaches_proxy opening texts sent order lanes proxy place count old new e h =
    let home : Homes = home_of old in
    let own_order : Order = of_proxy home proxy order in
    let link : LinkState = link_of old proxy place in
    let piece : List ℕ = take count (output_of (connection_at e.there.site.server (way_by e.there.site proxy).connection)) in
    let after : LinkState = record link { unread = link.unread ++ piece } in
    let lane : Lane = record (lanes proxy place) { came = (lanes proxy place).came ++ piece } in
    let inside = up_is_there place (proxy_at old proxy).links e.there.up in
    let holds = ((h.proxies proxy).links place).0 e.there.up in
    let own : LaneHolds place own_order lane after = record {
      since = holds.since;
      put = holds.put;
      came = ap (λ (bytes : List ℕ). bytes ++ piece) holds.came
          ∙ append_assoc (replies_text (commands_to place (drop (lanes proxy place).since own_order)) (lanes proxy place).replies) link.unread piece;
      can = holds.can;
      waiting = holds.waiting;
      outcomes = holds.outcomes;
      before = holds.before;
    } in
    let site = site_returned home proxy place order (λ p. lanes p place) (λ p. link_of old p place) after opening e.there.site count e.there.up (h.sites place e.there.site e.there.at) in
    pool_relinked opening texts sent order lanes proxy place lane after e.there.now old new e.proxy inside (λ _. own, λ down. absurd (down e.there.up)) e.there.sites
    (subst (λ (s : SiteState). SiteHolds home place order (changed proxy lane (λ p. lanes p place)) (changed proxy after (λ p. link_of old p place)) opening s) (sym e.leaves) site)
    (ap (λ (s : SiteState). length s.ways) e.leaves ∙ h.ways place e.there.site e.there.at) h

-- the pending commands of a link are of its proxy's clients
each_waits : (home : Homes) (proxy : ℕ) (cs : List Tagged) → Each (λ (c : Tagged). home c.1.session ≡ proxy) cs
    → (i : ℕ) (tag : Tag) → slice_get (map (λ (w : Waiting). w.1) (as_waiting cs)) i ≡ Some tag → home tag.session ≡ proxy
each_waits home proxy [] h zero tag at = absurd (none-some tag at)
each_waits home proxy [] h (suc i) tag at = absurd (none-some tag at)
each_waits home proxy (c ∷ cs) h zero tag at = ap (λ (t : Tag). home t.session) (sym (same_Some c.1 tag at)) ∙ h.0
each_waits home proxy (c ∷ cs) h (suc i) tag at = each_waits home proxy cs h.1 i tag at

waiting_are_own : (home : Homes) (proxy place : ℕ) (order : Order) (lane : Lane) (link : LinkState) → LaneHolds place (of_proxy home proxy order) lane link
    → (i : ℕ) (tag : Tag) → slice_get (map (λ (w : Waiting). w.1) link.waiting) i ≡ Some tag → home tag.session ≡ proxy
waiting_are_own home proxy place order lane link holds i tag at =
    let cs : List Tagged = sent_on place (of_proxy home proxy order) lane in
    let n : ℕ = length lane.replies in
    each_waits home proxy (drop n cs)
    (each_back (λ (c : Tagged). home c.1.session ≡ proxy) (take n cs) (drop n cs)
    (subst (λ (ds : List Tagged). Each (λ (c : Tagged). home c.1.session ≡ proxy) ds) (sym (take-append-drop n cs))
    (each_since (λ (c : Tagged). home c.1.session ≡ proxy) place lane.since (of_proxy home proxy order) (commands_own home proxy place order))))
    i tag (ap (λ (ws : List Waiting). slice_get (map (λ (w : Waiting). w.1) ws) i) (sym holds.waiting) ∙ at)

-- ReplyTurn
pub pool_takes_reply : (opening : CacheState) (texts sent : ℕ → List ℕ) (order : Order) (lanes : ℕ → ℕ → Lane) (proxy place : ℕ) (old new : PoolState)
    → (e : TakesReply proxy place old new) → PoolHolds opening texts sent order lanes old
    → PoolHolds opening texts sent (note e.answers.tag (Reply e.answers.reply) order)
    (relaned proxy place (record (lanes proxy place) { replies = (lanes proxy place).replies ++ e.answers.reply ∷ [] }) lanes) new
pool_takes_reply opening texts sent order lanes proxy place old new e h =
    let home : Homes = home_of old in
    let tag : Tag = e.answers.tag in
    let outcome : Outcome = Reply e.answers.reply in
    let order' : Order = note tag outcome order in
    let lane : Lane = record (lanes proxy place) { replies = (lanes proxy place).replies ++ e.answers.reply ∷ [] } in
    let links : ℕ → LinkState = λ p. link_of old p place in
    let own : ProxyHolds (own_of home proxy texts) (own_of home proxy sent) (of_proxy home proxy order') (changed place lane (lanes proxy)) e.now =
    subst (λ (es : Order). ProxyHolds (own_of home proxy texts) (own_of home proxy sent) es (changed place lane (lanes proxy)) e.now) (sym (of_proxy-note home proxy tag outcome order))
    (holds-replied (own_of home proxy texts) (own_of home proxy sent) (of_proxy home proxy order) (lanes proxy) place (proxy_at old proxy) e.now (h.proxies proxy) e.there.up e.answers) in
    let inside = up_is_there place (proxy_at old proxy).links e.there.up in
    let link_is : link_at e.now.links place ≡ e.answers.link =
    ap (λ (ls : List LinkState). link_at ls place) e.answers.links ∙ link_own place e.answers.link (proxy_at old proxy).links inside in
    let up' : (link_at e.now.links place).up ≡ true = ap (λ (l : LinkState). l.up) link_is ∙ ap (λ (l : LinkState). l.up) e.answers.takes.others ∙ e.there.up in
    let holds : LaneHolds place (of_proxy home proxy order') lane e.answers.link =
    subst (λ (l : LinkState). LaneHolds place (of_proxy home proxy order') lane l) link_is
    (subst (λ (l : Lane). LaneHolds place (of_proxy home proxy order') l (link_at e.now.links place)) (changed-own place lane (lanes proxy)) ((own.links place).0 up')) in
    let numbered = numbered_whole home order (λ p. (h.proxies p).numbered) in
    let first : slice_get (map (λ (w : Waiting). w.1) (links proxy).waiting) 0 ≡ Some tag =
    ap (λ (ws : List Waiting). slice_get (map (λ (w : Waiting). w.1) ws) 0) e.answers.takes.oldest in
    let whose : home tag.session ≡ proxy =
    waiting_are_own home proxy place order (lanes proxy place) (links proxy) (((h.proxies proxy).links place).0 e.there.up) 0 tag first in
    let site = site_replied home proxy place order order' (λ p. lanes p place) lane links e.answers.link opening e.there.site tag e.answers.reply
    (up_has_way proxy place old e.there.site e.there.up (h.ways place e.there.site e.there.at)) e.there.up (keeps_note tag outcome order)
    (commands-note place tag outcome order) (λ p l. sent_noted home p place tag outcome order l) refl refl refl refl (((h.proxies proxy).links place).0 e.there.up)
    first (λ u q known. note_back tag outcome order u q (numbered u.session) known) (command_note tag outcome order) holds
    (h.sites place e.there.site e.there.at) in
    let named : (atom : Atom (List ℕ)) × (command_at order tag ≡ Some (to_place place atom)) = (site.named.0, sym (command_note tag outcome order tag) ∙ site.named.1) in
    pool_linked opening texts sent order order' lanes (relaned proxy place lane lanes) proxy place e.now e.answers.link e.there.now old new e.proxy e.answers.links inside e.there.sites
    (record {
      elsewhere = λ other differ. of_proxy_note_other home other tag outcome order (λ same. differ (sym whose ∙ same));
      keeps = keeps_note tag outcome order;
      news = λ other differ. news_elsewhere place other tag named.0 outcome order numbered differ named.1;
      commands = λ other. commands-note other tag outcome order;
      sent = λ p other l. sent_noted home p other tag outcome order l;
    })
    (λ other differ elsewhere. ap (λ (ls : ℕ → Lane). ls elsewhere) (lanes_other proxy place lane lanes other differ))
    (λ other elsewhere differ. lanes_elsewhere proxy place lane lanes other elsewhere differ)
    (subst (λ (ls : ℕ → Lane). ProxyHolds (own_of home proxy texts) (own_of home proxy sent) (of_proxy home proxy order') ls e.now) (sym (lanes_own proxy place lane lanes)) own)
    (site_along home place order' (changed proxy lane (λ p. lanes p place)) (λ p. relaned proxy place lane lanes p place) (changed proxy e.answers.link links) (changed proxy e.answers.link links)
    opening e.there.now (λ p. lanes_here proxy place lane lanes p) (λ _. refl)
    (subst (λ (s : SiteState). SiteHolds home place order' (changed proxy lane (λ p. lanes p place)) (changed proxy e.answers.link links) opening s) (sym e.counts) site.holds))
    (ap (λ (s : SiteState). length s.ways) e.counts
    ∙ length-set e.there.site.ways proxy (record (way_by e.there.site proxy) { ahead = (way_by e.there.site proxy).ahead - 1 }) ∙ h.ways place e.there.site e.there.at) h

-- LinkLost
commands-note_all : (place : ℕ) (tags : List Tag) (outcome : Outcome) (order : Order) → commands_to place (note_all tags outcome order) ≡ commands_to place order
commands-note_all place [] outcome order = refl
commands-note_all place (tag ∷ tags) outcome order = commands-note_all place tags outcome (note tag outcome order) ∙ commands-note place tag outcome order

pub pool_loses : (opening : CacheState) (texts sent : ℕ → List ℕ) (order : Order) (lanes : ℕ → ℕ → Lane) (proxy place : ℕ) (old new : PoolState)
    → LosesLink proxy place old new → PoolHolds opening texts sent order lanes old
    → PoolHolds opening texts sent (note_all (map (λ (w : Waiting). w.1) (link_of old proxy place).waiting) Lost order) lanes new
pool_loses opening texts sent order lanes proxy place old new e h =
    let home : Homes = home_of old in
    let link : LinkState = link_of old proxy place in
    let tags : List Tag = map (λ (w : Waiting). w.1) link.waiting in
    let order' : Order = note_all tags Lost order in
    let down : LinkState = down_link link.generation in
    let inside = up_is_there place (proxy_at old proxy).links e.there.up in
    let numbered = numbered_whole home order (λ p. (h.proxies p).numbered) in
    let holds = ((h.proxies proxy).links place).0 e.there.up in
    let own : ProxyHolds (own_of home proxy texts) (own_of home proxy sent) (of_proxy home proxy order') (lanes proxy) (lost_at place (proxy_at old proxy)) =
    subst (λ (es : Order). ProxyHolds (own_of home proxy texts) (own_of home proxy sent) es (lanes proxy) (lost_at place (proxy_at old proxy)))
    (sym (of_proxy-note_all home proxy tags Lost order))
    (holds-lost (own_of home proxy texts) (own_of home proxy sent) (of_proxy home proxy order) (lanes proxy) place (proxy_at old proxy) (h.proxies proxy) e.there.up) in
    let off : down.up ≢ true = λ up. absurd cc in
    let whose : (i : ℕ) (tag : Tag) → slice_get tags i ≡ Some tag → home tag.session ≡ proxy = waiting_are_own home proxy place order (lanes proxy place) link holds in
    let site = site_lost home proxy place order order' (λ p. lanes p place) (λ p. link_of old p place) down opening e.there.site e.there.up off
    (keeps_note_all tags Lost order) (news_all_lost place tags order numbered) (commands-note_all place tags Lost order)
    (λ p l. sent_noted_all home p place tags Lost order l) holds (h.sites place e.there.site e.there.at) in
    pool_linked opening texts sent order order' lanes lanes proxy place (lost_at place (proxy_at old proxy)) down e.there.now old new e.proxy refl inside e.there.sites
    (record {
      elsewhere = λ other differ. of_proxy_note_all_other home other tags Lost order (λ i tag at same. differ (sym (whose i tag at) ∙ same));
      keeps = keeps_note_all tags Lost order;
      news = λ other differ. news_all_lost other tags order numbered;
      commands = λ other. commands-note_all other tags Lost order;
      sent = λ p other l. sent_noted_all home p other tags Lost order l;
    })
    (λ _ _ _. refl) (λ _ _ _. refl) own
    (subst (λ (s : SiteState). SiteHolds home place order' (λ p. lanes p place) (changed proxy down (λ p. link_of old p place)) opening s) (sym e.cut) site)
    (ap (λ (s : SiteState). length s.ways) e.cut ∙ h.ways place e.there.site e.there.at) h

-- late bytes
pub pool_late_bytes : (opening : CacheState) (texts sent : ℕ → List ℕ) (order : Order) (lanes : ℕ → ℕ → Lane) (place i count : ℕ) (old new : PoolState)
    → LateBytes place i count old new → PoolHolds opening texts sent order lanes old → PoolHolds opening texts sent order lanes new
pool_late_bytes opening texts sent order lanes place i count old new e h =
    let home : Homes = home_of old in
    let site = site_late_fed home place order (λ p. lanes p place) (λ p. link_of old p place) opening e.there.site e.there.now.server i e.arrives.way (take count e.arrives.way.going)
    (drop count e.arrives.way.going) e.arrives.way_at (sym (take-append-drop count e.arrives.way.going)) e.arrives.steps (h.sites place e.there.site e.there.at) in
    pool_resited opening texts sent order lanes place e.there.now old new e.there.proxies e.there.sites
    (subst (λ (s : SiteState). SiteHolds home place order (λ p. lanes p place) (λ p. link_of old p place) opening s) (sym e.arrives.all_else) site)
    (ap (λ (s : SiteState). length s.ways) e.arrives.all_else ∙ h.ways place e.there.site e.there.at) h

-- a late turn
pub pool_late_turn : (opening : CacheState) (texts sent : ℕ → List ℕ) (order : Order) (lanes : ℕ → ℕ → Lane) (place i moment : ℕ) (old new : PoolState)
    → (e : LateTurn place i moment old new) → moment < 2 ^ 63 → PoolHolds opening texts sent order lanes old → PoolHolds opening texts sent order lanes new
pool_late_turn opening texts sent order lanes place i moment old new e below h =
    let home : Homes = home_of old in
    let site = site_late_turned home place order (λ p. lanes p place) (λ p. link_of old p place) opening e.there.site e.there.now.server moment i e.enters.way e.enters.tag e.enters.tags e.enters.on.reply
    e.enters.way_at e.enters.untaken e.enters.on.steps e.enters.on.appended below (h.sites place e.there.site e.there.at) in
    pool_resited opening texts sent order lanes place e.there.now old new e.there.proxies e.there.sites
    (subst (λ (s : SiteState). SiteHolds home place order (λ p. lanes p place) (λ p. link_of old p place) opening s) (sym (late_site i moment e.there.site e.there.now e.enters)) site)
    (ap (λ (s : SiteState). length s.ways) e.enters.all_else ∙ h.ways place e.there.site e.there.at) h

-- LinkBack
pub pool_returns : (opening : CacheState) (texts sent : ℕ → List ℕ) (order : Order) (lanes : ℕ → ℕ → Lane) (proxy place : ℕ) (old new : PoolState)
    → LinkReturns proxy place old new → PoolHolds opening texts sent order lanes old
    → PoolHolds opening texts sent order (relaned proxy place (fresh_lane (length (of_proxy (home_of old) proxy order))) lanes) new
pool_returns opening texts sent order lanes proxy place old new e h =
    let home : Homes = home_of old in
    let own_order : Order = of_proxy home proxy order in
    let lane : Lane = fresh_lane (length own_order) in
    let link : LinkState = link_of old proxy place in
    let after : LinkState = up_link (link.generation + 1) in
    let off : link.up ≢ true =
    λ on. let clash : (not true && nat_lt link.generation (2 ^ 64 - 1)) ≡ true = subst (λ (v : Bool). (not v && nat_lt link.generation (2 ^ 64 - 1)) ≡ true) on e.can in absurd cc in
    let known = (((h.proxies proxy).links place).1 off).outcomes in
    let site = site_back home proxy place order (λ p. lanes p place) (λ p. link_of old p place) after opening e.site (link.generation + 1) e.back.inside e.back.closed (h.sites place e.site e.at) in
    pool_relinked opening texts sent order lanes proxy place lane after e.now old new e.proxy e.inside
    (λ _. lane_fresh place (link.generation + 1) own_order known, λ down. absurd (down refl)) e.sites
    (subst (λ (s : SiteState). SiteHolds home place order (changed proxy lane (λ p. lanes p place)) (changed proxy after (λ p. link_of old p place)) opening s) (sym e.back.all_else) site)
    (ap (λ (s : SiteState). length s.ways) e.back.all_else
    ∙ length-set e.site.ways proxy (record { generation = link.generation + 1; connection = e.site.server.admitted; ahead = 0 }) ∙ h.ways place e.site e.at) h

-- ServerSeesEnd
pub pool_end_seen : (opening : CacheState) (texts sent : ℕ → List ℕ) (order : Order) (lanes : ℕ → ℕ → Lane) (place i : ℕ) (old new : PoolState)
    → EndSeen place i old new → PoolHolds opening texts sent order lanes old → PoolHolds opening texts sent order lanes new
pool_end_seen opening texts sent order lanes place i old new e h =
    let home : Homes = home_of old in
    let site = site_ended home place order (λ p. lanes p place) (λ p. link_of old p place) opening e.there.site e.there.now.server i e.ends.way e.ends.way_at e.ends.closes e.ends.not_open
    (h.sites place e.there.site e.there.at) in
    pool_resited opening texts sent order lanes place e.there.now old new e.there.proxies e.there.sites
    (subst (λ (s : SiteState). SiteHolds home place order (λ p. lanes p place) (λ p. link_of old p place) opening s) (sym e.ends.all_else) site)
    (ap (λ (s : SiteState). length s.ways) e.ends.all_else ∙ h.ways place e.there.site e.there.at) h

-- ClientTakes
pub links_sent : (client count : ℕ) (session : Option SessionState) (p : ProxyState) → (sent_by client count session p).links ≡ p.links
links_sent client count None p = refl
links_sent client count (Some session) p = refl

pub pool_client_takes : (opening : CacheState) (texts sent : ℕ → List ℕ) (order : Order) (lanes : ℕ → ℕ → Lane) (client count : ℕ) (old new : PoolState)
    → TakesBytes client count old new → PoolHolds opening texts sent order lanes old
    → PoolHolds opening texts (grown client (take count (output_at (session_of old client))) sent) order lanes new
pool_client_takes opening texts sent order lanes client count old new e h =
    let home : Homes = home_of old in
    let proxy : ℕ = home_of old client in
    let piece : List ℕ = take count (output_at (session_of old client)) in
    let now : ProxyState = sent_by client count (session_of old client) (proxy_of old client) in
    pool_stepped opening texts texts sent (grown client piece sent) order lanes client now old new e.proxy
    (λ past. ap (λ (s : Option SessionState). sent_by client count s (proxy_of old client)) (ap (λ (p : ProxyState). session_at p client) (proxy_past proxy old.proxies past)))
    (links_sent client count (session_of old client) (proxy_of old client)) e.sites
    (proxy_along (own_of home proxy texts) (own_of home proxy texts) (grown client piece (own_of home proxy sent)) (own_of home proxy (grown client piece sent)) (of_proxy home proxy order)
    (lanes proxy) (lanes proxy) now (λ _. refl) (own_grown home proxy client piece sent refl) (λ _. refl)
    (holds-sent (own_of home proxy texts) (own_of home proxy sent) (of_proxy home proxy order) (lanes proxy) client count (proxy_at old proxy) (h.proxies proxy)))
    (λ _ _ _. refl) (λ other differ. other_grown home other client piece sent differ) h.bytes h

-- ClientGone
pub pool_client_goes : (opening : CacheState) (texts sent : ℕ → List ℕ) (order : Order) (lanes : ℕ → ℕ → Lane) (client : ℕ) (old new : PoolState)
    → ClientGoes client old new → PoolHolds opening texts sent order lanes old → PoolHolds opening texts sent order lanes new
pool_client_goes opening texts sent order lanes client old new e h =
    let home : Homes = home_of old in
    let proxy : ℕ = home_of old client in
    let now : ProxyState = record (proxy_of old client) { sessions = without client (proxy_of old client).sessions } in
    let past : length old.proxies ≤ proxy → now ≡ proxy_of old client = λ beyond.
    subst (λ (p : ProxyState). ◌≡◌ {A = ProxyState} (record p { sessions = without client p.sessions }) p) (sym (proxy_past proxy old.proxies beyond)) refl in
    pool_stepped opening texts texts sent sent order lanes client now old new e.proxy past refl e.sites
    (holds-gone (own_of home proxy texts) (own_of home proxy sent) (of_proxy home proxy order) (lanes proxy) client (proxy_at old proxy) (h.proxies proxy)
    (sym (session_own_if client now old new e.proxy past) ∙ e.not_open))
    (λ _ _ _. refl) (λ _ _ _. refl) h.bytes h

-- a server restarts
pub pool_restarts : (opening : CacheState) (texts sent : ℕ → List ℕ) (order : Order) (lanes : ℕ → ℕ → Lane) (place : ℕ) (old new : PoolState)
    → IsGoodCache opening → ServerRestarts place opening old new → PoolHolds opening texts sent order lanes old → PoolHolds opening texts sent order lanes new
pool_restarts opening texts sent order lanes place old new good e h =
    pool_resited opening texts sent order lanes place (restarted opening e.site) old new e.proxies e.sites
    (site_restarted (home_of old) place order (λ p. lanes p place) (λ p. link_of old p place) opening e.site good e.down (h.sites place e.site e.at))
    (length-map e.site.ways (λ (way : WayState). record way { ahead = 0 }) ∙ h.ways place e.site e.at) h
