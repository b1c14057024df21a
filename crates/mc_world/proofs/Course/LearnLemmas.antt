-- A course holds after a proxy has learned a server.
use Rattle.std.proofs.Common.{◌≡◌, ◌∙◌, ℕ, inl, inr, false, List, [], ◌∷◌, ◌++◌, length, Some, slice_get, refl, sym, ap, subst, append-nil, arith}
use Rattle.std.specs.Prelude.{All}
use Rattle.mc_ring.specs.Rings.{RingState}
use Rattle.mc_cache.specs.CacheState.{CacheState}
use Rattle.mc_link.specs.LinkState.{LinkState}
use Rattle.mc_proxy.specs.ProxyState.{ProxyState, Sessions}
use Rattle.mc_account.specs.Lanes.{Lane}
use Rattle.mc_account.specs.Lookups.{IsRoutedWithin}
use Rattle.mc_account.specs.Orders.{Order}
use Rattle.mc_world.specs.CourseHolds.{CourseHolds, HaveOneGeneration, IsOfLinks, LivesHold}
use Rattle.mc_world.specs.Homes.{of_proxy}
use Rattle.mc_world.specs.Joins.{HasLearnedServer, LearnsServer}
use Rattle.mc_world.specs.LogHolds.{LogHolds}
use Rattle.mc_world.specs.Logs.{Log}
use Rattle.mc_world.specs.Pools.{PoolHolds}
use Rattle.mc_world.specs.WorldState.{PoolState, SiteState, begun_of, histories_of, home_of, link_of, proxy_at}
use Rattle.mc_world.specs.Worlds.{CourseState, put_out_of, taken_by, text_of}
use Rattle.mc_world.specs.declared.logs.Logged.{Logged}
use Rattle.mc_world.specs.declared.logs.Logged.TheVariants.{Joined}
use Rattle.mc_world.proofs.Course.DoneLemmas.{same_clients}
use Rattle.mc_world.proofs.Course.GrowLemmas.{Grows, grown_lanes, link_beyond, link_grown, link_joined, links_few, log_grows, next_place, proxies_grow, site_grows}
use Rattle.mc_world.proofs.Course.NothingBeforeLemmas.{nothing_joins}
use Rattle.mc_world.proofs.Course.OutputLemmas.{out_stays, unsent}
use Rattle.mc_world.proofs.Log.EntryLemmas.{HasUntakenAt}
use Rattle.mc_world.proofs.Log.LifeLemmas.{lives_on, sizes_of}
use Rattle.mc_world.proofs.PoolEvents.ProxyLemmas.{all_keep, proxies_count}

-- the ring of the proxy grows, and its new link is down
learn_grows : (proxy : ℕ) (address : List ℕ) (old new : PoolState) → LearnsServer proxy address old new → Grows proxy address false old new
learn_grows proxy address old new e = record { inside = e.inside; now = e.now; joins = e.joins; is_ring = e.is_ring; becomes = e.proxies }

-- as many ways as proxies
ways_learned : (proxy : ℕ) (address : List ℕ) (old new : PoolState) → LearnsServer proxy address old new
    → ((place : ℕ) (site : SiteState) → slice_get old.sites place ≡ Some site → length site.ways ≡ length old.proxies)
    → (place : ℕ) (site : SiteState) → slice_get new.sites place ≡ Some site → length site.ways ≡ length new.proxies
ways_learned proxy address old new e ways place site at =
    ways place site (ap (λ (ss : List SiteState). slice_get ss place) (sym e.sites) ∙ at) ∙ sym (proxies_count proxy e.now old new e.proxies)

-- all links are as they were: the new one is down, and was never up
links_learned : (proxy : ℕ) (address : List ℕ) (old new : PoolState) → LearnsServer proxy address old new → length (proxy_at old proxy).links ≡ next_place proxy old
    → (p place : ℕ) → link_of new p place ≡ link_of old p place
links_learned proxy address old new e linked p place =
    let grows = learn_grows proxy address old new e in
    elim (link_grown proxy address false old new grows linked p place) [
      | inl here ↦
          subst (λ (n : ℕ). link_of new n place ≡ link_of old n place) here.0
          (subst (λ (n : ℕ). link_of new proxy n ≡ link_of old proxy n) here.1
          (link_joined proxy address false old new grows linked ∙ sym (link_beyond old proxy (next_place proxy old) (omega (arith, linked)))))
      | inr same ↦ same
    ]

-- the pool holds
pool_learns : (opening : CacheState) (texts sent : ℕ → List ℕ) (order : Order) (lanes : ℕ → ℕ → Lane) (proxy : ℕ) (address : List ℕ) (old new : PoolState) → LearnsServer proxy address old new
    → length (proxy_at old proxy).links ≡ next_place proxy old → PoolHolds opening texts sent order lanes old → PoolHolds opening texts sent order (grown_lanes proxy order lanes old) new
pool_learns opening texts sent order lanes proxy address old new e linked h =
    let grows = learn_grows proxy address old new e in
    record {
      proxies = proxies_grow texts sent order lanes proxy address false old new grows linked h.proxies;
      sites = λ place site at.
          site_grows opening order lanes proxy address false old new grows linked place site (λ here up. absurd cc)
          (h.sites place site (ap (λ (ss : List SiteState). slice_get ss place) (sym e.sites) ∙ at));
      ways = ways_learned proxy address old new e h.ways;
      bytes = h.bytes;
    }

-- the log leaves the pool so
log_learns : (ring : RingState) (order : Order) (outs : ℕ → List ℕ) (log : Log) (proxy : ℕ) (address : List ℕ) (old new : PoolState) → LearnsServer proxy address old new
    → LogHolds ring order outs log old → LogHolds ring order outs (log ++ Joined proxy (next_place proxy old) address false ∷ []) new
log_learns ring order outs log proxy address old new e h =
    let sites : length new.sites ≡ length old.sites = ap (λ (ss : List SiteState). length ss) e.sites in
    let linked = h.servers.linked proxy in
    log_grows ring order outs log proxy address false old new (learn_grows proxy address old new e)
    (links_few proxy address false old new (length new.sites) (learn_grows proxy address old new e) (let more = e.more in omega (arith, linked, more, sites))
    (λ other. let few = h.servers.sited other in omega (arith, few, sites)))
    (ways_learned proxy address old new e h.servers.ways)
    (λ place. ap (λ (ss : List SiteState). histories_of ss place) e.sites)
    (λ place tag has. subst (λ (ss : List SiteState). HasUntakenAt ss place tag) e.sites has) h

-- each site's ways are of the generations of the links to it
generations_learned : (proxy : ℕ) (address : List ℕ) (old new : PoolState) → LearnsServer proxy address old new → length (proxy_at old proxy).links ≡ next_place proxy old
    → HaveOneGeneration old → HaveOneGeneration new
generations_learned proxy address old new e linked h place site at =
    let same : ◌≡◌ {A = ℕ → LinkState} (λ p. link_of old p place) (λ p. link_of new p place) = λ i p. sym (links_learned proxy address old new e linked p place) i in
    subst (λ (links : ℕ → LinkState). IsOfLinks links site) same (h place site (ap (λ (ss : List SiteState). slice_get ss place) (sym e.sites) ∙ at))

-- the course holds
pub course_learns : (ring : RingState) (opening : CacheState) (proxy : ℕ) (address : List ℕ) (old new : CourseState) → CourseHolds ring opening old
    → HasLearnedServer proxy address old new → CourseHolds ring opening new
course_learns ring opening proxy address old new h e =
    let place : ℕ = next_place proxy old.pool in
    let x : Logged = Joined proxy (next_place proxy old.pool) address false in
    let linked = h.log.servers.linked proxy in
    let within : All (IsRoutedWithin (next_place proxy old.pool)) (of_proxy (home_of old.pool) proxy h.order) =
    subst (λ (n : ℕ). All (IsRoutedWithin n) (of_proxy (home_of old.pool) proxy h.order)) linked (h.log.requests.inside proxy) in
    same_clients ring opening h.order (grown_lanes proxy h.order h.lanes old.pool) old new e.clients
    (λ n. out_stays proxy e.pool.now old.pool new.pool e.pool.proxies n (ap (λ (ss : Sessions). unsent ss n) e.pool.joins.sessions))
    (all_keep (λ (p : ProxyState). p.admitted) proxy e.pool.now old.pool new.pool e.pool.proxies e.pool.joins.admitted) h.numbered
    (pool_learns opening (text_of old) (taken_by old) h.order h.lanes proxy address old.pool new.pool e.pool linked h.pool)
    (subst (λ (log : Log). LogHolds ring h.order (put_out_of old) log new.pool) (sym e.log)
    (log_learns ring h.order (put_out_of old) old.log proxy address old.pool new.pool e.pool h.log))
    (generations_learned proxy address old.pool new.pool e.pool linked h.generations)
    (nothing_joins old.pool new.pool h.order h.lanes proxy place old.log new.log x e.pool.proxies.homes e.log within h.nothing_before)
    (subst (λ (l : Log). LivesHold opening h.order l new.pool.sites) (sym e.log)
    (lives_on opening h.order h.order old.log x old.pool.sites new.pool.sites (λ _ _ k. k)
    (record {
      begun = λ p. ap (λ (ss : List SiteState). begun_of ss p) e.pool.sites;
      more = λ p. ([], ap (λ (ss : List SiteState). histories_of ss p) e.pool.sites ∙ sym (append-nil (histories_of old.pool.sites p)));
    })
    (λ p. refl) (sizes_of ring h.order (put_out_of old) old.log old.pool h.log) h.lives))
