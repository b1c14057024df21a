-- A course holds after a server has joined.
use Rattle.std.proofs.Common.{◌≡◌, ◌≢◌, ◌∙◌, ⊎_elim, ℕ, zero, suc, ◌+◌, ◌<◌, ◌≤◌, inl, inr, true, false, List, [], ◌∷◌, ◌++◌, length, Option, None, Some, slice_get, slice_index_or, refl, sym, ap, subst, append-nil, arith}
use Rattle.std.specs.Prelude.{All, replicate}
use Rattle.std.proofs.lemmas.Bool.Decides.{eqb_tells}
use Rattle.std.proofs.lemmas.List.{length-replicate, length-set, length_push}
use Rattle.std.proofs.lemmas.Option.{none-some}
use Rattle.mc_ring.specs.Rings.{RingState}
use Rattle.mc_route.specs.Routes.{to_place}
use Rattle.mc_link.specs.LinkState.{LinkState}
use Rattle.mc_link.specs.declared.turns.Tag.{Tag}
use Rattle.mc_cache.specs.CacheState.{CacheState}
use Rattle.mc_cache_laws.specs.GoodCaches.{IsGoodCache}
use Rattle.mc_server.specs.ServerState.{ServerState, connection_at, with_fresh}
use Rattle.mc_server.proofs.HoldsLemmas.{ServerHolds-admitted, ServerHolds-new}
use Rattle.mc_proxy.specs.ProxyState.{ProxyState, Sessions}
use Rattle.mc_account.specs.Lanes.{Lane, fresh_lane}
use Rattle.mc_account.specs.Lookups.{IsRoutedWithin}
use Rattle.mc_account.specs.Orders.{Order}
use Rattle.mc_account.proofs.HoldsLemmas.{changed-own}
use Rattle.mc_account.proofs.WithinLemmas.{commands_within, within-more}
use Rattle.mc_history.specs.Named.{AreReplied}
use Rattle.mc_world.specs.CourseHolds.{CourseHolds, HaveOneGeneration, IsOfLinks, LivesHold}
use Rattle.mc_world.specs.Homes.{Homes, home_in, of_proxy}
use Rattle.mc_world.specs.Joins.{HasServerJoined, ServerJoins, joined_site}
use Rattle.mc_world.specs.LogHolds.{LogHolds}
use Rattle.mc_world.specs.Logs.{Log}
use Rattle.mc_world.specs.Pools.{PoolHolds}
use Rattle.mc_world.specs.Sites.{SiteHolds}
use Rattle.mc_world.specs.WorldState.{PoolState, SiteState, StaleState, WayState, begun_of, histories_of, home_of, link_of, no_way, proxy_at, way_by, with_way}
use Rattle.mc_world.specs.Worlds.{CourseState, put_out_of, taken_by, text_of}
use Rattle.mc_world.specs.declared.logs.Logged.{Logged}
use Rattle.mc_world.specs.declared.logs.Logged.TheVariants.{Joined}
use Rattle.mc_world.proofs.Course.DoneLemmas.{same_clients}
use Rattle.mc_world.proofs.Course.GenerationStayLemmas.{never_lost}
use Rattle.mc_world.proofs.Course.GrowLemmas.{Grows, grown_lanes, link_beyond, link_grown, link_joined, links_few, log_grows, next_place, proxies_grow, site_grows}
use Rattle.mc_world.proofs.Course.NothingBeforeLemmas.{none_to, nothing_joins}
use Rattle.mc_world.proofs.Course.OutputLemmas.{out_stays, unsent}
use Rattle.mc_world.proofs.Course.WorldOpeningLemmas.{IsFirstWay, new_site_holds}
use Rattle.mc_world.proofs.Homes.CommandLemmas.{all_whole}
use Rattle.mc_world.proofs.Log.EntryLemmas.{HasUntakenAt, got_inside, got_pushed}
use Rattle.mc_world.proofs.Log.LifeLemmas.{lives_on, sizes_of}
use Rattle.mc_world.proofs.PoolEvents.ProxyLemmas.{all_keep, lanes_own, proxies_count}
use Rattle.mc_world.proofs.SiteEvents.EachLemmas.{way_other, way_own}

-- no reply of a server to which nothing goes is known
none_replied : (place : ℕ) (order : Order) → All (IsRoutedWithin place) order → AreReplied place order []
none_replied place order h tag atom reply is known = absurd (omega (arith, commands_within place order h tag (to_place place atom) is))

-- the ring of the proxy grows, and its new link is up
join_grows : (proxy : ℕ) (address : List ℕ) (opening : CacheState) (old new : PoolState) → ServerJoins proxy address opening old new → Grows proxy address true old new
join_grows proxy address opening old new e = record { inside = e.inside; now = e.now; joins = e.joins; is_ring = e.is_ring; becomes = e.proxies }

-- the ways of a server that joins: that of the proxy at which it joins, and the others
no_ways : (n proxy : ℕ) → slice_index_or (replicate n no_way) proxy no_way ≡ no_way
no_ways zero proxy = refl
no_ways (suc n) zero = refl
no_ways (suc n) (suc proxy) = no_ways n proxy

abbrev first_way : WayState
first_way = record { generation = 1; connection = 0; ahead = 0 }

joined_way : (proxies proxy : ℕ) → proxy < proxies → slice_index_or (with_way proxy first_way (replicate proxies no_way)) proxy no_way ≡ first_way
joined_way proxies proxy inside = way_own (replicate proxies no_way) proxy first_way (let many = length-replicate proxies no_way in omega (arith, inside, many))

joined_other : (proxies proxy other : ℕ) → proxy ≢ other → slice_index_or (with_way proxy first_way (replicate proxies no_way)) other no_way ≡ no_way
joined_other proxies proxy other differ = way_other (replicate proxies no_way) proxy other first_way differ ∙ no_ways proxies other

ways_joined : (proxy : ℕ) (address : List ℕ) (opening : CacheState) (old new : PoolState) → ServerJoins proxy address opening old new
    → ((place : ℕ) (site : SiteState) → slice_get old.sites place ≡ Some site → length site.ways ≡ length old.proxies)
    → (place : ℕ) (site : SiteState) → slice_get new.sites place ≡ Some site → length site.ways ≡ length new.proxies
ways_joined proxy address opening old new e ways place site at =
    let now = joined_site opening (length old.proxies) proxy in
    elim (got_pushed old.sites now place site (ap (λ (ss : List SiteState). slice_get ss place) (sym e.sites) ∙ at)) [
      | inl there ↦ ways place site there ∙ sym (proxies_count proxy e.now old new e.proxies)
      | inr last ↦
          ap (λ (s : SiteState). length s.ways) last.1 ∙ length-set (replicate (length old.proxies) no_way) proxy first_way ∙ length-replicate (length old.proxies) no_way
          ∙ sym (proxies_count proxy e.now old new e.proxies)
    ]

-- only the proxy at which it joins has a link to it that is up
joined_up : (proxy : ℕ) (address : List ℕ) (opening : CacheState) (old new : PoolState) → ServerJoins proxy address opening old new
    → length (proxy_at old proxy).links ≡ next_place proxy old → ((p : ℕ) → length (proxy_at old p).links ≤ length old.sites)
    → (p : ℕ) → (link_of new p (length old.sites)).up ≡ true → proxy ≡ p
joined_up proxy address opening old new e linked sited p up =
    elim (link_grown proxy address true old new (join_grows proxy address opening old new e) linked p (length old.sites)) [
      | inl here ↦ here.0
      | inr same ↦ (
          let clash : false ≡ true = sym (ap (λ (l : LinkState). l.up) (same ∙ link_beyond old p (length old.sites) (sited p))) ∙ up in
          absurd cc)
    ]

-- the new server, to which nothing was sent
new_site : (opening : CacheState) (order : Order) (lanes : ℕ → ℕ → Lane) (proxy : ℕ) (address : List ℕ) (old new : PoolState) → IsGoodCache opening → ServerJoins proxy address opening old new
    → length (proxy_at old proxy).links ≡ next_place proxy old → ((p : ℕ) → length (proxy_at old p).links ≤ length old.sites) → All (IsRoutedWithin (length old.sites)) order
    → SiteHolds (home_of new) (length old.sites) order (λ p. grown_lanes proxy order lanes old p (length old.sites)) (λ p. link_of new p (length old.sites)) opening
    (joined_site opening (length old.proxies) proxy)
new_site opening order lanes proxy address old new good e linked sited within =
    let place : ℕ = length old.sites in
    let lane : Lane = fresh_lane (length (of_proxy (home_of old) proxy order)) in
    let server : ServerState = with_fresh (record { cache = opening; connections = []; admitted = 0 }) in
    let ways : List WayState = with_way proxy first_way (replicate (length old.proxies) no_way) in
    let up = joined_up proxy address opening old new e linked sited in
    let way : slice_index_or ways proxy no_way ≡ first_way = joined_way (length old.proxies) proxy e.inside in
    let passed : grown_lanes proxy order lanes old proxy place ≡ lane =
    ap (λ (n : ℕ). grown_lanes proxy order lanes old proxy n) (sym e.all)
    ∙ ap (λ (ls : ℕ → Lane). ls (next_place proxy old)) (lanes_own proxy (next_place proxy old) lane lanes) ∙ changed-own (next_place proxy old) lane (lanes proxy) in
    subst (λ (home : Homes). SiteHolds home place order (λ p. grown_lanes proxy order lanes old p place) (λ p. link_of new p place) opening (joined_site opening (length old.proxies) proxy))
    (sym (ap (λ (homes : List ℕ). home_in homes) e.proxies.homes))
    (new_site_holds (home_of old) place order (λ p. grown_lanes proxy order lanes old p place) (λ p. link_of new p place) opening server ways good refl
    (ServerHolds-admitted opening (λ _. []) (λ _. []) [] (record { cache = opening; connections = []; admitted = 0 }) (ServerHolds-new opening))
    (none_to place order within) (none_replied place order within)
    (λ p on. subst (λ (n : ℕ). IsFirstWay (home_of old) n order (grown_lanes proxy order lanes old n place) server (slice_index_or ways n no_way)) (up p on)
    (record {
      is_open = ap (λ (w : WayState). connection_at server w.connection) way;
      ahead = ap (λ (w : WayState). w.ahead) way;
      passed = passed;
    }))
    (λ p q on also differ. absurd (differ (sym (up p on) ∙ up q also))))

-- the pool holds
pool_joins : (opening : CacheState) (texts sent : ℕ → List ℕ) (order : Order) (lanes : ℕ → ℕ → Lane) (proxy : ℕ) (address : List ℕ) (old new : PoolState)
    → IsGoodCache opening → ServerJoins proxy address opening old new → length (proxy_at old proxy).links ≡ next_place proxy old
    → ((p : ℕ) → length (proxy_at old p).links ≤ length old.sites) → All (IsRoutedWithin (length old.sites)) order → PoolHolds opening texts sent order lanes old
    → PoolHolds opening texts sent order (grown_lanes proxy order lanes old) new
pool_joins opening texts sent order lanes proxy address old new good e linked sited within h =
    let grows = join_grows proxy address opening old new e in
    let all = e.all in
    record {
      proxies = proxies_grow texts sent order lanes proxy address true old new grows linked h.proxies;
      sites = λ place site at. elim (got_pushed old.sites (joined_site opening (length old.proxies) proxy) place site (ap (λ (ss : List SiteState). slice_get ss place) (sym e.sites) ∙ at)) [
        | inl there ↦ (
            let below = got_inside old.sites place site there in
            site_grows opening order lanes proxy address true old new grows linked place site (λ here up. omega (arith, below, here, all)) (h.sites place site there))
        | inr last ↦
            subst (λ (n : ℕ). SiteHolds (home_of new) n order (λ p. grown_lanes proxy order lanes old p n) (λ p. link_of new p n) opening site) (sym last.0)
            (subst (λ (s : SiteState). SiteHolds (home_of new) (length old.sites) order (λ p. grown_lanes proxy order lanes old p (length old.sites)) (λ p. link_of new p (length old.sites)) opening s)
            (sym last.1) (new_site opening order lanes proxy address old new good e linked sited within))
      ];
      ways = ways_joined proxy address opening old new e h.ways;
      bytes = h.bytes;
    }

none_at : (i : ℕ) → ◌≡◌ {A = Option StaleState} (slice_get [] i) None
none_at zero = refl
none_at (suc i) = refl

-- the histories stay, and no more commands are untaken
histories_joined : (opening : CacheState) (proxies proxy : ℕ) (sites : List SiteState) (place : ℕ) → histories_of (sites ++ joined_site opening proxies proxy ∷ []) place ≡ histories_of sites place
histories_joined opening proxies proxy [] zero = refl
histories_joined opening proxies proxy [] (suc place) = refl
histories_joined opening proxies proxy (site ∷ sites) zero = refl
histories_joined opening proxies proxy (site ∷ sites) (suc place) = histories_joined opening proxies proxy sites place

untaken_joined : (opening : CacheState) (proxies proxy : ℕ) (sites : List SiteState) (place : ℕ) (tag : Tag)
    → HasUntakenAt (sites ++ joined_site opening proxies proxy ∷ []) place tag → HasUntakenAt sites place tag
untaken_joined opening proxies proxy sites place tag h = elim (got_pushed sites (joined_site opening proxies proxy) place h.site h.at) [
  | inl there ↦ record { site = h.site; at = there; has = h.has }
  | inr last ↦ absurd (none-some h.has.way (sym (ap (λ (s : SiteState). slice_get s.lost h.has.i) last.1 ∙ none_at h.has.i) ∙ h.has.way_at))
]

-- the log leaves the pool so
log_joins : (ring : RingState) (order : Order) (outs : ℕ → List ℕ) (log : Log) (proxy : ℕ) (address : List ℕ) (opening : CacheState) (old new : PoolState)
    → ServerJoins proxy address opening old new → LogHolds ring order outs log old → LogHolds ring order outs (log ++ Joined proxy (next_place proxy old) address true ∷ []) new
log_joins ring order outs log proxy address opening old new e h =
    let now : SiteState = joined_site opening (length old.proxies) proxy in
    let sites : length new.sites ≡ length old.sites + 1 = ap (λ (ss : List SiteState). length ss) e.sites ∙ length_push old.sites now in
    let linked = h.servers.linked proxy in
    let all = e.all in
    log_grows ring order outs log proxy address true old new (join_grows proxy address opening old new e)
    (links_few proxy address true old new (length new.sites) (join_grows proxy address opening old new e) (omega (arith, linked, all, sites))
    (λ other. let few = h.servers.sited other in omega (arith, few, sites)))
    (ways_joined proxy address opening old new e h.servers.ways)
    (λ place. ap (λ (ss : List SiteState). histories_of ss place) e.sites ∙ histories_joined opening (length old.proxies) proxy old.sites place)
    (λ place tag has. untaken_joined opening (length old.proxies) proxy old.sites place tag (subst (λ (ss : List SiteState). HasUntakenAt ss place tag) e.sites has)) h

-- the ways of the new server are of the generations of the links to it
new_generations : (proxy : ℕ) (address : List ℕ) (opening : CacheState) (old new : PoolState) → ServerJoins proxy address opening old new
    → length (proxy_at old proxy).links ≡ next_place proxy old → ((p : ℕ) → length (proxy_at old p).links ≤ length old.sites)
    → (p : ℕ) → (way_by (joined_site opening (length old.proxies) proxy) p).generation ≡ (link_of new p (length old.sites)).generation
new_generations proxy address opening old new e linked sited p =
    let grows = join_grows proxy address opening old new e in
    ⊎_elim
    (λ own. subst (λ (n : ℕ). (way_by (joined_site opening (length old.proxies) proxy) n).generation ≡ (link_of new n (length old.sites)).generation) own.1
    (ap (λ (w : WayState). w.generation) (joined_way (length old.proxies) proxy e.inside)
    ∙ sym (ap (λ (n : ℕ). (link_of new proxy n).generation) (sym e.all) ∙ ap (λ (l : LinkState). l.generation) (link_joined proxy address true old new grows linked))))
    (λ differ. elim (link_grown proxy address true old new grows linked p (length old.sites)) [
      | inl here ↦ absurd (differ.1 here.0)
      | inr same ↦
          ap (λ (w : WayState). w.generation) (joined_other (length old.proxies) proxy p differ.1)
          ∙ sym (ap (λ (l : LinkState). l.generation) (same ∙ link_beyond old p (length old.sites) (sited p)))
    ])
    (eqb_tells proxy p)

-- each site's ways are of the generations of the links to it
join_generations : (proxy : ℕ) (address : List ℕ) (opening : CacheState) (old new : PoolState) → ServerJoins proxy address opening old new
    → length (proxy_at old proxy).links ≡ next_place proxy old → ((p : ℕ) → length (proxy_at old p).links ≤ length old.sites) → HaveOneGeneration old → HaveOneGeneration new
join_generations proxy address opening old new e linked sited h place site at =
    let all = e.all in
    elim (got_pushed old.sites (joined_site opening (length old.proxies) proxy) place site (ap (λ (ss : List SiteState). slice_get ss place) (sym e.sites) ∙ at)) [
      | inl there ↦ (
          let below = got_inside old.sites place site there in
          let kept : (p : ℕ) → link_of old p place ≡ link_of new p place =
          λ p. elim (link_grown proxy address true old new (join_grows proxy address opening old new e) linked p place) [
            | inl here ↦ (let last = here.1 in absurd (omega (arith, below, last, all)))
            | inr same ↦ sym same
          ] in
          let same : ◌≡◌ {A = ℕ → LinkState} (λ p. link_of old p place) (λ p. link_of new p place) = λ i p. kept p i in
          subst (λ (links : ℕ → LinkState). IsOfLinks links site) same (h place site there))
      | inr last ↦
          subst (λ (n : ℕ). IsOfLinks (λ p. link_of new p n) site) (sym last.0)
          (subst (λ (s : SiteState). IsOfLinks (λ p. link_of new p (length old.sites)) s) (sym last.1)
          (never_lost (λ p. link_of new p (length old.sites)) (joined_site opening (length old.proxies) proxy) refl (new_generations proxy address opening old new e linked sited)))
    ]

-- the entries of each life stay
begun_joined : (opening : CacheState) (proxies proxy : ℕ) (sites : List SiteState) (place : ℕ) → begun_of (sites ++ joined_site opening proxies proxy ∷ []) place ≡ begun_of sites place
begun_joined opening proxies proxy [] zero = refl
begun_joined opening proxies proxy [] (suc place) = refl
begun_joined opening proxies proxy (site ∷ sites) zero = refl
begun_joined opening proxies proxy (site ∷ sites) (suc place) = begun_joined opening proxies proxy sites place

-- the course holds
pub course_joins : (ring : RingState) (opening : CacheState) (proxy : ℕ) (address : List ℕ) (old new : CourseState) → IsGoodCache opening → CourseHolds ring opening old
    → HasServerJoined proxy address opening old new → CourseHolds ring opening new
course_joins ring opening proxy address old new good h e =
    let place : ℕ = next_place proxy old.pool in
    let x : Logged = Joined proxy (next_place proxy old.pool) address true in
    let proxies : ℕ = length old.pool.proxies in
    let linked = h.log.servers.linked proxy in
    let sited = h.log.servers.sited in
    let own : All (IsRoutedWithin (next_place proxy old.pool)) (of_proxy (home_of old.pool) proxy h.order) =
    subst (λ (n : ℕ). All (IsRoutedWithin n) (of_proxy (home_of old.pool) proxy h.order)) linked (h.log.requests.inside proxy) in
    let within : All (IsRoutedWithin (length old.pool.sites)) h.order = all_whole (IsRoutedWithin (length old.pool.sites)) (home_of old.pool) h.order
    (λ p. within-more (length (proxy_at old.pool p).links) (length old.pool.sites) (of_proxy (home_of old.pool) p h.order) (sited p) (h.log.requests.inside p)) in
    same_clients ring opening h.order (grown_lanes proxy h.order h.lanes old.pool) old new e.clients
    (λ n. out_stays proxy e.pool.now old.pool new.pool e.pool.proxies n (ap (λ (ss : Sessions). unsent ss n) e.pool.joins.sessions))
    (all_keep (λ (p : ProxyState). p.admitted) proxy e.pool.now old.pool new.pool e.pool.proxies e.pool.joins.admitted) h.numbered
    (pool_joins opening (text_of old) (taken_by old) h.order h.lanes proxy address old.pool new.pool good e.pool linked sited within h.pool)
    (subst (λ (log : Log). LogHolds ring h.order (put_out_of old) log new.pool) (sym e.log)
    (log_joins ring h.order (put_out_of old) old.log proxy address opening old.pool new.pool e.pool h.log))
    (join_generations proxy address opening old.pool new.pool e.pool linked sited h.generations)
    (nothing_joins old.pool new.pool h.order h.lanes proxy place old.log new.log x e.pool.proxies.homes e.log own h.nothing_before)
    (subst (λ (l : Log). LivesHold opening h.order l new.pool.sites) (sym e.log)
    (subst (λ (ss : List SiteState). LivesHold opening h.order (old.log ++ x ∷ []) ss) (sym e.pool.sites)
    (lives_on opening h.order h.order old.log x old.pool.sites (old.pool.sites ++ joined_site opening proxies proxy ∷ []) (λ _ _ k. k)
    (record {
      begun = begun_joined opening proxies proxy old.pool.sites;
      more = λ p. ([], histories_joined opening proxies proxy old.pool.sites p ∙ sym (append-nil (histories_of old.pool.sites p)));
    })
    (λ p. refl) (sizes_of ring h.order (put_out_of old) old.log old.pool h.log) h.lives)))
