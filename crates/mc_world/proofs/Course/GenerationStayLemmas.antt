-- Each site's ways are of the generations of the links to it, and its lost generations rise, after each event that happens.
use Rattle.std.proofs.Common.{◌≡◌, ◌≢◌, ◌∙◌, ⊎_elim, ℕ, zero, suc, ◌+◌, ◌-◌, ◌<◌, inl, inr, true, false, if◌then◌else◌, List, [], ◌∷◌, ◌++◌, length, map, take, drop, remove, Some, slice_get, slice_set, slice_index_or, refl, sym, ap, subst, arith}
use Rattle.std.proofs.lemmas.Bool.Decides.{eqb_tells}
use Rattle.std.proofs.lemmas.List.{get_or-set_other, get_or-set_same}
use Rattle.std.proofs.lemmas.Option.{none-some}
use Rattle.mc_request.specs.declared.parts.Atom.{Atom}
use Rattle.mc_route.specs.Routes.{route_of_taken}
use Rattle.mc_link.specs.LinkState.{LinkState, Waiting, down_link, sent, up_link}
use Rattle.mc_link.specs.declared.turns.Tag.{Tag}
use Rattle.mc_cache.specs.CacheState.{CacheState}
use Rattle.mc_server.specs.ServerState.{connection_at, output_of}
use Rattle.mc_proxy.specs.Sending.{handed_to}
use Rattle.mc_proxy.specs.SessionState.{link_at, with_link}
use Rattle.mc_proxy.specs.ProxyState.{ProxyState}
use Rattle.mc_account.specs.Orders.{Tagged, commands_from}
use Rattle.mc_account.proofs.HandingLemmas.{handed_at, received}
use Rattle.mc_account.proofs.LaneLemmas.{link_other, link_own, up_is_there}
use Rattle.mc_world.specs.Courses.{Happens}
use Rattle.mc_world.specs.CourseHolds.{HaveOneGeneration, IsOfLink, IsOfLinks}
use Rattle.mc_world.specs.Pools.{AtSite, LinkReturns, LosesLink, ProxiesStay, ProxyBecomes, cut_off}
use Rattle.mc_world.specs.Restarts.{ServerRestarts, restarted}
use Rattle.mc_world.specs.WorldState.{PoolState, SiteState, StaleState, WayState, home_of, link_of, no_way, proxy_at, proxy_of, session_of, way_by, with_way}
use Rattle.mc_world.specs.declared.events.Event.{Event}
use Rattle.mc_world.specs.declared.events.Event.TheVariants.{ClientBytes, ClientGone, ClientTakes, Emit, LinkBack, LinkLost, ProxyTurn, ReplyTurn, ServerSeesEnd, ServerTurn, ToProxy, ToServer}
use Rattle.mc_world.proofs.SiteEvents.LateLemmas.{get_removed, get_set, shift, shift_rises}
use Rattle.mc_world.proofs.Log.EntryLemmas.{got_inside}
use Rattle.mc_world.proofs.SiteEvents.LossLemmas.{get_pushed}
use Rattle.mc_world.proofs.PoolEvents.PoolLemmas.{set_site}
use Rattle.mc_world.proofs.PoolEvents.ProxyLemmas.{all_keep, link_becomes, links_other, links_stay}
use Rattle.mc_world.proofs.Log.StillLemmas.{sent_links}
use Rattle.mc_world.proofs.SiteEvents.SiteLemmas.{get_none}

-- links that are up, and of the same generations, as others are, by place
abbrev SameGenerations : List LinkState → List LinkState → Type 0
SameGenerations old new = (place : ℕ) → ((link_at new place).generation ≡ (link_at old place).generation) × ((link_at new place).up ≡ (link_at old place).up)

-- so are all links of a pool; a link to another place
abbrev AllSame : PoolState → PoolState → Type 0
AllSame old new = (proxy place : ℕ) → ((link_of new proxy place).generation ≡ (link_of old proxy place).generation) × ((link_of new proxy place).up ≡ (link_of old proxy place).up)

-- a link that is handed a command, or many, stays up and of its generation
handed_to_stays : (tag : Tag) (atom : Atom (List ℕ)) (link : LinkState)
    → ((handed_to tag atom link).generation ≡ link.generation) × ((handed_to tag atom link).up ≡ link.up)
handed_to_stays tag atom link =
    elim link.up as (λ v. ((if v then sent atom tag link else link).generation ≡ link.generation) × ((if v then sent atom tag link else link).up ≡ link.up)) [
      | true ↦ (refl, refl)
      | false ↦ (refl, refl)
    ]

received_stays : (cs : List Tagged) (link : LinkState) → ((received cs link).generation ≡ link.generation) × ((received cs link).up ≡ link.up)
received_stays [] link = (refl, refl)
received_stays (c ∷ cs) link =
    let others = received_stays cs (handed_to c.1 c.0 link) in
    let first = handed_to_stays c.1 c.0 link in
    (others.0 ∙ first.0, others.1 ∙ first.1)

-- the links stay
same_links : (old new : List LinkState) → new ≡ old → SameGenerations old new
same_links old new is place = (ap (λ (ls : List LinkState). (link_at ls place).generation) is, ap (λ (ls : List LinkState). (link_at ls place).up) is)

-- the link of one place is another, up and of the same generation
one_link : (place : ℕ) (link : LinkState) (old new : List LinkState) → (link_at old place).up ≡ true → link.generation ≡ (link_at old place).generation
    → link.up ≡ (link_at old place).up → new ≡ with_link place link old → SameGenerations old new
one_link place link old new up same still is other =
    let all = ap (λ (ls : List LinkState). link_at ls other) is in
    ⊎_elim
    (λ e.
    let own : link_at (with_link place link old) other ≡ link = subst (λ (p : ℕ). link_at (with_link place link old) p ≡ link) e.1 (link_own place link old (up_is_there place old up)) in
    let was : link_at old place ≡ link_at old other = ap (λ (p : ℕ). link_at old p) e.1 in (
      ap (λ (l : LinkState). l.generation) (all ∙ own) ∙ same ∙ ap (λ (l : LinkState). l.generation) was,
      ap (λ (l : LinkState). l.up) (all ∙ own) ∙ still ∙ ap (λ (l : LinkState). l.up) was,
    ))
    (λ e. (
      ap (λ (l : LinkState). l.generation) (all ∙ link_other place other link old e.1),
      ap (λ (l : LinkState). l.up) (all ∙ link_other place other link old e.1),
    ))
    (eqb_tells place other)

-- one proxy has such links; the proxies stay
all_same : (proxy : ℕ) (now : ProxyState) (old new : PoolState) → ProxyBecomes proxy now old new → SameGenerations (proxy_at old proxy).links now.links → AllSame old new
all_same proxy now old new becomes same other place = (
  all_keep (λ (p : ProxyState). (link_at p.links place).generation) proxy now old new becomes (same place).0 other,
  all_keep (λ (p : ProxyState). (link_at p.links place).up) proxy now old new becomes (same place).1 other,
)

all_stay : (old new : PoolState) → ProxiesStay old new → AllSame old new
all_stay old new stay proxy place =
    let is = links_stay old new stay proxy place in
    (ap (λ (l : LinkState). l.generation) is, ap (λ (l : LinkState). l.up) is)

-- a site is of other links with the state and the generation of its own
moved : (old new : ℕ → LinkState) (site : SiteState) → ((proxy : ℕ) → ((new proxy).generation ≡ (old proxy).generation) × ((new proxy).up ≡ (old proxy).up)) → IsOfLinks old site → IsOfLinks new site
moved old new site same h = record {
  rising = h.rising;
  each = λ proxy. let one = h.each proxy in record { same = one.same ∙ sym (same proxy).0; most = one.most; below = λ up. one.below (sym (same proxy).1 ∙ up) };
}

-- ways of the same generations as others
abbrev SameWays : List WayState → List WayState → Type 0
SameWays old new = (proxy : ℕ) → (slice_index_or new proxy no_way).generation ≡ (slice_index_or old proxy no_way).generation

same_ways : (old new : List WayState) → new ≡ old → SameWays old new
same_ways old new is proxy = ap (λ (ways : List WayState). (slice_index_or ways proxy no_way).generation) is

way_changed : (proxy : ℕ) (way : WayState) (ways : List WayState) → way.generation ≡ (slice_index_or ways proxy no_way).generation → SameWays ways (with_way proxy way ways)
way_changed proxy way [] same other = refl
way_changed zero way (w ∷ ws) same zero = same
way_changed zero way (w ∷ ws) same (suc other) = refl
way_changed (suc proxy) way (w ∷ ws) same zero = refl
way_changed (suc proxy) way (w ∷ ws) same (suc other) = way_changed proxy way ws same other

one_way : (proxy : ℕ) (way : WayState) (old new : List WayState) → new ≡ with_way proxy way old → way.generation ≡ (slice_index_or old proxy no_way).generation → SameWays old new
one_way proxy way old new is same other =
    ap (λ (ways : List WayState). (slice_index_or ways other no_way).generation) is ∙ way_changed proxy way old same other

ways_restarted : (ways : List WayState) → SameWays ways (map (λ (way : WayState). record way { ahead = 0 }) ways)
ways_restarted [] proxy = refl
ways_restarted (w ∷ ws) zero = refl
ways_restarted (w ∷ ws) (suc proxy) = ways_restarted ws proxy

-- a site whose lost generations are some of those of another, in order
fewer : (links : ℕ → LinkState) (site now : SiteState) (from : ℕ → ℕ) → ((j k : ℕ) → j < k → from j < from k)
    → ((j : ℕ) (w : StaleState) → slice_get now.lost j ≡ Some w
    → (v : StaleState) × (slice_get site.lost (from j) ≡ Some v) × (v.generation ≡ w.generation) × (v.proxy ≡ w.proxy))
    → SameWays site.ways now.ways → IsOfLinks links site → IsOfLinks links now
fewer links site now from rises was same h = record {
  rising = λ i j v w at_v at_w before of.
      let first = was i v at_v in
      let second = was j w at_w in
      let less = h.rising (from i) (from j) first.0 second.0 first.1 second.1 (rises i j before) (first.3 ∙ of ∙ sym second.3) in
      let v_is = first.2 in
      let w_is = second.2 in
      omega (arith, less, v_is, w_is);
  each = λ proxy.
      let one = h.each proxy in
      let stays : (way_by now proxy).generation ≡ (way_by site proxy).generation = same proxy in
      record {
        same = stays ∙ one.same;
        most = λ i w at of. let old = was i w at in let less = one.most (from i) old.0 old.1 (old.3 ∙ of) in let is = old.2 in omega (arith, less, is, stays);
        below = λ up i w at of. let old = was i w at in let less = one.below up (from i) old.0 old.1 (old.3 ∙ of) in let is = old.2 in omega (arith, less, is, stays);
      };
}

-- the lost generations stay; one of them is another of its generation; one of them has ended
kept : (site now : SiteState) → SameWays site.ways now.ways → now.lost ≡ site.lost → (links : ℕ → LinkState) → IsOfLinks links site → IsOfLinks links now
kept site now same lost links h =
    fewer links site now (λ j. j) (λ j k below. below) (λ j w at. (w, ap (λ (ws : List StaleState). slice_get ws j) (sym lost) ∙ at, refl, refl)) same h

kept_set : (site now : SiteState) (i : ℕ) (way other : StaleState) → slice_get site.lost i ≡ Some way → other.generation ≡ way.generation → other.proxy ≡ way.proxy
    → SameWays site.ways now.ways → now.lost ≡ slice_set site.lost i other → (links : ℕ → LinkState) → IsOfLinks links site → IsOfLinks links now
kept_set site now i way other at is of same lost links h =
    fewer links site now (λ j. j) (λ j k below. below)
    (λ j w at_w. ⊎_elim
    (λ own. (
      way,
      ap (λ (k : ℕ). slice_get site.lost k) own.0 ∙ at,
      sym is ∙ ap (λ (x : StaleState). x.generation) (sym own.1),
      sym of ∙ ap (λ (x : StaleState). x.proxy) (sym own.1),
    ))
    (λ elsewhere. (w, elsewhere.1, refl, refl))
    (get_set site.lost i other j w (ap (λ (ws : List StaleState). slice_get ws j) (sym lost) ∙ at_w))) same h

kept_removed : (site now : SiteState) (i : ℕ) → SameWays site.ways now.ways → now.lost ≡ remove site.lost i → (links : ℕ → LinkState) → IsOfLinks links site → IsOfLinks links now
kept_removed site now i same lost links h =
    fewer links site now (shift i) (shift_rises i)
    (λ j w at. (w, sym (get_removed site.lost i j) ∙ ap (λ (ws : List StaleState). slice_get ws j) (sym lost) ∙ at, refl, refl)) same h

-- a site without lost generations
pub never_lost : (links : ℕ → LinkState) (site : SiteState) → site.lost ≡ [] → ((proxy : ℕ) → (way_by site proxy).generation ≡ (links proxy).generation) → IsOfLinks links site
never_lost links site none same =
    let nowhere : (i : ℕ) (w : StaleState) → slice_get site.lost i ≡ Some w → ⊥ =
    λ i w at. none-some w (sym (get_none i) ∙ ap (λ (ws : List StaleState). slice_get ws i) (sym none) ∙ at) in
    record {
      rising = λ i j v w at_v at_w before of. absurd (nowhere i v at_v);
      each = λ proxy. record {
        same = same proxy;
        most = λ i w at of. absurd (nowhere i w at);
        below = λ up i w at of. absurd (nowhere i w at);
      };
    }

-- the sites stay
same_sites : (old new : PoolState) → new.sites ≡ old.sites → AllSame old new → HaveOneGeneration old → HaveOneGeneration new
same_sites old new sites links h place site at =
    moved (λ proxy. link_of old proxy place) (λ proxy. link_of new proxy place) site (λ proxy. links proxy place)
    (h place site (ap (λ (ss : List SiteState). slice_get ss place) (sym sites) ∙ at))

-- the site of one place is another, of its links
other_site : (place : ℕ) (now : SiteState) (old new : PoolState) → new.sites ≡ slice_set old.sites place now → IsOfLinks (λ proxy. link_of new proxy place) now
    → ((other : ℕ) → place ≢ other → (proxy : ℕ)
    → ((link_of new proxy other).generation ≡ (link_of old proxy other).generation) × ((link_of new proxy other).up ≡ (link_of old proxy other).up))
    → HaveOneGeneration old → HaveOneGeneration new
other_site place now old new sites of links h other s at_s =
    ⊎_elim
    (λ own. subst (λ (x : SiteState). IsOfLinks (λ proxy. link_of new proxy other) x) (sym own.1) (subst (λ (p : ℕ). IsOfLinks (λ proxy. link_of new proxy p) now) own.0 of))
    (λ elsewhere. moved (λ proxy. link_of old proxy other) (λ proxy. link_of new proxy other) s (links other elsewhere.0) (h other s elsewhere.1))
    (set_site old.sites place now other s (ap (λ (ss : List SiteState). slice_get ss other) (sym sites) ∙ at_s))

one_site : (place : ℕ) (site now : SiteState) (old new : PoolState) → slice_get old.sites place ≡ Some site → ((links : ℕ → LinkState) → IsOfLinks links site → IsOfLinks links now)
    → new.sites ≡ slice_set old.sites place now → AllSame old new → HaveOneGeneration old → HaveOneGeneration new
one_site place site now old new at keeps sites links h =
    other_site place now old new sites
    (moved (λ proxy. link_of old proxy place) (λ proxy. link_of new proxy place) now (λ proxy. links proxy place) (keeps (λ proxy. link_of old proxy place) (h place site at)))
    (λ other differ proxy. links proxy other) h

-- a site whose link is up stays of its generations
there_stays : (proxy place : ℕ) (old new : PoolState) → (there : AtSite proxy place old new) → SameWays there.site.ways there.now.ways → there.now.lost ≡ there.site.lost
    → AllSame old new → HaveOneGeneration old → HaveOneGeneration new
there_stays proxy place old new there same lost links h = one_site place there.site there.now old new there.at (kept there.site there.now same lost) there.sites links h

-- what happens to the link of one proxy and place, and to no other
abbrev OneLink : ℕ → ℕ → LinkState → PoolState → PoolState → Type 0
OneLink proxy place link old new =
    (link_of new proxy place ≡ link) × ((other : ℕ) → proxy ≢ other → link_of new other place ≡ link_of old other place)
    × ((other : ℕ) → place ≢ other → (p : ℕ) → link_of new p other ≡ link_of old p other)

only_link : (proxy place : ℕ) (link : LinkState) (now : ProxyState) (old new : PoolState) → ProxyBecomes proxy now old new
    → now.links ≡ with_link place link (proxy_at old proxy).links → place < length (proxy_at old proxy).links → OneLink proxy place link old new
only_link proxy place link now old new becomes links inside = (
  link_becomes proxy place link now old new becomes links inside,
  λ other differ. links_other proxy other now old new becomes differ place,
  λ other differ p. all_keep (λ (q : ProxyState). link_at q.links other) proxy now old new becomes
      (ap (λ (ls : List LinkState). link_at ls other) links ∙ link_other place other link (proxy_at old proxy).links differ) p,
)

-- the generation of a link that is lost was above those of its proxy that were lost before
cut_stays : (proxy place : ℕ) (old new : PoolState) → LosesLink proxy place old new → HaveOneGeneration old → HaveOneGeneration new
cut_stays proxy place old new e h =
    let link = link_of old proxy place in
    let site = e.there.site in
    let was = h place site e.there.at in
    let mine = was.each proxy in
    let one = only_link proxy place (down_link link.generation) _ old new e.proxy refl (up_is_there place (proxy_at old proxy).links e.there.up) in
    let cut = cut_off proxy link site in
    let way : StaleState = record {
      proxy = proxy;
      generation = (way_by site proxy).generation;
      connection = (way_by site proxy).connection;
      going = link.output;
      untaken = drop (way_by site proxy).ahead (map (λ (w : Waiting). w.1) link.waiting);
    } in
    let own : IsOfLink proxy (down_link link.generation) cut = record {
      same = mine.same;
      most = λ i w at of. ⊎_elim
          (λ here. mine.most i w here of)
          (λ last. let is = ap (λ (x : StaleState). x.generation) last.1 in omega (arith, is))
          (get_pushed site.lost way i w at);
      below = λ up. absurd cc;
    } in
    let theirs : (other : ℕ) → proxy ≢ other → IsOfLink other (link_of old other place) cut = λ other differ.
    let yours = was.each other in
    record {
      same = yours.same;
      most = λ i w at of. ⊎_elim
          (λ here. yours.most i w here of)
          (λ last. absurd (differ (ap (λ (x : StaleState). x.proxy) (sym last.1) ∙ of)))
          (get_pushed site.lost way i w at);
      below = λ up i w at of. ⊎_elim
          (λ here. yours.below up i w here of)
          (λ last. absurd (differ (ap (λ (x : StaleState). x.proxy) (sym last.1) ∙ of)))
          (get_pushed site.lost way i w at);
    } in
    let of : IsOfLinks (λ p. link_of new p place) cut = record {
      rising = λ i j v w at_v at_w before same. ⊎_elim
          (λ here. ⊎_elim
          (λ too. was.rising i j v w here too before same)
          (λ last. let less = mine.below e.there.up i v here (same ∙ ap (λ (x : StaleState). x.proxy) last.1) in
          let is = ap (λ (x : StaleState). x.generation) last.1 in omega (arith, less, is))
          (get_pushed site.lost way j w at_w))
          (λ here. ⊎_elim
          (λ too. let inside = got_inside site.lost j w too in let is = here.0 in absurd (omega (arith, inside, is, before)))
          (λ last. let is = here.0 in let also = last.0 in absurd (omega (arith, is, also, before)))
          (get_pushed site.lost way j w at_w))
          (get_pushed site.lost way i v at_v);
      each = λ p. ⊎_elim
          (λ is. subst (λ (n : ℕ). IsOfLink n (link_of new n place) cut) is.1 (subst (λ (l : LinkState). IsOfLink proxy l cut) (sym one.0) own))
          (λ differ. subst (λ (l : LinkState). IsOfLink p l cut) (sym (one.1 p differ.1)) (theirs p differ.1))
          (eqb_tells proxy p);
    } in
    other_site place e.there.now old new e.there.sites
    (subst (λ (s : SiteState). IsOfLinks (λ p. link_of new p place) s) (sym e.cut) of)
    (λ other differ p.
    let is = one.2 other differ p in
    (ap (λ (l : LinkState). l.generation) is, ap (λ (l : LinkState). l.up) is)) h

-- a link that comes up is of the next generation, and so is its way
back_stays : (proxy place : ℕ) (old new : PoolState) → LinkReturns proxy place old new → HaveOneGeneration old → HaveOneGeneration new
back_stays proxy place old new e h =
    let link = link_of old proxy place in
    let next : LinkState = up_link (link.generation + 1) in
    let was = h place e.site e.at in
    let mine = was.each proxy in
    let one = only_link proxy place next _ old new e.proxy refl e.inside in
    let way : WayState = record { generation = link.generation + 1; connection = e.site.server.admitted; ahead = 0 } in
    let ways : e.now.ways ≡ with_way proxy way e.site.ways = ap (λ (s : SiteState). s.ways) e.back.all_else in
    let number : (way_by e.now proxy).generation ≡ link.generation + 1 =
    ap (λ (ws : List WayState). (slice_index_or ws proxy no_way).generation) ways
    ∙ ap (λ (w : WayState). w.generation) (get_or-set_same e.site.ways proxy way no_way e.back.inside) in
    let lost : e.now.lost ≡ e.site.lost = ap (λ (s : SiteState). s.lost) e.back.all_else in
    let there : (i : ℕ) (w : StaleState) → slice_get e.now.lost i ≡ Some w → slice_get e.site.lost i ≡ Some w = λ i w at. ap (λ (ws : List StaleState). slice_get ws i) (sym lost) ∙ at in
    let same = mine.same in
    let own : IsOfLink proxy (up_link (link.generation + 1)) e.now = record {
      same = number;
      most = λ i w at of. let less = mine.most i w (there i w at) of in omega (arith, less, same, number);
      below = λ up i w at of. let less = mine.most i w (there i w at) of in omega (arith, less, same, number);
    } in
    let theirs : (other : ℕ) → proxy ≢ other → IsOfLink other (link_of old other place) e.now = λ other differ.
    let yours = was.each other in
    let stays : (way_by e.now other).generation ≡ (way_by e.site other).generation =
    ap (λ (ws : List WayState). (slice_index_or ws other no_way).generation) ways
    ∙ ap (λ (w : WayState). w.generation) (get_or-set_other e.site.ways proxy other way no_way (λ is. differ (sym is))) in
    record {
      same = stays ∙ yours.same;
      most = λ i w at of. let less = yours.most i w (there i w at) of in omega (arith, less, stays);
      below = λ up i w at of. let less = yours.below up i w (there i w at) of in omega (arith, less, stays);
    } in
    let of : IsOfLinks (λ p. link_of new p place) e.now = record {
      rising = λ i j v w at_v at_w before alike. was.rising i j v w (there i v at_v) (there j w at_w) before alike;
      each = λ p. ⊎_elim
          (λ is. subst (λ (n : ℕ). IsOfLink n (link_of new n place) e.now) is.1 (subst (λ (l : LinkState). IsOfLink proxy l e.now) (sym one.0) own))
          (λ differ. subst (λ (l : LinkState). IsOfLink p l e.now) (sym (one.1 p differ.1)) (theirs p differ.1))
          (eqb_tells proxy p);
    } in
    other_site place e.now old new e.sites of
    (λ other differ p.
    let is = one.2 other differ p in
    (ap (λ (l : LinkState). l.generation) is, ap (λ (l : LinkState). l.up) is)) h

-- each event that happens
pub generations_stay : (event : Event (List ℕ)) (old new : PoolState) → Happens event old new → HaveOneGeneration old → HaveOneGeneration new
generations_stay (ClientBytes client bytes) old new e h =
    same_sites old new e.1.sites (all_same (home_of old client) e.1.now old new e.1.proxy (same_links (proxy_of old client).links e.1.now.links e.1.steps.step.0)) h
generations_stay (ClientGone client) old new e h =
    same_sites old new e.1.sites (all_same (home_of old client) _ old new e.1.proxy (same_links (proxy_of old client).links (proxy_of old client).links refl)) h
generations_stay (ProxyTurn client) old new e h =
    same_sites old new e.sites (all_same (home_of old client) e.now old new e.proxy
    (λ place.
    let is = ap (λ (ls : List LinkState). link_at ls place) e.steps.step.1.sent
    ∙ handed_at place client e.steps.before.taken 0 (route_of_taken (proxy_of old client).ring e.steps.step.0) (proxy_of old client).links in
    let stays = received_stays (commands_from place client e.steps.before.taken 0 (route_of_taken (proxy_of old client).ring e.steps.step.0)) (link_of old (home_of old client) place) in
    (ap (λ (l : LinkState). l.generation) is ∙ stays.0, ap (λ (l : LinkState). l.up) is ∙ stays.1))) h
generations_stay (ToServer proxy server generation count) old new e h = elim e [
  | inl here ↦
      there_stays proxy server old new here.0.there (same_ways _ _ (ap (λ (s : SiteState). s.ways) here.0.arrives.all_else)) (ap (λ (s : SiteState). s.lost) here.0.arrives.all_else)
      (all_same proxy _ old new here.0.proxy
      (one_link server (record (link_of old proxy server) { output = drop count (link_of old proxy server).output }) (proxy_at old proxy).links _ here.0.there.up refl refl refl)) h
  | inr late ↦
      one_site server late.1.there.site late.1.there.now old new late.1.there.at
      (kept_set late.1.there.site late.1.there.now late.0 late.1.arrives.way (record late.1.arrives.way { going = drop count late.1.arrives.way.going }) late.1.arrives.way_at refl refl
      (same_ways _ _ (ap (λ (s : SiteState). s.ways) late.1.arrives.all_else)) (ap (λ (s : SiteState). s.lost) late.1.arrives.all_else)) late.1.there.sites
      (all_stay old new late.1.there.proxies) h
]
generations_stay (ServerTurn proxy server generation moment) old new e h = elim e.1 [
  | inl here ↦
      there_stays proxy server old new here.0.there
      (one_way proxy (record (way_by here.0.there.site proxy) { ahead = (way_by here.0.there.site proxy).ahead + 1 }) here.0.there.site.ways here.0.there.now.ways
      (ap (λ (s : SiteState). s.ways) here.0.enters.all_else) refl) (ap (λ (s : SiteState). s.lost) here.0.enters.all_else)
      (all_stay old new here.0.proxies) h
  | inr late ↦
      one_site server late.1.there.site late.1.there.now old new late.1.there.at
      (kept_set late.1.there.site late.1.there.now late.0 late.1.enters.way (record late.1.enters.way { untaken = late.1.enters.tags }) late.1.enters.way_at refl refl
      (same_ways _ _ (ap (λ (s : SiteState). s.ways) late.1.enters.all_else)) (ap (λ (s : SiteState). s.lost) late.1.enters.all_else)) late.1.there.sites
      (all_stay old new late.1.there.proxies) h
]
generations_stay (ToProxy proxy server count) old new e h =
    there_stays proxy server old new e.there (same_ways _ _ (ap (λ (s : SiteState). s.ways) e.leaves)) (ap (λ (s : SiteState). s.lost) e.leaves)
    (all_same proxy _ old new e.proxy (one_link server (record (link_of old proxy server) {
      unread = (link_of old proxy server).unread ++ take count (output_of (connection_at e.there.site.server (way_by e.there.site proxy).connection));
    }) (proxy_at old proxy).links _ e.there.up refl refl refl)) h
generations_stay (ReplyTurn proxy server) old new e h =
    there_stays proxy server old new e.there
    (one_way proxy (record (way_by e.there.site proxy) { ahead = (way_by e.there.site proxy).ahead - 1 }) e.there.site.ways e.there.now.ways (ap (λ (s : SiteState). s.ways) e.counts) refl)
    (ap (λ (s : SiteState). s.lost) e.counts)
    (all_same proxy e.now old new e.proxy (one_link server e.answers.link (proxy_at old proxy).links e.now.links e.there.up (ap (λ (l : LinkState). l.generation) e.answers.takes.others)
    (ap (λ (l : LinkState). l.up) e.answers.takes.others) e.answers.links)) h
generations_stay (Emit client) old new e h =
    same_sites old new e.sites (all_same (home_of old client) e.now old new e.proxy (same_links (proxy_of old client).links e.now.links e.steps.step.0)) h
generations_stay (ClientTakes client count) old new e h =
    same_sites old new e.1.sites (all_same (home_of old client) _ old new e.1.proxy
    (same_links (proxy_of old client).links _ (sent_links client count (session_of old client) (proxy_of old client)))) h
generations_stay (LinkLost proxy server) old new e h = cut_stays proxy server old new e h
generations_stay (LinkBack proxy server) old new e h = back_stays proxy server old new e h
generations_stay (ServerSeesEnd proxy server generation) old new e h =
    one_site server e.1.there.site e.1.there.now old new e.1.there.at
    (kept_removed e.1.there.site e.1.there.now e.0 (same_ways _ _ (ap (λ (s : SiteState). s.ways) e.1.ends.all_else)) (ap (λ (s : SiteState). s.lost) e.1.ends.all_else)) e.1.there.sites
    (all_stay old new e.1.there.proxies) h

-- a server restarts: its generations stay, and none was lost
pub generations_restart : (place : ℕ) (opening : CacheState) (old new : PoolState) → ServerRestarts place opening old new → HaveOneGeneration old → HaveOneGeneration new
generations_restart place opening old new e h =
    one_site place e.site (restarted opening e.site) old new e.at
    (λ links of. never_lost links (restarted opening e.site) refl (λ proxy. ways_restarted e.site.ways proxy ∙ (of.each proxy).same))
    e.sites (all_stay old new e.proxies) h
