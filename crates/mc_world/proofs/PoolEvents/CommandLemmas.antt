-- The account of a pool, for its commands.
use Rattle.std.proofs.Common.{◌≡◌, ◌≢◌, ◌∙◌, ⊎_elim, ℕ, zero, suc, ◌+◌, ◌≤◌, true, false, if◌then◌else◌, List, [], ◌∷◌, ◌++◌, map, drop, Some, slice_get, refl, sym, ap, subst, arith}
use Rattle.std.proofs.lemmas.Bool.Decides.{eqb_tells}
use Rattle.std.proofs.lemmas.Option.{none-some, same_Some}
use Rattle.mc_route.specs.Routes.{to_place}
use Rattle.mc_route.specs.declared.routes.Routed.{Routed}
use Rattle.mc_request.specs.declared.parts.Atom.{Atom}
use Rattle.mc_request.specs.declared.parts.Parsed.{Parsed}
use Rattle.mc_request.specs.Requests.{requests_of}
use Rattle.mc_link.specs.LinkState.{LinkState}
use Rattle.mc_link.specs.declared.turns.Tag.{Tag}
use Rattle.mc_cache.specs.CacheState.{CacheState}
use Rattle.mc_proxy.specs.ProxyState.{session_at}
use Rattle.mc_account.specs.Lanes.{Lane}
use Rattle.mc_account.specs.Orders.{Order, Tagged, AreInOrder, IsSized, commands_to, entries_of}
use Rattle.mc_account.proofs.SessionLemmas.{session_left}
use Rattle.mc_account.proofs.TagLemmas.{count, count_to, same_tag_self, tag_once, weight}
use Rattle.mc_history.specs.declared.entries.Entry.{Entry}
use Rattle.mc_world.specs.Accounts.{AccountsForCommands}
use Rattle.mc_history.specs.Histories.{IsLegal, tag_in}
use Rattle.mc_history.specs.Made.{Each, Made, entry_of}
use Rattle.mc_world.specs.Homes.{Homes, of_proxy, own_of}
use Rattle.mc_world.specs.Pools.{PoolHolds}
use Rattle.mc_world.specs.Sites.{SiteHolds}
use Rattle.mc_world.specs.WorldState.{PoolState, SiteState, begun_of, histories_of, home_of, link_of, proxy_at}
use Rattle.mc_world.proofs.Homes.CommandLemmas.{all_whole}
use Rattle.mc_world.proofs.Homes.OrderLemmas.{numbered_whole, taken_own}
use Rattle.mc_world.proofs.Homes.OwnLemmas.{own_bytes}
use Rattle.mc_world.proofs.PoolEvents.AccountLemmas.{legal_site}
use Rattle.mc_account.specs.Lookups.{command_at}
use Rattle.mc_history.specs.Named.{IsNamed, is_tag, tags_made, tags_of, times}

-- the two counts are equal
pub times_is_count : (tag : Tag) (cs : List Tagged) → times tag (tags_of cs) ≡ count tag cs
times_is_count tag [] = refl
times_is_count tag (c ∷ cs) =
    let again = times_is_count tag cs in
    (elim (is_tag tag c.1) as (λ v. (if v then 1 else 0) + times tag (tags_of cs) ≡ weight v + count tag cs) [
      | true ↦ omega (arith, again)
      | false ↦ omega (arith, again)
    ])

pub times-one : (tag : Tag) (ts : List Tag) (j : ℕ) → slice_get ts j ≡ Some tag → 1 ≤ times tag ts
times-one tag [] zero at = absurd (none-some tag at)
times-one tag [] (suc j) at = absurd (none-some tag at)
times-one tag (t ∷ ts) zero at =
    let same : t ≡ tag = same_Some t tag at in
    let own : is_tag tag t ≡ true = rw same (same_tag_self tag) in
    rw own (omega arith)
times-one tag (t ∷ ts) (suc j) at = omega (arith, times-one tag ts j at)

times-two : (tag : Tag) (ts : List Tag) (j k : ℕ) → slice_get ts j ≡ Some tag → slice_get ts k ≡ Some tag → j ≢ k → 2 ≤ times tag ts
times-two tag [] zero k at also differ = absurd (none-some tag at)
times-two tag [] (suc j) k at also differ = absurd (none-some tag at)
times-two tag (t ∷ ts) zero zero at also differ = absurd (differ refl)
times-two tag (t ∷ ts) zero (suc k) at also differ =
    let same : t ≡ tag = same_Some t tag at in
    let own : is_tag tag t ≡ true = rw same (same_tag_self tag) in
    let after = times-one tag ts k also in
    rw own (omega (arith, after))
times-two tag (t ∷ ts) (suc j) zero at also differ =
    let same : t ≡ tag = same_Some t tag also in
    let own : is_tag tag t ≡ true = rw same (same_tag_self tag) in
    let after = times-one tag ts j at in
    rw own (omega (arith, after))
times-two tag (t ∷ ts) (suc j) (suc k) at also differ = omega (arith, times-two tag ts j k at also (λ same. differ (ap suc same)))

-- what follows from an entry of a history
record Stems (made : List Made) (j : ℕ) (d : Entry) : Type 0 where
  pub m : Made
  pub is : d ≡ entry_of m
  pub tag_at : slice_get (tags_made made) j ≡ Some (tag_in d)

stems : (made : List Made) (j : ℕ) (d : Entry) → slice_get (map entry_of made) j ≡ Some d → Stems made j d
stems [] zero d at = absurd (none-some d at)
stems [] (suc j) d at = absurd (none-some d at)
stems (m ∷ ms) zero d at = let same : entry_of m ≡ d = same_Some (entry_of m) d at in
    record { m = m; is = sym same; tag_at = ap (λ (e : Entry). Some (tag_in e)) same }
stems (m ∷ ms) (suc j) d at = let s = stems ms j d at in record { m = s.m; is = s.is; tag_at = s.tag_at }

named_at : (place : ℕ) (order : Order) (made : List Made) (j : ℕ) (d : Entry) → Each (λ (m : Made). IsNamed place order m.command) made → slice_get (map entry_of made) j ≡ Some d
    → (atom : Atom (List ℕ)) × (command_at order (tag_in d) ≡ Some (to_place place atom))
named_at place order [] zero d h at = absurd (none-some d at)
named_at place order [] (suc j) d h at = absurd (none-some d at)
named_at place order (m ∷ ms) zero d h at = let same : entry_of m ≡ d = same_Some (entry_of m) d at in
    (m.command.0, ap (λ (e : Entry). command_at order (tag_in e)) (sym same) ∙ h.0)
named_at place order (m ∷ ms) (suc j) d h at = named_at place order ms j d h.1 at

-- no command is twice in one history
pub site_once : (home : Homes) (place : ℕ) (order : Order) (lanes : ℕ → Lane) (links : ℕ → LinkState) (opening : CacheState) (site : SiteState) (j k : ℕ) (d e : Entry)
    → ((number : ℕ) → AreInOrder (entries_of number order)) → SiteHolds home place order lanes links opening site → slice_get site.history j ≡ Some d → slice_get site.history k ≡ Some e → tag_in d ≡ tag_in e → j ≡ k
site_once home place order lanes links opening site j k d e numbered h at also same =
    let first = stems (h.past ++ h.made) j d (ap (λ (es : List Entry). slice_get es j) (sym h.history) ∙ at) in
    let second = stems (h.past ++ h.made) k e (ap (λ (es : List Entry). slice_get es k) (sym h.history) ∙ also) in
    let tag : Tag = tag_in d in
    let few = count_to (tag_in d) place order in
    let one = tag_once (tag_in d) order (numbered d.client) in
    let counted = times_is_count (tag_in d) (commands_to place order) in
    let once = h.once (tag_in d) in
    ⊎_elim (λ is. is.1)
    (λ differ. let two = times-two (tag_in d) (tags_made (h.past ++ h.made)) j k first.tag_at (second.tag_at ∙ ap (λ (t : Tag). Some t) (sym same)) differ.1 in
    absurd (omega (arith, two, once, counted, few, one)))
    (eqb_tells j k)

-- the site whose history is at a place
record HasSite (sites : List SiteState) (place : ℕ) : Type 0 where
  pub site : SiteState
  pub at : slice_get sites place ≡ Some site
  pub history : histories_of sites place ≡ site.history

site_after : (sites : List SiteState) (place j : ℕ) (d : Entry) → slice_get (histories_of sites place) j ≡ Some d → HasSite sites place
site_after [] place zero d at = absurd (none-some d at)
site_after [] place (suc j) d at = absurd (none-some d at)
site_after (s ∷ ss) zero j d at = record { site = s; at = refl; history = refl }
site_after (s ∷ ss) (suc place) j d at = let b = site_after ss place j d at in record { site = b.site; at = b.at; history = b.history }

legal_at : (order : Order) (opening : CacheState) (sites : List SiteState) (front : ℕ) (P : ℕ → SiteState → Type 0)
    → ((place : ℕ) (site : SiteState) → P place site → IsLegal order place opening (drop site.begun site.history))
    → ((place : ℕ) (site : SiteState) → slice_get sites place ≡ Some site → P (place + front) site)
    → (place : ℕ) → IsLegal order (place + front) opening (drop (begun_of sites place) (histories_of sites place))
legal_at order opening [] front P legal h place = tt
legal_at order opening (s ∷ ss) front P legal h zero = legal (0 + front) s (h zero s refl)
legal_at order opening (s ∷ ss) front P legal h (suc place) =
    let same : place + suc front ≡ suc place + front = omega arith in
    subst (λ (p : ℕ). IsLegal order p opening (drop (begun_of ss place) (histories_of ss place))) same
    (legal_at order opening ss (suc front) P legal (λ q site at. let next : suc q + front ≡ q + suc front = omega arith in subst (λ (p : ℕ). P p site) next (h (suc q) site at)) place)

pub commands_accounted : (opening : CacheState) (texts sent : ℕ → List ℕ) (order : Order) (lanes : ℕ → ℕ → Lane) (pool : PoolState) → PoolHolds opening texts sent order lanes pool
    → AccountsForCommands opening order texts (histories_of pool.sites) (begun_of pool.sites)
commands_accounted opening texts sent order lanes pool h = record {
  asked = λ client.
      let home : Homes = home_of pool in
      let own : Order = of_proxy home (home client) order in
      let left = session_left client own (own_of home (home client) texts client) (own_of home (home client) sent client) (session_at (proxy_at pool (home client)) client)
      ((h.proxies (home client)).sessions client) in (
        left.untaken,
        ap (λ (whats : List Parsed). whats ++ left.untaken) (sym (taken_own home (home client) client order refl)) ∙ left.rest
            ∙ ap (λ (text : List ℕ). requests_of text) (own_bytes home (home client) texts client refl),
      );
  sized = all_whole IsSized (home_of pool) order (λ proxy. (h.proxies proxy).sized);
  legal = λ place. let same : place + 0 ≡ place = omega arith in
      subst (λ (p : ℕ). IsLegal order p opening (drop (begun_of pool.sites place) (histories_of pool.sites place))) same
      (legal_at order opening pool.sites 0 (λ q site. SiteHolds (home_of pool) q order (λ proxy. lanes proxy q) (λ proxy. link_of pool proxy q) opening site)
      (λ q site s. legal_site (home_of pool) q order (λ proxy. lanes proxy q) (λ proxy. link_of pool proxy q) opening site s)
      (λ q site at. let here : q ≡ q + 0 = omega arith in subst (λ (p : ℕ). SiteHolds (home_of pool) p order (λ proxy. lanes proxy p) (λ proxy. link_of pool proxy p) opening site) here (h.sites q site at)) place);
  named = λ place k e at.
      let there = site_after pool.sites place k e at in
      let holds = h.sites place there.site there.at in
      let here : slice_get there.site.history k ≡ Some e = ap (λ (es : List Entry). slice_get es k) (sym there.history) ∙ at in
      named_at place order (holds.past ++ holds.made) k e holds.named (ap (λ (es : List Entry). slice_get es k) (sym holds.history) ∙ here);
  once = λ r s j k d e at also same.
      let first = site_after pool.sites r j d at in
      let second = site_after pool.sites s k e also in
      let first_holds = h.sites r first.site first.at in
      let second_holds = h.sites s second.site second.at in
      let at_first : slice_get first.site.history j ≡ Some d = ap (λ (es : List Entry). slice_get es j) (sym first.history) ∙ at in
      let at_second : slice_get second.site.history k ≡ Some e = ap (λ (es : List Entry). slice_get es k) (sym second.history) ∙ also in
      let named = named_at r order (first_holds.past ++ first_holds.made) j d first_holds.named (ap (λ (es : List Entry). slice_get es j) (sym first_holds.history) ∙ at_first) in
      let also_named = named_at s order (second_holds.past ++ second_holds.made) k e second_holds.named (ap (λ (es : List Entry). slice_get es k) (sym second_holds.history) ∙ at_second) in
      let both : Some (to_place r named.0) ≡ Some (to_place s also_named.0) = sym named.1 ∙ ap (λ (t : Tag). command_at order t) same ∙ also_named.1 in
      let places : r ≡ s = ap (λ (routed : Routed). routed.server) (same_Some (to_place r named.0) (to_place s also_named.0) both) in
      let moved : slice_get (histories_of pool.sites r) k ≡ Some e = ap (λ (p : ℕ). slice_get (histories_of pool.sites p) k) places ∙ also in
      let there : slice_get first.site.history k ≡ Some e = ap (λ (es : List Entry). slice_get es k) (sym first.history) ∙ moved in (
        places,
        site_once (home_of pool) r order (λ proxy. lanes proxy r) (λ proxy. link_of pool proxy r) opening first.site j k d e
            (numbered_whole (home_of pool) order (λ proxy. (h.proxies proxy).numbered)) first_holds at_first there same,
      );
}
