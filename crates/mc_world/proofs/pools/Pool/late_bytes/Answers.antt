use Rattle.std.proofs.Common.{rules, ◌≡◌, ◌∙◌, ◌<◌, ℕ, List, Some, length, slice_get, refl, sym, ap, subst, arith}
use Rattle.std.proofs.lemmas.Option.{same_Some, slice_get_read}
use Rattle.mc_world.specs.WorldState.{StaleState}
use Rattle.mc_world.specs.Applies.{lost_way}
use Rattle.mc_world.proofs.PoolEvents.AppliesLemmas.{at_error, found_way, it_applies, reached_late}
use Rattle.mc_world.proofs.pools.Pool.late_bytes.Goals as goal

pub arrive_late-requires : goal.arrive_late-requires
arrive_late-requires g c =
    let inside = c.in-Some.ensures.variant.0 refl in
    let kept = c.self.inside.sites.ok in
    let at : slice_get c.self.inside.sites.items c.args.place ≡ Some c.in-Some.site.now = slice_get_read _ _ c.args.place c.in-Some.site.now refl (omega (arith, inside, kept)) (search rules) in
    let first : lost_way c.args.proxy c.args.generation c.in-Some.site.now.lost ≡ Some c.in-Some-lost_way.i = sym c.lost_way.ensures ∙ c.in-Some-lost_way.is in
    let found = found_way c.args.proxy c.args.generation c.in-Some.site.now.lost c.in-Some-lost_way.i first in
    found.inside

pub returns-clause-reaches : goal.returns-clause-reaches
returns-clause-reaches g c =
    let inside = c.in-Some.ensures.variant.0 refl in
    let kept = c.self.inside.sites.ok in
    let at : slice_get c.self.inside.sites.items c.args.place ≡ Some c.in-Some.site.now = slice_get_read _ _ c.args.place c.in-Some.site.now refl (omega (arith, inside, kept)) (search rules) in
    let first : lost_way c.args.proxy c.args.generation c.in-Some.site.now.lost ≡ Some c.in-Some-lost_way.i = sym c.lost_way.ensures ∙ c.in-Some-lost_way.is in
    let found = found_way c.args.proxy c.args.generation c.in-Some.site.now.lost c.in-Some-lost_way.i first in
    rw (← c.self.view_is)
    (reached_late c.args.proxy c.args.place c.in-Some-lost_way.i c.args.count c.args.generation c.self.inside.homes.items c.self.inside.proxies c.self.inside.sites.items c.in-Some.site.now c.arrive_late.new.self at found (search rules))

pub returns-clause-applies : goal.returns-clause-applies
returns-clause-applies g c =
    let inside = c.in-Some.ensures.variant.0 refl in
    let kept = c.self.inside.sites.ok in
    let at : slice_get c.self.inside.sites.items c.args.place ≡ Some c.in-Some.site.now = slice_get_read _ _ c.args.place c.in-Some.site.now refl (omega (arith, inside, kept)) (search rules) in
    let first : lost_way c.args.proxy c.args.generation c.in-Some.site.now.lost ≡ Some c.in-Some-lost_way.i = sym c.lost_way.ensures ∙ c.in-Some-lost_way.is in
    let found = found_way c.args.proxy c.args.generation c.in-Some.site.now.lost c.in-Some-lost_way.i first in
    let lost : c.lost.result.now ≡ c.in-Some.site.now.lost = c.lost.ensures in
    let there : slice_get c.lost.result.now c.in-Some-lost_way.i ≡ Some c.index-lost-i.result =
    slice_get_read c.lost.result.now _ c.in-Some-lost_way.i c.index-lost-i.result refl (subst (λ (ways : List StaleState). c.in-Some-lost_way.i < length ways) (sym lost) found.inside) (search rules) in
    let same : found.way ≡ c.index-lost-i.result = same_Some found.way c.index-lost-i.result (sym found.at ∙ ap (λ (ways : List StaleState). slice_get ways c.in-Some-lost_way.i) (sym lost) ∙ there) in
    let some : 0 < length c.going.result.now = search rules in
    let going : length c.going.result.now ≡ length found.way.going = ap (λ (bytes : List ℕ). length bytes) (c.going.ensures ∙ ap (λ (w : StaleState). w.going) (sym same)) in
    let bytes : 0 < length found.way.going = omega (arith, some, going) in
    let asked : 0 < c.args.count = search rules in
    rw (← c.self.view_is) (it_applies (record { there = record { site = c.in-Some.site.now; at = at; i = c.in-Some-lost_way.i; first = first; way = found.way; way_at = found.at }; moves = (asked, bytes) }))

-- memory is refused only if some bytes are on their way
pub returns-in_err-arrive_late-clause-err_applies : goal.returns-in_err-arrive_late-clause-err_applies
returns-in_err-arrive_late-clause-err_applies g c =
    let inside = c.in-Some.ensures.variant.0 refl in
    let kept = c.self.inside.sites.ok in
    let at : slice_get c.self.inside.sites.items c.args.place ≡ Some c.in-Some.site.now = slice_get_read _ _ c.args.place c.in-Some.site.now refl (omega (arith, inside, kept)) (search rules) in
    let first : lost_way c.args.proxy c.args.generation c.in-Some.site.now.lost ≡ Some c.in-Some-lost_way.i = sym c.lost_way.ensures ∙ c.in-Some-lost_way.is in
    let found = found_way c.args.proxy c.args.generation c.in-Some.site.now.lost c.in-Some-lost_way.i first in
    let lost : c.lost.result.now ≡ c.in-Some.site.now.lost = c.lost.ensures in
    let there : slice_get c.lost.result.now c.in-Some-lost_way.i ≡ Some c.index-lost-i.result =
    slice_get_read c.lost.result.now _ c.in-Some-lost_way.i c.index-lost-i.result refl (subst (λ (ways : List StaleState). c.in-Some-lost_way.i < length ways) (sym lost) found.inside) (search rules) in
    let same : found.way ≡ c.index-lost-i.result = same_Some found.way c.index-lost-i.result (sym found.at ∙ ap (λ (ways : List StaleState). slice_get ways c.in-Some-lost_way.i) (sym lost) ∙ there) in
    let some : 0 < length c.going.result.now = search rules in
    let going : length c.going.result.now ≡ length found.way.going = ap (λ (bytes : List ℕ). length bytes) (c.going.ensures ∙ ap (λ (w : StaleState). w.going) (sym same)) in
    let bytes : 0 < length found.way.going = omega (arith, some, going) in
    let asked : 0 < c.args.count = search rules in
    rw (← c.self.view_is) (at_error _ c.from_residual.result (record { there = record { site = c.in-Some.site.now; at = at; i = c.in-Some-lost_way.i; first = first; way = found.way; way_at = found.at }; moves = (asked, bytes) }))
