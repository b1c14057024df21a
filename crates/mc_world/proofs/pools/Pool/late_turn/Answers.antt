use Rattle.std.proofs.Common.{rules, ◌≡◌, ◌∙◌, Some, slice_get, refl, sym, subst, arith}
use Rattle.std.proofs.lemmas.Option.{slice_get_read}
use Rattle.mc_world.specs.Serving.{PoolServes}
use Rattle.mc_world.specs.Applies.{lost_way}
use Rattle.mc_world.specs.Happens.{Does, EntersLate}
use Rattle.mc_world.specs.declared.errors.Step.{Step}
use Rattle.mc_world.proofs.PoolEvents.AppliesLemmas.{at_error, found_way, it_applies, it_does_not, late_serves_if, pool_of, served_late}
use Rattle.mc_world.proofs.pools.Pool.late_turn.Goals as goal

pub turn_late-requires-clause-inside : goal.turn_late-requires-clause-inside
turn_late-requires-clause-inside g c =
    let inside = c.in-Some.ensures.variant.0 refl in
    let kept = c.self.inside.sites.ok in
    let at : slice_get c.self.inside.sites.items c.args.place ≡ Some c.in-Some.site.now = slice_get_read _ _ c.args.place c.in-Some.site.now refl (omega (arith, inside, kept)) (search rules) in
    let first : lost_way c.args.proxy c.args.generation c.in-Some.site.now.lost ≡ Some c.in-Some-lost_way.i = sym c.lost_way.ensures ∙ c.in-Some-lost_way.is in
    let found = found_way c.args.proxy c.args.generation c.in-Some.site.now.lost c.in-Some-lost_way.i first in
    found.inside

pub turn_late-requires-clause-serves : goal.turn_late-requires-clause-serves
turn_late-requires-clause-serves g c =
    let inside = c.in-Some.ensures.variant.0 refl in
    let kept = c.self.inside.sites.ok in
    let at : slice_get c.self.inside.sites.items c.args.place ≡ Some c.in-Some.site.now = slice_get_read _ _ c.args.place c.in-Some.site.now refl (omega (arith, inside, kept)) (search rules) in
    let serves : PoolServes (pool_of c.self.inside.homes.items c.self.inside.proxies c.self.inside.sites.items) = subst PoolServes (sym c.self.view_is) c.requires.serves in
    let own = serves.sites c.args.place c.in-Some.site.now at in
    λ way is. own.lost c.in-Some-lost_way.i way is

pub turn_late-requires-clause-untaken : goal.turn_late-requires-clause-untaken
turn_late-requires-clause-untaken g c =
    let inside = c.in-Some.ensures.variant.0 refl in
    let kept = c.self.inside.sites.ok in
    let at : slice_get c.self.inside.sites.items c.args.place ≡ Some c.in-Some.site.now = slice_get_read _ _ c.args.place c.in-Some.site.now refl (omega (arith, inside, kept)) (search rules) in
    let serves : PoolServes (pool_of c.self.inside.homes.items c.self.inside.proxies c.self.inside.sites.items) = subst PoolServes (sym c.self.view_is) c.requires.serves in
    let own = serves.sites c.args.place c.in-Some.site.now at in
    λ way is. own.untaken c.in-Some-lost_way.i way is

pub returns-in_default-2-clause-applies : goal.returns-in_default-2-clause-applies
returns-in_default-2-clause-applies g c =
    let inside = c.in-Some.ensures.variant.0 refl in
    let kept = c.self.inside.sites.ok in
    let at : slice_get c.self.inside.sites.items c.args.place ≡ Some c.in-Some.site.now = slice_get_read _ _ c.args.place c.in-Some.site.now refl (omega (arith, inside, kept)) (search rules) in
    let first : lost_way c.args.proxy c.args.generation c.in-Some.site.now.lost ≡ Some c.in-Some-lost_way.i = sym c.lost_way.ensures ∙ c.in-Some-lost_way.is in
    let found = found_way c.args.proxy c.args.generation c.in-Some.site.now.lost c.in-Some-lost_way.i first in
    rw (← c.self.view_is) (it_does_not (λ can. c.in_default-2.not-Done ((c.in_ok-turn_late.ensures.applies found.way found.at).1
    (late_serves_if c.args.proxy c.args.place c.args.generation c.in-Some-lost_way.i (pool_of c.self.inside.homes.items c.self.inside.proxies c.self.inside.sites.items) c.in-Some.site.now found.way at first found.at can))))

pub returns-clause-takes : goal.returns-clause-takes
returns-clause-takes g c =
    let inside = c.in-Some.ensures.variant.0 refl in
    let kept = c.self.inside.sites.ok in
    let at : slice_get c.self.inside.sites.items c.args.place ≡ Some c.in-Some.site.now = slice_get_read _ _ c.args.place c.in-Some.site.now refl (omega (arith, inside, kept)) (search rules) in
    let first : lost_way c.args.proxy c.args.generation c.in-Some.site.now.lost ≡ Some c.in-Some-lost_way.i = sym c.lost_way.ensures ∙ c.in-Some-lost_way.is in
    let found = found_way c.args.proxy c.args.generation c.in-Some.site.now.lost c.in-Some-lost_way.i first in
    let enters : EntersLate c.in-Some-lost_way.i c.args.moment c.in-Some.site.now c.turn_late.new.self =
    subst (λ (step : Step). Does step (EntersLate c.in-Some-lost_way.i c.args.moment c.in-Some.site.now c.turn_late.new.self) (c.turn_late.new.self ≡ c.in-Some.site.now)) c.in-Done.is c.in_ok-turn_late.ensures.enters in
    rw (← c.self.view_is)
    (served_late c.args.proxy c.args.place c.in-Some-lost_way.i c.args.moment c.args.generation c.self.inside.homes.items c.self.inside.proxies c.self.inside.sites.items c.in-Some.site.now c.turn_late.new.self at found enters)

pub returns-clause-applies : goal.returns-clause-applies
returns-clause-applies g c =
    let inside = c.in-Some.ensures.variant.0 refl in
    let kept = c.self.inside.sites.ok in
    let at : slice_get c.self.inside.sites.items c.args.place ≡ Some c.in-Some.site.now = slice_get_read _ _ c.args.place c.in-Some.site.now refl (omega (arith, inside, kept)) (search rules) in
    let first : lost_way c.args.proxy c.args.generation c.in-Some.site.now.lost ≡ Some c.in-Some-lost_way.i = sym c.lost_way.ensures ∙ c.in-Some-lost_way.is in
    let found = found_way c.args.proxy c.args.generation c.in-Some.site.now.lost c.in-Some-lost_way.i first in
    rw (← c.self.view_is) (it_applies (record {
      there = record { site = c.in-Some.site.now; at = at; i = c.in-Some-lost_way.i; first = first; way = found.way; way_at = found.at };
      waits =
          (c.in_ok-turn_late.ensures.applies found.way found.at).0 c.in-Done.is;
    }))

-- memory is refused only if a whole request has arrived
pub returns-in_err-turn_late-clause-err_applies : goal.returns-in_err-turn_late-clause-err_applies
returns-in_err-turn_late-clause-err_applies g c =
    let inside = c.in-Some.ensures.variant.0 refl in
    let kept = c.self.inside.sites.ok in
    let at : slice_get c.self.inside.sites.items c.args.place ≡ Some c.in-Some.site.now = slice_get_read _ _ c.args.place c.in-Some.site.now refl (omega (arith, inside, kept)) (search rules) in
    let first : lost_way c.args.proxy c.args.generation c.in-Some.site.now.lost ≡ Some c.in-Some-lost_way.i = sym c.lost_way.ensures ∙ c.in-Some-lost_way.is in
    let found = found_way c.args.proxy c.args.generation c.in-Some.site.now.lost c.in-Some-lost_way.i first in
    rw (← c.self.view_is) (at_error _ c.from_residual.result
    (record { there = record { site = c.in-Some.site.now; at = at; i = c.in-Some-lost_way.i; first = first; way = found.way; way_at = found.at }; waits = c.in_err-turn_late.ensures.err_applies found.way found.at }))
