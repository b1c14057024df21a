use Rattle.std.proofs.Common.{rules, ◌≡◌, ◌∙◌, Some, slice_get, refl, sym, subst, arith}
use Rattle.std.proofs.lemmas.Option.{slice_get_read}
use Rattle.mc_world.specs.Serving.{PoolServes}
use Rattle.mc_world.specs.Applies.{lost_way}
use Rattle.mc_world.proofs.PoolEvents.AppliesLemmas.{found_way, it_applies, pool_of, saw_end}
use Rattle.mc_world.proofs.pools.Pool.see_end.Goals as goal

pub end-requires-clause-inside : goal.end-requires-clause-inside
end-requires-clause-inside g c =
    let inside = c.in-Some.ensures.variant.0 refl in
    let kept = c.self.inside.sites.ok in
    let at : slice_get c.self.inside.sites.items c.args.place ≡ Some c.in-Some.site.now = slice_get_read _ _ c.args.place c.in-Some.site.now refl (omega (arith, inside, kept)) (search rules) in
    let first : lost_way c.args.proxy c.args.generation c.in-Some.site.now.lost ≡ Some c.in-Some-lost_way.i = sym c.lost_way.ensures ∙ c.in-Some-lost_way.is in
    let found = found_way c.args.proxy c.args.generation c.in-Some.site.now.lost c.in-Some-lost_way.i first in
    found.inside

pub end-requires-clause-serves : goal.end-requires-clause-serves
end-requires-clause-serves g c =
    let inside = c.in-Some.ensures.variant.0 refl in
    let kept = c.self.inside.sites.ok in
    let at : slice_get c.self.inside.sites.items c.args.place ≡ Some c.in-Some.site.now = slice_get_read _ _ c.args.place c.in-Some.site.now refl (omega (arith, inside, kept)) (search rules) in
    let serves : PoolServes (pool_of c.self.inside.homes.items c.self.inside.proxies c.self.inside.sites.items) = subst PoolServes (sym c.self.view_is) c.requires.serves in
    let own = serves.sites c.args.place c.in-Some.site.now at in
    λ way is. own.lost c.in-Some-lost_way.i way is

pub returns-clause-ends : goal.returns-clause-ends
returns-clause-ends g c =
    let inside = c.in-Some.ensures.variant.0 refl in
    let kept = c.self.inside.sites.ok in
    let at : slice_get c.self.inside.sites.items c.args.place ≡ Some c.in-Some.site.now = slice_get_read _ _ c.args.place c.in-Some.site.now refl (omega (arith, inside, kept)) (search rules) in
    let first : lost_way c.args.proxy c.args.generation c.in-Some.site.now.lost ≡ Some c.in-Some-lost_way.i = sym c.lost_way.ensures ∙ c.in-Some-lost_way.is in
    let found = found_way c.args.proxy c.args.generation c.in-Some.site.now.lost c.in-Some-lost_way.i first in
    rw (← c.self.view_is) (saw_end c.args.proxy c.args.place c.in-Some-lost_way.i c.args.generation c.self.inside.homes.items c.self.inside.proxies c.self.inside.sites.items c.in-Some.site.now c.end.new.self at found c.end.ensures)

pub returns-clause-applies : goal.returns-clause-applies
returns-clause-applies g c =
    let inside = c.in-Some.ensures.variant.0 refl in
    let kept = c.self.inside.sites.ok in
    let at : slice_get c.self.inside.sites.items c.args.place ≡ Some c.in-Some.site.now = slice_get_read _ _ c.args.place c.in-Some.site.now refl (omega (arith, inside, kept)) (search rules) in
    let first : lost_way c.args.proxy c.args.generation c.in-Some.site.now.lost ≡ Some c.in-Some-lost_way.i = sym c.lost_way.ensures ∙ c.in-Some-lost_way.is in
    let found = found_way c.args.proxy c.args.generation c.in-Some.site.now.lost c.in-Some-lost_way.i first in
    rw (← c.self.view_is) (it_applies (record { site = c.in-Some.site.now; at = at; i = c.in-Some-lost_way.i; first = first; way = found.way; way_at = found.at }))
