use Rattle.std.proofs.Common.{◌≡◌, get_or, refl, subst, sym}
use Rattle.mc_table.specs.Entries.{Numbering}
use Rattle.mc_table.specs.Rises.{IsAt}
use Rattle.mc_table.proofs.NumberedEntryLemmas.{without_absent}
use Rattle.mc_table.proofs.RisesLemmas.{entry_there, remove_there, rises_without, without_own}
use Rattle.mc_table.proofs.numbered.Numbered.remove.Goals as goal

-- what is at the place is the entry of the number
pub returns-clause-removed : goal.returns-clause-removed
returns-clause-removed g c =
    let own = c.remove.result in
    let now = c.args.self.now in
    entry_there now.entries now.next c.args.number c.in_ok-place.place own c.place_of.ensures.rises c.in_ok-place.ensures.found
    (subst (λ (n : Numbering g.row.T.Denot). own ≡ get_or n.entries c.in_ok-place.place own) c.self.view_is c.remove.ensures.value)

pub returns-clause-others : goal.returns-clause-others
returns-clause-others g c =
    let es = c.self.inside.entries.items in
    let at = subst (λ (n : Numbering g.row.T.Denot). IsAt n.entries c.args.number c.in_ok-place.place) (sym c.self.view_is) c.in_ok-place.ensures.found in
    let others = remove_there es c.self.inside.next c.args.number c.in_ok-place.place c.remove.result.1 c.self.invariant at in
    rw (← c.self.view_is, c.remove.ensures.items, others) refl

-- its number occurs once
pub returns-clause-is_free : goal.returns-clause-is_free
returns-clause-is_free g c =
    let es = c.self.inside.entries.items in
    let at = subst (λ (n : Numbering g.row.T.Denot). IsAt n.entries c.args.number c.in_ok-place.place) (sym c.self.view_is) c.in_ok-place.ensures.found in
    let others = remove_there es c.self.inside.next c.args.number c.in_ok-place.place c.remove.result.1 c.self.invariant at in
    rw (c.remove.ensures.items, others) (without_own 0 es c.self.inside.next c.args.number c.self.invariant)

-- the others keep their numbers
pub invariant_of-self : goal.invariant_of-self
invariant_of-self g c =
    let es = c.self.inside.entries.items in
    let at = subst (λ (n : Numbering g.row.T.Denot). IsAt n.entries c.args.number c.in_ok-place.place) (sym c.self.view_is) c.in_ok-place.ensures.found in
    let others = remove_there es c.self.inside.next c.args.number c.in_ok-place.place c.remove.result.1 c.self.invariant at in
    rw (c.remove.ensures.items, others) (rises_without 0 es c.self.inside.next c.args.number c.self.invariant)

-- there is nothing to remove
pub returns-in_err-place-clause-others : goal.returns-in_err-place-clause-others
returns-in_err-place-clause-others g c = rw (without_absent c.args.number c.args.self.now.entries c.in_err-place.ensures.absent) refl
