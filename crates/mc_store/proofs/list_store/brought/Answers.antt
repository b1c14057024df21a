use Rattle.std.proofs.Common.{◌∙◌, ◌∷◌, ap, subst}
use Rattle.mc_store.specs.Items.{Items}
use Rattle.mc_store.specs.Places.{HoldsAt}
use Rattle.mc_store.proofs.ItemLemmas.{first_stays, put_first}
use Rattle.mc_store.proofs.list_store.brought.Goals as goal

pub returns-else-place-gt0-clause-held : goal.returns-else-place-gt0-clause-held
returns-else-place-gt0-clause-held c =
    rw (← c.as_slice.ensures.value) (first_stays c.args.key.now c.as_slice.result.now c.in-Some.place c.in-Some.ensures.found c.if-place-gt0.false).0

pub returns-else-place-gt0-clause-items : goal.returns-else-place-gt0-clause-items
returns-else-place-gt0-clause-items c =
    rw (← c.as_slice.ensures.value) (first_stays c.args.key.now c.as_slice.result.now c.in-Some.place c.in-Some.ensures.found c.if-place-gt0.false).1

pub returns-then-place-gt0-clause-items : goal.returns-then-place-gt0-clause-items
returns-then-place-gt0-clause-items c =
    put_first c.args.key.now c.args.entries.now.items c.insert.new.self.items c.in-Some.place c.remove-entry.result
    (subst (λ (is : Items). HoldsAt c.args.key.now is c.in-Some.place) c.as_slice.ensures.value c.in-Some.ensures.found) c.remove-entry.ensures.value
    (c.insert.ensures.items ∙ rw c.unwrap.ensures (ap (λ (is : Items). c.remove-entry.result ∷ is) c.remove-entry.ensures.items))
