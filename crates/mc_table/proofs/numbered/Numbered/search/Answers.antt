use Rattle.std.proofs.Common.{rules}
use Rattle.std.proofs.lemmas.List.Sorted.{answers_always}
use Rattle.mc_table.proofs.RisesLemmas.{searched}
use Rattle.mc_table.proofs.numbered.Numbered.search.Goals as goal

-- the closure returns an entry's number
pub returns : goal.returns
returns g c =
    let facts = c.binary_search_by_key.ensures in
    let by_number = facts.position (λ entry. entry.0) (answers_always _ _ _ (λ f a r h called. search rules)) in
    rw (← c.self.view_is, c.ok.ensures.value, ← c.deref.ensures.value)
    (searched 0 c.deref.result.now c.self.inside.next (rw c.deref.ensures.value c.self.invariant) c.args.number c.binary_search_by_key.result facts.bound by_number)
