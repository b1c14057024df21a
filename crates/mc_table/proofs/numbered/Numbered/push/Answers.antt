use Rattle.mc_table.proofs.NumberedEntryLemmas.{fresh_own}
use Rattle.mc_table.proofs.RisesLemmas.{absent_next, rises_push}
use Rattle.mc_table.proofs.numbered.Numbered.push.Goals as goal

-- the next number is above all others
pub invariant_of-self-2 : goal.invariant_of-self-2
invariant_of-self-2 g c = rw c.in_ok-push.ensures.items (rises_push 0 c.self.inside.entries.items c.self.inside.next c.args.value c.self.invariant)

pub returns-clause-was_free : goal.returns-clause-was_free
returns-clause-was_free g c = rw (← c.self.view_is) (absent_next 0 c.self.inside.entries.items c.self.inside.next c.self.invariant)

pub returns-clause-is_there : goal.returns-clause-is_there
returns-clause-is_there g c =
    let own = c.self.inside in
    rw c.in_ok-push.ensures.items (fresh_own own.next c.args.value own.entries.items (absent_next 0 own.entries.items own.next c.self.invariant))
