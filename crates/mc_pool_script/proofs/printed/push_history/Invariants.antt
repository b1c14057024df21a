use Rattle.std.proofs.Common.{◌≡◌, ◌++◌, length, take}
use Rattle.mc_pool_script.proofs.PrintedLemmas.{history_so_far}
use Rattle.mc_pool_script.proofs.printed.push_history.Given as goal

abbrev pub invariant-loop-entry : goal.invariant-loop-entry
invariant-loop-entry l = l.out.items ≡ l.fn.out.items ++ history_so_far l.place (length l.entries) (take l.entry-index l.entries)
