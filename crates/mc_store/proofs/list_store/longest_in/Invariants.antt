use Rattle.std.proofs.Common.{◌≡◌, max, drop}
use Rattle.mc_store.specs.Items.{longest_of}
use Rattle.mc_store.proofs.list_store.longest_in.Given as goal

abbrev pub invariant-loop-entry : goal.invariant-loop-entry
invariant-loop-entry l = max l.longest (longest_of (drop l.entry-index l.entries)) ≡ longest_of l.entries
