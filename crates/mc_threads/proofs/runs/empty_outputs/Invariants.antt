use Rattle.std.proofs.Common.{◌≡◌, ℕ, [], vec_len}
use Rattle.mc_threads.specs.Accounts.{outs_of}
use Rattle.mc_threads.proofs.runs.empty_outputs.Given as goal

abbrev pub invariant-loop : goal.invariant-loop
invariant-loop l = record {
  len : vec_len l.outputs ≡ l.counter;
  empty : (client : ℕ) → outs_of l.outputs.items client ≡ [];
}
