use Rattle.std.proofs.Common.{ℕ, ◌<◌}
use Rattle.mc_threads.specs.Talks.{IsAnswered}
use Rattle.mc_threads.proofs.rounds.are_answered.Given as goal

abbrev pub invariant-loop-client : goal.invariant-loop-client
invariant-loop-client l = (client : ℕ) → client < l.client → IsAnswered l.fn.proxy client
