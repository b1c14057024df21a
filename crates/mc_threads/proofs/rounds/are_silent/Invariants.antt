use Rattle.std.proofs.Common.{ℕ, ◌<◌}
use Rattle.mc_threads.specs.Talks.{IsSilent}
use Rattle.mc_threads.proofs.rounds.are_silent.Given as goal

abbrev pub invariant-loop-place : goal.invariant-loop-place
invariant-loop-place l = (server : ℕ) → server < l.place → IsSilent l.fn.proxy server
