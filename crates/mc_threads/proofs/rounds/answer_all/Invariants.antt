use Rattle.std.proofs.Common.{◌≡◌, vec_len}
use Rattle.mc_threads.specs.Talks.{HasAnswered}
use Rattle.mc_threads.proofs.rounds.answer_all.Given as goal

abbrev pub invariant-loop-client : goal.invariant-loop-client
invariant-loop-client l = record {
  len : vec_len l.outputs ≡ vec_len l.initial.outputs;
  answered : HasAnswered l.initial.outputs.items l.outputs.items l.initial.proxy l.proxy;
}
