use Rattle.std.proofs.Common.{◌≡◌, vec_len}
use Rattle.mc_threads.specs.Links.{SameEnds}
use Rattle.mc_threads.specs.Starts.{Each2}
use Rattle.mc_threads.specs.Talks.{HasRound}
use Rattle.mc_threads.proofs.rounds.talk.Given as goal

-- all that the rounds so far did
abbrev pub invariant-rounds : goal.invariant-rounds
invariant-rounds g l = record {
  ends : vec_len l.ends ≡ vec_len l.initial.ends;
  outputs : vec_len l.outputs ≡ vec_len l.initial.outputs;
  rings : Each2 SameEnds (vec_len l.initial.ends) l.initial.ends.items l.ends.items;
  talked : HasRound l.initial.outputs.items l.outputs.items l.initial.ends.items l.ends.items l.initial.proxy l.proxy;
}
