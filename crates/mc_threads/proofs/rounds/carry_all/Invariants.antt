use Rattle.std.proofs.Common.{◌≡◌, vec_len}
use Rattle.mc_threads.specs.Links.{SameEnds}
use Rattle.mc_threads.specs.Starts.{Each2}
use Rattle.mc_threads.specs.Talks.{HasCarried}
use Rattle.mc_threads.proofs.rounds.carry_all.Given as goal

-- the rings stay at each place
abbrev pub invariant-loop-place : goal.invariant-loop-place
invariant-loop-place l = record {
  ends : vec_len l.ends ≡ vec_len l.initial.ends;
  rings : Each2 SameEnds (vec_len l.initial.ends) l.initial.ends.items l.ends.items;
  carried : HasCarried l.initial.ends.items l.ends.items l.initial.proxy l.proxy;
}
