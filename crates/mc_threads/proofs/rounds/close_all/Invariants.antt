use Rattle.std.proofs.Common.{◌≡◌, ℕ, ◌≤◌, vec_len}
use Rattle.mc_threads.specs.Links.{SameEnds}
use Rattle.mc_threads.specs.Starts.{Each2}
use Rattle.mc_threads.specs.Talks.{HasQuit, went_to}
use Rattle.mc_threads.proofs.rounds.close_all.Given as goal

-- the rings stay at each place, and the first servers were sent `quit`
abbrev pub invariant-loop-place : goal.invariant-loop-place
invariant-loop-place g l = record {
  ends : vec_len l.ends ≡ vec_len l.initial.ends;
  rings : Each2 SameEnds (vec_len l.initial.ends) l.initial.ends.items l.ends.items;
  quit : HasQuit l.place l.initial.ends.items l.ends.items;
  others : (server : ℕ) → l.place ≤ server → went_to l.ends.items server ≡ went_to l.initial.ends.items server;
}
