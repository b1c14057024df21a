use Rattle.std.proofs.Common.{ℕ, ◌<◌}
use Rattle.mc_world.specs.Acts.{HasDrained}
use Rattle.mc_world.specs.Rounds.{InOrder, Repeats}
use Rattle.mc_world.specs.declared.acts.Act.TheVariants.{SeeEnd}
use Rattle.mc_world.proofs.Drain.RoundLemmas.{HasNoLost}
use Rattle.mc_world.proofs.worlds.World.see_ends.Given as goal

-- the first servers have seen all their ends
abbrev pub invariant-loop-place : goal.invariant-loop-place
invariant-loop-place g l = record {
  drained : HasDrained l.moment l.fn.self l.self;
  ends : InOrder (λ place. Repeats l.moment (SeeEnd place)) l.place l.fn.self.course l.self.course;
  ended : (k : ℕ) → k < l.place → HasNoLost k l.self.course.pool;
}
