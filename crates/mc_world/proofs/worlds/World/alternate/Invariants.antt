use Rattle.mc_world.specs.Acts.{GoesOn}
use Rattle.mc_world.specs.Rounds.{Repeats, Then}
use Rattle.mc_world.specs.WorkLeft.{work_left}
use Rattle.mc_world.proofs.Drain.RoundLemmas.{Times}
use Rattle.mc_world.proofs.worlds.World.alternate.Given as goal

-- what was done so far: the one act and then the other, a number of times
abbrev pub invariant-loop-one : goal.invariant-loop-one
invariant-loop-one g l = record {
  goes : GoesOn l.moment l.did l.fn.self l.self;
  times : Times (Then (Repeats l.moment l.first) (Repeats l.moment l.second)) l.fn.self.course l.self.course;
}

-- less is left each time
abbrev pub decreases-loop-one : goal.decreases-loop-one
decreases-loop-one g l = work_left l.self.course.pool
