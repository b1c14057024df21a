use Rattle.mc_world.specs.Acts.{GoesOn}
use Rattle.mc_world.specs.Rounds.{IsActed}
use Rattle.mc_world.specs.WorkLeft.{work_left}
use Rattle.mc_world.proofs.Drain.RoundLemmas.{Times}
use Rattle.mc_world.proofs.worlds.World.repeat.Given as goal

-- what was done so far: the act, a number of times
abbrev pub invariant-loop-did : goal.invariant-loop-did
invariant-loop-did g l = record {
  goes : GoesOn l.moment l.did l.fn.self l.self;
  times : Times (IsActed l.moment l.act) l.fn.self.course l.self.course;
}

-- less is left each time
abbrev pub decreases-loop-did : goal.decreases-loop-did
decreases-loop-did g l = work_left l.self.course.pool
