use Rattle.mc_world.specs.Acts.{HasDrained, NoServer}
use Rattle.mc_world.specs.Rounds.{IsRound, SeesEnds}
use Rattle.mc_world.specs.WorkLeft.{work_left}
use Rattle.mc_world.specs.Worlds.{CourseState}
use Rattle.mc_world.specs.declared.acts.Act.TheVariants.{SeeEnd}
use Rattle.mc_world.proofs.Drain.RoundLemmas.{Times}
use Rattle.mc_world.proofs.worlds.World.rest.Given as goal

-- what was done so far: the ends, and a number of rounds
abbrev pub invariant-loop : goal.invariant-loop
invariant-loop g l = record {
  drained : HasDrained l.moment l.fn.self l.self;
  ended : NoServer l.moment (λ place. SeeEnd place) l.self.course;
  rounds : (first : CourseState) × SeesEnds l.moment l.fn.self.course first × Times (IsRound l.moment) first l.self.course;
}

-- less is left each time
abbrev pub decreases-loop : goal.decreases-loop
decreases-loop g l = work_left l.self.course.pool
