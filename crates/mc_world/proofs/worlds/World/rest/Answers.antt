use Rattle.std.proofs.Common.{refl}
use Rattle.mc_world.specs.Acts.{HasDrained, IsRested}
use Rattle.mc_world.specs.Rounds.{IsRound}
use Rattle.mc_world.proofs.Drain.DrainLemmas.{drained, drained_then}
use Rattle.mc_world.proofs.Drain.RoundLemmas.{ended_still, times_more, until_over}
use Rattle.mc_world.proofs.worlds.World.rest.Goals as goal

pub loop-init : goal.loop-init
loop-init g c = record {
  drained = c.in_ok-see_ends.ensures.drained;
  ended = c.in_ok-see_ends.ensures.ended;
  rounds = (c.see_ends.new.self.course, c.in_ok-see_ends.ensures.ends, (0, refl));
}

pub returns-in_err-round-clause-drained : goal.returns-in_err-round-clause-drained
returns-in_err-round-clause-drained g c = drained_then c.args.moment c.args.self.now c.loop.self c.round.new.self c.loop.invariant.drained c.in_err-round.ensures.err

pub loop-preserved : goal.loop-preserved
loop-preserved g c =
    let one : HasDrained c.args.moment c.loop.self c.round.new.self = drained c.args.moment c.in_ok-round.field-0 c.loop.self c.round.new.self c.in_ok-round.ensures.over.goes in
    record {
      drained = drained_then c.args.moment c.args.self.now c.loop.self c.round.new.self c.loop.invariant.drained one;
      ended = ended_still c.args.moment c.loop.self c.round.new.self one c.loop.invariant.ended;
      rounds = (
        c.loop.invariant.rounds.0,
        c.loop.invariant.rounds.1,
        times_more (IsRound c.args.moment) c.loop.invariant.rounds.0 c.loop.self.course c.round.new.self.course c.loop.invariant.rounds.2 c.in_ok-round.ensures.round,
      );
    }

pub returns-clause-rounds : goal.returns-clause-rounds
returns-clause-rounds g c =
    let first = c.loop.invariant.rounds in
    record {
      ended = first.0;
      ends = first.1;
      rounds = until_over c.args.moment (IsRested c.args.moment) (IsRound c.args.moment) c.in_ok-round.field-0 first.0 c.loop.self c.round.new.self c.if-branch.false first.2
          c.in_ok-round.ensures.over;
    }
