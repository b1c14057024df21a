use Rattle.std.proofs.Common.{Bool, refl, subst}
use Rattle.mc_world.specs.Acts.{GoesOn, IsIdle}
use Rattle.mc_world.specs.Rounds.{IsActed}
use Rattle.mc_world.proofs.PoolEvents.AppliesLemmas.{at_error}
use Rattle.mc_world.proofs.Drain.DrainLemmas.{drained, drained_then, goes_did}
use Rattle.mc_world.proofs.Drain.RoundLemmas.{times_more, until_over}
use Rattle.mc_world.proofs.worlds.World.repeat.Goals as goal

pub loop-did-init : goal.loop-did-init
loop-did-init g c = record { goes = refl; times = (0, refl) }

pub returns-in_err-act-clause-err : goal.returns-in_err-act-clause-err
returns-in_err-act-clause-err g c =
    at_error _ c.from_residual.result (drained_then c.args.moment c.args.self.now c.loop-did.self c.act.new.self
    (drained c.args.moment c.loop-did.did c.args.self.now c.loop-did.self c.loop-did.invariant.goes) c.in_err-act.ensures.err)

pub loop-did-preserved : goal.loop-did-preserved
loop-did-preserved g c = record {
  goes = goes_did c.args.moment c.loop-did.did c.args.self.now c.loop-did.self c.act.new.self c.loop-did.invariant.goes
      (subst (λ (v : Bool). GoesOn c.args.moment v c.loop-did.self c.act.new.self) c.if-branch.true c.in_ok-act.ensures.over.goes);
  times = times_more (IsActed c.args.moment c.args.act) c.args.self.now.course c.loop-did.self.course c.act.new.self.course c.loop-did.invariant.times
      (c.in_ok-act.ensures.acted c.if-branch.true);
}

pub returns-clause-repeats : goal.returns-clause-repeats
returns-clause-repeats g c =
    until_over c.args.moment (λ s. IsIdle c.args.moment s.pool c.args.act) (IsActed c.args.moment c.args.act) c.in_ok-act.field-0 c.args.self.now.course c.loop-did.self c.act.new.self
    c.if-branch.false c.loop-did.invariant.times c.in_ok-act.ensures.over
