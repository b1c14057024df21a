use Rattle.std.proofs.Common.{rules, ◌≡◌, ◌||◌, true, refl}
use Rattle.mc_world.specs.Acts.{IsIdle}
use Rattle.mc_world.specs.Rounds.{Repeats, Then}
use Rattle.mc_world.proofs.PoolEvents.AppliesLemmas.{at_error}
use Rattle.mc_world.proofs.Drain.DrainLemmas.{drained, drained_then, first_did, goes_both, goes_did, over_then, second_did}
use Rattle.mc_world.proofs.Drain.RoundLemmas.{neither_did, times_more, until_over}
use Rattle.mc_world.proofs.worlds.World.alternate.Goals as goal
use Rattle.mc_world.proofs.worlds.World.alternate.Goals.{else-not-one-via-then-not-one+else-not-other, else-not-one-via-else-not-one}

pub loop-one-init : goal.loop-one-init
loop-one-init g c = record { goes = refl; times = (0, refl) }

pub returns-in_err-one-clause-err : goal.returns-in_err-one-clause-err
returns-in_err-one-clause-err g c =
    at_error _ c.from_residual.result (drained_then c.args.moment c.args.self.now c.loop-one.self c.repeat.new.self
    (drained c.args.moment c.loop-one.did c.args.self.now c.loop-one.self c.loop-one.invariant.goes) c.in_err-one.ensures.err)

pub returns-in_err-other-clause-err : goal.returns-in_err-other-clause-err
returns-in_err-other-clause-err g c =
    at_error _ c.from_residual-in_err-other.result (drained_then c.args.moment c.args.self.now c.loop-one.self c.repeat-in-loop-one.new.self
    (drained c.args.moment c.loop-one.did c.args.self.now c.loop-one.self c.loop-one.invariant.goes)
    (drained_then c.args.moment c.loop-one.self c.repeat.new.self c.repeat-in-loop-one.new.self
    (drained c.args.moment c.in_ok-one.one c.loop-one.self c.repeat.new.self c.in_ok-one.ensures.over.goes) c.in_err-other.ensures.err))

-- one of the two acts was done
pub loop-one-preserved : goal.loop-one-preserved
loop-one-preserved g c =
    let some : (c.in_ok-one.one || c.in_ok-other.other) ≡ true = elim c.else-not-one.branch [
      | else-not-one-via-then-not-one+else-not-other w ↦ second_did c.in_ok-one.one c.in_ok-other.other w.if-not-other.false
      | else-not-one-via-else-not-one w ↦ first_did c.in_ok-one.one c.in_ok-other.other w.if-not-one.false
    ] in
    record {
      goes = goes_did c.args.moment c.loop-one.did c.args.self.now c.loop-one.self c.repeat-in-loop-one.new.self c.loop-one.invariant.goes
          (goes_both c.args.moment c.in_ok-one.one c.in_ok-other.other c.loop-one.self c.repeat.new.self c.repeat-in-loop-one.new.self some c.in_ok-one.ensures.over.goes c.in_ok-other.ensures.over.goes);
      times = times_more (Then (Repeats c.args.moment c.args.first) (Repeats c.args.moment c.args.second)) c.args.self.now.course c.loop-one.self.course c.repeat-in-loop-one.new.self.course c.loop-one.invariant.times
          (c.repeat.new.self.course, c.in_ok-one.ensures.repeats, c.in_ok-other.ensures.repeats);
    }

pub returns-then-not-other-clause-alternates : goal.returns-then-not-other-clause-alternates
returns-then-not-other-clause-alternates g c =
    until_over c.args.moment (λ s. IsIdle c.args.moment s.pool c.args.first × IsIdle c.args.moment s.pool c.args.second) (Then (Repeats c.args.moment c.args.first) (Repeats c.args.moment c.args.second))
    (c.in_ok-one.one || c.in_ok-other.other) c.args.self.now.course c.loop-one.self c.repeat-in-loop-one.new.self
    (neither_did c.in_ok-one.one c.in_ok-other.other (search rules) (search rules)) c.loop-one.invariant.times
    (over_then c.args.moment (λ s. IsIdle c.args.moment s.pool c.args.first) (λ s. IsIdle c.args.moment s.pool c.args.second) c.in_ok-one.one c.in_ok-other.other
    c.loop-one.self c.repeat.new.self c.repeat-in-loop-one.new.self c.in_ok-one.ensures.over c.in_ok-other.ensures.over)
