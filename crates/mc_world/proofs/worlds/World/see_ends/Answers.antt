use Rattle.std.proofs.Common.{rules, ◌≡◌, ℕ, length, refl, subst, arith}
use Rattle.mc_world.specs.Acts.{HasDrained}
use Rattle.mc_world.specs.CourseHolds.{WorldHolds}
use Rattle.mc_world.specs.Rounds.{InOrder, Repeats}
use Rattle.mc_world.specs.Worlds.{WorldState}
use Rattle.mc_world.specs.declared.acts.Act.TheVariants.{SeeEnd}
use Rattle.mc_world.proofs.Drain.DrainLemmas.{drained, drained_none, drained_then}
use Rattle.mc_world.proofs.Drain.RoundLemmas.{below_next, ended_all, order_more}
use Rattle.mc_world.proofs.worlds.World.see_ends.Goals as goal

pub loop-place-init : goal.loop-place-init
loop-place-init g c = record {
  drained = drained_none c.args.moment c.args.self.now;
  ends = refl;
  ended = λ k below. absurd (omega (arith, below));
}

pub returns-in_err-repeat-clause-drained : goal.returns-in_err-repeat-clause-drained
returns-in_err-repeat-clause-drained g c =
    drained_then c.args.moment c.args.self.now c.loop-place.self c.repeat.new.self c.loop-place.invariant.drained c.in_err-repeat.ensures.err

-- one more server has seen its ends
pub loop-place-preserved : goal.loop-place-preserved
loop-place-preserved g c =
    let did = c.in_ok-repeat.ensures in
    let one : HasDrained c.args.moment c.loop-place.self c.repeat.new.self = drained c.args.moment c.in_ok-repeat.field-0 c.loop-place.self c.repeat.new.self did.over.goes in
    record {
      drained = drained_then c.args.moment c.args.self.now c.loop-place.self c.repeat.new.self c.loop-place.invariant.drained one;
      ends = order_more (λ place. Repeats c.args.moment (SeeEnd place)) c.loop-place.place c.args.self.now.course c.loop-place.self.course c.repeat.new.self.course c.loop-place.invariant.ends did.repeats;
      ended = below_next c.args.moment c.loop-place.place c.loop-place.self c.repeat.new.self one c.loop-place.invariant.ended did.repeats.2;
    }

pub returns : goal.returns
returns g c =
    let all : c.loop-place.place ≡ length c.args.self.now.course.pool.sites = search rules in
    record {
      drained = c.loop-place.invariant.drained;
      ends = record {
        rising = λ place site at. ((subst (λ (w : WorldState). WorldHolds w) c.self.view_is c.self.invariant).course.generations place site at).rising;
        ends = subst (λ (n : ℕ). InOrder (λ place. Repeats c.args.moment (SeeEnd place)) n c.args.self.now.course c.loop-place.self.course) all c.loop-place.invariant.ends;
      };
      ended = ended_all c.args.moment c.args.self.now c.loop-place.self c.loop-place.invariant.drained
          (λ k inside. c.loop-place.invariant.ended k (omega (arith, all, inside)));
      cause = tt;
    }
