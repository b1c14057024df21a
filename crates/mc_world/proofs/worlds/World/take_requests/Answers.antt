use Rattle.std.proofs.Common.{rules, ◌≡◌, ℕ, ◌<◌, length, subst}
use Rattle.mc_world.specs.Acts.{IsIdle}
use Rattle.mc_world.specs.Rounds.{InOrder, Repeats}
use Rattle.mc_world.specs.Worlds.{CourseState}
use Rattle.mc_world.specs.declared.acts.Act.TheVariants.{TakeRequest}
use Rattle.mc_world.proofs.PoolEvents.AppliesLemmas.{at_error}
use Rattle.mc_world.proofs.Drain.DrainLemmas.{drained, drained_then, over_more}
use Rattle.mc_world.proofs.Drain.RoundLemmas.{order_more}
use Rattle.mc_world.proofs.worlds.World.take_requests.Goals as goal

pub returns-in_err-one-clause-err : goal.returns-in_err-one-clause-err
returns-in_err-one-clause-err g c =
    at_error _ c.from_residual.result (drained_then c.args.moment c.args.self.now c.loop-client.self c.repeat.new.self
    (drained c.args.moment c.loop-client.did c.args.self.now c.loop-client.self c.loop-client.invariant.over.goes) c.in_err-one.ensures.err)

pub loop-client-preserved : goal.loop-client-preserved
loop-client-preserved g c = record {
  over = over_more c.args.moment (λ (k : ℕ) (s : CourseState). IsIdle c.args.moment s.pool (TakeRequest k)) c.loop-client.did c.in_ok-one.one c.loop-client.client c.args.self.now c.loop-client.self c.repeat.new.self
      c.loop-client.invariant.over c.in_ok-one.ensures.over;
  order = order_more (λ client. Repeats c.args.moment (TakeRequest client)) c.loop-client.client c.args.self.now.course c.loop-client.self.course c.repeat.new.self.course
      c.loop-client.invariant.order c.in_ok-one.ensures.repeats;
}

pub returns-clause-over : goal.returns-clause-over
returns-clause-over g c = record {
  goes = c.loop-client.invariant.over.goes;
  idle = λ none client inside. let below : client < c.loop-client.client = search rules in c.loop-client.invariant.over.idle none client below;
}

pub returns-clause-requests : goal.returns-clause-requests
returns-clause-requests g c =
    let all : c.loop-client.client ≡ length c.args.self.now.course.clients = search rules in
    subst (λ (n : ℕ). InOrder (λ client. Repeats c.args.moment (TakeRequest client)) n c.args.self.now.course c.loop-client.self.course) all c.loop-client.invariant.order
