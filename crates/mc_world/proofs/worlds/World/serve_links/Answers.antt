use Rattle.std.proofs.Common.{rules, ◌≡◌, ℕ, ◌||◌, length, subst}
use Rattle.mc_world.specs.Acts.{IsIdle}
use Rattle.mc_world.specs.Rounds.{Alternates, InOrder, Then}
use Rattle.mc_world.specs.Worlds.{CourseState}
use Rattle.mc_world.specs.declared.acts.Act.TheVariants.{ReachProxy, ReachServer, Serve, TakeReply}
use Rattle.mc_world.proofs.PoolEvents.AppliesLemmas.{at_error}
use Rattle.mc_world.proofs.Drain.DrainLemmas.{drained, drained_then, over_more, over_then}
use Rattle.mc_world.proofs.Drain.RoundLemmas.{order_more}
use Rattle.mc_world.proofs.worlds.World.serve_links.Goals as goal

pub returns-in_err-served-clause-err : goal.returns-in_err-served-clause-err
returns-in_err-served-clause-err g c =
    at_error _ c.from_residual.result (drained_then c.args.moment c.args.self.now c.loop-place.self c.alternate.new.self
    (drained c.args.moment c.loop-place.did c.args.self.now c.loop-place.self c.loop-place.invariant.over.goes) c.in_err-served.ensures.err)

pub returns-in_err-replied-clause-err : goal.returns-in_err-replied-clause-err
returns-in_err-replied-clause-err g c =
    at_error _ c.from_residual-in_err-replied.result (drained_then c.args.moment c.args.self.now c.loop-place.self c.alternate-in-loop-place.new.self
    (drained c.args.moment c.loop-place.did c.args.self.now c.loop-place.self c.loop-place.invariant.over.goes)
    (drained_then c.args.moment c.loop-place.self c.alternate.new.self c.alternate-in-loop-place.new.self
    (drained c.args.moment c.in_ok-served.served c.loop-place.self c.alternate.new.self c.in_ok-served.ensures.over.goes) c.in_err-replied.ensures.err))

pub loop-place-preserved : goal.loop-place-preserved
loop-place-preserved g c = record {
  over = over_more c.args.moment (λ (k : ℕ) (s : CourseState). (IsIdle c.args.moment s.pool (ReachServer c.args.proxy k) × IsIdle c.args.moment s.pool (Serve c.args.proxy k))
      × (IsIdle c.args.moment s.pool (ReachProxy c.args.proxy k) × IsIdle c.args.moment s.pool (TakeReply c.args.proxy k))) c.loop-place.did (c.in_ok-served.served || c.in_ok-replied.replied) c.loop-place.place
      c.args.self.now c.loop-place.self c.alternate-in-loop-place.new.self c.loop-place.invariant.over
      (over_then c.args.moment (λ (s : CourseState). IsIdle c.args.moment s.pool (ReachServer c.args.proxy c.loop-place.place) × IsIdle c.args.moment s.pool (Serve c.args.proxy c.loop-place.place))
      (λ (s : CourseState). IsIdle c.args.moment s.pool (ReachProxy c.args.proxy c.loop-place.place) × IsIdle c.args.moment s.pool (TakeReply c.args.proxy c.loop-place.place))
      c.in_ok-served.served c.in_ok-replied.replied c.loop-place.self c.alternate.new.self c.alternate-in-loop-place.new.self
      c.in_ok-served.ensures.over c.in_ok-replied.ensures.over);
  order = order_more (λ place. Then (Alternates c.args.moment (ReachServer c.args.proxy place) (Serve c.args.proxy place)) (Alternates c.args.moment (ReachProxy c.args.proxy place) (TakeReply c.args.proxy place)))
      c.loop-place.place c.args.self.now.course c.loop-place.self.course c.alternate-in-loop-place.new.self.course c.loop-place.invariant.order
      (c.alternate.new.self.course, c.in_ok-served.ensures.alternates, c.in_ok-replied.ensures.alternates);
}

pub returns-clause-servers : goal.returns-clause-servers
returns-clause-servers g c =
    let all : c.loop-place.place ≡ length c.args.self.now.course.pool.sites = search rules in
    subst (λ (n : ℕ). InOrder (λ place. Then (Alternates c.args.moment (ReachServer c.args.proxy place) (Serve c.args.proxy place)) (Alternates c.args.moment (ReachProxy c.args.proxy place) (TakeReply c.args.proxy place))) n
    c.args.self.now.course c.loop-place.self.course) all c.loop-place.invariant.order
