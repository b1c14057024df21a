use Rattle.std.proofs.Common.{rules, ◌≡◌, ℕ, ◌<◌, length, sym, subst}
use Rattle.mc_world.specs.Acts.{NoServer}
use Rattle.mc_world.specs.Rounds.{Alternates, EachServer, InOrder, Then}
use Rattle.mc_world.specs.Worlds.{CourseState}
use Rattle.mc_world.specs.declared.acts.Act.TheVariants.{ReachProxy, ReachServer, Serve, TakeReply}
use Rattle.mc_world.proofs.PoolEvents.AppliesLemmas.{at_error}
use Rattle.mc_world.proofs.Drain.DrainLemmas.{drained, drained_then, over_more}
use Rattle.mc_world.proofs.Drain.RoundLemmas.{order_more}
use Rattle.mc_world.proofs.worlds.World.serve_all.Goals as goal

pub returns-in_err-one-clause-err : goal.returns-in_err-one-clause-err
returns-in_err-one-clause-err g c =
    at_error _ c.from_residual.result (drained_then c.args.moment c.args.self.now c.loop-proxy.self c.serve_links.new.self
    (drained c.args.moment c.loop-proxy.did c.args.self.now c.loop-proxy.self c.loop-proxy.invariant.over.goes) c.in_err-one.ensures.err)

pub loop-proxy-preserved : goal.loop-proxy-preserved
loop-proxy-preserved g c = record {
  over = over_more c.args.moment (λ (k : ℕ) (s : CourseState). NoServer c.args.moment (λ place. ReachServer k place) s × NoServer c.args.moment (λ place. Serve k place) s
      × NoServer c.args.moment (λ place. ReachProxy k place) s × NoServer c.args.moment (λ place. TakeReply k place) s) c.loop-proxy.did c.in_ok-one.one c.loop-proxy.proxy
      c.args.self.now c.loop-proxy.self c.serve_links.new.self c.loop-proxy.invariant.over c.in_ok-one.ensures.over;
  order = order_more (λ proxy. EachServer (λ place. Then (Alternates c.args.moment (ReachServer proxy place) (Serve proxy place)) (Alternates c.args.moment (ReachProxy proxy place) (TakeReply proxy place))))
      c.loop-proxy.proxy c.args.self.now.course c.loop-proxy.self.course c.serve_links.new.self.course c.loop-proxy.invariant.order c.in_ok-one.ensures.servers;
}

-- each link of each proxy is idle if no proxy did anything
pub returns-clause-over : goal.returns-clause-over
returns-clause-over g c =
    let all : c.loop-proxy.proxy ≡ length c.args.self.now.course.pool.proxies = search rules in
    record {
      goes = c.loop-proxy.invariant.over.goes;
      idle = λ none. let each = c.loop-proxy.invariant.over.idle none in
          let inside : (proxy : ℕ) → proxy < length c.args.self.now.course.pool.proxies → proxy < c.loop-proxy.proxy = λ proxy below. subst (λ (n : ℕ). proxy < n) (sym all) below in (
            λ proxy place below there. (each proxy (inside proxy below)).0 place there,
            λ proxy place below there. (each proxy (inside proxy below)).1 place there,
            λ proxy place below there. (each proxy (inside proxy below)).2 place there,
            λ proxy place below there. (each proxy (inside proxy below)).3 place there,
          );
    }

pub returns-clause-servers : goal.returns-clause-servers
returns-clause-servers g c =
    let all : c.loop-proxy.proxy ≡ length c.args.self.now.course.pool.proxies = search rules in
    subst (λ (n : ℕ). InOrder (λ proxy. EachServer (λ place. Then (Alternates c.args.moment (ReachServer proxy place) (Serve proxy place))
    (Alternates c.args.moment (ReachProxy proxy place) (TakeReply proxy place)))) n c.args.self.now.course c.loop-proxy.self.course) all c.loop-proxy.invariant.order
