use Rattle.std.proofs.Common.{rules, ◌≡◌, ◌∙◌, length, refl, sym, arith}
use Rattle.mc_world.specs.WorldState.{home_of}
use Rattle.mc_world.proofs.Drain.EndLemmas.{all_gone, dying_none, goes, gone_next}
use Rattle.mc_world.proofs.worlds.World.lose_clients.Goals as goal
use Rattle.mc_world.proofs.worlds.World.lose_clients.Goals.{else-home-proxy, then-home-proxy+in_ok-lose_client}

pub loop-client-init : goal.loop-client-init
loop-client-init g c = record {
  dying = dying_none c.args.proxy c.args.self.now.course;
  gone = λ client below. absurd (omega (arith, below));
  opened = (refl, refl, refl, refl);
}

-- one client more has gone, or is another proxy's
pub loop-client-preserved : goal.loop-client-preserved
loop-client-preserved g c = elim c.if-home-proxy.branch [
  | then-home-proxy+in_ok-lose_client w ↦
      let own : home_of c.loop-client.self.course.pool c.loop-client.client ≡ c.args.proxy = search rules in
      let step = w.in_ok-lose_client.ensures.opened in
      let before = c.loop-client.invariant.opened in
      let went = goes c.args.proxy c.loop-client.client w.in_ok-lose_client.field-0 c.args.self.now.course c.loop-client.self.course w.lose_client.new.self.course c.loop-client.invariant.dying own
      w.in_ok-lose_client.ensures.steps in
      rw w.self-is (record {
        dying = went.dying;
        gone = gone_next c.args.proxy c.loop-client.client c.args.self.now.course c.loop-client.self.course w.lose_client.new.self.course c.loop-client.invariant.gone
            (went.dying.homes ∙ sym c.loop-client.invariant.dying.homes) went.closed (λ _. went.gone);
        opened = (step.0 ∙ before.0, step.1 ∙ before.1, step.2 ∙ before.2, step.3 ∙ before.3);
      })
  | else-home-proxy w ↦
      let told : c.home.result ≡ home_of c.loop-client.self.course.pool c.loop-client.client = search rules in
      rw w.self-is (record {
        dying = c.loop-client.invariant.dying;
        gone = gone_next c.args.proxy c.loop-client.client c.args.self.now.course c.loop-client.self.course c.loop-client.self.course c.loop-client.invariant.gone refl (λ other none. none)
            (λ own. absurd (w.if-home-proxy.false (told ∙ own)));
        opened = c.loop-client.invariant.opened;
      })
]

pub returns-clause-gone : goal.returns-clause-gone
returns-clause-gone g c =
    let all : c.loop-client.client ≡ length c.args.self.now.course.clients = search rules in
    let many = c.loop-client.invariant.dying.clients in
    all_gone c.args.proxy c.loop-client.client c.loop-client.self.course c.serves.ensures (omega (arith, all, many)) c.loop-client.invariant.gone
