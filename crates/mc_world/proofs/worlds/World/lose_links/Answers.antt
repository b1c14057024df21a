use Rattle.std.proofs.Common.{rules, ◌≡◌, ◌∙◌, length, refl, arith}
use Rattle.mc_world.proofs.Drain.EndLemmas.{all_down, down_next, dying_none, loses_link, still_none}
use Rattle.mc_world.proofs.worlds.World.lose_links.Goals as goal

pub loop-server-init : goal.loop-server-init
loop-server-init g c = record {
  dying = dying_none c.args.proxy c.args.self.now.course;
  down = λ place below. absurd (omega (arith, below));
  gone = c.requires.gone;
  opened = (refl, refl, refl, refl);
}

-- one link more is down
pub loop-server-preserved : goal.loop-server-preserved
loop-server-preserved g c =
    let step = c.in_ok-lose_link.ensures.opened in
    let before = c.loop-server.invariant.opened in
    let lost = loses_link c.args.proxy c.loop-server.server c.in_ok-lose_link.field-0 c.args.self.now.course c.loop-server.self.course c.lose_link.new.self.course c.loop-server.invariant.dying
    c.in_ok-lose_link.ensures.steps in
    record {
      dying = lost.dying;
      down = down_next c.args.proxy c.loop-server.server c.args.self.now.course c.loop-server.self.course c.lose_link.new.self.course c.loop-server.invariant.down lost;
      gone = still_none c.args.proxy c.args.self.now.course c.loop-server.self.course c.lose_link.new.self.course c.loop-server.invariant.dying c.loop-server.invariant.gone lost;
      opened = (step.0 ∙ before.0, step.1 ∙ before.1, step.2 ∙ before.2, step.3 ∙ before.3);
    }

pub returns-clause-anew : goal.returns-clause-anew
returns-clause-anew g c =
    let all : c.loop-server.server ≡ length c.args.self.now.course.pool.sites = search rules in
    let many = c.loop-server.invariant.dying.sites in
    all_down c.args.proxy c.loop-server.server c.loop-server.self.course c.serves.ensures (omega (arith, all, many)) c.loop-server.invariant.down c.loop-server.invariant.gone
