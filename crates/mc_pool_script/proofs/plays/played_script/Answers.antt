use Rattle.std.proofs.Common.{◌≡◌, ◌<◌, ◌+◌, List, length, get_or, sym, subst}
use Rattle.mc_world.specs.declared.errors.Step.{Step}
use Rattle.mc_pool_script.proofs.PlayLemmas.{PlayedTo, plays_one}
use Rattle.mc_pool_script.proofs.plays.played_script.Goals as goal

pub loop-line-preserved : goal.loop-line-preserved
loop-line-preserved g c =
    let script = c.args.script.now in
    let i = c.loop-line.line-index in
    let line = c.line-item.result in
    let inside : i < length script.lines = rw (← c.lines-line-items.ensures.lines) c.loop-line-test.true in
    let is : get_or script.lines i line ≡ line = rw (← c.lines-line-items.ensures.lines) (sym c.line-item.is) in
    subst (λ (steps : List Step). PlayedTo script (i + 1) steps c.play.new.world) (sym c.in_ok-push.ensures.items)
    (plays_one script i c.loop-line.steps.items line c.in_ok-play.field-0 c.loop-line.world c.play.new.world inside is c.loop-line.invariant
    c.in_ok-play.ensures.plays c.in_ok-play.ensures.keeps c.in_ok-play.ensures.account)
