use Rattle.std.proofs.Common.{rules, ◌≡◌, ◌∙◌, true, false}
use Rattle.std.specs.Prelude.{is_some}
use Rattle.mc_script.specs.Scripts.{event_of}
use Rattle.mc_script.proofs.ScriptLemmas.{bad_line-here, bad_line-nil, bad_line-past}
use Rattle.mc_script.proofs.scripts.bad_event.Goals as goal

pub returns-then-not-is_event : goal.returns-then-not-is_event
returns-then-not-is_event c =
    let none : is_some (event_of c.args.connections c.in-Some.line.now) ≡ false = search rules in
    bad_line-here c.args.connections c.in-Some.number c.in-Some.line.now c.loop-number.number-iterator c.next.new.self c.in-Some.ensures.steps none ∙ c.loop-number.invariant

pub loop-number-preserved : goal.loop-number-preserved
loop-number-preserved c =
    let some : is_some (event_of c.args.connections c.in-Some.line.now) ≡ true = search rules in
    bad_line-past c.args.connections c.in-Some.number c.in-Some.line.now c.loop-number.number-iterator c.next.new.self c.in-Some.ensures.steps some ∙ c.loop-number.invariant

pub returns : goal.returns
returns c = bad_line-nil c.args.connections c.loop-number.number-iterator c.in-None.ensures.steps.0 ∙ c.loop-number.invariant
