use Rattle.std.proofs.Common.{ℕ, sym, ◌∙◌, refl}
use Rattle.mc_script.specs.Lines.{lines_from}
use Rattle.mc_script.specs.Scripts.{events_of}
use Rattle.mc_script.proofs.ScriptLemmas.{bad_line-events, script_of_lines-nil, script_of_lines-bad, script_of_lines-server}
use Rattle.mc_script.proofs.scripts.bad_line.Goals as goal

pub returns-in_default : goal.returns-in_default
returns-in_default c = rw (script_of_lines-nil (lines_from 1 c.args.input.now) (sym c.lines_of-lines.ensures ∙ c.in_default.ensures.steps.0)) refl

pub returns-in_default-read_server : goal.returns-in_default-read_server
returns-in_default-read_server c =
    let none = sym c.read_server.ensures.server ∙ c.in_default-read_server.is in
    rw (script_of_lines-bad c.in-Some.number c.in-Some.line.now (lines_from 1 c.args.input.now) c.next.new.self (sym c.lines_of-lines.ensures ∙ c.in-Some.ensures.steps) none) refl

pub returns : goal.returns
returns c =
    let server : ℕ × ℕ × ℕ = (c.in-Some-read_server.connections, _, _) in
    let is = sym c.read_server.ensures.server ∙ c.in-Some-read_server.is in
    let lines = script_of_lines-server c.in-Some.number c.in-Some.line.now (lines_from 1 c.args.input.now) c.next.new.self server (sym c.lines_of-lines.ensures ∙ c.in-Some.ensures.steps) is in
    c.bad_event.ensures ∙ rw lines (bad_line-events server (events_of c.in-Some-read_server.connections c.next.new.self))
