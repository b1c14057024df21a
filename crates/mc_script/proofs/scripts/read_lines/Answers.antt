use Rattle.std.proofs.Common.{ℕ, sym, ◌∙◌, refl}
use Rattle.std.proofs.lemmas.Result.{err_from_is_err_and}
use Rattle.mc_script.specs.Lines.{lines_from}
use Rattle.mc_script.proofs.ScriptLemmas.{script_of_lines-nil, script_of_lines-bad, script_of_lines-server, explains-more}
use Rattle.mc_script.proofs.scripts.read_lines.Goals as goal

pub returns-in_default-clause-error : goal.returns-in_default-clause-error
returns-in_default-clause-error c = script_of_lines-nil (lines_from 1 c.args.input.now) (sym c.lines_of-lines.ensures ∙ c.in_default.ensures.steps.0)

pub returns-in_default-read_server-clause-error : goal.returns-in_default-read_server-clause-error
returns-in_default-read_server-clause-error c =
    let none = sym c.read_server.ensures.server ∙ c.in_default-read_server.is in
    script_of_lines-bad c.in-Some.number c.in-Some.line.now (lines_from 1 c.args.input.now) c.next.new.self (sym c.lines_of-lines.ensures ∙ c.in-Some.ensures.steps) none

pub returns-in_err-events-clause-error : goal.returns-in_err-events-clause-error
returns-in_err-events-clause-error c =
    let p = err_from_is_err_and c.from_residual.result c.from_residual.ensures.1 in
    let server : ℕ × ℕ × ℕ = (c.in-Some-read_server.connections, c.in-Some-read_server.budget, c.in-Some-read_server.items) in
    let is = sym c.read_server.ensures.server ∙ c.in-Some-read_server.is in
    let lines = script_of_lines-server c.in-Some.number c.in-Some.line.now (lines_from 1 c.args.input.now) c.next.new.self server (sym c.lines_of-lines.ensures ∙ c.in-Some.ensures.steps) is in
    rw (p.1, p.2, lines) (explains-more c.in_err-events.field-0.0 server _ c.in_err-events.ensures.error)

pub returns-clause-script : goal.returns-clause-script
returns-clause-script c =
    let server : ℕ × ℕ × ℕ = (c.in-Some-read_server.connections, c.in-Some-read_server.budget, c.in-Some-read_server.items) in
    let is = sym c.read_server.ensures.server ∙ c.in-Some-read_server.is in
    let lines = script_of_lines-server c.in-Some.number c.in-Some.line.now (lines_from 1 c.args.input.now) c.next.new.self server (sym c.lines_of-lines.ensures ∙ c.in-Some.ensures.steps) is in
    rw (lines, c.in_ok-events.ensures.events) refl
