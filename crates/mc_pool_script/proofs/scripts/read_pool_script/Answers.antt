use Rattle.std.proofs.Common.{◌≡◌, ◌∙◌, sym, subst, Result, Ok, ℕ, None, Some}
use Rattle.std.specs.Result.{IfErr, IfOk}
use Rattle.mc_script.specs.Lines.{lines_from}
use Rattle.mc_script.specs.ScriptSeen.{Explains}
use Rattle.mc_pool_script.specs.PoolScripts.{PoolSeen, head_of}
use Rattle.mc_pool_script.proofs.PoolLemmas.{pool_of_lines-bad, pool_of_lines-head, pool_of_lines-nil}
use Rattle.mc_pool_script.proofs.scripts.read_pool_script.Goals as goal

pub returns-in_default-clause-error : goal.returns-in_default-clause-error
returns-in_default-clause-error c = pool_of_lines-nil (lines_from 1 c.args.input.now) (sym c.lines_of-lines.ensures ∙ c.in_default.ensures.steps.0)

pub returns-in_default-2-clause-error : goal.returns-in_default-2-clause-error
returns-in_default-2-clause-error c =
    let none : head_of c.in-Some.line.now ≡ None = sym c.in_ok-script.ensures.head ∙ c.in_default-2.is in
    pool_of_lines-bad c.in-Some.number c.in-Some.line.now (lines_from 1 c.args.input.now) c.next.new.self (sym c.lines_of-lines.ensures ∙ c.in-Some.ensures.steps) none

pub returns-clause-script : goal.returns-clause-script
returns-clause-script c =
    let head : head_of c.in-Some.line.now ≡ Some c.in-Some-2.script = sym c.in_ok-script.ensures.head ∙ c.in-Some-2.is in
    let lines = pool_of_lines-head c.in-Some.number c.in-Some.line.now (lines_from 1 c.args.input.now) c.next.new.self c.in-Some-2.script (sym c.lines_of-lines.ensures ∙ c.in-Some.ensures.steps) head in
    subst (λ (r : Result PoolSeen ℕ). IfOk c.read_rest.result (λ script. r ≡ Ok script)) (sym lines) c.read_rest.ensures.script

pub returns-clause-error : goal.returns-clause-error
returns-clause-error c =
    let head : head_of c.in-Some.line.now ≡ Some c.in-Some-2.script = sym c.in_ok-script.ensures.head ∙ c.in-Some-2.is in
    let lines = pool_of_lines-head c.in-Some.number c.in-Some.line.now (lines_from 1 c.args.input.now) c.next.new.self c.in-Some-2.script (sym c.lines_of-lines.ensures ∙ c.in-Some.ensures.steps) head in
    subst (λ (r : Result PoolSeen ℕ). IfErr c.read_rest.result (λ error. Explains error r)) (sym lines) c.read_rest.ensures.error
