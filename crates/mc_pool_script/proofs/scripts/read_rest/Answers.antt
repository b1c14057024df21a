use Rattle.std.proofs.Common.{◌∙◌, sym}
use Rattle.mc_pool_script.specs.PoolScripts.{read_more}
use Rattle.mc_pool_script.proofs.PoolLemmas.{gives_none, gives_some, read_all-bad, read_all-more, read_all-nil}
use Rattle.mc_pool_script.proofs.scripts.read_rest.Goals as goal

pub returns-then-not-more-clause-error : goal.returns-then-not-more-clause-error
returns-then-not-more-clause-error c =
    let none = gives_none c.in_ok-more.more (read_more c.loop-number.script c.in-Some.line.now) c.read.new.self c.if-not-more.true c.in_ok-more.ensures.read in
    sym c.loop-number.invariant ∙ read_all-bad c.loop-number.script c.in-Some.number c.in-Some.line.now c.loop-number.number-iterator c.next.new.self c.in-Some.ensures.steps none

pub loop-number-preserved : goal.loop-number-preserved
loop-number-preserved c =
    let some = gives_some c.in_ok-more.more (read_more c.loop-number.script c.in-Some.line.now) c.read.new.self c.if-not-more.false c.in_ok-more.ensures.read in
    read_all-more c.loop-number.script c.read.new.self c.in-Some.number c.in-Some.line.now c.loop-number.number-iterator c.next.new.self c.in-Some.ensures.steps some
    ∙ c.loop-number.invariant

pub returns-clause-script : goal.returns-clause-script
returns-clause-script c = sym c.loop-number.invariant ∙ read_all-nil c.loop-number.script c.loop-number.number-iterator c.in-None.ensures.steps.0
