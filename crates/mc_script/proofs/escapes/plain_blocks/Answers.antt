use Rattle.std.proofs.Common.{◌∙◌, length, ap, sym, arith}
use Rattle.std.proofs.lemmas.List.{length-drop}
use Rattle.std.specs.List.{prefix_len}
use Rattle.mc_script.specs.Escapes.{is_plain}
use Rattle.mc_script.proofs.EscapeLemmas.{run_past}
use Rattle.mc_script.proofs.escapes.plain_blocks.Goals as goal

pub loop-rest-smaller : goal.loop-rest-smaller
loop-rest-smaller c =
    let rest = c.loop-rest.rest.now in
    let past = run_past 16 rest (sym c.begins_with_plain_block.ensures ∙ c.loop-rest-test.true) in
    let size = ap length c.split_at.ensures.back ∙ length-drop 16 rest in
    omega (arith, past.0, size)

pub loop-rest-preserved : goal.loop-rest-preserved
loop-rest-preserved c =
    let rest = c.loop-rest.rest.now in
    let past = run_past 16 rest (sym c.begins_with_plain_block.ensures ∙ c.loop-rest-test.true) in
    let size = ap length c.split_at.ensures.back ∙ length-drop 16 rest in
    let left = ap (prefix_len is_plain) c.split_at.ensures.back in
    (omega (arith, past.0, size, c.loop-rest.invariant.0), omega (arith, past.0, past.1, size, left, c.loop-rest.invariant.1))

pub overflow_sub-result : goal.overflow_sub-result
overflow_sub-result c = c.loop-rest.invariant.0

pub returns : goal.returns
returns c = omega (arith, c.loop-rest.invariant.0, c.loop-rest.invariant.1)
