use Rattle.std.proofs.Common.{sym, ◌∙◌}
use Rattle.mc_pool_script.proofs.PointLemmas.{hex_of-bad}
use Rattle.mc_pool_script.proofs.points.read_hex.Goals as goal

pub returns-in_err-value : goal.returns-in_err-value
returns-in_err-value c =
    c.from_residual.ensures
    ∙ sym (hex_of-bad c.args.word.now c.loop-digit.digit-index c.loop-digit.number c.if-word-ne-DIGITS.false c.loop-digit.invariant.read c.loop-digit-test.true (sym c.hex_value.ensures.value ∙ c.in_err-value.was))
