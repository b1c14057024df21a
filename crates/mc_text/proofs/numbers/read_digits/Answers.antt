use Rattle.std.proofs.Common.{◌∙◌, sym, length, arith}
use Rattle.mc_text.proofs.DigitLemmas.{not_empty, read_whole, stopped}
use Rattle.mc_text.proofs.numbers.read_digits.Goals as goal

pub returns-in_err-value : goal.returns-in_err-value
returns-in_err-value c =
    let word = c.args.word.now in
    let some = not_empty (length word) c.is_empty.result c.is_empty.ensures c.if-is_empty.false in
    c.from_residual.ensures
    ∙ sym (stopped c.args.most word c.loop-byte.value c.loop-byte.byte-index some (omega (arith, c.if-word-most.false)) (omega (arith, c.loop-byte-test.true))
    c.loop-byte.invariant.0 c.loop-byte.invariant.1 (sym c.with_digit.ensures ∙ c.in_err-value.was))

pub returns : goal.returns
returns c =
    let word = c.args.word.now in
    let some = not_empty (length word) c.is_empty.result c.is_empty.ensures c.if-is_empty.false in
    read_whole c.args.most word c.loop-byte.value c.loop-byte.byte-index some (omega (arith, c.if-word-most.false)) (omega (arith, c.loop-byte-test.false))
    c.loop-byte.invariant.2 c.loop-byte.invariant.0 c.loop-byte.invariant.1
