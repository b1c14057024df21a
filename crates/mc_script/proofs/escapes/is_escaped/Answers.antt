use Rattle.std.proofs.Common.{◌≡◌, ◌∙◌, sym, length, arith}
use Rattle.mc_script.proofs.EscapeLemmas.{text_of-none_left}
use Rattle.mc_script.proofs.escapes.is_escaped.Goals as goal

pub returns : goal.returns
returns c =
    let zero : length c.loop-rest.rest.now ≡ 0 = grind (arith, c.is_empty.ensures, c.loop-rest-test.false) in
    text_of-none_left c.loop-rest.rest.now zero ∙ sym c.loop-rest.invariant
