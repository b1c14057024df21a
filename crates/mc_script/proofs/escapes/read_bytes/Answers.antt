use Rattle.std.proofs.Common.{◌≡◌, length, arith}
use Rattle.mc_script.proofs.EscapeLemmas.{text_of-read}
use Rattle.mc_script.proofs.escapes.read_bytes.Goals as goal

pub returns : goal.returns
returns c =
    let zero : length c.loop-rest.rest.now ≡ 0 = grind (arith, c.is_empty.ensures, c.loop-rest-test.false) in
    text_of-read c.args.text.now c.loop-rest.rest.now c.loop-rest.bytes.items c.loop-rest.invariant zero
