use Rattle.std.proofs.Common.{◌≡◌, ◌<◌, length, take, eqb, ap, ◌∙◌, arith, w8, map}
use Rattle.std.proofs.lemmas.List.{length-take}
use Rattle.std.proofs.lemmas.Simd.{bitmask_splat, trailing_mask_l}
use lib.Count.{count_trailing_zeros}
use lib.Lanes.{mask_l}
use Rattle.mc_script.proofs.escapes.run_in_block.Goals as goal

pub returns-else-marks-eq0 : goal.returns-else-marks-eq0
returns-else-marks-eq0 c =
    let block = take 16 c.args.text.now in
    let taken = length-take 16 c.args.text.now in
    let size : length block ≡ 16 = omega (arith, taken, c.requires) in
    let masked = bitmask_splat w8 eqb block 16 92 size (omega arith) in
    let positive : 0 < mask_l (map (λ x. eqb x 92) block) = omega (arith, masked, c.if-marks-eq0.false) in
    ap (count_trailing_zeros 64) masked ∙ trailing_mask_l (λ x. eqb x 92) 64 block (omega (arith, size)) positive
