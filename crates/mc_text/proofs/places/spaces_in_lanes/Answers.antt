use Rattle.std.proofs.Common.{◌≡◌, ◌<◌, not, length, take, eqb, ap, ◌∙◌, arith, w8, map}
use Rattle.std.proofs.lemmas.List.{length-take}
use Rattle.std.proofs.lemmas.Simd.{bitmask_splat, trailing_mask_l}
use lib.Count.{count_trailing_zeros}
use lib.Lanes.{mask_l}
use Rattle.mc_text.proofs.LaneLemmas.{run_of_spaces}
use Rattle.mc_text.proofs.places.spaces_in_lanes.Goals as goal

pub returns-else-others-eq0 : goal.returns-else-others-eq0
returns-else-others-eq0 c =
    let lanes = take 16 c.args.text.now in
    let taken = length-take 16 c.args.text.now in
    let size : length lanes ≡ 16 = omega (arith, taken, c.requires) in
    let masked = bitmask_splat w8 (λ a b. not (eqb a b)) lanes 16 32 size (omega arith) in
    let positive : 0 < mask_l (map (λ x. not (eqb x 32)) lanes) = omega (arith, masked, c.if-others-eq0.false) in
    ap (count_trailing_zeros 64) masked ∙ trailing_mask_l (λ x. not (eqb x 32)) 64 lanes (omega (arith, size)) positive ∙ run_of_spaces lanes
