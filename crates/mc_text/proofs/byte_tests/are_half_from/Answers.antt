use Rattle.std.proofs.Common.{◌≡◌, ℕ, true, false, not, length, take, eqb, sym, ap, ◌∙◌, arith, w8, ne_eqb}
use Rattle.std.proofs.lemmas.List.{length-take}
use Rattle.std.proofs.lemmas.Simd.{bitmask_splat}
use lib.Dec.{ltb}
use Rattle.std.specs.List.{list_all}
use Rattle.mc_text.proofs.TestLemmas.{none_by_mask, from_parts, first_part, second_part}
use Rattle.mc_text.proofs.byte_tests.are_half_from.Goals as goal

pub returns-then-lower-eq0 : goal.returns-then-lower-eq0
returns-then-lower-eq0 c =
    let lanes = take 8 c.args.text.now in
    let size : length lanes ≡ 8 = omega (arith, length-take 8 c.args.text.now, c.requires) in
    let lower = bitmask_splat w8 ltb lanes 8 c.args.least size (omega arith) in
    let none : list_all (λ x. not (ltb x c.args.least)) lanes ≡ true =
    sym (none_by_mask (λ x. ltb x c.args.least) lanes) ∙ ap (λ (n : ℕ). eqb n 0) (sym lower ∙ c.if-lower-eq0.true) in
    ap (λ (n : ℕ). eqb n 0) (bitmask_splat w8 eqb lanes 8 127 size (omega arith)) ∙ none_by_mask (λ x. eqb x 127) lanes
    ∙ second_part (list_all (λ x. not (ltb x c.args.least)) lanes) (list_all (λ x. not (eqb x 127)) lanes) _ none (from_parts c.args.least lanes)

pub returns-else-lower-eq0 : goal.returns-else-lower-eq0
returns-else-lower-eq0 c =
    let lanes = take 8 c.args.text.now in
    let size : length lanes ≡ 8 = omega (arith, length-take 8 c.args.text.now, c.requires) in
    let lower = bitmask_splat w8 ltb lanes 8 c.args.least size (omega arith) in
    let low_is = ap (λ (n : ℕ). eqb n 0) lower ∙ none_by_mask (λ x. ltb x c.args.least) lanes in
    let some : list_all (λ x. not (ltb x c.args.least)) lanes ≡ false = sym low_is ∙ ne_eqb _ 0 c.if-lower-eq0.false in
    low_is ∙ first_part (list_all (λ x. not (ltb x c.args.least)) lanes) (list_all (λ x. not (eqb x 127)) lanes) _ some (from_parts c.args.least lanes)
