use Rattle.std.specs.Prelude.{◌≡◌, ℕ, suc, ◌+◌, ◌*◌, ◌/◌, length}
use Rattle.std.proofs.Common.{refl, arith}
use Rattle.mc_table.specs.Hashes.{after_words, write}
use Rattle.mc_table.proofs.key_hashers.KeyHasherHasher.write.Goals as goal

pub loop-at-init : goal.loop-at-init
unfolding after_words
loop-at-init c = (refl, omega arith, refl)

pub loop-at-preserved : goal.loop-at-preserved
unfolding after_words
loop-at-preserved c =
    let at : ℕ = c.loop-at.at in
    let whole : at ≡ 8 * (at / 8) = omega (arith, c.loop-at.invariant.0) in
    let more : (at + 8) / 8 ≡ suc (at / 8) = omega arith in (
      omega (arith, c.loop-at.invariant.0),
      omega arith,
      rw (more, c.folded_product-state.ensures, c.word_at.ensures, ← c.loop-at.invariant.2, ← whole),
    )

pub returns : goal.returns
unfolding write
returns c =
    let n : ℕ = length c.args.bytes.now in
    let count : n / 8 ≡ c.loop-at.at / 8 = omega (arith, c.loop-at.invariant.0, c.loop-at.invariant.1, c.loop-at-test.false) in
    let whole : c.loop-at.at ≡ 8 * (c.loop-at.at / 8) = omega (arith, c.loop-at.invariant.0) in
    rw (count, ← c.loop-at.invariant.2, ← whole, c.folded_product-self.ensures, c.folded_product-last.ensures, c.rest_from.ensures)
