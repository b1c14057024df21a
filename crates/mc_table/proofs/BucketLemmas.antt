-- How many buckets there are: what doubling leads to.
use Rattle.std.proofs.Common.{◌≡◌, ℕ, suc, ◌+◌, ◌*◌, ◌^◌, ◌<◌, ◌≤◌, sym, ap, ◌∙◌, refl, pow-suc, arith}

-- what was doubled so far
pub record Doubles (most buckets : ℕ) : Type 0 where
  pub power : (k : ℕ) × (buckets ≡ 2 ^ k)
  pub some : 2 ^ 4 ≤ buckets
  pub low : 2 ^ 4 < buckets → buckets < 2 * most

pub undoubled : (most : ℕ) → Doubles most 16
undoubled most = record { power = (4, refl); some = omega arith; low = λ high. absurd (omega arith) }

pub doubled : (most buckets new : ℕ) → Doubles most buckets → buckets < most → new ≡ buckets * 2 → Doubles most new
doubled most buckets new so_far less is =
    let more : so_far.power.0 + 1 ≡ suc so_far.power.0 = omega arith in
    record {
      power = (so_far.power.0 + 1, is ∙ ap (λ (n : ℕ). n * 2) so_far.power.1 ∙ sym (pow-suc 2 so_far.power.0) ∙ ap (λ (n : ℕ). 2 ^ n) (sym more));
      some = omega (arith, so_far.some);
      low = λ high. omega arith;
    }
