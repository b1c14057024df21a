-- Limits, as a test and as a bound; several tests in one.
use Rattle.std.proofs.Common.{◌≡◌, ℕ, ◌≤◌, ◌&&◌, Bool, true, false, List, length, refl, arith}
use Rattle.std.proofs.lemmas.Bool.Decides.{nat_tests}
use Rattle.mc_text.specs.declared.blocks.TheConstants.{VALUE_LIMIT}
use Rattle.mc_request.specs.WellFormed.{is_good_block, is_u64}
use Rattle.mc_reply.specs.CanHave.{is_size, is_u32}
use Rattle.mc_codec.specs.declared.limits.TheConstants.{FLAGS_LIMIT, NUMBER_LIMIT}

pub u64_fits : (n : ℕ) → n ≤ NUMBER_LIMIT → is_u64 n ≡ true
u64_fits n h = grind (arith, nat_tests, h)

pub fits_u64 : (n : ℕ) → is_u64 n ≡ true → n ≤ NUMBER_LIMIT
fits_u64 n h = grind (arith, nat_tests, h)

pub u32_fits : (n : ℕ) → n ≤ FLAGS_LIMIT → is_u32 n ≡ true
u32_fits n h = grind (arith, nat_tests, h)

pub fits_u32 : (n : ℕ) → is_u32 n ≡ true → n ≤ FLAGS_LIMIT
fits_u32 n h = grind (arith, nat_tests, h)

pub size_fits : (n : ℕ) → n ≤ VALUE_LIMIT → is_size n ≡ true
size_fits n h = grind (arith, nat_tests, h)

pub fits_size : (n : ℕ) → is_size n ≡ true → n ≤ VALUE_LIMIT
fits_size n h = grind (arith, nat_tests, h)

-- a value of a size that fits
pub block_fits : (block : List ℕ) (n : ℕ) → n ≤ VALUE_LIMIT → length block ≡ n → is_good_block block ≡ true
block_fits block n h e = grind (arith, nat_tests, h, e)

pub fits_block : (block : List ℕ) → is_good_block block ≡ true → length block ≤ VALUE_LIMIT
fits_block block h = grind (arith, nat_tests, h)

pub all_two : (a b : Bool) → a ≡ true → b ≡ true → (a && b) ≡ true
all_two a b ea eb = rw (ea, eb) refl

pub two_of : (a b : Bool) → (a && b) ≡ true → (a ≡ true) × (b ≡ true)
two_of true b h = (refl, h)
two_of false b h = absurd (cc)

pub all_three : (a b c : Bool) → a ≡ true → b ≡ true → c ≡ true → (a && b && c) ≡ true
all_three a b c ea eb ec = rw (ea, eb, ec) refl

pub three_of : (a b c : Bool) → (a && b && c) ≡ true → (a ≡ true) × (b ≡ true) × (c ≡ true)
three_of true true c h = (refl, refl, h)
three_of true false c h = absurd (cc)
three_of false b c h = absurd (cc)

pub all_four : (a b c d : Bool) → a ≡ true → b ≡ true → c ≡ true → d ≡ true → (a && b && c && d) ≡ true
all_four a b c d ea eb ec ed = rw (ea, eb, ec, ed) refl

pub four_of : (a b c d : Bool) → (a && b && c && d) ≡ true → (a ≡ true) × (b ≡ true) × (c ≡ true) × (d ≡ true)
four_of true true true d h = (refl, refl, refl, h)
four_of true true false d h = absurd (cc)
four_of true false c d h = absurd (cc)
four_of false b c d h = absurd (cc)
