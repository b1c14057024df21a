-- Numbers that are spelled in decimal digits: each is read as itself.
use Rattle.std.proofs.Common.{◌≡◌, ℕ, suc, ◌<◌, ◌≤◌, ◌^◌, true, List, [], ◌∷◌, length, Some, nat_lt, nat_le, eqb, decimal, pos, negsuc, arith}
use Rattle.std.specs.Char.{is_ascii_digit}
use Rattle.std.specs.List.{list_all}
use Rattle.std.specs.Option.{option_map}
use Rattle.std.proofs.lemmas.Bool.{and_parts}
use Rattle.std.proofs.lemmas.Bool.Decides.{nat_tests}
use Rattle.std.proofs.lemmas.Fmt.{decimal_nonempty, length-decimal-le, digits_decimal, digits_value-decimal}
use Rattle.mc_text.specs.Numbers.{number, read_u64, read_flags, read_len, read_i64}
use Rattle.mc_text.proofs.NumberLemmas.{own}

-- a number is read as itself, below a bound and of no more digits than are read
number-decimal : (most bound n : ℕ) → n < 2 ^ 64 → n < bound → length (decimal n) ≤ most → number most bound (decimal n) ≡ Some n
number-decimal most bound n small below few =
    grind (arith, nat_lt, nat_le, decimal, nat_tests, decimal_nonempty, digits_decimal, digits_value-decimal, own)

pub length-decimal_64 : (n : ℕ) → n < 2 ^ 64 → length (decimal n) ≤ 20
length-decimal_64 n small = length-decimal-le 20 n (omega arith) (omega arith) small

pub read_u64-decimal : (n : ℕ) → n < 2 ^ 64 → read_u64 (decimal n) ≡ Some n
read_u64-decimal n small = number-decimal 20 (2 ^ 64) n small small (length-decimal_64 n small)

pub read_flags-decimal : (n : ℕ) → n < 2 ^ 32 → read_flags (decimal n) ≡ Some n
read_flags-decimal n small = number-decimal 20 (2 ^ 32) n (omega arith) small (length-decimal_64 n (omega arith))

pub read_len-decimal : (n : ℕ) → n ≤ 1048576 → read_len (decimal n) ≡ Some n
read_len-decimal n small =
    number-decimal 10 (2 ^ 31) n (omega arith) (omega arith) (length-decimal-le 10 n (omega arith) (omega arith) (omega arith))

-- digits have no minus in front
read_i64-digits : (digits : List ℕ) → 0 < length digits → list_all is_ascii_digit digits ≡ true → read_i64 digits ≡ option_map pos (number 20 (2 ^ 63) digits)
read_i64-digits [] some are = absurd (omega arith)
read_i64-digits (b ∷ bs) some are = grind (arith, eqb, and_parts, nat_tests)

pub read_i64-pos : (n : ℕ) → n < 2 ^ 63 → read_i64 (decimal n) ≡ Some (pos n)
read_i64-pos n small = grind (arith, decimal, decimal_nonempty, digits_decimal, own, number-decimal, length-decimal_64, read_i64-digits)

pub read_i64-negsuc : (n : ℕ) → n < 2 ^ 63 → read_i64 (45 ∷ decimal (suc n)) ≡ Some (negsuc n)
read_i64-negsuc n small = grind (arith, number-decimal, length-decimal_64)
