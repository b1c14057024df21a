-- Hexadecimal digits.
use Rattle.std.proofs.Common.{◌≡◌, ◌∙◌, ℕ, suc, ◌*◌, ◌+◌, ◌<◌, ◌==◌, true, List, [], ◌∷◌, length, drop, get_or, Option, Some, None, refl, sym, ap, drop-cons}
use Rattle.std.specs.Option.{option_map}
use Rattle.mc_script.specs.Escapes.{hex_value}
use Rattle.mc_pool_script.specs.PoolScripts.{hex_from, hex_of, with_digit}

-- after a byte that is no digit nothing is read
hex_from-none : (digits : List ℕ) → hex_from None digits ≡ None
hex_from-none [] = refl
hex_from-none (d ∷ ds) = hex_from-none ds

hex_from-bad : (word : List ℕ) (i number : ℕ) → i < length word → hex_value (get_or word i 0) ≡ None → hex_from (Some number) (drop i word) ≡ None
hex_from-bad word i number inside read =
    let none : with_digit (Some number) (get_or word i 0) ≡ None = ap (λ (o : Option ℕ). option_map (λ d. 16 * number + d) o) read in
    ap (λ (ds : List ℕ). hex_from (Some number) ds) (drop-cons word i 0 inside) ∙ ap (λ (o : Option ℕ). hex_from o (drop (suc i) word)) none ∙ hex_from-none (drop (suc i) word)

-- a word in which a byte is no digit, after those that were read
pub hex_of-bad : (word : List ℕ) (i number : ℕ) → length word ≡ 8 → hex_from (Some number) (drop i word) ≡ hex_from (Some 0) word → i < length word
    → hex_value (get_or word i 0) ≡ None → hex_of word ≡ None
hex_of-bad word i number eight read inside none =
    let test : (length word == 8) ≡ true = rw eight refl in
    rw test (sym read ∙ hex_from-bad word i number inside none)
