-- The bytes that a word encodes in base64 are bytes.
use Rattle.std.proofs.Common.{◌≡◌, ℕ, zero, suc, ◌+◌, ◌*◌, ◌<◌, true, List, [], ◌∷◌, length, drop, slice_index, Option, Some, None, refl, ◌∙◌, ◌⊎◌, arith, inl, inr}
use Rattle.std.proofs.lemmas.Bool.{and_parts, and_from, lt-ltb}
use Rattle.std.proofs.lemmas.Bool.Decides.{nat_tests}
use Rattle.std.proofs.lemmas.List.Folds.{list_all-append}
use Rattle.std.specs.Result.{result_ok}
use Rattle.std.specs.declared.result.Result.{Result}
use Rattle.std.specs.declared.result.Result.TheVariants.{Ok, Err}
use Rattle.base64.specs.Decode.{IsDecodeTable, decode_error, decode_group, decode_outcome, decoded_bytes, group_bytes, group_error, groups_before_last, groups_bytes, groups_error, lone_error, no_leftover, or_else, push_leftover, scan_bytes, scan_last, scan_steps, symbol_error}
use Rattle.base64.specs.Engines.{standard}
use Rattle.base64.specs.GeneralPurpose.{IsBytes, decode_of, decoded_of}
use Rattle.base64.specs.declared.decode.DecodeError.{DecodeError}
use Rattle.base64.specs.declared.engine.general_purpose.GeneralPurpose.{GeneralPurpose}
use Rattle.base64.proofs.Decoding.{IsLeftover, IsLeftover_next}
use Rattle.base64.proofs.Tables.{are_tables_inverse, IsDecodeTable_from}
use Rattle.mc_text.specs.CodedKeys.{bytes_of_base64, coded_key}
use Rattle.mc_text.proofs.ByteLemmas.{is_byte, all_bytes, bytes_all, list_all-take, list_all-drop}
use Rattle.mc_text.proofs.CodedLemmas.{are_bytes, said_key}

-- four values of six bits make three bytes
group_small : (m0 m1 m2 m3 : ℕ) → m0 < 64 → m1 < 64 → m2 < 64 → m3 < 64 → all_bytes (decode_group m0 m1 m2 m3) ≡ true
group_small m0 m1 m2 m3 l0 l1 l2 l3 = grind (arith, lt-ltb)

-- both of two errors, of which there is none
neither : (x y : Option DecodeError) → or_else x y ≡ None → (x ≡ None) × (y ≡ None)
neither None y h = (refl, h)
neither (Some e) y h = cc h

-- a byte with no error stands for a value of six bits
value_small : (dec s : List ℕ) (i : ℕ) → IsDecodeTable dec → IsBytes s → symbol_error dec s i ≡ None → slice_index dec (slice_index s i) < 64
value_small dec s i table bytes none = grind (arith, slice_index)

groups_small : (dec s : List ℕ) (q : ℕ) → IsDecodeTable dec → IsBytes s → groups_error dec s q ≡ None → all_bytes (groups_bytes dec s q) ≡ true
unfolding groups_error groups_bytes
groups_small dec s zero table bytes none = refl
groups_small dec s (suc q) table bytes none =
    let i : ℕ = 4 * q in
    let parts = neither (groups_error dec s q) (group_error dec s i) none in
    let p0 = neither (symbol_error dec s i) _ parts.1 in
    let p1 = neither (symbol_error dec s (i + 1)) _ p0.1 in
    let p2 = neither (symbol_error dec s (i + 2)) (symbol_error dec s (i + 3)) p1.1 in
    let group = group_small _ _ _ _ (value_small dec s i table bytes p0.0) (value_small dec s (i + 1) table bytes p1.0) (value_small dec s (i + 2) table bytes p2.0) (value_small dec s (i + 3) table bytes p2.1) in
    list_all-append is_byte (groups_bytes dec s q) (group_bytes dec s i) ∙ and_from _ _ (groups_small dec s q table bytes parts.0) group

result_cases : {A E : Type 0} (r : Result A E) → ((x : A) × (r ≡ Ok x)) ⊎ ((e : E) × (r ≡ Err e))
result_cases (Ok x) = inl (x, refl)
result_cases (Err e) = inr (e, refl)

-- what the last symbols leave are values of six bits
leftover_small : (dec : List ℕ) (pad at : ℕ) (bs : List ℕ) (st end : _) (i : ℕ) → IsDecodeTable dec → all_bytes bs ≡ true → IsLeftover st i
    → scan_steps dec pad at (Ok st) i bs ≡ Ok end → (n : ℕ) × IsLeftover end n
unfolding scan_steps
leftover_small dec pad at [] st end i table bytes held h = let same : st ≡ end = cc h in rw (← same) (i, held)
leftover_small dec pad at (b ∷ bs) st end i table bytes held h =
    let parts = and_parts (is_byte b) (all_bytes bs) bytes in
    let test = parts.0 in
    let small : b < 256 = grind (arith, nat_tests, test) in
    let rest : scan_steps dec pad at (push_leftover dec pad at st i b) (i + 1) bs ≡ Ok end = h in
    elim (result_cases (push_leftover dec pad at st i b)) [
      | inl ok ↦ leftover_small dec pad at bs ok.0 end (i + 1) table parts.1 (IsLeftover_next dec pad at st i b ok.0 table held small ok.1) (rw ok.1 at rest)
      | inr bad ↦ cc (rw bad.1 at rest)
    ]

zeros_below : (k : ℕ) → slice_index (0 ∷ 0 ∷ 0 ∷ 0 ∷ []) k < 64
zeros_below zero = omega arith
zeros_below (suc zero) = omega arith
zeros_below (suc (suc zero)) = omega arith
zeros_below (suc (suc (suc zero))) = omega arith
zeros_below (suc (suc (suc (suc k)))) = omega arith

scanned_small : (r : Result _ DecodeError) → ((st : _) → r ≡ Ok st → (n : ℕ) × IsLeftover st n) → all_bytes (scan_bytes r) ≡ true
scanned_small (Ok st) h =
    let held = (h st refl).1 in
    grind (arith, slice_index, is_byte, list_all-take, group_small)
scanned_small (Err e) h = refl

outcome : (error : Option DecodeError) (bytes said : List ℕ) → decode_outcome error bytes ≡ Ok said → (error ≡ None) × (bytes ≡ said)
outcome None bytes said h = (refl, cc)
outcome (Some e) bytes said h = absurd (cc h)

decoded_small : (e : GeneralPurpose) (word said : List ℕ) → all_bytes word ≡ true → decode_of e word ≡ Ok said → all_bytes said ≡ true
decoded_small e word said are h =
    let table = IsDecodeTable_from e.encode_table e.decode_table (are_tables_inverse e.encode_table e.decode_table e.padding.value e.tables) in
    let bytes = are_bytes word (bytes_all word are) in
    let q : ℕ = groups_before_last (length word) in
    let parts = outcome (decode_error e.decode_table e.padding.value e.config.decode_allow_trailing_bits e.config.decode_padding_mode word) (decoded_bytes e.decode_table e.padding.value word) said h in
    let after = neither (lone_error e.decode_table e.padding.value word) _ parts.0 in
    let groups = neither (groups_error e.decode_table word q) _ after.1 in
    let last = scanned_small (scan_last e.decode_table e.padding.value (4 * q) word) (λ st scanned.
    leftover_small e.decode_table e.padding.value (4 * q) (drop (4 * q) word) no_leftover st 0 table (list_all-drop is_byte (4 * q) word are) (omega arith, omega arith, omega arith, zeros_below) scanned) in
    grind (arith, and_from, list_all-append, is_byte, groups_small)

ok_of : {E : Type 0} (r : Result (List ℕ) E) (bytes : List ℕ) → result_ok r ≡ Some bytes → r ≡ Ok bytes
ok_of (Ok x) bytes e = cc e
ok_of (Err x) bytes e = absurd cc

said_small : (word bytes : List ℕ) → all_bytes word ≡ true → bytes_of_base64 word ≡ Some bytes → all_bytes bytes ≡ true
unfolding bytes_of_base64 decoded_of
said_small word bytes are h = decoded_small standard word bytes are (ok_of (decode_of standard word) bytes h)

-- the key that a word encodes has bytes alone
pub bytes_of_coded : (word key : List ℕ) → all_bytes word ≡ true → coded_key word ≡ Some key → all_bytes key ≡ true
bytes_of_coded word key are h = said_small word key are (said_key word key h)
