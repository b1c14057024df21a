-- Escapes, and the bytes that they stand for.
use Rattle.std.proofs.Common.{◌≡◌, ℕ, zero, suc, ◌+◌, ◌-◌, ◌*◌, ◌/◌, ◌%◌, ◌<◌, ◌≤◌, ◌&&◌, not, Bool, true, false, cond, List, [], ◌∷◌, ◌++◌, length, take, drop, get_or, Option, Some, None, refl, sym, ap, ◌∙◌, arith, eqb, nat_le, append-nil, append_assoc}
use Rattle.std.proofs.Math.Seq.{take-add, take-append-add}
use Rattle.std.proofs.lemmas.List.{length-take, length-take-le, take-append-drop, take-take, take_rest}
use Rattle.std.proofs.lemmas.List.Sums.{AllPass-from_list_all, position_or_len_is, prefix_len-le-length, prefix_len_is}
use Rattle.std.proofs.lemmas.List.Folds.{prefix_len-append}
use Rattle.std.proofs.lemmas.Simd.{run_in_chunk_fails, run_in_chunk_stops}
use Rattle.std.specs.Prelude.{is_some}
use Rattle.std.specs.Option.{option_map, unwrap_or}
use Rattle.std.specs.List.{All, list_all, prefix_len, position_or_len}
use Rattle.memchr.specs.Find.{IsFirstByte, is_byte}
use Rattle.mc_script.proofs.LineLemmas.{not_true}
use Rattle.mc_script.specs.Escapes.{Between, Backslash, NoDigit, Lost, text_from, text_of, hex_value, hex_digit, letter_value, escape_of, escaped, is_plain, ReadsFront}

same_option : (o : Option (List ℕ)) → option_map (λ text. text) o ≡ o
same_option None = refl
same_option (Some x) = refl

none_stays : (o : Option (List ℕ)) → o ≡ None → option_map (λ text. text) o ≡ None
none_stays None e = refl
none_stays (Some x) e = absurd cc

-- after bytes that are no escape nothing is read
pub text_from_lost : (text : List ℕ) → text_from Lost text ≡ None
unfolding text_from
text_from_lost [] = refl
text_from_lost (b ∷ bs) = none_stays (text_from Lost bs) (text_from_lost bs)

-- a backslash and x begin digits
pub text_from_x : (bs : List ℕ) → text_from Backslash (120 ∷ bs) ≡ text_from NoDigit bs
unfolding text_from letter_value
text_from_x bs = same_option (text_from NoDigit bs)

-- a text that was read to its end
pub text_of-read : (text rest bytes : List ℕ) → text_of text ≡ option_map (λ more. bytes ++ more) (text_of rest) → length rest ≡ 0 → Some bytes ≡ text_of text
unfolding text_from
text_of-read text [] bytes e z = sym (e ∙ ap (λ (bs : List ℕ). Some bs) (append-nil bytes))
text_of-read text (b ∷ bs) bytes e z = absurd (omega arith)

-- an empty text stands for no bytes
pub text_of-none_left : (rest : List ℕ) → length rest ≡ 0 → true ≡ is_some (text_of rest)
unfolding text_from
text_of-none_left [] z = refl
text_of-none_left (b ∷ bs) z = absurd (omega arith)

-- what a reader of escapes finds after a backslash
pub ruleset after_backslash = (text_from_lost, text_from_x)

-- a byte that stands for itself
read_plain : (b : ℕ) (rest : List ℕ) → eqb b 92 ≡ false → text_from Between (b ∷ rest) ≡ option_map (λ text. b ∷ text) (text_from Between rest)
unfolding text_from
read_plain b rest e = rw e refl

-- a byte by its letter
read_letter : (c b : ℕ) (rest : List ℕ) → letter_value c ≡ Some b → eqb c 120 ≡ false → text_from Between (92 ∷ c ∷ rest) ≡ option_map (λ text. b ∷ text) (text_from Between rest)
unfolding text_from
read_letter c b rest is not_x = rw (not_x, is) (same_option (option_map (λ text. b ∷ text) (text_from Between rest)))

-- a byte by its digits
read_digits : (h l high low : ℕ) (rest : List ℕ) → hex_value h ≡ Some high → hex_value l ≡ Some low
    → text_from Between (92 ∷ 120 ∷ h ∷ l ∷ rest) ≡ option_map (λ text. (16 * high + low) ∷ text) (text_from Between rest)
unfolding text_from letter_value
read_digits h l high low rest first second =
    let t = option_map (λ text. (16 * high + low) ∷ text) (text_from Between rest) in
    rw (first, second) (ap (λ o. option_map (λ text. text) (option_map (λ text. text) o)) (same_option t) ∙ ap (λ o. option_map (λ text. text) o) (same_option t) ∙ same_option t)

-- a digit has the value that it was made of
hex_value-digit : (n : ℕ) → n < 16 → hex_value (hex_digit n) ≡ Some n
unfolding hex_value
hex_value-digit n low = grind arith

-- a byte that has no letter
read_other : (b : ℕ) (rest : List ℕ) → b < 256 → eqb b 92 ≡ false → (printable : Bool)
    → text_from Between ((cond printable (b ∷ []) (92 ∷ 120 ∷ hex_digit (b / 16) ∷ hex_digit (b % 16) ∷ [])) ++ rest) ≡ option_map (λ text. b ∷ text) (text_from Between rest)
read_other b rest small e true = read_plain b rest e
read_other b rest small e false =
    let is : 16 * (b / 16) + b % 16 ≡ b = omega arith in
    read_digits (hex_digit (b / 16)) (hex_digit (b % 16)) (b / 16) (b % 16) rest (hex_value-digit (b / 16) (omega arith)) (hex_value-digit (b % 16) (omega arith))
    ∙ ap (λ (byte : ℕ). option_map (λ text. byte ∷ text) (text_from Between rest)) is

-- an escape is read as its byte
read_escape : (b : ℕ) (rest : List ℕ) → b < 256 → text_from Between (escape_of b ++ rest) ≡ option_map (λ text. b ∷ text) (text_from Between rest)
unfolding escape_of letter_value
read_escape b rest small =
    let other : List ℕ = cond (nat_le 32 b && nat_le b 126) (b ∷ []) (92 ∷ 120 ∷ hex_digit (b / 16) ∷ hex_digit (b % 16) ∷ []) in
    (elim (eqb b 92) as (λ v. eqb b 92 ≡ v → text_from Between (cond v (92 ∷ 92 ∷ []) (cond (eqb b 13) (92 ∷ 114 ∷ []) (cond (eqb b 10) (92 ∷ 110 ∷ []) other)) ++ rest) ≡ option_map (λ text. b ∷ text) (text_from Between rest)) [
      | true ↦ λ e. let is : b ≡ 92 = grind (arith, e) in rw is (read_letter 92 92 rest refl refl)
      | false ↦ λ ne. (elim (eqb b 13) as (λ v. eqb b 13 ≡ v → text_from Between (cond v (92 ∷ 114 ∷ []) (cond (eqb b 10) (92 ∷ 110 ∷ []) other) ++ rest) ≡ option_map (λ text. b ∷ text) (text_from Between rest)) [
        | true ↦ λ e. let is : b ≡ 13 = grind (arith, e) in rw is (read_letter 114 13 rest refl refl)
        | false ↦ λ _. (elim (eqb b 10) as (λ v. eqb b 10 ≡ v → text_from Between (cond v (92 ∷ 110 ∷ []) other ++ rest) ≡ option_map (λ text. b ∷ text) (text_from Between rest)) [
          | true ↦ λ e. let is : b ≡ 10 = grind (arith, e) in rw is (read_letter 110 10 rest refl refl)
          | false ↦ λ _. read_other b rest small ne (nat_le 32 b && nat_le b 126)
        ]) refl
      ]) refl
    ]) refl

-- escaped bytes are read back as they were
pub text_of-escaped : (bytes : List ℕ) → All (λ b. b < 256) bytes → text_of (escaped bytes) ≡ Some bytes
unfolding text_from
text_of-escaped [] small = refl
text_of-escaped (b ∷ bs) small =
    read_escape b (escaped bs) (small 0 0 (omega arith)) ∙ rw (text_of-escaped bs (λ k d lt. small (suc k) d (omega arith))) refl

-- the escapes of two texts
escaped-append : (xs ys : List ℕ) → escaped (xs ++ ys) ≡ escaped xs ++ escaped ys
escaped-append [] ys = refl
escaped-append (x ∷ xs) ys = ap (λ (zs : List ℕ). escape_of x ++ zs) (escaped-append xs ys) ∙ sym (append_assoc (escape_of x) (escaped xs) (escaped ys))

-- more bytes, escaped, after those before them
pub escaped_more : (done count : ℕ) (bytes : List ℕ) → escaped (take (done + count) bytes) ≡ escaped (take done bytes) ++ escaped (take count (drop done bytes))
escaped_more done count bytes = ap escaped (take-add done count bytes) ∙ escaped-append (take done bytes) (take count (drop done bytes))

-- a byte that stands for itself
pub escape_of-plain : (b : ℕ) → is_plain b ≡ true → escape_of b ≡ b ∷ []
unfolding escape_of
escape_of-plain b plain = grind (arith, plain)

-- the first bytes of a run that stand for themselves
pub escaped_run : (n : ℕ) (bytes : List ℕ) → n ≤ prefix_len is_plain bytes → escaped (take n bytes) ≡ take n bytes
escaped_run zero bytes le = refl
escaped_run (suc n) [] le = absurd (omega arith)
escaped_run (suc n) (b ∷ bs) le =
    (elim (is_plain b) as (λ v. is_plain b ≡ v → suc n ≤ cond v (1 + prefix_len is_plain bs) 0 → escape_of b ++ escaped (take n bs) ≡ b ∷ take n bs) [
      | true ↦ λ e some. ap (λ (xs : List ℕ). xs ++ escaped (take n bs)) (escape_of-plain b e) ∙ ap (λ (xs : List ℕ). b ∷ xs) (escaped_run n bs (omega arith))
      | false ↦ λ _ none. absurd (omega arith)
    ]) refl le

-- a run that continues from the first of two texts to the second
pub run_goes_on : (xs ys : List ℕ) → prefix_len is_plain xs ≡ length xs → prefix_len is_plain (xs ++ ys) ≡ length xs + prefix_len is_plain ys
run_goes_on xs ys all = grind (arith, prefix_len-append is_plain xs ys)

-- bytes that all stand for themselves
run_all : (xs : List ℕ) → list_all is_plain xs ≡ true → prefix_len is_plain xs ≡ length xs
run_all xs all = prefix_len_is is_plain xs (length xs) 0 (omega arith) (λ k lt. AllPass-from_list_all is_plain xs all k 0 lt) (λ lt. absurd (omega arith))

-- two tests that both pass
both : (a b : Bool) → (a && b) ≡ true → (a ≡ true) × (b ≡ true)
both true b e = (refl, e)
both false b e = absurd cc

-- a run past a block of bytes that all stand for themselves
pub run_past : (n : ℕ) (xs : List ℕ) → (nat_le n (length xs) && list_all is_plain (take n xs)) ≡ true
    → (n ≤ length xs) × (prefix_len is_plain xs ≡ n + prefix_len is_plain (drop n xs))
run_past n xs tested =
    let tests = both (nat_le n (length xs)) (list_all is_plain (take n xs)) tested in
    let within : n ≤ length xs = grind (arith, tests.0) in
    let is : prefix_len is_plain xs ≡ n + prefix_len is_plain (drop n xs) =
    ap (prefix_len is_plain) (sym (take-append-drop n xs)) ∙ run_goes_on (take n xs) (drop n xs) (run_all (take n xs) tests.1)
    ∙ ap (λ (k : ℕ). k + prefix_len is_plain (drop n xs)) (length-take-le n xs within) in
    (within, is)

-- bytes before others, in the bytes that a text stands for
joined : (xs ys : List ℕ) (o : Option (List ℕ)) → option_map (λ more. xs ++ more) (option_map (λ more. ys ++ more) o) ≡ option_map (λ more. (xs ++ ys) ++ more) o
joined xs ys None = refl
joined xs ys (Some zs) = ap (λ (bs : List ℕ). Some bs) (sym (append_assoc xs ys zs))

-- a run with one more byte
next_in : (n : ℕ) → 1 + n ≡ suc n
next_in n = omega arith

-- a run of bytes before a backslash stands for itself
run_is : (text : List ℕ) → text_of text ≡ option_map (λ more. take (position_or_len (λ b. eqb b 92) text) text ++ more) (text_of (drop (position_or_len (λ b. eqb b 92) text) text))
unfolding text_from
run_is [] = refl
run_is (b ∷ bs) =
    let n = position_or_len (λ b. eqb b 92) bs in
    (elim (eqb b 92) as (λ v. eqb b 92 ≡ v → text_of (b ∷ bs) ≡ option_map (λ more. take (cond (not v) (1 + n) 0) (b ∷ bs) ++ more) (text_of (drop (cond (not v) (1 + n) 0) (b ∷ bs)))) [
      | true ↦ λ _. sym (same_option (text_of (b ∷ bs)))
      | false ↦ λ e. rw (next_in n) (read_plain b bs e ∙ ap (λ (o : Option (List ℕ)). option_map (λ more. b ∷ more) o) (run_is bs) ∙ joined (b ∷ []) (take n bs) (text_of (drop n bs)))
    ]) refl

-- such a run is appended to other bytes
pub reads_run : (before text : List ℕ) (n : ℕ) → n ≡ position_or_len (λ b. eqb b 92) text → ReadsFront before Between text (before ++ take n text) (drop n text)
reads_run before text n is =
    let run : text_of text ≡ option_map (λ more. take n text ++ more) (text_of (drop n text)) = rw is (run_is text) in
    ap (λ (o : Option (List ℕ)). option_map (λ more. before ++ more) o) run ∙ joined before (take n text) (text_of (drop n text))

-- no run begins at the end of another
run_ends_at : (text : List ℕ) → position_or_len (λ b. eqb b 92) (drop (position_or_len (λ b. eqb b 92) text) text) ≡ 0
run_ends_at [] = refl
run_ends_at (b ∷ bs) =
    let n = position_or_len (λ b. eqb b 92) bs in
    (elim (eqb b 92) as (λ v. eqb b 92 ≡ v → position_or_len (λ b. eqb b 92) (drop (cond (not v) (1 + n) 0) (b ∷ bs)) ≡ 0) [
      | true ↦ λ e. rw e refl
      | false ↦ λ _. rw (next_in n) (run_ends_at bs)
    ]) refl

pub run_ends : (text : List ℕ) (n : ℕ) → n ≡ position_or_len (λ b. eqb b 92) text → position_or_len (λ b. eqb b 92) (drop n text) ≡ 0
run_ends text n is = rw is (run_ends_at text)

-- the first byte of a run is appended to other bytes
pub reads_one : (before text : List ℕ) → 0 < position_or_len (λ b. eqb b 92) text
    → ReadsFront before Between text (before ++ get_or text 0 0 ∷ []) (take (length text - 1) (drop 1 text))
reads_one before [] some = absurd (omega arith)
reads_one before (b ∷ bs) some =
    rw (take_rest (b ∷ bs) 1)
    (ap (λ (o : Option (List ℕ)). option_map (λ more. before ++ more) o) (read_plain b bs (grind (arith, some))) ∙ joined before (b ∷ []) (text_of bs))

-- two bytes that are no backslash are appended to other bytes
pub reads_two : (before text : List ℕ) → 1 < length text → 0 < position_or_len (λ b. eqb b 92) text → (get_or text 1 0 ≡ 92 → ⊥)
    → ReadsFront before Between text ((before ++ get_or text 0 0 ∷ []) ++ get_or text 1 0 ∷ []) (take (length text - 2) (drop 2 text))
reads_two before [] long some other = absurd (omega arith)
reads_two before (b ∷ []) long some other = absurd (omega arith)
reads_two before (b ∷ c ∷ bs) long some other =
    let add : List ℕ → Option (List ℕ) → Option (List ℕ) = λ xs o. option_map (λ more. xs ++ more) o in
    rw (take_rest (b ∷ c ∷ bs) 2)
    (ap (add before) (read_plain b (c ∷ bs) (grind (arith, some))) ∙ joined before (b ∷ []) (text_of (c ∷ bs))
    ∙ ap (add (before ++ b ∷ [])) (read_plain c bs (grind (arith, other))) ∙ joined (before ++ b ∷ []) (c ∷ []) (text_of bs))

-- a run that ends within the first bytes of a text
pub block_end : (n : ℕ) (text : List ℕ) (count : ℕ) → n ≤ length text → count ≡ position_or_len (λ b. eqb b 92) (take n text) → count < n
    → count ≡ position_or_len (λ b. eqb b 92) text
block_end n text count le is lt =
    sym (position_or_len_is (λ b. eqb b 92) text count 0 (omega arith)
    (λ k low. run_in_chunk_fails (λ b. eqb b 92) text 0 n count 0 (omega arith) is k (omega arith) (omega arith))
    (λ _. ap (λ (k : ℕ). eqb (get_or text k 0) 92) (omega arith) ∙ run_in_chunk_stops (λ b. eqb b 92) text 0 n count 0 (omega arith) is lt))

-- a run in the first bytes is at most as long as these
pub run_in_block_le : (text : List ℕ) → position_or_len (λ b. eqb b 92) (take 16 text) ≤ 16
run_in_block_le text = omega (arith, prefix_len-le-length (λ b. not (eqb b 92)) (take 16 text), length-take 16 text)

-- such a run is appended to other bytes with the bytes after it there, and these are removed again
pub reads_in_block : (before text : List ℕ) (count held : ℕ) → length before ≡ held → 16 ≤ length text
    → count ≡ position_or_len (λ b. eqb b 92) (take 16 text) → count < 16
    → ReadsFront before Between text (take (held + count) (before ++ take 16 text)) (drop count text)
reads_in_block before text count held size long is lt =
    let kept : take (held + count) (before ++ take 16 text) ≡ before ++ take count text =
    ap (λ (n : ℕ). take (n + count) (before ++ take 16 text)) (sym size) ∙ take-append-add before (take 16 text) count
    ∙ ap (λ (xs : List ℕ). before ++ xs) (take-take count 16 text (omega arith)) in
    rw kept (reads_run before text count (block_end 16 text count long is lt))

-- the end of a run is within the text
pub run_within : (text : List ℕ) → position_or_len (λ b. eqb b 92) text ≤ length text
run_within text = prefix_len-le-length (λ b. not (eqb b 92)) text

-- the end of a run, as a search for the backslash finds it
pub run_end : (text : List ℕ) (found : Option ℕ) → IsFirstByte (is_byte 92) text found → unwrap_or found (length text) ≡ position_or_len (λ b. eqb b 92) text
run_end text (Some end) first =
    sym (position_or_len_is (λ b. eqb b 92) text end 0 (omega (arith, first.0.high)) (λ k lt. not_true (eqb (get_or text k 0) 92) (first.0.before k (omega arith) lt)) (λ _. first.1))
run_end text None nowhere =
    sym (position_or_len_is (λ b. eqb b 92) text (length text) 0 (omega arith) (λ k lt. not_true (eqb (get_or text k 0) 92) (nowhere k (omega arith) lt)) (λ lt. absurd (omega arith)))

-- a text after a run that is not at its end begins with a backslash
pub at_backslash : (text : List ℕ) → 1 ≤ length text → position_or_len (λ b. eqb b 92) text ≡ 0
    → text_from Between text ≡ text_from Backslash (take (length text - 1) (drop 1 text))
unfolding text_from
at_backslash [] some over = absurd (omega arith)
at_backslash (b ∷ bs) some over =
    let is : b ≡ 92 = grind (arith, over) in
    rw (is, take_rest (b ∷ bs) 1) (same_option (text_from Backslash bs))

none_before : (xs : List ℕ) (o : Option (List ℕ)) → option_map (λ more. xs ++ more) o ≡ None → o ≡ None
none_before xs None e = refl
none_before xs (Some ys) e = absurd cc

-- a run before a backslash that begins no escape
pub no_escape : (before text mid rest : List ℕ) → ReadsFront before Between text mid rest → text_from Between rest ≡ None → text_from Between text ≡ None
no_escape before text mid rest read none =
    none_before before (text_from Between text) (read ∙ ap (λ (o : Option (List ℕ)). option_map (λ more. mid ++ more) o) none)

-- a run before an escape
pub reads_escape : (before text mid rest : List ℕ) (byte : ℕ) (after : List ℕ) → ReadsFront before Between text mid rest
    → text_from Between rest ≡ option_map (λ bytes. byte ∷ bytes) (text_of after) → ReadsFront before Between text (mid ++ byte ∷ []) after
reads_escape before text mid rest byte after read gives =
    read ∙ ap (λ (o : Option (List ℕ)). option_map (λ more. mid ++ more) o) gives ∙ joined mid (byte ∷ []) (text_of after)
