-- A line of plain keys, by its bytes and by its words.
use Rattle.std.proofs.Common.{◌≡◌, ℕ, zero, suc, ◌+◌, ◌<◌, ◌≤◌, Bool, true, false, ◌&&◌, List, [], ◌∷◌, ◌++◌, length, take, drop, get_or, filter, eqb, nat_lt, nat_le, refl, sym, ap, ◌∙◌, arith, add-one, drop-cons}
use Rattle.std.proofs.lemmas.Bool.{eqb-true, eqb-false, le-leb, lt-ltb, leb-true}
use Rattle.std.proofs.lemmas.List.{take-append-drop, length-take}
use Rattle.std.proofs.lemmas.List.Elements.{filter-append}
use Rattle.std.proofs.lemmas.List.Folds.{list_all-append}
use Rattle.std.proofs.lemmas.List.Splits.{slice_split-cons_yes, slice_split-cons_no, length-slice_split}
use Rattle.std.specs.List.{list_all, slice_split, onto_first}
use Rattle.mc_text.specs.Keys.{is_key_byte, is_line_byte, is_plain_key, is_short}
use Rattle.mc_text.specs.Words.{words}

abbrev is_space : ℕ → Bool
is_space b = eqb b 32

abbrev is_run : List ℕ → Bool
is_run word = nat_lt 0 (length word)

abbrev are_key_bytes : List ℕ → Bool
are_key_bytes part = list_all is_key_byte part

and_assoc : (a b c : Bool) → ((a && b) && c) ≡ (a && (b && c))
and_assoc true b c = refl
and_assoc false b c = refl

-- a byte in front of the first part
byte_onto : (b : ℕ) (parts : List (List ℕ)) → list_all are_key_bytes (onto_first b parts) ≡ (is_key_byte b && list_all are_key_bytes parts)
byte_onto b [] = and_assoc (is_key_byte b) true true
byte_onto b (part ∷ parts) = and_assoc (is_key_byte b) (are_key_bytes part) (list_all are_key_bytes parts)

-- a byte that is no space may be on the line exactly if it may be in a key
not_space : (b : ℕ) → eqb b 32 ≡ false → is_key_byte b ≡ is_line_byte b
not_space b other = grind (arith, eqb-false b 32 other)

split_byte : (b : ℕ) (bs : List ℕ) (v : Bool) → eqb b 32 ≡ v → list_all are_key_bytes (slice_split is_space bs) ≡ list_all is_line_byte bs
    → list_all are_key_bytes (slice_split is_space (b ∷ bs)) ≡ list_all is_line_byte (b ∷ bs)
split_byte b bs true is h = rw (slice_split-cons_yes is_space b bs is, eqb-true b 32 is) h
split_byte b bs false is h = rw (slice_split-cons_no is_space b bs is, byte_onto b (slice_split is_space bs), not_space b is, h) refl

-- the parts between spaces have bytes of keys alone exactly if the text has such and spaces alone
split_bytes : (text : List ℕ) → list_all are_key_bytes (slice_split is_space text) ≡ list_all is_line_byte text
split_bytes [] = refl
split_bytes (b ∷ bs) = split_byte b bs (eqb b 32) refl (split_bytes bs)

regrouped : (s k keys shorts all : Bool) → all ≡ (keys && shorts) → ((s && k) && all) ≡ ((k && keys) && (s && shorts))
regrouped true true keys shorts all e = e
regrouped true false keys shorts all e = refl
regrouped false true true shorts all e = refl
regrouped false true false shorts all e = refl
regrouped false false keys shorts all e = refl

run_is : (b : ℕ) (bs : List ℕ) → is_run (b ∷ bs) ≡ true
run_is b bs = lt-ltb 0 (length (b ∷ bs)) (omega arith)

run_kept : (b : ℕ) (bs : List ℕ) (parts : List (List ℕ)) → filter is_run ((b ∷ bs) ∷ parts) ≡ (b ∷ bs) ∷ filter is_run parts
run_kept b bs parts = rw (run_is b bs) refl

run_plain : (b : ℕ) (bs : List ℕ) → is_plain_key (b ∷ bs) ≡ (is_short (b ∷ bs) && are_key_bytes (b ∷ bs))
run_plain b bs = rw (run_is b bs) refl

-- runs are plain keys if their bytes are those of keys and none is too long
runs_plain : (parts : List (List ℕ)) → list_all is_plain_key (filter is_run parts) ≡ (list_all are_key_bytes parts && list_all is_short (filter is_run parts))
runs_plain [] = refl
runs_plain ([] ∷ parts) = runs_plain parts
runs_plain ((b ∷ bs) ∷ parts) = grind (arith, filter, regrouped, run_kept, run_plain, runs_plain parts)

-- the words of a text are plain keys if its bytes may be on such a line, and no word is too long
pub words_plain : (text : List ℕ) → list_all is_plain_key (words text) ≡ (list_all is_line_byte text && list_all is_short (words text))
unfolding words
words_plain text =
    runs_plain (slice_split is_space text)
    ∙ ap (λ (v : Bool). v && list_all is_short (filter is_run (slice_split is_space text))) (split_bytes text)

-- no part has more than n bytes
abbrev within : ℕ → List ℕ → Bool
within n part = nat_le (length part) n

and_true : (a b : Bool) → a ≡ true → b ≡ true → (a && b) ≡ true
and_true true b e f = f
and_true false b e f = e

and_left : (a b : Bool) → (a && b) ≡ true → a ≡ true
and_left true b e = refl
and_left false b e = e

and_right : (a b : Bool) → (a && b) ≡ true → b ≡ true
and_right true b e = e
and_right false true e = refl
and_right false false e = e

within_more : (n : ℕ) (part : List ℕ) → within n part ≡ true → within (suc n) part ≡ true
within_more n part h = le-leb (length part) (suc n) (omega (arith, leb-true (length part) n h))

within_onto : (n b : ℕ) (part : List ℕ) → within n part ≡ true → within (suc n) (b ∷ part) ≡ true
within_onto n b part h = le-leb (length (b ∷ part)) (suc n) (omega (arith, leb-true (length part) n h))

all_more : (n : ℕ) (parts : List (List ℕ)) → list_all (within n) parts ≡ true → list_all (within (suc n)) parts ≡ true
all_more n [] h = refl
all_more n (part ∷ parts) h = grind (arith, and_true, and_left, and_right, within_more, all_more n parts)

onto_more : (n b : ℕ) (parts : List (List ℕ)) → list_all (within n) parts ≡ true → list_all (within (suc n)) (onto_first b parts) ≡ true
onto_more n b [] h = and_true (within (suc n) (b ∷ [])) true (le-leb 1 (suc n) (omega arith)) refl
onto_more n b (part ∷ parts) h = grind (arith, and_true, and_left, and_right, within_onto, all_more)

split_within : (n : ℕ) (b : ℕ) (bs : List ℕ) (v : Bool) → eqb b 32 ≡ v → list_all (within n) (slice_split is_space bs) ≡ true
    → list_all (within (suc n)) (slice_split is_space (b ∷ bs)) ≡ true
split_within n b bs true is h = grind (arith, le-leb, slice_split-cons_yes, and_true, all_more)
split_within n b bs false is h = rw (slice_split-cons_no is_space b bs is) (onto_more n b (slice_split is_space bs) h)

-- no part of a text is longer than the text
parts_within : (text : List ℕ) (n : ℕ) → length text ≤ n → list_all (within n) (slice_split is_space text) ≡ true
parts_within [] n few = and_true (within n []) true (le-leb 0 n few) refl
parts_within (b ∷ bs) zero few = absurd (omega (arith, few))
parts_within (b ∷ bs) (suc n) few = split_within n b bs (eqb b 32) refl (parts_within bs n (omega (arith, few)))

filter_all : (n : ℕ) (parts : List (List ℕ)) → list_all (within n) parts ≡ true → list_all (within n) (filter is_run parts) ≡ true
filter_all n [] h = refl
filter_all n ([] ∷ parts) h = filter_all n parts (and_right (within n []) (list_all (within n) parts) h)
filter_all n ((b ∷ bs) ∷ parts) h = grind (arith, filter, run_kept, and_true, and_left, and_right, filter_all n parts)

-- a text of no more bytes than a key has no word that is too long
pub short_words : (text : List ℕ) → length text ≤ 250 → list_all is_short (words text) ≡ true
unfolding words
short_words text few = filter_all 250 (slice_split is_space text) (parts_within text 250 few)

onto_append : (x : ℕ) (parts more : List (List ℕ)) → 0 < length parts → onto_first x (parts ++ more) ≡ onto_first x parts ++ more
onto_append x [] more some = absurd (omega (arith, some))
onto_append x (part ∷ parts) more some = refl

split_onto : (x : ℕ) (xs : List ℕ) (y : ℕ) (ys : List ℕ) (v : Bool) → eqb x 32 ≡ v
    → slice_split is_space (xs ++ y ∷ ys) ≡ slice_split is_space xs ++ slice_split is_space ys
    → slice_split is_space (x ∷ (xs ++ y ∷ ys)) ≡ slice_split is_space (x ∷ xs) ++ slice_split is_space ys
split_onto x xs y ys true is h = grind (arith, slice_split-cons_yes)
split_onto x xs y ys false is h = grind (arith, slice_split-cons_no, length-slice_split, onto_append)

-- the parts between spaces, if a text is cut at one
split_append : (xs : List ℕ) (y : ℕ) (ys : List ℕ) → eqb y 32 ≡ true → slice_split is_space (xs ++ y ∷ ys) ≡ slice_split is_space xs ++ slice_split is_space ys
split_append [] y ys is = slice_split-cons_yes is_space y ys is
split_append (x ∷ xs) y ys is = split_onto x xs y ys (eqb x 32) refl (split_append xs y ys is)

-- the words of a text that is cut at a space
words_cut : (xs : List ℕ) (y : ℕ) (ys : List ℕ) → eqb y 32 ≡ true → words (xs ++ y ∷ ys) ≡ words xs ++ words ys
unfolding words
words_cut xs y ys is = ap (filter is_run) (split_append xs y ys is) ∙ filter-append is_run (slice_split is_space xs) (slice_split is_space ys)

cut_at : (text : List ℕ) (i : ℕ) → i < length text → text ≡ take i text ++ get_or text i 0 ∷ drop (i + 1) text
cut_at text i inside =
    sym (take-append-drop i text) ∙ ap (λ (more : List ℕ). take i text ++ more) (rw add-one (drop-cons text i 0 inside))

-- if a space is among the first bytes, the words before it are short
pub short_after : (text : List ℕ) (i : ℕ) → i < length text → i ≤ 250 → eqb (get_or text i 0) 32 ≡ true
    → list_all is_short (words text) ≡ list_all is_short (words (drop (i + 1) text))
short_after text i inside early is =
    let front = take i text in
    let more = drop (i + 1) text in
    let few : length front ≤ 250 = omega (arith, length-take i text, early) in
    ap (λ (t : List ℕ). list_all is_short (words t)) (cut_at text i inside) ∙ ap (list_all is_short) (words_cut front (get_or text i 0) more is)
    ∙ list_all-append is_short (words front) (words more) ∙ ap (λ (v : Bool). v && list_all is_short (words more)) (short_words front few)
