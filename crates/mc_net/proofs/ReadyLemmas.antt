-- The queue of the clients that are ready.
use Rattle.std.proofs.Common.{◌≡◌, ℕ, zero, suc, ◌+◌, ◌<◌, ◌≤◌, ◌==◌, ◌&&◌, ◌||◌, Bool, true, false, not, nat_lt, Option, None, Some, IfNone, IfSome, List, [], ◌∷◌, ◌++◌, length, get_or, inl, inr, slice_set, slice_index_or, replicate, refl, sym, ap, ◌∙◌, append_assoc, arith, if◌then◌else◌}
use Rattle.std.proofs.Math.Bool.{or-false}
use Rattle.std.proofs.lemmas.Bool.{cases_eq}
use Rattle.std.proofs.lemmas.Bool.Decides.{nat_tests}
use Rattle.std.proofs.lemmas.List.{append-nil, get_or-set_other}
use Rattle.std.proofs.lemmas.Grind.{get_or-set_at}
use Rattle.mc_text.proofs.FieldLemmas.{either}
use Rattle.mc_net.specs.ReadyFields.{AreMarks}
use Rattle.std.specs.List.{position, position_or_len, remove}
use Rattle.mc_net.specs.ReadyQueues.{after_push, after_pushes, are_distinct, has_key, marked, taken, without}

-- pushes leave what is in front
push_by : (b : Bool) (key : ℕ) (front back : List ℕ) → (behind : List ℕ) × ((if b then (front ++ back) ++ key ∷ [] else front ++ back) ≡ front ++ behind)
push_by true key front back = (back ++ key ∷ [], append_assoc front back (key ∷ []))
push_by false key front back = (back, refl)

push_behind : (most key : ℕ) (front back : List ℕ) → (behind : List ℕ) × (after_push most key (front ++ back) ≡ front ++ behind)
push_behind most key front back = push_by (nat_lt key most && not (has_key key (front ++ back))) key front back

pushes_behind : (most : ℕ) (pushed front back : List ℕ) → (behind : List ℕ) × (after_pushes most pushed (front ++ back) ≡ front ++ behind)
pushes_behind most [] front back = (back, refl)
pushes_behind most (key ∷ more) front back =
    let one = push_behind most key front back in
    let others = pushes_behind most more front one.0 in
    (others.0, ap (after_pushes most more) one.1 ∙ others.1)

taken_front : (most : ℕ) (pushed : List (List ℕ)) (front back : List ℕ) → length pushed ≡ length front → taken most pushed (front ++ back) ≡ front
taken_front most [] [] back h = refl
taken_front most (p ∷ ps) [] back h = absurd (omega (arith, h))
taken_front most [] (key ∷ rest) back h = absurd (omega (arith, h))
taken_front most (p ∷ ps) (key ∷ rest) back h =
    let behind = pushes_behind most p rest back in
    ap (λ (keys : List ℕ). key ∷ keys) (ap (taken most ps) behind.1 ∙ taken_front most ps rest behind.0 (omega (arith, h)))

pub a_round : (most : ℕ) (pushed : List (List ℕ)) (keys : List ℕ) → length pushed ≡ length keys → taken most pushed keys ≡ keys
a_round most pushed keys h = ap (taken most pushed) (sym (append-nil keys)) ∙ taken_front most pushed keys [] h

-- how many marks are set, after one of them changes
marked_most : (marks : List Bool) → marked marks ≤ length marks
marked_most [] = omega arith
marked_most (true ∷ rest) = omega (arith, marked_most rest)
marked_most (false ∷ rest) = omega (arith, marked_most rest)

pub marked_set : (marks : List Bool) (key : ℕ) → key < length marks → slice_index_or marks key false ≡ false
    → (marked (slice_set marks key true) ≡ marked marks + 1) × (marked marks < length marks)
marked_set [] key inside h = absurd (omega (arith, inside))
marked_set (true ∷ rest) zero inside h = absurd cc
marked_set (false ∷ rest) zero inside h = (omega arith, omega (arith, marked_most rest))
marked_set (true ∷ rest) (suc key) inside h = let more = marked_set rest key (omega (arith, inside)) h in (omega (arith, more.0), omega (arith, more.1))
marked_set (false ∷ rest) (suc key) inside h = let more = marked_set rest key (omega (arith, inside)) h in (omega (arith, more.0), omega (arith, more.1))

pub marked_cleared : (marks : List Bool) (key : ℕ) → slice_index_or marks key false ≡ true → marked (slice_set marks key false) + 1 ≡ marked marks
marked_cleared [] key h = absurd cc
marked_cleared (true ∷ rest) zero h = omega arith
marked_cleared (false ∷ rest) zero h = absurd cc
marked_cleared (true ∷ rest) (suc key) h = omega (arith, marked_cleared rest key h)
marked_cleared (false ∷ rest) (suc key) h = omega (arith, marked_cleared rest key h)

-- a key behind others
or_assoc : (a b c : Bool) → ((a || b) || c) ≡ (a || (b || c))
or_assoc true b c = refl
or_assoc false b c = refl

pub has_pushed : (key other : ℕ) (keys : List ℕ) → has_key other (keys ++ key ∷ []) ≡ (has_key other keys || (key == other))
has_pushed key other [] = or-false (key == other)
has_pushed key other (k ∷ rest) = ap (λ (b : Bool). (k == other) || b) (has_pushed key other rest) ∙ sym (or_assoc (k == other) (has_key other rest) (key == other))

pub distinct_pushed : (key : ℕ) (keys : List ℕ) → are_distinct keys ≡ true → has_key key keys ≡ false → are_distinct (keys ++ key ∷ []) ≡ true
distinct_pushed key [] are absent = refl
distinct_pushed key (k ∷ rest) are absent = grind (arith, nat_tests, has_pushed key k rest, distinct_pushed key rest)

pub marks_pushed : (marks : List Bool) (keys : List ℕ) (key : ℕ) → key < length marks → AreMarks marks keys
    → AreMarks (slice_set marks key true) (keys ++ key ∷ [])
marks_pushed marks keys key inside are = λ other. elim (cases_eq other key) [
  | inl same ↦ grind (arith, nat_tests, has_pushed key other keys, get_or-set_at marks key other true false same inside)
  | inr another ↦ grind (arith, nat_tests, has_pushed key other keys, get_or-set_other marks key other true false another, are other)
]

-- a mark that is set is there
inside_of : (marks : List Bool) (key : ℕ) → slice_index_or marks key false ≡ true → key < length marks
inside_of [] key h = absurd cc
inside_of (mark ∷ rest) zero h = omega arith
inside_of (mark ∷ rest) (suc key) h = omega (arith, inside_of rest key h)

-- the first key is taken
cleared : (marks : List Bool) (keys : List ℕ) (key other : ℕ) → AreMarks marks (key ∷ keys) → are_distinct (key ∷ keys) ≡ true → other ≡ key
    → slice_index_or (slice_set marks key false) other false ≡ has_key other keys
cleared marks keys key other are distinct same =
    let absent : has_key key keys ≡ false = grind (arith, nat_tests) in
    let mark : slice_index_or marks key false ≡ true = grind (arith, nat_tests, are key) in
    let inside : key < length marks = inside_of marks key mark in
    get_or-set_at marks key other false false same inside ∙ sym (rw same absent)

pub marks_popped : (marks : List Bool) (keys : List ℕ) (key : ℕ) → AreMarks marks (key ∷ keys) → are_distinct (key ∷ keys) ≡ true
    → AreMarks (slice_set marks key false) keys
marks_popped marks keys key are distinct = λ other. elim (cases_eq other key) [
  | inl same ↦ cleared marks keys key other are distinct same
  | inr another ↦ grind (arith, nat_tests, get_or-set_other marks key other false false another, are other)
]

pub mark_first : (marks : List Bool) (keys : List ℕ) (key : ℕ) → AreMarks marks (key ∷ keys) → slice_index_or marks key false ≡ true
mark_first marks keys key are = grind (arith, nat_tests, are key)

pub distinct_popped : (key : ℕ) (keys : List ℕ) → are_distinct (key ∷ keys) ≡ true → are_distinct keys ≡ true
distinct_popped key keys are = grind arith

-- marks that were never set
pub no_marks : (count key : ℕ) → slice_index_or (replicate count false) key false ≡ false
no_marks zero key = refl
no_marks (suc count) zero = refl
no_marks (suc count) (suc key) = no_marks count key

pub none_marked : (count : ℕ) → marked (replicate count false) ≡ 0
none_marked zero = refl
none_marked (suc count) = omega (arith, none_marked count)

-- a key that is removed
pub has_without : (key other : ℕ) (keys : List ℕ) → are_distinct keys ≡ true → has_key other (without key keys) ≡ (has_key other keys && not (other == key))
has_without key other [] are = refl
has_without key other (k ∷ rest) are = elim (either (k == key)) [
  | inl same ↦ grind (arith, nat_tests)
  | inr another ↦ grind (arith, nat_tests, has_without key other rest)
]

pub distinct_without : (key : ℕ) (keys : List ℕ) → are_distinct keys ≡ true → are_distinct (without key keys) ≡ true
distinct_without key [] are = refl
distinct_without key (k ∷ rest) are = elim (either (k == key)) [
  | inl same ↦ grind (arith, nat_tests)
  | inr another ↦ grind (arith, nat_tests, distinct_without key rest, has_without key k rest)
]

pub marks_without : (marks : List Bool) (keys : List ℕ) (key : ℕ) → AreMarks marks keys → are_distinct keys ≡ true → has_key key keys ≡ true
    → AreMarks (slice_set marks key false) (without key keys)
marks_without marks keys key are distinct there = λ other.
    let inside : key < length marks = inside_of marks key (are key ∙ there) in
    elim (cases_eq other key) [
      | inl same ↦ grind (arith, nat_tests, has_without key other keys, get_or-set_at marks key other false false same inside)
      | inr another ↦ grind (arith, nat_tests, has_without key other keys, get_or-set_other marks key other false false another, are other)
    ]

-- where a key is
remove_past : (k : ℕ) (rest : List ℕ) (n m : ℕ) → m ≡ suc n → remove (k ∷ rest) m ≡ k ∷ remove rest n
remove_past k rest n m is = rw is refl

place_past : (key k : ℕ) (rest : List ℕ) → (k == key) ≡ false
    → position_or_len (λ other. other == key) (k ∷ rest) ≡ suc (position_or_len (λ other. other == key) rest)
place_past key k rest another = rw another (omega arith)

place_first : (key k : ℕ) (rest : List ℕ) → (k == key) ≡ true → position_or_len (λ other. other == key) (k ∷ rest) ≡ 0
place_first key k rest same = rw same refl

found_in : (key : ℕ) (keys : List ℕ) → position_or_len (λ other. other == key) keys < length keys
    → (remove keys (position_or_len (λ other. other == key) keys) ≡ without key keys) × (has_key key keys ≡ true)
found_in key [] inside = absurd (omega (arith, inside))
found_in key (k ∷ rest) inside = elim (either (k == key)) [
  | inl same ↦ rw same (refl, refl)
  | inr another ↦
      let past = place_past key k rest another in
      let more = found_in key rest (omega (arith, past, inside)) in
      let left : without key (k ∷ rest) ≡ k ∷ without key rest = rw another refl in
      let has : has_key key (k ∷ rest) ≡ has_key key rest = rw another refl in
      (remove_past k rest _ _ past ∙ ap (λ (keys : List ℕ). k ∷ keys) more.0 ∙ sym left, has ∙ more.1)
]

absent_in : (key : ℕ) (keys : List ℕ) → length keys ≤ position_or_len (λ other. other == key) keys → has_key key keys ≡ false
absent_in key [] past = refl
absent_in key (k ∷ rest) past = elim (either (k == key)) [
  | inl same ↦ absurd (omega (arith, past, place_first key k rest same))
  | inr another ↦
      let has : has_key key (k ∷ rest) ≡ has_key key rest = rw another refl in
      has ∙ absent_in key rest (omega (arith, past, place_past key k rest another))
]

pub place_found : (key place : ℕ) (keys : List ℕ) → Some place ≡ position (λ other. other == key) keys
    → (place < length keys) × (remove keys place ≡ without key keys) × (has_key key keys ≡ true)
place_found key place keys is = elim (either (nat_lt (position_or_len (λ other. other == key) keys) (length keys))) [
  | inl inside ↦
      let same : Some place ≡ Some (position_or_len (λ other. other == key) keys) = rw inside at is in
      let at : place ≡ position_or_len (λ other. other == key) keys = cc in
      let below : position_or_len (λ other. other == key) keys < length keys = grind (arith, nat_tests) in
      let found = found_in key keys below in
      rw at (below, found.0, found.1)
  | inr past ↦ let clash : Some place ≡ None = rw past at is in absurd cc
]

pub place_absent : (key : ℕ) (keys : List ℕ) → None ≡ position (λ other. other == key) keys → has_key key keys ≡ false
place_absent key keys is = elim (either (nat_lt (position_or_len (λ other. other == key) keys) (length keys))) [
  | inl inside ↦ let clash : None ≡ Some (position_or_len (λ other. other == key) keys) = rw inside at is in absurd cc
  | inr past ↦ absent_in key keys (grind (arith, nat_tests))
]

pub if_found : (key : ℕ) (keys : List ℕ) (found : Option ℕ) → found ≡ position (λ other. other == key) keys
    → IfSome found (λ place. remove keys place ≡ without key keys)
if_found key keys None is = tt
if_found key keys (Some place) is = (place_found key place keys is).1

pub if_there : (key : ℕ) (keys : List ℕ) (found : Option ℕ) → found ≡ position (λ other. other == key) keys
    → IfSome found (λ place. has_key key keys ≡ true)
if_there key keys None is = tt
if_there key keys (Some place) is = (place_found key place keys is).2

pub if_absent : (key : ℕ) (keys : List ℕ) (found : Option ℕ) → found ≡ position (λ other. other == key) keys
    → IfNone found (has_key key keys ≡ false)
if_absent key keys None is = place_absent key keys is
if_absent key keys (Some place) is = tt

pub without_absent : (key : ℕ) (keys : List ℕ) → has_key key keys ≡ false → without key keys ≡ keys
without_absent key [] absent = refl
without_absent key (k ∷ rest) absent = grind (arith, nat_tests, without_absent key rest)
