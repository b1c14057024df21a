-- Slots as lists of their parts: what a write to one leaves.
use Rattle.std.proofs.Common.{◌≡◌, ◌≢◌, ℕ, zero, suc, ◌+◌, ◌-◌, ◌<◌, ◌≤◌, List, [], ◌∷◌, length, take, Some, map, set, get_or, get_or-set_other, ap, refl, sym, ◌∙◌, subst, arith}
use Rattle.std.specs.Prelude.{slice_get}
use Rattle.std.specs.List.{swap_remove}
use Rattle.std.proofs.lemmas.List.{length-set, length-take-le}
use Rattle.mc_table.specs.declared.slots.Slot.{Slot}
use Rattle.mc_table.specs.Slots.{entries_of, tags_of, nexts_of}
use Rattle.mc_table.specs.Chains.{at_place, falls, IsChained}
use Rattle.mc_table.proofs.ChainLemmas.{chained_same, freed, cut}

-- a part that a write sets
pub map_set : {X Y : Type 0} (f : X → Y) (xs : List X) (i : ℕ) (x : X) → map f (set xs i x) ≡ set (map f xs) i (f x)
map_set f [] i x = refl
map_set f (y ∷ xs) zero x = refl
map_set {X} {Y} f (y ∷ xs) (suc i) x = ap (λ (l : List Y). f y ∷ l) (map_set f xs i x)

-- a part that it leaves
pub map_kept : {X Y : Type 0} (f : X → Y) (xs : List X) (i : ℕ) (old x : X) → old ≡ get_or xs i old → f x ≡ f old → map f (set xs i x) ≡ map f xs
map_kept f [] i old x is same = refl
map_kept {X} {Y} f (y ∷ xs) zero old x is same = ap (λ (z : Y). z ∷ map f xs) (same ∙ ap f is)
map_kept {X} {Y} f (y ∷ xs) (suc i) old x is same = ap (λ (l : List Y). f y ∷ l) (map_kept f xs i old x is same)

-- a part that is read
pub map_read : {X Y : Type 0} (f : X → Y) (xs : List X) (i : ℕ) (x : X) (d : Y) → i < length xs → x ≡ get_or xs i x → get_or (map f xs) i d ≡ f x
map_read f [] i x d within is = absurd (omega arith)
map_read f (y ∷ xs) zero x d within is = ap f (sym is)
map_read f (y ∷ xs) (suc i) x d within is = map_read f xs i x d (omega arith) is

pub map_got : {X Y : Type 0} (f : X → Y) (xs : List X) (i : ℕ) (x : X) → i < length xs → x ≡ get_or xs i x → slice_get (map f xs) i ≡ Some (f x)
map_got f [] i x within is = absurd (omega arith)
map_got {X} {Y} f (y ∷ xs) zero x within is = ap (λ (z : X). Some (f z)) (sym is)
map_got f (y ∷ xs) (suc i) x within is = map_got f xs i x (omega arith) is

pub length_map : {X Y : Type 0} (f : X → Y) (xs : List X) → length (map f xs) ≡ length xs
length_map f [] = refl
length_map f (x ∷ xs) = ap suc (length_map f xs)

-- as many parts as slots
pub length-entries_of : {K V : Type 0} (slots : List (Slot K V)) → length (entries_of slots) ≡ length slots
length-entries_of {K} {V} slots = let entry : Slot K V → K × V = λ s. (s.key, s.value) in length_map entry slots

pub length-tags_of : {K V : Type 0} (slots : List (Slot K V)) → length (tags_of slots) ≡ length slots
length-tags_of {K} {V} slots = let tag : Slot K V → ℕ = λ s. s.tag in length_map tag slots

pub length-nexts_of : {K V : Type 0} (slots : List (Slot K V)) → length (nexts_of slots) ≡ length slots
length-nexts_of {K} {V} slots = let next : Slot K V → ℕ = λ s. s.next in length_map next slots

-- the last takes the place of one that goes

map_take : {X Y : Type 0} (f : X → Y) (n : ℕ) (xs : List X) → map f (take n xs) ≡ take n (map f xs)
map_take f zero xs = refl
map_take f (suc n) [] = refl
map_take {X} {Y} f (suc n) (x ∷ xs) = ap (λ (l : List Y). f x ∷ l) (map_take f n xs)

map_last : {X Y : Type 0} (f : X → Y) (xs : List X) (i : ℕ) (x : X) (d : Y) → i < length xs → f (get_or xs i x) ≡ get_or (map f xs) i d
map_last f [] i x d within = absurd (omega arith)
map_last f (y ∷ xs) zero x d within = refl
map_last f (y ∷ xs) (suc i) x d within = map_last f xs i x d (omega arith)

pub map_swap_remove : {X Y : Type 0} (f : X → Y) (xs : List X) (i : ℕ) (x : X) (d : Y) → i < length xs → map f (swap_remove xs i x) ≡ swap_remove (map f xs) i d
map_swap_remove {X} {Y} f xs i x d within =
    map_take f (length xs - 1) (set xs i (get_or xs (length xs - 1) x))
    ∙ ap (λ (l : List Y). take (length xs - 1) l) (map_set f xs i (get_or xs (length xs - 1) x) ∙ ap (λ (y : Y). set (map f xs) i y) (map_last f xs (length xs - 1) x d (omega arith)))
    ∙ ap (λ (n : ℕ). take (n - 1) (set (map f xs) i (get_or (map f xs) (n - 1) d))) (sym (length_map f xs))

pub read_take : {X : Type 0} (n : ℕ) (xs : List X) (i : ℕ) (d : X) → i < n → get_or (take n xs) i d ≡ get_or xs i d
read_take zero xs i d less = absurd (omega arith)
read_take (suc n) [] i d less = refl
read_take (suc n) (x ∷ xs) zero d less = refl
read_take (suc n) (x ∷ xs) (suc i) d less = read_take n xs i d (omega arith)

pub read_swap_remove : {X : Type 0} (xs : List X) (i j : ℕ) (x d : X) → j < length xs - 1 → j ≢ i → get_or (swap_remove xs i x) j d ≡ get_or xs j d
read_swap_remove xs i j x d less apart =
    read_take (length xs - 1) (set xs i (get_or xs (length xs - 1) x)) j d less ∙ get_or-set_other xs i j (get_or xs (length xs - 1) x) d apart

pub length_swap_remove : {X : Type 0} (xs : List X) (i : ℕ) (x : X) → i < length xs → length (swap_remove xs i x) ≡ length xs - 1
length_swap_remove xs i x within =
    let same : length (set xs i (get_or xs (length xs - 1) x)) ≡ length xs = length-set xs i (get_or xs (length xs - 1) x) in
    length-take-le (length xs - 1) (set xs i (get_or xs (length xs - 1) x)) (omega arith)

-- chains that know nothing of the place are those of the slots that are left
pub taken_chains : {K V : Type 0} (heads : List ℕ) (slots after : List (Slot K V)) (i out : ℕ) (slot : Slot K V) → i < length slots → after ≡ swap_remove slots i slot
    → ((q : ℕ) → 0 < q → q ≤ length slots - 1 → q ≢ out → q ≢ suc i) → IsChained heads (tags_of slots) (nexts_of slots) out (length slots - 1)
    → IsChained heads (tags_of after) (nexts_of after) out (length after)
taken_chains {K} {V} heads slots after i out slot within is apart chained =
    let tags : tags_of after ≡ swap_remove (tags_of slots) i 0 = ap (λ (l : List (Slot K V)). tags_of l) is ∙ map_swap_remove (λ s. s.tag) slots i slot 0 within in
    let nexts : nexts_of after ≡ swap_remove (nexts_of slots) i 0 = ap (λ (l : List (Slot K V)). nexts_of l) is ∙ map_swap_remove (λ s. s.next) slots i slot 0 within in
    let size : length after ≡ length slots - 1 = ap length is ∙ length_swap_remove slots i slot within in
    let at : (q : ℕ) (xs : List ℕ) → length xs ≡ length slots → 0 < q → q ≤ length slots - 1 → q ≢ out → get_or (swap_remove xs i 0) (q - 1) 0 ≡ get_or xs (q - 1) 0 =
    λ q xs same high low chains. let differ : q ≢ suc i = apart q high low chains in read_swap_remove xs i (q - 1) 0 0 (omega arith) (λ one. differ (omega arith)) in
    let kept = chained_same heads (tags_of slots) (nexts_of slots) (swap_remove (tags_of slots) i 0) (swap_remove (nexts_of slots) i 0) out (length slots - 1)
    (λ q high low chains. (at q (tags_of slots) (length-tags_of slots) high low chains, at q (nexts_of slots) (length-nexts_of slots) high low chains)) chained in
    rw (tags, nexts, size) kept

-- the last slot, out of its chain, is removed
pub taken_last : {K V : Type 0} (heads : List ℕ) (slots after : List (Slot K V)) (i place : ℕ) (slot : Slot K V) → i < length slots → after ≡ swap_remove slots i slot
    → place ≡ length slots → i + 1 ≡ place → IsChained heads (tags_of slots) (nexts_of slots) place (length slots) → IsChained heads (tags_of after) (nexts_of after) 0 (length after)
taken_last {K} {V} heads slots after i place slot within is last same chained =
    let whole = cut heads (tags_of slots) (nexts_of slots) (length slots) (subst (λ (n : ℕ). IsChained heads (tags_of slots) (nexts_of slots) n (length slots)) last chained) (omega arith) in
    taken_chains heads slots after i 0 slot within is (λ q high low some. (λ one. absurd (omega arith))) whole

-- a slot out of its chain is removed, and the last has gone from its chain
pub taken_other : {K V : Type 0} (heads heads2 : List ℕ) (slots after : List (Slot K V)) (i place : ℕ) (slot : Slot K V) → 0 < length heads → i < length slots → after ≡ swap_remove slots i slot
    → length slots ≢ place → i + 1 ≡ place → heads2 ≡ set heads (falls (length heads) (tags_of slots) (length slots)) (at_place (nexts_of slots) (length slots))
    → IsChained heads (tags_of slots) (nexts_of slots) place (length slots) → IsChained heads2 (tags_of after) (nexts_of after) place (length after)
taken_other {K} {V} heads heads2 slots after i place slot some within is last same made chained =
    let whole = freed heads (tags_of slots) (nexts_of slots) place (length slots) chained some (omega arith) last in
    taken_chains heads2 slots after i place slot within is (λ q high low apart. (λ one. apart (omega arith)))
    (subst (λ (l : List ℕ). IsChained l (tags_of slots) (nexts_of slots) place (length slots - 1)) (sym made) whole)

pub taken_entries : {K V : Type 0} (slots after : List (Slot K V)) (entries : List (K × V)) (i : ℕ) (slot : Slot K V) → i < length slots → after ≡ swap_remove slots i slot
    → entries_of slots ≡ entries → entries_of after ≡ swap_remove entries i (slot.key, slot.value)
taken_entries {K} {V} slots after entries i slot within is same =
    let entry : Slot K V → K × V = λ s. (s.key, s.value) in
    ap (λ (l : List (Slot K V)). entries_of l) is ∙ map_swap_remove entry slots i slot (slot.key, slot.value) within
    ∙ ap (λ (l : List (K × V)). swap_remove l i (slot.key, slot.value)) same

pub taken_tags : {K V : Type 0} (slots after : List (Slot K V)) (tags : List ℕ) (i : ℕ) (slot : Slot K V) → i < length slots → after ≡ swap_remove slots i slot
    → tags_of slots ≡ tags → tags_of after ≡ swap_remove tags i 0
taken_tags {K} {V} slots after tags i slot within is same =
    let tag : Slot K V → ℕ = λ s. s.tag in
    ap (λ (l : List (Slot K V)). tags_of l) is ∙ map_swap_remove tag slots i slot 0 within ∙ ap (λ (l : List ℕ). swap_remove l i 0) same

pub taken_entry : {K V : Type 0} (slots : List (Slot K V)) (entries : List (K × V)) (i : ℕ) (slot : Slot K V) → i < length slots → slot ≡ get_or slots i slot
    → entries_of slots ≡ entries → slice_get entries i ≡ Some (slot.key, slot.value)
taken_entry {K} {V} slots entries i slot within is same =
    let entry : Slot K V → K × V = λ s. (s.key, s.value) in
    ap (λ (l : List (K × V)). slice_get l i) (sym same) ∙ map_got entry slots i slot within is
