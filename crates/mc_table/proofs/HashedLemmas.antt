-- Slots in the chains of their hashes: what is found, removed, inserted and written.
use Rattle.std.proofs.Common.{◌≡◌, ◌≢◌, ◌⊎◌, ℕ, zero, suc, ◌+◌, ◌-◌, ◌<◌, ◌^◌, inl, inr, Bool, true, false, List, [], ◌∷◌, ◌++◌, length, map, set, get_or, get_or-set_same, Option, Some, None, refl, sym, ap, ◌∙◌, subst, arith}
use Rattle.std.specs.Prelude.{◌==◌, if◌then◌else◌, slice_get, IfSome}
use Rattle.std.specs.List.{swap_remove}
use Rattle.std.specs.Map.{values_of}
use Rattle.std.proofs.lemmas.Bool.{cases_eq}
use Rattle.std.proofs.lemmas.Bool.Decides.{nat_tests}
use Rattle.std.proofs.lemmas.List.{length-set, length_push}
use Rattle.mc_table.specs.declared.slots.Slot.{Slot}
use Rattle.mc_table.specs.Chains.{bucket_of, IsChained}
use Rattle.mc_table.specs.Slots.{entries_of, tags_of, nexts_of, Stands, AreHashed}
use Rattle.mc_table.specs.Tables.{with_value, IsAt, IsNowhere}
use Rattle.mc_table.proofs.EntryLemmas.{got_within, got_or, got-take, got-set_other, got-set_same}
use Rattle.mc_table.proofs.ChainLemmas.{pushed, read_push_old, read_push_new}
use Rattle.mc_table.proofs.SlotLemmas.{map_kept, length-entries_of, length-tags_of, length-nexts_of, length_swap_remove, read_take, read_swap_remove}

-- what a search finds is the only one

pub stands_alone : {K V : Type 0} (eq : K → K → Bool) (test : K → Bool) (tag : K → ℕ) (heads : List ℕ) (slots : List (Slot K V)) (es : List (K × V)) (r : Option ℕ)
    → ((x y : K) → test x ≡ true → test y ≡ eq x y) → AreHashed eq tag heads slots → entries_of slots ≡ es → IfSome r (Stands test (entries_of slots)) → IfSome r (λ i. IsAt test es i)
stands_alone eq test tag heads slots es None one hashed is found = tt
stands_alone {K} {V} eq test tag heads slots es (Some i) one hashed is found =
    subst (λ (l : List (K × V)). IsAt test l i) is (record {
      entry = found.0;
      within = got_within (entries_of slots) i found.0 found.1;
      is = found.1;
      passes = found.2;
      alone = λ other e at passes. sym (hashed.distinct i other found.0 e found.1 at (sym (one found.0.0 e.0 found.2) ∙ passes));
    })

-- a value that is written

module _ {K V : Type 0} where
  abbrev pub with : Slot K V → V → Slot K V
  with slot w = record { key = slot.key; value = w; tag = slot.tag; next = slot.next }

  pub entries_lent : (slots : List (Slot K V)) (i : ℕ) (slot : Slot K V) (w : V) → slot ≡ get_or slots i slot → entries_of (set slots i (with slot w)) ≡ with_value (entries_of slots) i w
  entries_lent [] i slot w is = refl
  entries_lent (s ∷ slots) zero slot w is = ap (λ (x : Slot K V). (x.key, w) ∷ entries_of slots) is
  entries_lent (s ∷ slots) (suc i) slot w is = ap (λ (l : List (K × V)). (s.key, s.value) ∷ l) (entries_lent slots i slot w is)

  pub value_at : (slots : List (Slot K V)) (i : ℕ) (slot : Slot K V) → i < length slots → slot ≡ get_or slots i slot → slice_get (values_of (entries_of slots)) i ≡ Some slot.value
  value_at [] i slot within is = absurd (omega arith)
  value_at (s ∷ slots) zero slot within is = ap (λ (x : Slot K V). Some x.value) (sym is)
  value_at (s ∷ slots) (suc i) slot within is = value_at slots i slot (omega arith) is

  got_old : (es : List (K × V)) (i j : ℕ) (w : V) (e : K × V) → slice_get (with_value es i w) j ≡ Some e → (d : K × V) × (slice_get es j ≡ Some d) × (d.0 ≡ e.0)
  got_old [] i j w e is = absurd cc
  got_old (x ∷ es) zero zero w e is = let same : (x.0, w) ≡ e = cc in (x, refl, ap (λ (y : K × V). y.0) same)
  got_old (x ∷ es) zero (suc j) w e is = (e, is, refl)
  got_old (x ∷ es) (suc i) zero w e is = (e, is, refl)
  got_old (x ∷ es) (suc i) (suc j) w e is = got_old es i j w e is

  -- other entries of the same keys
  hashed_same : (eq : K → K → Bool) (tag : K → ℕ) (heads : List ℕ) (slots after : List (Slot K V)) → AreHashed eq tag heads slots
      → ((j : ℕ) (e : K × V) → slice_get (entries_of after) j ≡ Some e → (d : K × V) × (slice_get (entries_of slots) j ≡ Some d) × (d.0 ≡ e.0))
      → tags_of after ≡ tags_of slots → nexts_of after ≡ nexts_of slots → length after ≡ length slots → AreHashed eq tag heads after
  hashed_same eq tag heads slots after hashed old tags nexts size =
      record {
        chained = rw (tags, nexts, size) hashed.chained;
        tagged = λ j e is. let d = old j e is in ap (λ (l : List ℕ). get_or l j 0) tags ∙ hashed.tagged j d.0 d.1 ∙ ap tag d.2;
        distinct =
            λ i j e d at other same.
            let e0 = old i e at in
            let d0 = old j d other in
            hashed.distinct i j e0.0 d0.0 e0.1 d0.1 (ap (λ (k : K). eq k d0.0.0) e0.2 ∙ ap (λ (k : K). eq e.0 k) d0.2 ∙ same);
        buckets = hashed.buckets;
        small = omega (arith, hashed.small);
      }

  pub hashed_lent : (eq : K → K → Bool) (tag : K → ℕ) (heads : List ℕ) (slots : List (Slot K V)) (i : ℕ) (slot : Slot K V) (w : V) → slot ≡ get_or slots i slot
      → AreHashed eq tag heads slots → AreHashed eq tag heads (set slots i (with slot w))
  hashed_lent eq tag heads slots i slot w is hashed =
      hashed_same eq tag heads slots (set slots i (with slot w)) hashed
      (λ j e at. got_old (entries_of slots) i j w e (ap (λ (l : List (K × V)). slice_get l j) (sym (entries_lent slots i slot w is)) ∙ at))
      (map_kept (λ s. s.tag) slots i slot (with slot w) is refl) (map_kept (λ s. s.next) slots i slot (with slot w) is refl) (length-set slots i (with slot w))

-- an entry that is removed: the old index of the entry that is now at an index
abbrev was_at : ℕ → ℕ → ℕ → ℕ
was_at count i j = if j == i then count - 1 else j

was_other : (count i j : ℕ) → j ≢ i → was_at count i j ≡ j
was_other count i j apart = grind (arith, nat_tests)

was_last : (count i j : ℕ) → j ≡ i → was_at count i j ≡ count - 1
was_last count i j same = grind (arith, nat_tests)

was_one : (count i j k : ℕ) → j < count - 1 → k < count - 1 → was_at count i j ≡ was_at count i k → j ≡ k
was_one count i j k low high same = grind (arith, nat_tests)

got_moved : {X : Type 0} (xs : List X) (i j : ℕ) (x y : X) → i < length xs → slice_get (swap_remove xs i x) j ≡ Some y → (j < length xs - 1) × (slice_get xs (was_at (length xs) i j) ≡ Some y)
got_moved {X} xs i j x y within is =
    let v : X = get_or xs (length xs - 1) x in
    let low : j < length (swap_remove xs i x) = got_within (swap_remove xs i x) j y is in
    let size = length_swap_remove xs i x within in
    let less : j < length xs - 1 = omega arith in
    let here : slice_get (set xs i v) j ≡ Some y = sym (got-take (length xs - 1) (set xs i v) j less) ∙ is in (
      less,
      elim (cases_eq j i) as (λ _. slice_get xs (was_at (length xs) i j) ≡ Some y) [
        | inl same ↦
            let own : Some v ≡ Some y = sym (got-set_same xs i v within) ∙ ap (λ (n : ℕ). slice_get (set xs i v) n) (sym same) ∙ here in
            ap (λ (n : ℕ). slice_get xs n) (was_last (length xs) i j same) ∙ got_or xs (length xs - 1) x (omega arith) ∙ own
        | inr apart ↦ ap (λ (n : ℕ). slice_get xs n) (was_other (length xs) i j apart) ∙ sym (got-set_other xs i j v apart) ∙ here
      ],
    )

tag_moved : (tags : List ℕ) (i j : ℕ) → i < length tags → j < length tags - 1 → get_or (swap_remove tags i 0) j 0 ≡ get_or tags (was_at (length tags) i j) 0
tag_moved tags i j within less = elim (cases_eq j i) as (λ _. get_or (swap_remove tags i 0) j 0 ≡ get_or tags (was_at (length tags) i j) 0) [
  | inl same ↦
      read_take (length tags - 1) (set tags i (get_or tags (length tags - 1) 0)) j 0 less ∙ ap (λ (n : ℕ). get_or (set tags i (get_or tags (length tags - 1) 0)) n 0) same
      ∙ get_or-set_same tags i (get_or tags (length tags - 1) 0) 0 within ∙ ap (λ (n : ℕ). get_or tags n 0) (sym (was_last (length tags) i j same))
  | inr apart ↦ read_swap_remove tags i j 0 0 less apart ∙ ap (λ (n : ℕ). get_or tags n 0) (sym (was_other (length tags) i j apart))
]

module _ {K V : Type 0} where
  pub hashed_taken : (eq : K → K → Bool) (tag : K → ℕ) (heads heads2 : List ℕ) (slots after : List (Slot K V)) (i : ℕ) (x : K × V) → AreHashed eq tag heads slots → i < length slots
      → IsChained heads2 (tags_of after) (nexts_of after) 0 (length after) → entries_of after ≡ swap_remove (entries_of slots) i x → tags_of after ≡ swap_remove (tags_of slots) i 0
      → length heads2 ≡ length heads → AreHashed eq tag heads2 after
  hashed_taken eq tag heads heads2 slots after i x hashed within chained entries tags count =
      let size : length (entries_of slots) ≡ length slots = length-entries_of slots in
      let width : length (tags_of slots) ≡ length slots = length-tags_of slots in
      let low : i < length (entries_of slots) = omega arith in
      let was : ℕ → ℕ = was_at (length (entries_of slots)) i in
      let old : (j : ℕ) (e : K × V) → slice_get (entries_of after) j ≡ Some e → (j < length (entries_of slots) - 1) × (slice_get (entries_of slots) (was j) ≡ Some e) =
      λ j e is. got_moved (entries_of slots) i j x e low (ap (λ (l : List (K × V)). slice_get l j) (sym entries) ∙ is) in
      let left : length after ≡ length slots - 1 = sym (length-entries_of after) ∙ ap length entries ∙ length_swap_remove (entries_of slots) i x low ∙ ap (λ (n : ℕ). n - 1) size in
      record {
        chained = chained;
        tagged =
            λ j e is.
            let o = old j e is in
            ap (λ (l : List ℕ). get_or l j 0) tags ∙ tag_moved (tags_of slots) i j (omega arith) (omega (arith, o.0))
            ∙ ap (λ (n : ℕ). get_or (tags_of slots) (was_at n i j) 0) (width ∙ sym size) ∙ hashed.tagged (was j) e o.1;
        distinct =
            λ j k e d at other same.
            let o = old j e at in
            let p = old k d other in
            was_one (length (entries_of slots)) i j k o.0 p.0 (hashed.distinct (was j) (was k) e d o.1 p.1 same);
        buckets = omega (arith, hashed.buckets);
        small = omega (arith, hashed.small);
      }

  -- an entry that is put

  got_more : (es : List (K × V)) (x : K × V) (j : ℕ) (e : K × V) → slice_get (es ++ x ∷ []) j ≡ Some e → (slice_get es j ≡ Some e) ⊎ ((j ≡ length es) × (x ≡ e))
  got_more [] x zero e is = inr (refl, cc)
  got_more [] x (suc j) e is = absurd cc
  got_more (y ∷ es) x zero e is = inl is
  got_more (y ∷ es) x (suc j) e is = elim (got_more es x j e is) as (λ _. (slice_get (y ∷ es) (suc j) ≡ Some e) ⊎ ((suc j ≡ length (y ∷ es)) × (x ≡ e))) [
    | inl old ↦ inl old
    | inr new ↦ inr (ap suc new.0, new.1)
  ]

  map_push : {Y : Type 0} (f : Slot K V → Y) (slots : List (Slot K V)) (s : Slot K V) → map f (slots ++ s ∷ []) ≡ map f slots ++ f s ∷ []
  map_push f [] s = refl
  map_push {Y} f (x ∷ slots) s = ap (λ (l : List Y). f x ∷ l) (map_push f slots s)

  pub hashed_pushed : (eq : K → K → Bool) (tag : K → ℕ) (heads heads2 : List ℕ) (slots after : List (Slot K V)) (s : Slot K V) (bucket count : ℕ) → ((x y : K) → eq x y ≡ eq y x)
      → AreHashed eq tag heads slots → after ≡ slots ++ s ∷ [] → s.tag ≡ tag s.key → bucket ≡ bucket_of (length heads) s.tag → s.next ≡ get_or heads bucket 0
      → heads2 ≡ set heads bucket count → count ≡ length after → IsNowhere (eq s.key) (entries_of slots) → length slots + 1 < 2 ^ 32 → AreHashed eq tag heads2 after
  hashed_pushed eq tag heads heads2 slots after s bucket count symm hashed is own at leads made all absent small =
      let entry : Slot K V → K × V = λ x. (x.key, x.value) in
      let tag_in : Slot K V → ℕ = λ x. x.tag in
      let next_in : Slot K V → ℕ = λ x. x.next in
      let entries : entries_of after ≡ entries_of slots ++ (s.key, s.value) ∷ [] = ap (λ (l : List (Slot K V)). entries_of l) is ∙ map_push entry slots s in
      let tags : tags_of after ≡ tags_of slots ++ s.tag ∷ [] = ap (λ (l : List (Slot K V)). tags_of l) is ∙ map_push tag_in slots s in
      let nexts : nexts_of after ≡ nexts_of slots ++ s.next ∷ [] = ap (λ (l : List (Slot K V)). nexts_of l) is ∙ map_push next_in slots s in
      let size : length after ≡ suc (length slots) = ap length is ∙ length_push slots s ∙ one_more (length slots) in
      let width : length (tags_of slots) ≡ length slots = length-tags_of slots in
      let more = pushed heads (tags_of slots) (nexts_of slots) (length slots) s.tag hashed.chained hashed.buckets width (length-nexts_of slots) in
      let links : s.next ≡ get_or heads (bucket_of (length heads) s.tag) 0 = leads ∙ ap (λ (n : ℕ). get_or heads n 0) at in
      let heads_are : heads2 ≡ set heads (bucket_of (length heads) s.tag) (suc (length slots)) = made ∙ ap (λ (n : ℕ). set heads n count) at ∙ ap (λ (n : ℕ). set heads (bucket_of (length heads) s.tag) n) (all ∙ size) in
      let buckets : length heads2 ≡ length heads = ap length made ∙ length-set heads bucket count in
      record {
        chained = rw (heads_are, tags, nexts, size, links) more;
        tagged =
            λ j e got. ap (λ (l : List ℕ). get_or l j 0) tags ∙ elim (got_more (entries_of slots) (s.key, s.value) j e (ap (λ (l : List (K × V)). slice_get l j) (sym entries) ∙ got)) as (λ _. get_or (tags_of slots ++ s.tag ∷ []) j 0 ≡ tag e.0) [
              | inl old ↦ let low = got_within (entries_of slots) j e old in read_push_old (tags_of slots) s.tag j (omega (arith, length-entries_of slots)) ∙ hashed.tagged j e old
              | inr new ↦ read_push_new (tags_of slots) s.tag j (omega (arith, new.0, length-entries_of slots)) ∙ own ∙ ap (λ (x : K × V). tag x.0) new.1
            ];
        distinct =
            λ i j e d one other same.
            elim (got_more (entries_of slots) (s.key, s.value) i e (ap (λ (l : List (K × V)). slice_get l i) (sym entries) ∙ one)) as (λ _. i ≡ j) [
              | inl old ↦ elim (got_more (entries_of slots) (s.key, s.value) j d (ap (λ (l : List (K × V)). slice_get l j) (sym entries) ∙ other)) as (λ _. i ≡ j) [
                | inl older ↦ hashed.distinct i j e d old older same
                | inr new ↦
                    let apart : eq s.key e.0 ≡ false = absent i e old in
                    let alike : eq s.key e.0 ≡ true = symm s.key e.0 ∙ ap (λ (x : K × V). eq e.0 x.0) new.1 ∙ same in
                    absurd cc
              ]
              | inr new ↦ elim (got_more (entries_of slots) (s.key, s.value) j d (ap (λ (l : List (K × V)). slice_get l j) (sym entries) ∙ other)) as (λ _. i ≡ j) [
                | inl old ↦
                    let apart : eq s.key d.0 ≡ false = absent j d old in
                    let alike : eq s.key d.0 ≡ true = ap (λ (x : K × V). eq x.0 d.0) new.1 ∙ same in
                    absurd cc
                | inr newer ↦ new.0 ∙ sym newer.0
              ]
            ];
        buckets = omega (arith, hashed.buckets);
        small = omega arith;
      }
    where
      one_more : (n : ℕ) → n + 1 ≡ suc n
      one_more n = omega arith
