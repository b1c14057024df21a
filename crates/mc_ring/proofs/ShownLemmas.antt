-- Points in rising order, each once, and the place where a hash is among them.
use Rattle.std.proofs.Common.{◌≡◌, ◌==◌, ◌&&◌, ℕ, suc, ◌<◌, ◌≤◌, ◌⊎◌, inl, inr, Less, Bool, true, false, nat_lt, List, [], ◌∷◌, length, get_or, refl, sym, ap, ◌∙◌, subst, arith}
use Rattle.std.specs.List.{AllByRecursion, dedup}
use Rattle.std.specs.List.Sorted.{IsPermutation, IsSorted, IsStrictlySortedBy, IsPartitionedBy, IsPartitionPoint}
use Rattle.std.specs.Ordering.{nat_cmp, ordering_then, eq_by_cmp}
use Rattle.std.specs.declared.cmp.Ordering.{Ordering}
use Rattle.std.specs.Cmp.{IsTotalOrder, IsEquivalence}
use Rattle.std.proofs.lemmas.Bool.{cases_lt}
use Rattle.std.proofs.lemmas.Bool.Decides.{nat_tests}
use Rattle.std.proofs.lemmas.Cmp.{nat_cmp_total, nat_eq_equiv, on_total, then_total, on_equiv, and_equiv}
use Rattle.std.proofs.lemmas.List.{get_or_default}
use Rattle.std.proofs.lemmas.List.Elements.{All-from_recursion, Contains-get_or}
use Rattle.std.proofs.lemmas.List.Kept.{AllPairs-cons, Contains-dedup, Contains-from_dedup, IsStrictlySortedBy-dedup}
use Rattle.std.proofs.lemmas.List.Sorted.{Contains-permutation, IsPermutation-sym, IsPartitionedBy-ltb}
use Rattle.mc_ring.specs.declared.points.Point.{Point}
use Rattle.mc_ring.specs.Owners.{is_before}
use Rattle.mc_ring.specs.Rings.{IsRising, Shows}
use Rattle.mc_ring.proofs.OwnerLemmas.{IsUpTo, from_before, up_to-refl, same_point, Member, member_from, contains_from, Holds}

-- the orders that the code sorts by
abbrev pub point_cmp : Point → Point → Ordering
point_cmp p q = ordering_then (nat_cmp p.point q.point) (nat_cmp p.place q.place)

abbrev pub point_eq : Point → Point → Bool
point_eq p q = (p.point == q.point) && (p.place == q.place)

point_cmp_total : IsTotalOrder point_cmp
point_cmp_total = then_total (on_total (λ (p : Point). p.point) nat_cmp_total) (on_total (λ (p : Point). p.place) nat_cmp_total)

point_eq_equiv : IsEquivalence point_eq
point_eq_equiv = and_equiv (on_equiv (λ (p : Point). p.point) nat_eq_equiv) (on_equiv (λ (p : Point). p.place) nat_eq_equiv)

point_ties : (p q : Point) → point_eq p q ≡ eq_by_cmp point_cmp p q
point_ties p q = grind (arith, nat_tests)

point_exact : (p q : Point) → point_eq p q ≡ true → p ≡ q
point_exact p q e =
    let points : p.point ≡ q.point = grind (arith, nat_tests) in
    let places : p.place ≡ q.place = grind (arith, nat_tests) in
    same_point p q points places

before_from_cmp : (p q : Point) → point_cmp p q ≡ Less → is_before p q ≡ true
before_from_cmp p q e = grind (arith, nat_tests)

all_before : (p : Point) (ps : List Point) → AllByRecursion (λ q. point_cmp p q ≡ Less) ps → AllByRecursion (λ q. is_before p q ≡ true) ps
all_before p [] all = all
all_before p (q ∷ qs) all = (before_from_cmp p q all.0, all_before p qs all.1)

rising_from : (ps : List Point) → IsStrictlySortedBy point_cmp ps → IsRising ps
unfolding IsStrictlySortedBy
rising_from [] sorted = λ i j d lt inside. absurd (omega arith)
rising_from (p ∷ ps) sorted =
    AllPairs-cons (λ p q. is_before p q ≡ true) p ps
    (All-from_recursion (λ q. is_before p q ≡ true) ps (all_before p ps sorted.0))
    (rising_from ps sorted.1)

-- what a sort and then a dedup leave
pub shown : (xs ys zs : List Point) → IsPermutation xs ys → IsSorted point_cmp ys → zs ≡ dedup point_eq ys → Shows xs zs
shown xs ys zs moved sorted is = rw is (record {
  rising = rising_from (dedup point_eq ys) (IsStrictlySortedBy-dedup point_cmp_total point_ties ys sorted);
  same = λ p. (
    λ held. Contains-permutation ys xs p (IsPermutation-sym xs ys moved) (Contains-from_dedup point_eq ys p held),
    λ held. Contains-dedup point_eq_equiv point_exact ys p (Contains-permutation xs ys p moved held),
  );
})

-- ---- by places

-- points that rise, at two places
up_to_at : (points : List Point) → IsRising points → (i j : ℕ) (d : Point) → i ≤ j → j < length points → IsUpTo (get_or points i d) (get_or points j d)
up_to_at points rising i j d le inside = elim (cases_lt i j) [
  | inl lt ↦ from_before (get_or points i d) (get_or points j d) (rising i j d lt inside)
  | inr ge ↦ up_to-refl (get_or points i d) (get_or points j d) (ap (λ k. get_or points k d) (let same : i ≡ j = omega arith in same))
]

point_le : (p q : Point) → IsUpTo p q → p.point ≤ q.point
point_le p q (inl lt) = omega arith
point_le p q (inr e) = omega arith

pub partitioned : (points : List Point) (hash : ℕ) → IsRising points → IsPartitionedBy (λ p. nat_lt p.point hash) points
partitioned points hash rising =
    IsPartitionedBy-ltb (λ (p : Point). p.point) points hash
    (λ i j d le inside. point_le (get_or points i d) (get_or points j d) (up_to_at points rising i j d le inside))

below : (points : List Point) (hash k : ℕ) (d : Point) → nat_lt (get_or points k d).point hash ≡ true → (get_or points k d).point < hash
below points hash k d e = grind (arith, nat_tests)

not_below : (points : List Point) (hash k : ℕ) (d : Point) → nat_lt (get_or points k d).point hash ≡ false → hash ≤ (get_or points k d).point
not_below points hash k d e = grind (arith, nat_tests)

-- a member by its place
place_of : (points : List Point) (q d : Point) → Member q points → (k : ℕ) × (k < length points) × (get_or points k d ≡ q)
place_of points q d held =
    let at = contains_from points q held in
    (at.0, at.1, get_or_default points at.0 d q at.1 ∙ at.2)

-- the first point that is not below the hash holds it
pub holds_at : (points : List Point) (hash place : ℕ) (d : Point) → IsRising points → place < length points
    → IsPartitionPoint (λ p. nat_lt p.point hash ≡ true) (λ p. nat_lt p.point hash ≡ false) points place → Holds hash points (get_or points place d)
holds_at points hash place d rising inside parted =
    let here : hash ≤ (get_or points place d).point = not_below points hash place d (parted.1 place d (omega arith) inside) in
    record {
      here = member_from points (get_or points place d) (Contains-get_or points place d inside);
      first = λ q held.
          let at = place_of points q d held in
          let same : get_or points at.0 d ≡ q = at.2 in
          let P : Point → Type 0 = λ x. (x.point < hash) ⊎ IsUpTo (get_or points place d) x in
          inl (
            here,
            subst P same (elim (cases_lt at.0 place) [
              | inl lt ↦ inl (below points hash at.0 d (parted.0 at.0 d (omega arith) lt))
              | inr ge ↦ inr (up_to_at points rising place at.0 d ge at.1)
            ]),
          );
    }

-- if all are below the hash, the first of all holds it
pub holds_first : (points : List Point) (hash place : ℕ) (d : Point) → IsRising points → 0 < length points → length points ≤ place
    → IsPartitionPoint (λ p. nat_lt p.point hash ≡ true) (λ p. nat_lt p.point hash ≡ false) points place → Holds hash points (get_or points 0 d)
holds_first points hash place d rising some past parted =
    let here : (get_or points 0 d).point < hash = below points hash 0 d (parted.0 0 d (omega arith) (omega arith)) in
    record {
      here = member_from points (get_or points 0 d) (Contains-get_or points 0 d some);
      first = λ q held.
          let at = place_of points q d held in
          let same : get_or points at.0 d ≡ q = at.2 in
          let P : Point → Type 0 = λ x. (x.point < hash) × IsUpTo (get_or points 0 d) x in
          let both = subst P same (below points hash at.0 d (parted.0 at.0 d (omega arith) (omega (arith, at.1))), up_to_at points rising 0 at.0 d (omega arith) at.1) in
          inr (here, both.0, both.1);
    }

-- ---- rising points are determined by their members

rising_head : (p x : Point) (ps : List Point) → IsRising (p ∷ ps) → Member x ps → is_before p x ≡ true
rising_head p x ps rising held =
    let at = contains_from ps x held in
    let P : Point → Type 0 = λ y. is_before p y ≡ true in
    subst P at.2 (rising 0 (suc at.0) x (omega arith) (omega (arith, at.1)))

rising_tail : (p : Point) (ps : List Point) → IsRising (p ∷ ps) → IsRising ps
rising_tail p ps rising = λ i j d lt inside. rising (suc i) (suc j) d (omega arith) (omega arith)

never_both : (p q : Point) → is_before p q ≡ true → is_before q p ≡ true → ⊥
never_both p q a b = grind (arith, nat_tests)

heads : (p q : Point) (ps qs : List Point) → IsRising (p ∷ ps) → IsRising (q ∷ qs) → Member p (q ∷ qs) → Member q (p ∷ ps) → p ≡ q
heads p q ps qs a b (inl e) back = sym e
heads p q ps qs a b (inr there) (inl e) = e
heads p q ps qs a b (inr there) (inr back) = absurd (never_both p q (rising_head p q ps a back) (rising_head q p qs b there))

in_tail : (p q x : Point) (ps qs : List Point) → p ≡ q → IsRising (p ∷ ps) → Member x ps → Member x (q ∷ qs) → Member x qs
in_tail p q x ps qs same rising held (inl e) =
    let itself : p ≡ x = same ∙ e in
    let P : Point → Type 0 = λ y. is_before p y ≡ true in
    let before : is_before p p ≡ true = subst P (sym itself) (rising_head p x ps rising held) in
    absurd (never_both p p before before)
in_tail p q x ps qs same rising held (inr there) = there

pub rising_one : (ps qs : List Point) → IsRising ps → IsRising qs → ((p : Point) → Member p ps → Member p qs) → ((p : Point) → Member p qs → Member p ps) → ps ≡ qs
rising_one [] [] a b there back = refl
rising_one [] (q ∷ qs) a b there back = absurd (back q (inl refl))
rising_one (p ∷ ps) [] a b there back = absurd (there p (inl refl))
rising_one (p ∷ ps) (q ∷ qs) a b there back =
    let same : p ≡ q = heads p q ps qs a b (there p (inl refl)) (back q (inl refl)) in
    let tails : ps ≡ qs = rising_one ps qs (rising_tail p ps a) (rising_tail q qs b)
    (λ x held. in_tail p q x ps qs same a held (there x (inr held)))
    (λ x held. in_tail q p x qs ps (sym same) b held (back x (inr held))) in
    ap (λ x. x ∷ ps) same ∙ ap (λ xs. q ∷ xs) tails

pub shown_one : (pairs points others : List Point) → Shows pairs points → Shows pairs others → points ≡ others
shown_one pairs points others a b =
    rising_one points others a.rising b.rising
    (λ p held. member_from others p ((b.same p).1 ((a.same p).0 (contains_from points p held))))
    (λ p held. member_from points p ((a.same p).1 ((b.same p).0 (contains_from others p held))))
