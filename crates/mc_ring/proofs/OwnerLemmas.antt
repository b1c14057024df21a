-- Which pair holds a hash.
use Rattle.std.proofs.Common.{◌≡◌, ℕ, zero, suc, ◌<◌, ◌≤◌, ◌⊎◌, inl, inr, Bool, true, false, cond, nat_le, List, [], ◌∷◌, Option, Some, None, length, get_or, refl, sym, ap, ◌∙◌, subst, arith}
use Rattle.std.proofs.lemmas.Bool.Decides.{nat_tests}
use Rattle.std.specs.List.{filter, Contains}
use Rattle.std.specs.Option.{option_or, option_map_or}
use Rattle.mc_ring.specs.declared.points.Point.{Point}
use Rattle.mc_ring.specs.Owners.{is_before, lesser, least, holder_of, owner_of}
use Rattle.mc_ring.specs.Rings.{HasSame}

-- ---- members

abbrev pub Member : Point → List Point → Type 0
Member q [] = ⊥
Member q (p ∷ ps) = (p ≡ q) ⊎ Member q ps

member_at : (ps : List Point) (q : Point) (k : ℕ) → k < length ps → get_or ps k q ≡ q → Member q ps
member_at [] q k lt e = absurd (omega arith)
member_at (p ∷ ps) q zero lt e = inl e
member_at (p ∷ ps) q (suc k) lt e = inr (member_at ps q k (omega arith) e)

pub member_from : (ps : List Point) (q : Point) → Contains ps q → Member q ps
member_from ps q held = member_at ps q held.0 held.1 held.2

pub contains_from : (ps : List Point) (q : Point) → Member q ps → Contains ps q
contains_from [] q m = absurd m
contains_from (p ∷ ps) q (inl e) = (0, omega arith, e)
contains_from (p ∷ ps) q (inr m) = let rest = contains_from ps q m in (suc rest.0, omega (arith, rest.1), rest.2)

-- ---- the order of pairs

-- one pair is not after another
abbrev pub IsUpTo : Point → Point → Type 0
IsUpTo p q = (p.point < q.point) ⊎ ((p.point ≡ q.point) × (p.place ≤ q.place))

pub from_before : (p q : Point) → is_before p q ≡ true → IsUpTo p q
from_before p q e = grind (arith, nat_tests)

from_not_before : (p q : Point) → is_before p q ≡ false → IsUpTo q p
from_not_before p q e = grind (arith, nat_tests)

up_to-trans : (p q r : Point) → IsUpTo p q → IsUpTo q r → IsUpTo p r
up_to-trans p q r (inl a) (inl b) = inl (omega arith)
up_to-trans p q r (inl a) (inr b) = inl (omega arith)
up_to-trans p q r (inr a) (inl b) = inl (omega arith)
up_to-trans p q r (inr a) (inr b) = inr (omega arith, omega arith)

pub up_to-refl : (p q : Point) → p ≡ q → IsUpTo p q
up_to-refl p q e = inr (ap (λ (x : Point). x.point) e, omega (arith, ap (λ (x : Point). x.place) e))

made : ℕ → ℕ → Point
made a b = record { point = a; place = b }

pub same_point : (p q : Point) → p.point ≡ q.point → p.place ≡ q.place → p ≡ q
unfolding made
same_point p q a b =
    let first : made p.point p.place ≡ made q.point p.place = ap (λ x. made x p.place) a in
    let second : made q.point p.place ≡ made q.point q.place = ap (λ y. made q.point y) b in
    first ∙ second

up_to-both : (p q : Point) → IsUpTo p q → IsUpTo q p → p ≡ q
up_to-both p q (inl a) (inl b) = absurd (omega arith)
up_to-both p q (inl a) (inr b) = absurd (omega arith)
up_to-both p q (inr a) (inl b) = absurd (omega arith)
up_to-both p q (inr a) (inr b) = same_point p q a.0 (omega arith)

-- ---- the least of some pairs

-- one of the pairs, and no other is before it
record IsLeast (m : Point) (ps : List Point) : Type 0 where
  pub here : Member m ps
  pub first : (q : Point) → Member q ps → IsUpTo m q

lesser_by : (b : Bool) (p m : Point) (ps : List Point) → is_before m p ≡ b → IsLeast m ps → IsLeast (cond b m p) (p ∷ ps)
lesser_by true p m ps e rest = record {
  here = inr rest.here;
  first = λ q held. elim held [
    | inl same ↦ let P : Point → Type 0 = λ x. IsUpTo m x in subst P same (from_before m p e)
    | inr there ↦ rest.first q there
  ];
}
lesser_by false p m ps e rest = record {
  here = inl refl;
  first = λ q held. elim held [
    | inl same ↦ up_to-refl p q same
    | inr there ↦ up_to-trans p m q (from_not_before m p e) (rest.first q there)
  ];
}

least_is : (p : Point) (ps : List Point) → IsLeast (lesser p (least ps)) (p ∷ ps)
least_is p [] = record {
  here = inl refl;
  first = λ q held. elim held [
    | inl same ↦ up_to-refl p q same
    | inr there ↦ absurd there
  ];
}
least_is p (r ∷ rs) = lesser_by (is_before (lesser r (least rs)) p) p (lesser r (least rs)) (r ∷ rs) refl (least_is r rs)

-- ---- pairs that pass a test

member_filter_by : (b : Bool) (t : Point → Bool) (p q : Point) (ps : List Point) → t p ≡ b → (Member q (filter t ps) → Member q ps × (t q ≡ true)) → Member q (cond b (p ∷ filter t ps) (filter t ps)) → Member q (p ∷ ps) × (t q ≡ true)
member_filter_by true t p q ps e rest (inl same) = (inl same, ap t (sym same) ∙ e)
member_filter_by true t p q ps e rest (inr there) = let r = rest there in (inr r.0, r.1)
member_filter_by false t p q ps e rest held = let r = rest held in (inr r.0, r.1)

from_filter : (t : Point → Bool) (ps : List Point) (q : Point) → Member q (filter t ps) → Member q ps × (t q ≡ true)
from_filter t [] q held = absurd held
from_filter t (p ∷ ps) q held = member_filter_by (t p) t p q ps refl (from_filter t ps q) held

filter_member_by : (b : Bool) (t : Point → Bool) (p q : Point) (ps : List Point) → t p ≡ b → t q ≡ true → (Member q ps → Member q (filter t ps)) → Member q (p ∷ ps) → Member q (cond b (p ∷ filter t ps) (filter t ps))
filter_member_by true t p q ps e pass rest (inl same) = inl same
filter_member_by true t p q ps e pass rest (inr there) = inr (rest there)
filter_member_by false t p q ps e pass rest (inl same) = let wrong : t p ≡ true = ap t same ∙ pass in absurd cc
filter_member_by false t p q ps e pass rest (inr there) = rest there

to_filter : (t : Point → Bool) (ps : List Point) (q : Point) → t q ≡ true → Member q ps → Member q (filter t ps)
to_filter t [] q pass held = absurd held
to_filter t (p ∷ ps) q pass held = filter_member_by (t p) t p q ps refl pass (to_filter t ps q pass) held

-- ---- what holds a hash

-- for a hash one pair comes no later than another: a pair that is not below the hash comes first
abbrev pub ComesFirst : ℕ → Point → Point → Type 0
ComesFirst hash p q = ((hash ≤ p.point) × ((q.point < hash) ⊎ IsUpTo p q)) ⊎ ((p.point < hash) × (q.point < hash) × IsUpTo p q)

-- one of the pairs, and no other comes before it
pub record Holds (hash : ℕ) (ps : List Point) (m : Point) : Type 0 where
  pub here : Member m ps
  pub first : (q : Point) → Member q ps → ComesFirst hash m q

comes-both : (hash : ℕ) (p q : Point) → ComesFirst hash p q → ComesFirst hash q p → p ≡ q
comes-both hash p q (inl a) (inl b) = elim a.1 [
  | inl low ↦ absurd (omega arith)
  | inr x ↦ elim b.1 [ inl low ↦ absurd (omega arith) | inr y ↦ up_to-both p q x y ]
]
comes-both hash p q (inl a) (inr b) = absurd (omega arith)
comes-both hash p q (inr a) (inl b) = absurd (omega arith)
comes-both hash p q (inr a) (inr b) = up_to-both p q a.2 b.2

-- only one pair holds a hash
pub holds-one : (hash : ℕ) (ps qs : List Point) (m n : Point) → Holds hash ps m → Holds hash qs n → Member m qs → Member n ps → m ≡ n
holds-one hash ps qs m n a b there back = comes-both hash m n (a.first n back) (b.first m there)

not_below : (hash : ℕ) (p : Point) → nat_le hash p.point ≡ true → hash ≤ p.point
not_below hash p e = grind (arith, nat_tests)

below_by : (b : Bool) (hash : ℕ) (p : Point) → nat_le hash p.point ≡ b → (b ≡ true → ⊥) → p.point < hash
below_by true hash p e never = absurd (never refl)
below_by false hash p e _ = grind (arith, nat_tests)

above_first : (b : Bool) (hash : ℕ) (m q : Point) → nat_le hash q.point ≡ b → hash ≤ m.point → (b ≡ true → IsUpTo m q) → ComesFirst hash m q
above_first true hash m q e high first = inl (high, inr (first refl))
above_first false hash m q e high first = inl (high, inl (grind (arith, nat_tests)))

-- the pair that holds a hash, by the pairs that are not below it
holds_by : (hash : ℕ) (ps fs : List Point) (m : Point) → fs ≡ filter (λ p. nat_le hash p.point) ps → option_or (least fs) (least ps) ≡ Some m → Holds hash ps m
holds_by hash [] [] m is e = absurd cc
holds_by hash (p ∷ ps) [] m is e =
    let all = least_is p ps in
    let m_is : lesser p (least ps) ≡ m = cc in
    let none = λ (q : Point) (held : Member q (p ∷ ps)). below_by (nat_le hash q.point) hash q refl (λ pass.
    let inside : Member q (filter (λ x. nat_le hash x.point) (p ∷ ps)) = to_filter (λ x. nat_le hash x.point) (p ∷ ps) q pass held in
    let P : List Point → Type 0 = λ x. Member q x in subst P (sym is) inside) in
    let P : Point → Type 0 = λ x. Holds hash (p ∷ ps) x in
    subst P m_is (record {
      here = all.here;
      first = λ q held. inr (none (lesser p (least ps)) all.here, none q held, all.first q held);
    })
holds_by hash ps (f ∷ fs) m is e =
    let t : Point → Bool = λ x. nat_le hash x.point in
    let top = least_is f fs in
    let m_is : lesser f (least fs) ≡ m = cc in
    let Q : List Point → Type 0 = λ x. Member (lesser f (least fs)) x in
    let inside = from_filter t ps (lesser f (least fs)) (subst Q is top.here) in
    let P : Point → Type 0 = λ x. Holds hash ps x in
    subst P m_is (record {
      here = inside.0;
      first = λ q held. above_first (nat_le hash q.point) hash (lesser f (least fs)) q refl (not_below hash (lesser f (least fs)) inside.1)
          (λ pass. let R : List Point → Type 0 = λ x. Member q x in top.first q (subst R (sym is) (to_filter t ps q pass held)));
    })

-- the holder of the definition holds the hash
pub holds_from : (hash : ℕ) (ps : List Point) (m : Point) → holder_of ps hash ≡ Some m → Holds hash ps m
unfolding holder_of
holds_from hash ps m e = holds_by hash ps (filter (λ p. nat_le hash p.point) ps) m refl e

some_or : (o : Option Point) (p : Point) → (m : Point) × (option_or o (Some p) ≡ Some m)
some_or None p = (p, refl)
some_or (Some q) p = (q, refl)

-- if there is a pair, one holds the hash
pub holder_some : (hash : ℕ) (p : Point) (ps : List Point) → (m : Point) × (holder_of (p ∷ ps) hash ≡ Some m)
unfolding holder_of
holder_some hash p ps = some_or (least (filter (λ x. nat_le hash x.point) (p ∷ ps))) (lesser p (least ps))

-- the pair that holds the hash is the holder of the definition
pub holder_is : (hash : ℕ) (ps : List Point) (m : Point) → Holds hash ps m → holder_of ps hash ≡ Some m
holder_is hash [] m held = absurd held.here
holder_is hash (p ∷ ps) m held =
    let some = holder_some hash p ps in
    let other = holds_from hash (p ∷ ps) some.0 some.1 in
    some.1 ∙ ap Some (holds-one hash (p ∷ ps) (p ∷ ps) some.0 m other held other.here held.here)

-- ---- only the members count

-- lists with the same members have the same holder
pub holder_of-same : (hash : ℕ) (ps qs : List Point) → ((p : Point) → Member p ps → Member p qs) → ((p : Point) → Member p qs → Member p ps) → holder_of ps hash ≡ holder_of qs hash
holder_of-same hash [] [] there back = refl
holder_of-same hash [] (q ∷ qs) there back = absurd (back q (inl refl))
holder_of-same hash (p ∷ ps) qs there back =
    let some = holder_some hash p ps in
    let held = holds_from hash (p ∷ ps) some.0 some.1 in
    some.1 ∙ sym (holder_is hash qs some.0 (record { here = there some.0 held.here; first = λ q in_qs. held.first q (back q in_qs) }))

pub owner_of-same : (hash : ℕ) (ps qs : List Point) → HasSame ps qs → owner_of ps hash ≡ owner_of qs hash
owner_of-same hash ps qs same =
    ap (λ (o : Option Point). option_map_or (λ (p : Point). p.place) o 0)
    (holder_of-same hash ps qs (λ p held. member_from qs p ((same p).0 (contains_from ps p held))) (λ p held. member_from ps p ((same p).1 (contains_from qs p held))))
