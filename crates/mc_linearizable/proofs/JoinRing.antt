-- A server that joins, and owns key `k` from then on.
use Rattle.std.proofs.Common.{◌≡◌, ◌∙◌, ℕ, ◌<◌, ◌≤◌, ◌⊎◌, inl, inr, true, false, if◌then◌else◌, List, [], ◌∷◌, ◌++◌, Option, refl, sym, ap, subst, arith}
use Rattle.std.specs.Prelude.{codes}
use Rattle.std.specs.Fmt.{digits}
use Rattle.std.specs.List.{AllByRecursion}
use Rattle.std.specs.Option.{option_map_or}
use Rattle.std.proofs.lemmas.Bool.Decides.{nat_tests}
use Rattle.std.proofs.lemmas.List.Elements.{All-from_recursion}
use Rattle.std.proofs.lemmas.List.Kept.{AllPairs-cons}
use Rattle.md5.specs.Md5.{block_words, compress, digest_bytes, hash_after, md5, rounds}
use Rattle.mc_ring.specs.Owners.{is_before, owner_of}
use Rattle.mc_ring.specs.Points.{first_points, hash_of, label, pairs_at, points_of, points_of_digest}
use Rattle.mc_ring.specs.Rings.{IsRising, RingState, Shows}
use Rattle.mc_ring.specs.declared.points.Point.{Point}
use Rattle.mc_ring.proofs.OwnerLemmas.{ComesFirst, Holds, Member, contains_from, holder_some, holds_from, member_from, owner_of-same, same_point}
use Rattle.mc_ring.proofs.PairLemmas.{first_points-more}
use Rattle.mc_route.specs.Routes.{owner_in}
use Rattle.mc_world.specs.Logs.{HasJoined}
use Rattle.mc_pool_laws.proofs.NeedLemmas.{one_server}

-- points in rising order, each once
abbrev put : Point → List Point → List Point
put p [] = p ∷ []
put p (q ∷ qs) = if is_before p q then p ∷ q ∷ qs else if is_before q p then q ∷ put p qs else q ∷ qs

abbrev put_all : List Point → List Point
put_all [] = []
put_all (p ∷ ps) = put p (put_all ps)

abbrev Rises : List Point → Type 0
Rises [] = Unit {0}
Rises (p ∷ ps) = AllByRecursion (λ (q : Point). is_before p q ≡ true) ps × Rises ps

-- the order of points
abbrev IsAhead : Point → Point → Type 0
IsAhead p q = (p.point < q.point) ⊎ ((p.point ≡ q.point) × (p.place < q.place))

ahead_from : (p q : Point) → is_before p q ≡ true → IsAhead p q
ahead_from p q before = grind (arith, nat_tests)

ahead_to : (p q : Point) → IsAhead p q → is_before p q ≡ true
ahead_to p q (inl less) = grind (arith, nat_tests)
ahead_to p q (inr same) = grind (arith, nat_tests)

ahead_trans : (p q r : Point) → IsAhead p q → IsAhead q r → IsAhead p r
ahead_trans p q r (inl a) (inl b) = inl (omega (arith, a, b))
ahead_trans p q r (inl a) (inr b) = inl (let at = b.0 in omega (arith, a, at))
ahead_trans p q r (inr a) (inl b) = inl (let at = a.0 in omega (arith, at, b))
ahead_trans p q r (inr a) (inr b) = inr (let first = a.0 in let second = b.0 in omega (arith, first, second), let first = a.1 in let second = b.1 in omega (arith, first, second))

before_trans : (p q r : Point) → is_before p q ≡ true → is_before q r ≡ true → is_before p r ≡ true
before_trans p q r first second = ahead_to p r (ahead_trans p q r (ahead_from p q first) (ahead_from q r second))

neither_before : (p q : Point) → is_before p q ≡ false → is_before q p ≡ false → p ≡ q
neither_before p q first second =
    let points : p.point ≡ q.point = grind (arith, nat_tests) in
    let places : p.place ≡ q.place = grind (arith, nat_tests) in
    same_point p q points places

-- a point that is inserted among points that rise
put_after : (r p : Point) (ps : List Point) → is_before r p ≡ true → AllByRecursion (λ (q : Point). is_before r q ≡ true) ps
    → AllByRecursion (λ (q : Point). is_before r q ≡ true) (put p ps)
put_after r p [] before all = (before, tt)
put_after r p (q ∷ qs) before all =
    elim (is_before p q) as (λ v. AllByRecursion (λ (x : Point). is_before r x ≡ true) (if v then p ∷ q ∷ qs else if is_before q p then q ∷ put p qs else q ∷ qs)) [
      | true ↦ (before, all)
      | false ↦ elim (is_before q p) as (λ v. AllByRecursion (λ (x : Point). is_before r x ≡ true) (if v then q ∷ put p qs else q ∷ qs)) [
        | true ↦ (all.0, put_after r p qs before all.1)
        | false ↦ all
      ]
    ]

all_later : (p q : Point) (qs : List Point) → is_before p q ≡ true → AllByRecursion (λ (x : Point). is_before q x ≡ true) qs
    → AllByRecursion (λ (x : Point). is_before p x ≡ true) qs
all_later p q [] first all = tt
all_later p q (x ∷ xs) first all = (before_trans p q x first all.0, all_later p q xs first all.1)

put_rises : (p : Point) (ps : List Point) → Rises ps → Rises (put p ps)
put_rises p [] rises = (tt, tt)
put_rises p (q ∷ qs) rises =
    (elim (is_before p q) as (λ v. is_before p q ≡ v → Rises (if v then p ∷ q ∷ qs else if is_before q p then q ∷ put p qs else q ∷ qs)) [
      | true ↦ λ first. ((first, all_later p q qs first rises.0), rises)
      | false ↦ λ differ. (elim (is_before q p) as (λ v. is_before q p ≡ v → Rises (if v then q ∷ put p qs else q ∷ qs)) [
        | true ↦ λ last. (put_after q p qs last rises.0, put_rises p qs rises.1)
        | false ↦ λ same. rises
      ]) refl
    ]) refl

all_rise : (ps : List Point) → Rises (put_all ps)
all_rise [] = tt
all_rise (p ∷ ps) = put_rises p (put_all ps) (all_rise ps)

rising_by : (ps : List Point) → Rises ps → IsRising ps
rising_by [] rises = λ i j d less inside. absurd (omega (arith, less, inside))
rising_by (p ∷ ps) rises =
    AllPairs-cons (λ (x y : Point). is_before x y ≡ true) p ps (All-from_recursion (λ (x : Point). is_before p x ≡ true) ps rises.0) (rising_by ps rises.1)

-- the members of the points with one inserted
in_put : (x p : Point) (ps : List Point) → (p ≡ x) ⊎ Member x ps → Member x (put p ps)
in_put x p [] there = there
in_put x p (q ∷ qs) there =
    (elim (is_before p q) as (λ v. is_before p q ≡ v → Member x (if v then p ∷ q ∷ qs else if is_before q p then q ∷ put p qs else q ∷ qs)) [
      | true ↦ λ first. there
      | false ↦ λ differ. (elim (is_before q p) as (λ v. is_before q p ≡ v → Member x (if v then q ∷ put p qs else q ∷ qs)) [
        | true ↦ λ last. elim there [
          | inl here ↦ inr (in_put x p qs (inl here))
          | inr later ↦ (elim later [
            | inl next ↦ inl next
            | inr rest ↦ inr (in_put x p qs (inr rest))
          ])
        ]
        | false ↦ λ same. elim there [
          | inl here ↦ inl (sym (neither_before p q differ same) ∙ here)
          | inr later ↦ later
        ]
      ]) refl
    ]) refl

from_put : (x p : Point) (ps : List Point) → Member x (put p ps) → (p ≡ x) ⊎ Member x ps
from_put x p [] there = there
from_put x p (q ∷ qs) there =
    (elim (is_before p q) as (λ v. Member x (if v then p ∷ q ∷ qs else if is_before q p then q ∷ put p qs else q ∷ qs) → (p ≡ x) ⊎ Member x (q ∷ qs)) [
      | true ↦ λ m. m
      | false ↦ elim (is_before q p) as (λ v. Member x (if v then q ∷ put p qs else q ∷ qs) → (p ≡ x) ⊎ Member x (q ∷ qs)) [
        | true ↦ λ m. elim m [
          | inl next ↦ inr (inl next)
          | inr later ↦ (elim (from_put x p qs later) [
            | inl here ↦ inl here
            | inr rest ↦ inr (inr rest)
          ])
        ]
        | false ↦ λ m. inr m
      ]
    ]) there

in_all : (x : Point) (ps : List Point) → Member x ps → Member x (put_all ps)
in_all x [] there = absurd there
in_all x (p ∷ ps) (inl here) = in_put x p (put_all ps) (inl here)
in_all x (p ∷ ps) (inr there) = in_put x p (put_all ps) (inr (in_all x ps there))

from_all : (x : Point) (ps : List Point) → Member x (put_all ps) → Member x ps
from_all x [] there = absurd there
from_all x (p ∷ ps) there = elim (from_put x p (put_all ps) there) [
  | inl here ↦ inl here
  | inr later ↦ inr (from_all x ps later)
]

all_shown : (ps : List Point) → Shows ps (put_all ps)
all_shown ps = record {
  rising = rising_by (put_all ps) (all_rise ps);
  same = λ p. (
    λ there. contains_from ps p (from_all p ps (member_from (put_all ps) p there)),
    λ there. contains_from (put_all ps) p (in_all p ps (member_from ps p there)),
  );
}

-- one of its points is past the hash of `k`
hash_of-k : hash_of (codes "k") ≡ 0x6bb1e48c
unfolding block_words rounds compress hash_after digest_bytes md5 hash_of
hash_of-k = refl

last_digest : points_of_digest (md5 (label (codes "b:2") 39)) ≡ 0x26af75d2 ∷ 0xca2cffb0 ∷ 0x62589f6d ∷ 0x127fc170 ∷ []
unfolding block_words rounds compress hash_after digest_bytes md5 digits points_of_digest
last_digest = refl

abbrev first_point : Point
first_point = record { point = 0; place = 0 }

abbrev past_point : Point
past_point = record { point = 0xca2cffb0; place = 1 }

abbrev new_points : List Point
new_points = pairs_at 1 (points_of (codes "b:2"))

member_later : (x : Point) (ps qs : List Point) → Member x qs → Member x (ps ++ qs)
member_later x [] qs there = there
member_later x (p ∷ ps) qs there = inr (member_later x ps qs there)

past_there : Member past_point new_points
past_there =
    subst (λ (ps : List Point). Member past_point ps) (sym (first_points-more (codes "b:2") 39 1))
    (member_later past_point (pairs_at 1 (first_points (codes "b:2") 39)) (pairs_at 1 (points_of_digest (md5 (label (codes "b:2") 39))))
    (subst (λ (ns : List ℕ). Member past_point (pairs_at 1 ns)) (sym last_digest) (inr (inl refl))))

-- that point, or another of the server, holds the hash
place_of : (place : ℕ) (points : List ℕ) (m : Point) → Member m (pairs_at place points) → m.place ≡ place
place_of place [] m there = absurd there
place_of place (n ∷ ns) m (inl here) = sym (ap (λ (p : Point). p.place) here)
place_of place (n ∷ ns) m (inr there) = place_of place ns m there

not_held : (hash : ℕ) → hash ≡ 0x6bb1e48c → ComesFirst hash first_point past_point → ⊥
not_held hash is (inl a) = let low : hash ≤ 0 = a.0 in omega (arith, is, low)
not_held hash is (inr b) = let low : 0xca2cffb0 < hash = b.1 in omega (arith, is, low)

held_at : (m : Point) → Holds (hash_of (codes "k")) (first_point ∷ new_points) m → m.place ≡ 1
held_at m holds = go holds.here
  where
    go : (first_point ≡ m) ⊎ Member m new_points → m.place ≡ 1
    go (inl here) =
        absurd (not_held (hash_of (codes "k")) hash_of-k
        (subst (λ (x : Point). ComesFirst (hash_of (codes "k")) x past_point) (sym here) (holds.first past_point (inr past_there))))
    go (inr there) = place_of 1 (points_of (codes "b:2")) m there

owned_later : owner_of (put_all (first_point ∷ new_points)) (hash_of (codes "k")) ≡ 1
owned_later =
    let holder = holder_some (hash_of (codes "k")) first_point new_points in
    owner_of-same (hash_of (codes "k")) (put_all (first_point ∷ new_points)) (first_point ∷ new_points) (all_shown (first_point ∷ new_points)).same
    ∙ ap (λ (o : Option Point). option_map_or (λ (p : Point). p.place) o 0) holder.1
    ∙ held_at holder.0 (holds_from (hash_of (codes "k")) (first_point ∷ new_points) holder.0 holder.1)

pub joined_ring : (next : RingState) × HasJoined 1 (codes "b:2") one_server next × (owner_in next (codes "k") ≡ 1)
joined_ring = (
  record { servers = codes "a:1" ∷ codes "b:2" ∷ []; points = put_all (first_point ∷ new_points) },
  record { last = refl; servers = refl; points = all_shown (first_point ∷ new_points) },
  owned_later,
)
