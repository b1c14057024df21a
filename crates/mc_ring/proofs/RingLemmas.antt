-- What is true of a new ring.
use Rattle.std.proofs.Common.{◌≡◌, ◌==◌, ◌||◌, ℕ, ◌+◌, ◌<◌, ◌≤◌, ◌⊎◌, inl, inr, Bool, true, false, cond, nat_lt, nat_le, List, [], ◌∷◌, ◌++◌, Option, Some, None, length, refl, sym, ap, ◌∙◌, arith, length-append}
use Rattle.std.specs.List.{All, list_any, list_all}
use Rattle.std.specs.List.Sorted.{IsPermutation}
use Rattle.std.specs.Option.{option_or, option_map_or}
use Rattle.std.specs.Str.{bytes_eq}
use Rattle.std.proofs.lemmas.Bool.Decides.{nat_tests}
use Rattle.std.proofs.lemmas.Cmp.{nat_list_eq_equiv}
use Rattle.std.proofs.lemmas.List.{length_push}
use Rattle.std.proofs.lemmas.List.Sums.{AllPass-from_list_all}
use Rattle.std.proofs.lemmas.List.Elements.{All-contains, All-weaker, Contains-append_left, Contains-append_cases}
use Rattle.std.proofs.lemmas.List.Sorted.{Contains-permutation, IsPermutation-sym, IsPermutation-append_right}
use Rattle.mc_ring.specs.declared.points.Point.{Point}
use Rattle.mc_ring.specs.declared.errors.RingError.{RingError}
use Rattle.mc_ring.specs.declared.errors.RingError.TheVariants.{NoServer, TooMany, Doubled, BadAddress, Memory}
use Rattle.mc_ring.specs.Points.{points_of, pairs_at, pairs_of}
use Rattle.mc_ring.specs.Owners.{holder_of, owner_of}
use Rattle.mc_ring.specs.Rings.{RingState, IsRing, Shows, has_doubled, MovesOnlyTo}
use Rattle.mc_ring.specs.Refusals.{cause_of, refusal_of, refusal_of_pairs, refusal_of_points, refusal_of_more}
use Rattle.mc_ring.proofs.OwnerLemmas.{member_from, contains_from, holds_from, holder_some, holder_is}
use Rattle.mc_ring.proofs.PairLemmas.{pairs_from-places, pairs_from-some, All-shown, shown-some, more-places, places_are}

-- ---- refusals

first_cause : (e : RingError) (other : Option RingError) → (e ≡ Memory → ⊥) → option_or (cause_of e) other ≡ cause_of e
first_cause NoServer other never = refl
first_cause TooMany other never = refl
first_cause Doubled other never = refl
first_cause BadAddress other never = refl
first_cause Memory other never = absurd (never refl)

-- a fault of the servers precedes a fault of the pairs
pub servers_first : (e : RingError) (servers : List (List ℕ)) (pairs : List Point) → (length pairs == 0) ≡ false → cause_of e ≡ refusal_of servers → (e ≡ Memory → ⊥) → cause_of e ≡ refusal_of_points servers pairs
servers_first e servers pairs some refused never =
    rw (some, ← refused) (sym (first_cause e (refusal_of_pairs (length servers) pairs) never))

none_of_three : (a b d : Bool) → cond a (Some NoServer) (cond b (Some TooMany) (cond d (Some Doubled) None)) ≡ None → (a ≡ false) × (b ≡ false) × (d ≡ false)
none_of_three true b d e = absurd cc
none_of_three false true d e = absurd cc
none_of_three false false true e = absurd cc
none_of_three false false false e = (refl, refl, refl)

-- servers that are not refused
record AreAllowed (servers : List (List ℕ)) : Type 0 where
  pub some : 0 < length servers
  pub few : length servers ≤ 64
  pub apart : has_doubled servers ≡ false

allowed : (servers : List (List ℕ)) → refusal_of servers ≡ None → AreAllowed servers
allowed servers e =
    let tests = none_of_three (length servers == 0) (nat_lt 64 (length servers)) (has_doubled servers) e in
    record {
      some = let t = tests.0 in grind (arith, nat_tests, t);
      few = let t = tests.1 in grind (arith, nat_tests, t);
      apart = tests.2;
    }

none_of_two : (a b : Bool) → cond a (Some TooMany) (cond b (Some Doubled) None) ≡ None → (a ≡ false) × (b ≡ false)
none_of_two true b e = absurd cc
none_of_two false true e = absurd cc
none_of_two false false e = (refl, refl)

or_false : (a b : Bool) → (a || b) ≡ false → (a ≡ false) × (b ≡ false)
or_false true b e = absurd cc
or_false false b e = (refl, e)

both_false : (a b : Bool) → a ≡ false → b ≡ false → (a || b) ≡ false
both_false a b x y = rw x y

any_more : (p : List ℕ → Bool) (xs : List (List ℕ)) (y : List ℕ) → list_any p xs ≡ false → p y ≡ false → list_any p (xs ++ y ∷ []) ≡ false
any_more p [] y none last = both_false (p y) false last refl
any_more p (x ∷ xs) y none last =
    let parts = or_false (p x) (list_any p xs) none in
    both_false (p x) (list_any p (xs ++ y ∷ [])) parts.0 (any_more p xs y parts.1 last)

-- one server more that equals none
apart_more : (xs : List (List ℕ)) (y : List ℕ) → has_doubled xs ≡ false → list_any (λ other. bytes_eq other y) xs ≡ false → has_doubled (xs ++ y ∷ []) ≡ false
apart_more [] y apart new = refl
apart_more (x ∷ xs) y apart new =
    let held = or_false (list_any (λ other. bytes_eq other x) xs) (has_doubled xs) apart in
    let unlike = or_false (bytes_eq x y) (list_any (λ other. bytes_eq other y) xs) new in
    both_false (list_any (λ other. bytes_eq other x) (xs ++ y ∷ [])) (has_doubled (xs ++ y ∷ []))
    (any_more (λ other. bytes_eq other x) xs y held.0 (nat_list_eq_equiv.symm y x ∙ unlike.0))
    (apart_more xs y held.1 unlike.1)

-- ---- new rings

pub ring_of_servers : (servers : List (List ℕ)) (points : List Point) → None ≡ refusal_of servers → Shows (pairs_of servers) points → IsRing (record { servers = servers; points = points })
ring_of_servers servers points free shows =
    let good = allowed servers (sym free) in
    record {
      some = good.some;
      few = good.few;
      apart = good.apart;
      pointed = shown-some (pairs_of servers) points shows (pairs_from-some 0 servers good.some);
      rising = shows.rising;
      inside = All-shown (λ (p : Point). p.place < length servers) (pairs_of servers) points shows (pairs_from-places 0 (length servers) servers (omega arith));
    }

place_below : (t : Bool) → cond t None (Some BadAddress) ≡ None → t ≡ true
place_below true e = refl
place_below false e = absurd cc

pub ring_of_pairs : (servers : List (List ℕ)) (pairs points : List Point) → (length pairs == 0) ≡ false → None ≡ refusal_of servers → None ≡ refusal_of_pairs (length servers) pairs → Shows pairs points
    → IsRing (record { servers = servers; points = points })
ring_of_pairs servers pairs points some free inside shows =
    let good = allowed servers (sym free) in
    let pass = place_below (list_all (λ (p : Point). nat_lt p.place (length servers)) pairs) (sym inside) in
    let all : All (λ (p : Point). p.place < length servers) pairs =
    All-weaker (λ (p : Point). nat_lt p.place (length servers) ≡ true) (λ (p : Point). p.place < length servers) (λ p e. grind (arith, nat_tests, e)) pairs
    (AllPass-from_list_all (λ (p : Point). nat_lt p.place (length servers)) pairs pass) in
    record {
      some = good.some;
      few = good.few;
      apart = good.apart;
      pointed = shown-some pairs points shows (grind (arith, nat_tests, some));
      rising = shows.rising;
      inside = All-shown (λ (p : Point). p.place < length servers) pairs points shows all;
    }

-- pairs in another order are shown alike
pub shown_moved : (held added moved points : List Point) → IsPermutation added moved → Shows (held ++ moved) points → Shows (held ++ added) points
shown_moved held added moved points is shows =
    let all = IsPermutation-append_right held added moved is in
    record {
      rising = shows.rising;
      same = λ p. (
        λ h. Contains-permutation (held ++ moved) (held ++ added) p (IsPermutation-sym (held ++ added) (held ++ moved) all) ((shows.same p).0 h),
        λ h. (shows.same p).1 (Contains-permutation (held ++ added) (held ++ moved) p all h),
      );
    }

pub ring_of_more : (servers : List (List ℕ)) (held : List Point) (server : List ℕ) (points : List Point) → IsRing (record { servers = servers; points = held }) → None ≡ refusal_of_more servers server
    → Shows (held ++ pairs_at (length servers) (points_of server)) points → IsRing (record { servers = servers ++ server ∷ []; points = points })
ring_of_more servers held server points ring free shows =
    let tests = none_of_two (nat_le 64 (length servers)) (list_any (λ other. bytes_eq other server) servers) (sym free) in
    let more : length (servers ++ server ∷ []) ≡ length servers + 1 = length_push servers server in
    let n : ℕ = length servers in
    record {
      some = omega arith;
      few = let t = tests.0 in grind (arith, nat_tests, t);
      apart = apart_more servers server ring.apart tests.1;
      pointed = shown-some (held ++ pairs_at n (points_of server)) points shows (omega (arith, ring.pointed, length-append held (pairs_at n (points_of server))));
      rising = shows.rising;
      inside = rw more (All-shown (λ (p : Point). p.place < n + 1) (held ++ pairs_at n (points_of server)) points shows (more-places n held server ring.inside));
    }

-- a hash keeps its owner, or goes to the place of the points that were added
moves_by : (hash : ℕ) (held points : List Point) (place : ℕ) (added : List ℕ) (m : Point) → Shows (held ++ pairs_at place added) points → holder_of points hash ≡ Some m
    → (owner_of points hash ≡ owner_of held hash) ⊎ (owner_of points hash ≡ place)
moves_by hash held points place added m shows is =
    let holds = holds_from hash points m is in
    let owner : owner_of points hash ≡ m.place = ap (λ (o : Option Point). option_map_or (λ (p : Point). p.place) o 0) is in
    elim (Contains-append_cases held (pairs_at place added) m ((shows.same m).0 (contains_from points m holds.here))) [
      | inl old ↦
          let same : holder_of held hash ≡ Some m = holder_is hash held m (record {
            here = member_from held m old;
            first = λ q held_q. holds.first q (member_from points q ((shows.same q).1 (Contains-append_left held (pairs_at place added) q (contains_from held q held_q))));
          }) in
          let before : owner_of held hash ≡ m.place = ap (λ (o : Option Point). option_map_or (λ (p : Point). p.place) o 0) same in
          inl (owner ∙ sym before)
      | inr new ↦ inr (owner ∙ All-contains (λ (p : Point). p.place ≡ place) (pairs_at place added) m (places_are place added) new)
    ]

pub moves : (held points : List Point) (place : ℕ) (added : List ℕ) → 0 < length points → Shows (held ++ pairs_at place added) points → MovesOnlyTo place held points
moves held [] place added some shows hash = absurd (omega arith)
moves held (p ∷ ps) place added some shows hash = let top = holder_some hash p ps in moves_by hash held (p ∷ ps) place added top.0 shows top.1

-- the ring that one server more makes, by its parts
pub ring_with : (ring : RingState) (held : List (List ℕ)) (old : List Point) (server : List ℕ) (servers : List (List ℕ)) (points : List Point) → IsRing ring → held ≡ ring.servers → old ≡ ring.points
    → None ≡ refusal_of_more held server → servers ≡ held ++ server ∷ [] → Shows (old ++ pairs_at (length held) (points_of server)) points → IsRing (record { servers = servers; points = points })
ring_with ring held old server servers points is h o free s shows =
    rw (s, h) (ring_of_more ring.servers ring.points server points is (rw h at free) (rw (h, o) at shows))

pub moves_with : (ring : RingState) (held : List (List ℕ)) (old : List Point) (server : List ℕ) (servers : List (List ℕ)) (points : List Point) → IsRing ring → held ≡ ring.servers → old ≡ ring.points
    → None ≡ refusal_of_more held server → servers ≡ held ++ server ∷ [] → Shows (old ++ pairs_at (length held) (points_of server)) points → MovesOnlyTo (length ring.servers) ring.points points
moves_with ring held old server servers points is h o free s shows =
    moves ring.points points (length ring.servers) (points_of server) (ring_with ring held old server servers points is h o free s shows).pointed (rw (h, o) at shows)
