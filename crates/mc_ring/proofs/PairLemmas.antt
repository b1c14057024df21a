-- Pairs of servers.
use Rattle.std.proofs.Common.{◌≡◌, ℕ, zero, suc, ◌+◌, ◌*◌, ◌<◌, ◌≤◌, List, [], ◌∷◌, ◌++◌, length, get_or, refl, sym, ap, ◌∙◌, arith, length-append, append_assoc, append-nil, add-one}
use Rattle.std.specs.List.{All}
use Rattle.std.proofs.lemmas.List.{length-map, map-append}
use Rattle.std.proofs.lemmas.List.Elements.{All-append, All-map, All-nil, All-contains, Contains-get_or}
use Rattle.md5.specs.Md5.{md5}
use Rattle.mc_ring.specs.declared.points.Point.{Point}
use Rattle.mc_ring.specs.Points.{label, points_of_digest, first_points, points_of, pair_at, pairs_at, pairs_from}
use Rattle.mc_ring.specs.Rings.{Shows}

-- one digest more
pub first_points-more : (address : List ℕ) (k place : ℕ) → pairs_at place (first_points address (k + 1)) ≡ pairs_at place (first_points address k) ++ pairs_at place (points_of_digest (md5 (label address k)))
unfolding first_points
first_points-more address k place = rw add-one (map-append (pair_at place) (first_points address k) (points_of_digest (md5 (label address k))))

pub first_points-none : (address : List ℕ) (place : ℕ) → pairs_at place (first_points address 0) ≡ []
unfolding first_points
first_points-none address place = refl

pub length-first_points : (address : List ℕ) (k : ℕ) → length (first_points address k) ≡ k * 4
unfolding first_points points_of_digest
length-first_points address zero = refl
length-first_points address (suc k) =
    let rest = length-first_points address k in
    omega (arith, rest, length-append (first_points address k) (points_of_digest (md5 (label address k))))

-- a server has 160 points
pub length-points_of : (address : List ℕ) (place : ℕ) → length (pairs_at place (points_of address)) ≡ 160
length-points_of address place = length-map (points_of address) (pair_at place) ∙ length-first_points address 40

-- one server more
pub pairs_from-more : (k : ℕ) (xs : List (List ℕ)) (x : List ℕ) → pairs_from k (xs ++ x ∷ []) ≡ pairs_from k xs ++ pairs_at (k + length xs) (points_of x)
pairs_from-more k [] x = append-nil (pairs_at k (points_of x)) ∙ ap (λ n. pairs_at n (points_of x)) (omega arith)
pairs_from-more k (y ∷ ys) x =
    ap (λ zs. pairs_at k (points_of y) ++ zs) (pairs_from-more (suc k) ys x)
    ∙ sym (append_assoc (pairs_at k (points_of y)) (pairs_from (suc k) ys) (pairs_at (suc k + length ys) (points_of x)))
    ∙ ap (λ n. (pairs_at k (points_of y) ++ pairs_from (suc k) ys) ++ pairs_at n (points_of x)) (omega arith)

places : (place n : ℕ) (points : List ℕ) → place < n → All (λ (p : Point). p.place < n) (pairs_at place points)
places place n points lt = All-map (λ (p : Point). p.place < n) (pair_at place) points (λ k d inside. lt)

-- the places of the pairs are those of the servers
pub pairs_from-places : (k n : ℕ) (xs : List (List ℕ)) → k + length xs ≤ n → All (λ (p : Point). p.place < n) (pairs_from k xs)
pairs_from-places k n [] le = All-nil (λ (p : Point). p.place < n)
pairs_from-places k n (x ∷ xs) le =
    All-append (λ (p : Point). p.place < n) (pairs_at k (points_of x)) (pairs_from (suc k) xs) (places k n (points_of x) (omega arith)) (pairs_from-places (suc k) n xs (omega arith))

-- servers have points
pub pairs_from-some : (k : ℕ) (xs : List (List ℕ)) → 0 < length xs → 0 < length (pairs_from k xs)
pairs_from-some k [] some = absurd (omega arith)
pairs_from-some k (x ∷ xs) some = omega (arith, length-append (pairs_at k (points_of x)) (pairs_from (suc k) xs), length-points_of x k)

-- what holds of the pairs holds of the points that show them
pub All-shown : (P : Point → Type 0) (pairs points : List Point) → Shows pairs points → All P pairs → All P points
All-shown P pairs points shows all = λ k d inside. All-contains P pairs (get_or points k d) all ((shows.same (get_or points k d)).0 (Contains-get_or points k d inside))

-- pairs are shown by points
pub shown-some : (pairs points : List Point) → Shows pairs points → 0 < length pairs → 0 < length points
shown-some pairs points shows some =
    let first : Point = get_or pairs 0 (pair_at 0 0) in
    let held = (shows.same first).1 (Contains-get_or pairs 0 (pair_at 0 0) some) in
    omega (arith, held.1)

-- the points of one more server, beside those of a ring
pub more-places : (n : ℕ) (held : List Point) (x : List ℕ) → All (λ (p : Point). p.place < n) held → All (λ (p : Point). p.place < n + 1) (held ++ pairs_at n (points_of x))
more-places n held x all =
    All-append (λ (p : Point). p.place < n + 1) held (pairs_at n (points_of x)) (λ k d inside. let low : (get_or held k d).place < n = all k d inside in omega arith) (places n (n + 1) (points_of x) (omega arith))

pub places_are : (place : ℕ) (points : List ℕ) → All (λ (p : Point). p.place ≡ place) (pairs_at place points)
places_are place points = All-map (λ (p : Point). p.place ≡ place) (pair_at place) points (λ k d inside. refl)
