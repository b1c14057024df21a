-- The addresses of the first servers.
use Rattle.std.proofs.Common.{◌≡◌, ◌∙◌, ℕ, ◌+◌, ◌<◌, ◌≤◌, ◌==◌, ◌||◌, nat_lt, zero, suc, Bool, true, false, List, [], ◌∷◌, ◌++◌, length, take, get_or, Option, Some, None, refl, sym, ap, subst, arith, cond}
use Rattle.std.specs.Fmt.{digits}
use Rattle.std.specs.List.{list_all, list_any, range_with_len}
use Rattle.std.specs.Str.{bytes_eq}
use Rattle.std.proofs.lemmas.Bool.Decides.{nat_tests}
use Rattle.std.proofs.lemmas.List.Sums.{AllPass-from_list_all, list_all-from_AllPass}
use Rattle.std.proofs.lemmas.List.FromFn.{get_or-range_with_len, length-range_with_len, map-range_with_len_more, take-map-range_with_len, length-map-range_with_len}
use Rattle.mc_text.specs.Addresses.{is_address}
use Rattle.std.specs.Option.{option_or}
use Rattle.mc_ring.specs.Refusals.{refusal_of, refusal_of_pairs}
use Rattle.mc_ring.specs.declared.errors.RingError.TheVariants.{NoServer}
use Rattle.mc_ring.specs.declared.points.Point.{Point}
use Rattle.mc_ring.specs.Rings.{has_doubled}
use Rattle.mc_pool_script.specs.PoolLines.{address_read}
use Rattle.mc_pool_script.specs.PoolScripts.{IsPoolScript, PoolSeen, first_server, first_servers, refusal_of_pool}

-- the first 64 servers have addresses
all_first : list_all (λ place. is_address (first_server place)) (range_with_len 0 64) ≡ true
unfolding digits first_server
all_first = refl

pub first_is_address : (place : ℕ) → place < 64 → is_address (first_server place) ≡ true
first_is_address place inside =
    let at : is_address (first_server (get_or (range_with_len 0 64) place 0)) ≡ true =
    AllPass-from_list_all (λ place. is_address (first_server place)) (range_with_len 0 64) all_first place 0 (omega (arith, inside, length-range_with_len 0 64)) in
    let is : get_or (range_with_len 0 64) place 0 ≡ place = get_or-range_with_len 0 64 place 0 inside ∙ omega arith in
    subst (λ (n : ℕ). is_address (first_server n) ≡ true) is at

-- the text of such a server is read
pub first_is_read : (place : ℕ) (text : List ℕ) → place < 64 → text ≡ first_server place → address_read text ≡ Some (first_server place)
first_is_read place text inside is =
    let good : is_address (first_server place) ≡ true = first_is_address place inside in
    ap address_read is ∙ ap (λ (b : Bool). cond b (Some (first_server place)) None) good

-- its text is no other address
pub first_is_it : (place : ℕ) (text address : List ℕ) (read : Option (List ℕ)) → place < 64 → text ≡ first_server place → read ≡ address_read text → read ≡ Some address
    → address ≡ first_server place
first_is_it place text address read inside is e some =
    let both : Some address ≡ Some (first_server place) = sym some ∙ e ∙ first_is_read place text inside is in
    cc

-- its text is an address
pub first_is_there : (place : ℕ) (text : List ℕ) (read : Option (List ℕ)) → place < 64 → text ≡ first_server place → read ≡ address_read text → read ≡ None → ⊥
first_is_there place text read inside is e none =
    let both : None ≡ Some (first_server place) = sym none ∙ e ∙ first_is_read place text inside is in
    cc

-- one more first server
pub first_servers_more : (count : ℕ) → first_servers (count + 1) ≡ first_servers count ++ first_server count ∷ []
first_servers_more count = map-range_with_len_more first_server 0 count count (omega arith)

first_false : (a b : Bool) → (a || b) ≡ false → a ≡ false
first_false true b h = absurd cc
first_false false b h = refl

second_false : (a b : Bool) → (a || b) ≡ false → b ≡ false
second_false true b h = absurd cc
second_false false b h = h

both_false : (a b : Bool) → a ≡ false → b ≡ false → (a || b) ≡ false
both_false true b first second = first
both_false false b first second = second

-- no two of the first 64 are equal
all_apart : has_doubled (first_servers 64) ≡ false
unfolding digits first_server
all_apart = refl

-- a property that no element of a list has, no element of its front has
none_of_first : (p : List ℕ → Bool) (xs : List (List ℕ)) (n : ℕ) → list_any p xs ≡ false → list_any p (take n xs) ≡ false
none_of_first p [] zero none = refl
none_of_first p [] (suc n) none = refl
none_of_first p (x ∷ xs) zero none = refl
none_of_first p (x ∷ xs) (suc n) none = both_false (p x) (list_any p (take n xs)) (first_false (p x) (list_any p xs) none) (none_of_first p xs n (second_false (p x) (list_any p xs) none))

-- no two elements of the front of a list without doubles are equal
apart_first : (xs : List (List ℕ)) (n : ℕ) → has_doubled xs ≡ false → has_doubled (take n xs) ≡ false
apart_first [] zero apart = refl
apart_first [] (suc n) apart = refl
apart_first (x ∷ xs) zero apart = refl
apart_first (x ∷ xs) (suc n) apart =
    let test = λ (other : List ℕ). bytes_eq other x in
    both_false (list_any test (take n xs)) (has_doubled (take n xs)) (none_of_first test xs n (first_false (list_any test xs) (has_doubled xs) apart))
    (apart_first xs n (second_false (list_any test xs) (has_doubled xs) apart))

-- a ring of them is not refused
pub first_servers_serve : (count : ℕ) → 1 ≤ count → count ≤ 64 → refusal_of (first_servers count) ≡ None
first_servers_serve count some few =
    let size : length (first_servers count) ≡ count = length-map-range_with_len first_server 0 count in
    let apart : has_doubled (first_servers count) ≡ false =
    subst (λ (xs : List (List ℕ)). has_doubled xs ≡ false) (take-map-range_with_len first_server 0 64 count few) (apart_first (first_servers 64) count all_apart) in
    let none : (length (first_servers count) == 0) ≡ false = grind (arith, nat_tests, size, some) in
    let not_many : nat_lt 64 (length (first_servers count)) ≡ false = grind (arith, nat_tests, size, few) in
    rw (none, not_many, apart) refl

-- a ring of them with points of theirs is not refused
pub script_serves : (seen : PoolSeen) → IsPoolScript seen → refusal_of_pool (first_servers seen.servers) seen.points ≡ None
script_serves seen good =
    let servers = first_servers seen.servers in
    let fine = first_servers_serve seen.servers good.some_servers good.few_servers in
    let size : length servers ≡ seen.servers = length-map-range_with_len first_server 0 seen.servers in
    let inside : list_all (λ (p : Point). nat_lt p.place (length servers)) seen.points ≡ true =
    list_all-from_AllPass (λ (p : Point). nat_lt p.place (length servers)) seen.points (λ k d lt. let below = good.places k d lt in grind (arith, nat_tests, size, below)) in
    (elim (length seen.points == 0) as (λ v. cond v (refusal_of servers) (cond v (Some NoServer) (option_or (refusal_of servers) (refusal_of_pairs (length servers) seen.points))) ≡ None) [
      | true ↦ fine
      | false ↦ rw (fine, inside) refl
    ])
