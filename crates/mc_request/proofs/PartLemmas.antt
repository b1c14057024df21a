-- What the parts of a line keep to.
use Rattle.std.proofs.Common.{◌≡◌, ℕ, zero, suc, ◌+◌, ◌^◌, ◌==◌, ◌&&◌, Bool, true, false, not, nat_lt, nat_le, if◌then◌else◌, ℤ, pos, neg_ℤ, List, [], ◌∷◌, Option, Some, None, Result, Ok, Err, refl, sym, arith}
use Rattle.std.proofs.lemmas.Bool.Decides.{nat_tests}
use Rattle.std.specs.Option.{ok_or, option_map}
use Rattle.std.specs.Str.Parse.{digits_value}
use Rattle.mc_text.specs.Numbers.{has_digits, number, read_i64}
use Rattle.mc_request.specs.declared.faults.Fault.{Fault}
use Rattle.mc_request.specs.Faults.{closes, ◌>>=◌}
use Rattle.mc_request.specs.Meanings.{Line, Lone, Storage, PendingStore, well_formed, storage_line}
use Rattle.mc_request.specs.WellFormed.{is_i64, is_where_some, is_good_request, is_good_storing}

-- what holds of a part that was read; a fault closes nothing
abbrev pub holds : {A : Type 0} → (A → Bool) → Result A Fault → Bool
holds test (Ok part) = test part
holds test (Err fault) = not (closes fault)

abbrev pub any_bool : {A : Type 0} → A → Bool
any_bool part = true

-- what is read of a part that holds
pub and_then : {A B : Type 0} (p : A → Bool) (q : B → Bool) (r : Result A Fault) (f : A → Result B Fault)
    → holds p r ≡ true → ((a : A) → p a ≡ true → holds q (f a) ≡ true) → holds q (r >>= f) ≡ true
and_then p q (Ok a) f h next = next a h
and_then p q (Err fault) f h next = h

-- a choice between two lines
pub either : {A : Type 0} (q : A → Bool) (b : Bool) (x y : Result A Fault) → holds q x ≡ true → holds q y ≡ true → holds q (if b then x else y) ≡ true
either q true x y h k = h
either q false x y h k = k

-- a choice by the test that is asked for
pub tested : {A : Type 0} (p : A → Bool) (a : A) (b : Bool) (fault : Fault) → p a ≡ b → closes fault ≡ false → holds p (if b then Ok a else Err fault) ≡ true
tested p a true fault is ok = is
tested p a false fault is ok = rw ok refl

-- a part that may be read, and satisfies the test if it is
pub some_good : {A : Type 0} (p : A → Bool) (o : Option A) (fault : Fault) → closes fault ≡ false → is_where_some p o ≡ true → holds p (ok_or o fault) ≡ true
some_good p (Some a) fault ok h = h
some_good p None fault ok h = rw ok refl

pub below : (b c : Bool) (v bound : ℕ) → c ≡ nat_lt v bound → is_where_some (λ n. nat_lt n bound) (if b && c then Some v else None) ≡ true
below true true v bound is = sym is
below true false v bound is = refl
below false c v bound is = refl

pub number_good : (most bound : ℕ) (word : List ℕ) → is_where_some (λ n. nat_lt n bound) (number most bound word) ≡ true
number_good most bound word = below (has_digits most word) (nat_lt (digits_value 10 word) bound) (digits_value 10 word) bound refl

pub negative : (o : Option ℕ) → is_where_some (λ n. nat_lt n (2 ^ 63 + 1)) o ≡ true → is_where_some is_i64 (option_map (λ n. neg_ℤ (pos n)) o) ≡ true
negative None h = refl
negative (Some zero) h = refl
negative (Some (suc n)) h = grind (arith, nat_tests, h)

pub positive : (o : Option ℕ) → is_where_some (λ n. nat_lt n (2 ^ 63)) o ≡ true → is_where_some is_i64 (option_map pos o) ≡ true
positive None h = refl
positive (Some n) h = h

pub if_either : (b : Bool) (x y : Option ℤ) → is_where_some is_i64 x ≡ true → is_where_some is_i64 y ≡ true → is_where_some is_i64 (if b then x else y) ≡ true
if_either true x y h k = h
if_either false x y h k = k

pub i64_good : (word : List ℕ) → is_where_some is_i64 (read_i64 word) ≡ true
i64_good [] = refl
i64_good (b ∷ bs) =
    if_either (b == 45) _ _ (negative (number 20 (2 ^ 63 + 1) bs) (number_good 20 (2 ^ 63 + 1) bs))
    (positive (number 20 (2 ^ 63) (b ∷ bs)) (number_good 20 (2 ^ 63) (b ∷ bs)))

-- the block of a line is the one that it announces
abbrev pub block_is : Option ℕ → Option ℕ → Bool
block_is None None = true
block_is None (Some n) = false
block_is (Some m) None = false
block_is (Some m) (Some n) = m == n

pub same_block : (o : Option ℕ) → block_is o o ≡ true
same_block None = refl
same_block (Some n) = grind (arith, nat_tests)

-- what a line that announces this block satisfies
abbrev pub is_good_line : Option ℕ → Line → Bool
is_good_line block (Lone request) = is_good_request request && block_is block None
is_good_line block (Storage storing len) = is_good_storing storing && nat_le len 1048576 && block_is block (Some len)

pub both : (a b : Bool) → a ≡ true → b ≡ true → (a && b) ≡ true
both true true h k = refl
both false b h k = absurd cc
both true false h k = absurd cc

-- a length that was read is the one that is announced
pub length_good : (len : Option ℕ) → holds (λ n. block_is len (Some n)) (well_formed len) ≡ true
length_good None = refl
length_good (Some n) = same_block (Some n)

pub storage_tested : (block : Option ℕ) (storing : PendingStore) (len : ℕ) (b : Bool) → is_good_storing storing ≡ true → block_is block (Some len) ≡ true → nat_lt 1048576 len ≡ b
    → holds (is_good_line block) (storage_line storing len) ≡ true
storage_tested block storing len true good same is = rw is refl
storage_tested block storing len false good same is = let small : nat_le len 1048576 ≡ true = grind (arith, nat_tests, is) in rw is (rw (good, small, same) refl)

-- the parts of a test that passed
pub left : (a b : Bool) → (a && b) ≡ true → a ≡ true
left true b h = refl
left false b h = absurd cc

pub right : (a b : Bool) → (a && b) ≡ true → b ≡ true
right true b h = h
right false b h = absurd cc

-- likewise as a fact
abbrev pub Holds : {A : Type 0} → (A → Type 0) → Result A Fault → Type 0
Holds P (Ok part) = P part
Holds P (Err fault) = closes fault ≡ false

-- what is read of a part that holds
pub bound : {A B : Type 0} (P : A → Type 0) (Q : B → Type 0) (r : Result A Fault) (f : A → Result B Fault)
    → Holds P r → ((a : A) → r ≡ Ok a → P a → Holds Q (f a)) → Holds Q (r >>= f)
bound P Q (Ok a) f h next = next a refl h
bound P Q (Err fault) f h next = h

pub not_true : (b : Bool) → not b ≡ true → b ≡ false
not_true true h = absurd cc
not_true false h = refl

-- likewise by a test
pub by_test : {A : Type 0} (q : A → Bool) (r : Result A Fault) → Holds (λ a. q a ≡ true) r → holds q r ≡ true
by_test q (Ok a) h = h
by_test q (Err fault) h = rw h refl

pub of_test : {A : Type 0} (q : A → Bool) (r : Result A Fault) → holds q r ≡ true → Holds (λ a. q a ≡ true) r
of_test q (Ok a) h = h
of_test q (Err fault) h = not_true (closes fault) h

-- a choice between two
pub choice : {A : Type 0} (P : A → Type 0) (b : Bool) (x y : Result A Fault) → Holds P x → Holds P y → Holds P (if b then x else y)
choice P true x y h k = h
choice P false x y h k = k
