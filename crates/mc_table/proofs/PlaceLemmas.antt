-- Places: members, places that are apart, and a place that is left out.
use Rattle.std.proofs.Common.{◌≡◌, ℕ, suc, ◌<◌, ◌≤◌, inl, inr, Bool, true, false, cond, eqb, List, [], ◌∷◌, ◌++◌, refl, sym, ap, ◌∙◌, subst, arith}
use Rattle.std.proofs.lemmas.Bool.{cases_eq}
use Rattle.std.proofs.lemmas.Bool.Decides.{nat_tests}
use Rattle.mc_table.specs.Places.{Member, Apart, AllApart, UpTo, left_out, renumbered}

test_same : (p q : ℕ) → p ≡ q → eqb p q ≡ true
test_same p q same = grind (arith, nat_tests)

test_apart : (p q : ℕ) → (p ≡ q → ⊥) → eqb p q ≡ false
test_apart p q apart = grind (arith, nat_tests)

-- a member differs from what is apart
pub member_apart : (q r : ℕ) (ps : List ℕ) → Apart q ps → Member r ps → r ≡ q → ⊥
member_apart q r [] apart held same = held
member_apart q r (p ∷ ps) apart (inl here) same = apart.0 (here ∙ same)
member_apart q r (p ∷ ps) apart (inr held) same = member_apart q r ps apart.1 held same

pub Apart-front : (q : ℕ) (xs ys : List ℕ) → Apart q (xs ++ ys) → Apart q xs
Apart-front q [] ys apart = tt
Apart-front q (x ∷ xs) ys apart = (apart.0, Apart-front q xs ys apart.1)

pub Apart-back : (q : ℕ) (xs ys : List ℕ) → Apart q (xs ++ ys) → Apart q ys
Apart-back q [] ys apart = apart
Apart-back q (x ∷ xs) ys apart = Apart-back q xs ys apart.1

pub Apart-both : (q : ℕ) (xs ys : List ℕ) → Apart q xs → Apart q ys → Apart q (xs ++ ys)
Apart-both q [] ys front back = back
Apart-both q (x ∷ xs) ys front back = (front.0, Apart-both q xs ys front.1 back)

pub AllApart-front : (xs ys : List ℕ) → AllApart (xs ++ ys) → AllApart xs
AllApart-front [] ys apart = tt
AllApart-front (x ∷ xs) ys apart = (Apart-front x xs ys apart.0, AllApart-front xs ys apart.1)

pub AllApart-back : (xs ys : List ℕ) → AllApart (xs ++ ys) → AllApart ys
AllApart-back [] ys apart = apart
AllApart-back (x ∷ xs) ys apart = AllApart-back xs ys apart.1

-- a member of the front is apart from the back
pub AllApart-cross : (x : ℕ) (xs ys : List ℕ) → AllApart (xs ++ ys) → Member x xs → Apart x ys
AllApart-cross x [] ys apart held = absurd held
AllApart-cross x (z ∷ xs) ys apart (inl here) = subst (λ (k : ℕ). Apart k ys) here (Apart-back z xs ys apart.0)
AllApart-cross x (z ∷ xs) ys apart (inr held) = AllApart-cross x xs ys apart.1 held

-- a member of the back is apart from the front
pub AllApart-cross_back : (y : ℕ) (xs ys : List ℕ) → AllApart (xs ++ ys) → Member y ys → Apart y xs
AllApart-cross_back y [] ys apart held = tt
AllApart-cross_back y (z ∷ xs) ys apart held =
    (λ same. member_apart z y ys (Apart-back z xs ys apart.0) held (sym same), AllApart-cross_back y xs ys apart.1 held)

-- one that is apart may be put between
pub AllApart-between : (p : ℕ) (xs ys : List ℕ) → AllApart (xs ++ ys) → Apart p (xs ++ ys) → AllApart (xs ++ p ∷ ys)
AllApart-between p [] ys apart other = (other, apart)
AllApart-between p (x ∷ xs) ys apart other =
    (Apart-both x xs (p ∷ ys) (Apart-front x xs ys apart.0) (λ same. other.0 (sym same), Apart-back x xs ys apart.0), AllApart-between p xs ys apart.1 other.1)

-- one that is removed
pub AllApart-out : (p : ℕ) (xs ys : List ℕ) → AllApart (xs ++ p ∷ ys) → AllApart (xs ++ ys)
AllApart-out p [] ys apart = apart.1
AllApart-out p (x ∷ xs) ys apart =
    let rest = Apart-back x xs (p ∷ ys) apart.0 in
    (Apart-both x xs ys (Apart-front x xs (p ∷ ys) apart.0) rest.1, AllApart-out p xs ys apart.1)

-- what is removed is apart from what is left
pub Apart-out : (p : ℕ) (xs ys : List ℕ) → AllApart (xs ++ p ∷ ys) → Apart p (xs ++ ys)
Apart-out p [] ys apart = apart.0
Apart-out p (x ∷ xs) ys apart =
    (λ same. (Apart-back x xs (p ∷ ys) apart.0).0 (sym same), Apart-out p xs ys apart.1)

-- another member stays one
pub Member-out : (p q : ℕ) (xs ys : List ℕ) → (q ≡ p → ⊥) → Member q (xs ++ p ∷ ys) → Member q (xs ++ ys)
Member-out p q [] ys other (inl here) = absurd (other (sym here))
Member-out p q [] ys other (inr held) = held
Member-out p q (x ∷ xs) ys other (inl here) = inl here
Member-out p q (x ∷ xs) ys other (inr held) = inr (Member-out p q xs ys other held)

-- and conversely
pub Member-in : (p q : ℕ) (xs ys : List ℕ) → Member q (xs ++ ys) → Member q (xs ++ p ∷ ys)
Member-in p q [] ys held = inr held
Member-in p q (x ∷ xs) ys (inl here) = inl here
Member-in p q (x ∷ xs) ys (inr held) = inr (Member-in p q xs ys held)

pub UpTo-front : (n : ℕ) (xs ys : List ℕ) → UpTo n (xs ++ ys) → UpTo n xs
UpTo-front n [] ys within = tt
UpTo-front n (x ∷ xs) ys within = (within.0, within.1, UpTo-front n xs ys within.2)

pub UpTo-back : (n : ℕ) (xs ys : List ℕ) → UpTo n (xs ++ ys) → UpTo n ys
UpTo-back n [] ys within = within
UpTo-back n (x ∷ xs) ys within = UpTo-back n xs ys within.2

pub UpTo-both : (n : ℕ) (xs ys : List ℕ) → UpTo n xs → UpTo n ys → UpTo n (xs ++ ys)
UpTo-both n [] ys front back = back
UpTo-both n (x ∷ xs) ys front back = (front.0, front.1, UpTo-both n xs ys front.2 back)

pub UpTo-more : (n m : ℕ) (ps : List ℕ) → n ≤ m → UpTo n ps → UpTo m ps
UpTo-more n m [] more within = tt
UpTo-more n m (p ∷ ps) more within = (within.0, omega (arith, within.1), UpTo-more n m ps more within.2)

-- a member is from 1 to the number
pub UpTo-member : (n q : ℕ) (ps : List ℕ) → UpTo n ps → Member q ps → (0 < q) × (q ≤ n)
UpTo-member n q [] within held = absurd held
UpTo-member n q (p ∷ ps) within (inl here) = subst (λ (k : ℕ). (0 < k) × (k ≤ n)) here (within.0, within.1)
UpTo-member n q (p ∷ ps) within (inr held) = UpTo-member n q ps within.2 held

-- what is beyond the number is apart
pub Apart-beyond : (n q : ℕ) (ps : List ℕ) → n < q → UpTo n ps → Apart q ps
Apart-beyond n q [] beyond within = tt
Apart-beyond n q (p ∷ ps) beyond within = (λ same. omega (arith, within.1), Apart-beyond n q ps beyond within.2)

-- 0 is apart
pub Apart-zero : (n : ℕ) (ps : List ℕ) → UpTo n ps → Apart 0 ps
Apart-zero n [] within = tt
Apart-zero n (p ∷ ps) within = (λ same. omega (arith, within.0), Apart-zero n ps within.2)

-- without the greatest number all are below it
pub UpTo-less : (n : ℕ) (ps : List ℕ) → UpTo (suc n) ps → Apart (suc n) ps → UpTo n ps
UpTo-less n [] within apart = tt
UpTo-less n (p ∷ ps) within apart = grind (arith, UpTo-less n ps within.2 apart.1)

-- how places fall apart at one of them
pub record SplitAt (place : ℕ) (places : List ℕ) : Type 0 where
  pub front : List ℕ
  pub back : List ℕ
  pub is : places ≡ front ++ place ∷ back
  pub others : left_out place places ≡ front ++ back

pub split_at : (place : ℕ) (places : List ℕ) → AllApart places → Member place places → SplitAt place places
split_at place [] apart held = absurd held
split_at place (p ∷ ps) apart (inl here) = grind (arith, test_same)
split_at place (p ∷ ps) apart (inr held) =
    let rest = split_at place ps apart.1 held in
    let other : p ≡ place → ⊥ = λ same. member_apart p place ps apart.0 held (sym same) in
    record {
      front = p ∷ rest.front;
      back = rest.back;
      is = ap (λ (l : List ℕ). p ∷ l) rest.is;
      others = ap (λ (v : Bool). cond v ps (p ∷ left_out place ps)) (test_apart p place other) ∙ ap (λ (l : List ℕ). p ∷ l) rest.others;
    }

-- renumbered places of which none has the number
pub renumbered-none : (from to : ℕ) (ps : List ℕ) → Apart from ps → renumbered from to ps ≡ ps
renumbered-none from to [] apart = refl
renumbered-none from to (p ∷ ps) apart =
    ap (λ (v : Bool). cond v to p ∷ renumbered from to ps) (test_apart p from apart.0) ∙ ap (λ (l : List ℕ). p ∷ l) (renumbered-none from to ps apart.1)

-- to the number that they have
pub renumbered-same : (n : ℕ) (ps : List ℕ) → renumbered n n ps ≡ ps
renumbered-same n [] = refl
renumbered-same n (p ∷ ps) = grind (arith, cases_eq, test_same, test_apart, renumbered-same n ps)

-- in the midst of others
pub renumbered-between : (from to : ℕ) (xs ys : List ℕ) → Apart from (xs ++ ys) → renumbered from to (xs ++ from ∷ ys) ≡ xs ++ to ∷ ys
renumbered-between from to [] ys apart =
    ap (λ (v : Bool). cond v to from ∷ renumbered from to ys) (test_same from from refl) ∙ ap (λ (l : List ℕ). to ∷ l) (renumbered-none from to ys apart)
renumbered-between from to (x ∷ xs) ys apart =
    ap (λ (v : Bool). cond v to x ∷ renumbered from to (xs ++ from ∷ ys)) (test_apart x from apart.0) ∙ ap (λ (l : List ℕ). x ∷ l) (renumbered-between from to xs ys apart.1)
