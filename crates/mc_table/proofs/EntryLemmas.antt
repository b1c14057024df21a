-- Entries in the order of places: what is found, removed, written and inserted.
use Rattle.std.proofs.Common.{◌≡◌, ℕ, zero, suc, ◌-◌, ◌<◌, ◌≤◌, inl, inr, Bool, true, false, cond, eqb, List, [], ◌∷◌, ◌++◌, length, take, set, get_or, Option, Some, None, refl, ap, ◌∙◌, subst, arith}
use Rattle.std.specs.Prelude.{slice_get}
use Rattle.std.specs.Option.{option_map}
use Rattle.std.specs.List.{swap_remove}
use Rattle.std.specs.Map.{lookup, lookup_entry, remove_entry}
use Rattle.std.proofs.lemmas.Bool.{cases_eq}
use Rattle.std.proofs.lemmas.Bool.Decides.{nat_tests}
use Rattle.std.proofs.lemmas.List.{length-set, length-take-le}
use Rattle.mc_table.specs.Places.{Member, Apart, UpTo, last_from, left_out, renumbered}
use Rattle.mc_table.specs.Tables.{put_some, in_order, IsAt, IsNowhere}
use Rattle.mc_table.proofs.PlaceLemmas.{UpTo-member, member_apart}

test_same : (p q : ℕ) → p ≡ q → eqb p q ≡ true
test_same p q same = grind (arith, nat_tests)

test_apart : (p q : ℕ) → (p ≡ q → ⊥) → eqb p q ≡ false
test_apart p q apart = grind (arith, nat_tests)

-- elements by their index

pub got : {X : Type 0} (xs : List X) (i : ℕ) → i < length xs → (x : X) × (slice_get xs i ≡ Some x)
got [] i within = absurd (omega arith)
got (x ∷ xs) zero within = (x, refl)
got (x ∷ xs) (suc i) within = got xs i (omega arith)

pub got_within : {X : Type 0} (xs : List X) (i : ℕ) (x : X) → slice_get xs i ≡ Some x → i < length xs
got_within [] i x is = absurd cc
got_within (y ∷ xs) zero x is = omega arith
got_within (y ∷ xs) (suc i) x is = let rest : i < length xs = got_within xs i x is in omega arith

pub got_or : {X : Type 0} (xs : List X) (i : ℕ) (d : X) → i < length xs → slice_get xs i ≡ Some (get_or xs i d)
got_or [] i d within = absurd (omega arith)
got_or (x ∷ xs) zero d within = refl
got_or (x ∷ xs) (suc i) d within = got_or xs i d (omega arith)

pub got-take : {X : Type 0} (n : ℕ) (xs : List X) (i : ℕ) → i < n → slice_get (take n xs) i ≡ slice_get xs i
got-take zero xs i less = absurd (omega arith)
got-take (suc n) [] i less = refl
got-take (suc n) (x ∷ xs) zero less = refl
got-take (suc n) (x ∷ xs) (suc i) less = got-take n xs i (omega arith)

pub got-set_other : {X : Type 0} (xs : List X) (i j : ℕ) (y : X) → (j ≡ i → ⊥) → slice_get (set xs i y) j ≡ slice_get xs j
got-set_other [] i j y apart = refl
got-set_other (x ∷ xs) zero zero y apart = absurd (apart refl)
got-set_other (x ∷ xs) zero (suc j) y apart = refl
got-set_other (x ∷ xs) (suc i) zero y apart = refl
got-set_other (x ∷ xs) (suc i) (suc j) y apart = got-set_other xs i j y (λ same. apart (ap suc same))

pub got-set_same : {X : Type 0} (xs : List X) (i : ℕ) (y : X) → i < length xs → slice_get (set xs i y) i ≡ Some y
got-set_same [] i y within = absurd (omega arith)
got-set_same (x ∷ xs) zero y within = refl
got-set_same (x ∷ xs) (suc i) y within = got-set_same xs i y (omega arith)

pub got-front : {X : Type 0} (xs ys : List X) (i : ℕ) → i < length xs → slice_get (xs ++ ys) i ≡ slice_get xs i
got-front [] ys i within = absurd (omega arith)
got-front (x ∷ xs) ys zero within = refl
got-front (x ∷ xs) ys (suc i) within = got-front xs ys i (omega arith)

pub got-last : {X : Type 0} (xs : List X) (y : X) → slice_get (xs ++ y ∷ []) (length xs) ≡ Some y
got-last [] y = refl
got-last (x ∷ xs) y = got-last xs y

-- entries in the order of places

-- the first of places is an entry's
got_first : {X : Type 0} (es : List X) (p : ℕ) → 0 < p → p ≤ length es → (x : X) × (slice_get es (p - 1) ≡ Some x)
got_first es p positive within = got es (p - 1) (omega arith)

pub length-in_order : {X : Type 0} (es : List X) (ps : List ℕ) → UpTo (length es) ps → length (in_order es ps) ≡ length ps
length-in_order es [] within = refl
length-in_order es (p ∷ ps) within =
    let x = got_first es p within.0 within.1 in
    rw x.1 (ap suc (length-in_order es ps within.2))

pub in_order-cons : {X : Type 0} (es : List X) (p : ℕ) (ps : List ℕ) (x : X) → slice_get es (p - 1) ≡ Some x → in_order es (p ∷ ps) ≡ x ∷ in_order es ps
in_order-cons es p ps x is = rw is refl

pub in_order-append : {X : Type 0} (es : List X) (xs ys : List ℕ) → in_order es (xs ++ ys) ≡ in_order es xs ++ in_order es ys
in_order-append es [] ys = refl
in_order-append {X} es (x ∷ xs) ys = grind (arith, in_order-append es xs ys)

-- entries that agree at the places agree in their order
pub in_order-same : {X : Type 0} (es fs : List X) (ps : List ℕ) → ((p : ℕ) → Member p ps → slice_get fs (p - 1) ≡ slice_get es (p - 1)) → in_order fs ps ≡ in_order es ps
in_order-same es fs [] same = refl
in_order-same {X} es fs (p ∷ ps) same =
    ap (λ (o : Option X). put_some o (in_order fs ps)) (same p (inl refl)) ∙ ap (λ (l : List X). put_some (slice_get es (p - 1)) l) (in_order-same es fs ps (λ q held. same q (inr held)))

-- a place is the entry's that is found, or that of an entry whose key does not pass
data Head {K V : Type 0} (test : K → Bool) (es : List (K × V)) (i : ℕ) (entry : K × V) (p : ℕ) : Type 0 where
  its : p ≡ suc i → slice_get es (p - 1) ≡ Some entry → Head test es i entry p
  another : (p ≡ suc i → ⊥) → (x : K × V) → slice_get es (p - 1) ≡ Some x → test x.0 ≡ false → Head test es i entry p

head_of : {K V : Type 0} (test : K → Bool) (es : List (K × V)) (i : ℕ) (at : IsAt test es i) (p : ℕ) → 0 < p → p ≤ length es → Head test es i at.entry p
head_of {K} {V} test es i at p positive within =
    elim (cases_eq p (suc i)) as (λ _. Head test es i at.entry p) [
      | inl same ↦ let index : p - 1 ≡ i = omega arith in its same (ap (λ (n : ℕ). slice_get es n) index ∙ at.is)
      | inr apart ↦
          let x = got_first es p positive within in
          (elim (test x.0.0) as (λ v. test x.0.0 ≡ v → Head test es i at.entry p) [
            | true ↦ λ t. let one : p - 1 ≡ i = at.alone (p - 1) x.0 x.1 t in absurd (omega arith)
            | false ↦ λ t. another apart x.0 x.1 t
          ]) refl
    ]

pub entry_found : {K V : Type 0} (test : K → Bool) (es : List (K × V)) (i : ℕ) (at : IsAt test es i) (ps : List ℕ) → UpTo (length es) ps → Member (suc i) ps
    → lookup_entry test (in_order es ps) ≡ Some at.entry
entry_found test es i at [] within held = absurd held
entry_found {K} {V} test es i at (p ∷ ps) within held =
    elim (head_of test es i at p within.0 within.1) as (λ _. lookup_entry test (in_order es (p ∷ ps)) ≡ Some at.entry) [
      | its same is ↦ rw is (rw at.passes refl)
      | another apart x is fails ↦ rw is (rw fails (elim held as (λ _. lookup_entry test (in_order es ps) ≡ Some at.entry) [
        | inl here ↦ absurd (apart here)
        | inr more ↦ entry_found test es i at ps within.2 more
      ]))
    ]

pub remove_found : {K V : Type 0} (test : K → Bool) (es : List (K × V)) (i : ℕ) (at : IsAt test es i) (ps : List ℕ) → UpTo (length es) ps → Member (suc i) ps
    → remove_entry test (in_order es ps) ≡ in_order es (left_out (suc i) ps)
remove_found test es i at [] within held = absurd held
remove_found {K} {V} test es i at (p ∷ ps) within held =
    elim (head_of test es i at p within.0 within.1) as (λ _. remove_entry test (in_order es (p ∷ ps)) ≡ in_order es (left_out (suc i) (p ∷ ps))) [
      | its same is ↦ rw (is, test_same p (suc i) same) (rw at.passes refl)
      | another apart x is fails ↦
          rw (test_apart p (suc i) apart, is) (rw fails (ap (λ (l : List (K × V)). x ∷ l) (elim held as (λ _. remove_entry test (in_order es ps) ≡ in_order es (left_out (suc i) ps)) [
            | inl here ↦ absurd (apart here)
            | inr more ↦ remove_found test es i at ps within.2 more
          ])))
    ]

pub entry_none : {K V : Type 0} (test : K → Bool) (es : List (K × V)) (ps : List ℕ) → IsNowhere test es → lookup_entry test (in_order es ps) ≡ None
entry_none test es [] nowhere = refl
entry_none {K} {V} test es (p ∷ ps) nowhere = grind (arith, entry_none test es ps nowhere)

pub remove_none : {K V : Type 0} (test : K → Bool) (es : List (K × V)) → lookup_entry test es ≡ None → remove_entry test es ≡ es
remove_none test [] none = refl
remove_none {K} {V} test (e ∷ es) none =
    (elim (test e.0) as (λ v. cond v (Some e) (lookup_entry test es) ≡ None → cond v es (e ∷ remove_entry test es) ≡ e ∷ es) [
      | true ↦ λ none. absurd cc
      | false ↦ λ none. ap (λ (l : List (K × V)). e ∷ l) (remove_none test es none)
    ]) none

-- a value is that of the entry
pub lookup_by_entry : {K V : Type 0} (test : K → Bool) (es : List (K × V)) → lookup test es ≡ option_map (λ (e : K × V). e.1) (lookup_entry test es)
lookup_by_entry test [] = refl
lookup_by_entry {K} {V} test (e ∷ es) = grind (arith, lookup_by_entry test es)

-- one removed

pub length-renumbered : (from to : ℕ) (ps : List ℕ) → length (renumbered from to ps) ≡ length ps
length-renumbered from to [] = refl
length-renumbered from to (p ∷ ps) = ap suc (length-renumbered from to ps)

in_order-renumbered : {X : Type 0} (es fs : List X) (from to : ℕ) (ps : List ℕ) → ((p : ℕ) → Member p ps → slice_get fs (cond (eqb p from) to p - 1) ≡ slice_get es (p - 1))
    → in_order fs (renumbered from to ps) ≡ in_order es ps
in_order-renumbered es fs from to [] same = refl
in_order-renumbered {X} es fs from to (p ∷ ps) same = grind (arith, in_order-renumbered es fs from to ps)

-- the last takes the place of the one that goes
swapped : {X : Type 0} (es : List X) (i : ℕ) (d : X) (p : ℕ) → i < length es → 0 < p → p ≤ length es → (p ≡ suc i → ⊥)
    → slice_get (swap_remove es i d) (cond (eqb p (length es)) (suc i) p - 1) ≡ slice_get es (p - 1)
swapped {X} es i d p within positive most apart =
    grind (arith, eqb, set, get_or, cases_eq, test_same, test_apart, got_or, got-take, got-set_other, got-set_same)

pub in_order-removed : {X : Type 0} (es fs : List X) (i : ℕ) (d : X) (ps : List ℕ) → i < length es → UpTo (length es) ps → Apart (suc i) ps → fs ≡ swap_remove es i d
    → in_order fs (renumbered (length es) (suc i) ps) ≡ in_order es ps
in_order-removed {X} es fs i d ps within all apart is =
    ap (λ (l : List X). in_order l (renumbered (length es) (suc i) ps)) is
    ∙ in_order-renumbered es (swap_remove es i d) (length es) (suc i) ps (λ p held. swapped es i d p within (UpTo-member (length es) p ps all held).0 (UpTo-member (length es) p ps all held).1 (λ same. member_apart (suc i) p ps apart held same))

pub length-swap_remove : {X : Type 0} (es fs : List X) (i : ℕ) (d : X) → i < length es → fs ≡ swap_remove es i d → length es ≡ suc (length fs)
length-swap_remove {X} es fs i d within is = grind (arith, set, get_or, length-set, length-take-le)

-- the last

-- places of which the last is known
pub last_cut : (p : ℕ) (ps : List ℕ) → (front : List ℕ) × (p ∷ ps ≡ front ++ last_from p ps ∷ [])
last_cut p [] = ([], refl)
last_cut p (q ∷ ps) = let rest = last_cut q ps in (p ∷ rest.0, ap (λ (l : List ℕ). p ∷ l) rest.1)

pub left_out-last : (place : ℕ) (front : List ℕ) → Apart place front → left_out place (front ++ place ∷ []) ≡ front
left_out-last place [] apart = ap (λ (v : Bool). cond v [] (place ∷ [])) (test_same place place refl)
left_out-last place (p ∷ front) apart =
    ap (λ (v : Bool). cond v (front ++ place ∷ []) (p ∷ left_out place (front ++ place ∷ []))) (test_apart p place apart.0) ∙ ap (λ (l : List ℕ). p ∷ l) (left_out-last place front apart.1)

pub left_out-head : (place : ℕ) (ps : List ℕ) → left_out place (place ∷ ps) ≡ ps
left_out-head place ps = ap (λ (v : Bool). cond v ps (place ∷ left_out place ps)) (test_same place place refl)

-- one put

pub in_order-more : {X : Type 0} (es : List X) (x : X) (ps : List ℕ) → UpTo (length es) ps → in_order (es ++ x ∷ []) (suc (length es) ∷ ps) ≡ x ∷ in_order es ps
in_order-more {X} es x ps within =
    let index : suc (length es) - 1 ≡ length es = omega arith in
    let own : slice_get (es ++ x ∷ []) (suc (length es) - 1) ≡ Some x = ap (λ (n : ℕ). slice_get (es ++ x ∷ []) n) index ∙ got-last es x in
    in_order-cons (es ++ x ∷ []) (suc (length es)) ps x own
    ∙ ap (λ (l : List X). x ∷ l) (in_order-same es (es ++ x ∷ []) ps (λ p held. let low = (UpTo-member (length es) p ps within held).0 in let high = (UpTo-member (length es) p ps within held).1 in got-front es (x ∷ []) (p - 1) (omega arith)))

-- a key that is not found in the order is nowhere
pub nowhere_from : {K V : Type 0} (test : K → Bool) (es : List (K × V)) (ps : List ℕ) (i : ℕ) (e : K × V) → lookup test (in_order es ps) ≡ None → Member (suc i) ps
    → slice_get es i ≡ Some e → test e.0 ≡ false
nowhere_from test es [] i e none held is = absurd held
nowhere_from {K} {V} test es (p ∷ ps) i e none held is =
    (elim (slice_get es (p - 1)) as (λ o. slice_get es (p - 1) ≡ o → lookup test (put_some o (in_order es ps)) ≡ None → test e.0 ≡ false) [
      | None ↦ λ at none. elim held as (λ _. test e.0 ≡ false) [
        | inl here ↦ let index : p - 1 ≡ i = omega arith in let same : slice_get es (p - 1) ≡ Some e = ap (λ (n : ℕ). slice_get es n) index ∙ is in absurd cc
        | inr more ↦ nowhere_from test es ps i e none more is
      ]
      | Some x ↦ λ at none.
          (elim (test x.0) as (λ v. test x.0 ≡ v → cond v (Some x.1) (lookup test (in_order es ps)) ≡ None → test e.0 ≡ false) [
            | true ↦ λ t none. absurd cc
            | false ↦ λ t none. elim held as (λ _. test e.0 ≡ false) [
              | inl here ↦ let index : p - 1 ≡ i = omega arith in let own : slice_get es (p - 1) ≡ Some e = ap (λ (n : ℕ). slice_get es n) index ∙ is in let same : x ≡ e = cc in subst (λ (y : K × V). test y.0 ≡ false) same t
              | inr more ↦ nowhere_from test es ps i e none more is
            ]
          ]) refl none
    ]) refl none
