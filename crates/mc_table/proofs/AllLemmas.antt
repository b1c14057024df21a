-- All numbers up to their count: one more, one brought to the front, one removed.
use Rattle.std.proofs.Common.{◌≡◌, ℕ, suc, ◌<◌, ◌≤◌, ◌⊎◌, inl, inr, List, [], ◌∷◌, ◌++◌, length, refl, sym, ap, subst, arith}
use Rattle.std.proofs.lemmas.Bool.{cases_eq}
use Rattle.mc_table.specs.Places.{Member, Apart, AllApart, UpTo, left_out, AreAll}
use Rattle.mc_table.proofs.PlaceLemmas.{AllApart-between, AllApart-out, Apart-out, Apart-beyond, Member-out, Member-in, UpTo-front, UpTo-back, UpTo-both, UpTo-more, UpTo-less, SplitAt, split_at, UpTo-member}

pub length_mid : (xs : List ℕ) (p : ℕ) (ys : List ℕ) → length (xs ++ p ∷ ys) ≡ suc (length (xs ++ ys))
length_mid [] p ys = refl
length_mid (x ∷ xs) p ys = ap suc (length_mid xs p ys)

pub member_mid : (xs : List ℕ) (p : ℕ) (ys : List ℕ) → Member p (xs ++ p ∷ ys)
member_mid [] p ys = inl refl
member_mid (x ∷ xs) p ys = inr (member_mid xs p ys)

-- one more number
pub AreAll-more : (ps : List ℕ) → AreAll ps → AreAll (suc (length ps) ∷ ps)
AreAll-more ps all = record {
  once = (Apart-beyond (length ps) (suc (length ps)) ps (omega arith) all.within, all.once);
  within = (omega arith, omega arith, UpTo-more (length ps) (suc (length ps)) ps (omega arith) all.within);
  all = λ place positive within. elim (cases_eq place (suc (length ps))) as (λ _. (suc (length ps) ≡ place) ⊎ Member place ps) [
    | inl same ↦ inl (sym same)
    | inr other ↦ let less : place ≤ length ps = omega arith in inr (all.all place positive less)
  ];
}

UpTo-out : (n : ℕ) (xs : List ℕ) (p : ℕ) (ys : List ℕ) → UpTo n (xs ++ p ∷ ys) → UpTo n (xs ++ ys)
UpTo-out n xs p ys within = UpTo-both n xs ys (UpTo-front n xs (p ∷ ys) within) (UpTo-back n xs (p ∷ ys) within).2

UpTo-mid : (n : ℕ) (xs : List ℕ) (p : ℕ) (ys : List ℕ) → UpTo n (xs ++ p ∷ ys) → (0 < p) × (p ≤ n)
UpTo-mid n xs p ys within = let back = UpTo-back n xs (p ∷ ys) within in (back.0, back.1)

-- one of them in front of the others
front_at : (xs : List ℕ) (p : ℕ) (ys : List ℕ) → AreAll (xs ++ p ∷ ys) → AreAll (p ∷ (xs ++ ys))
front_at xs p ys all =
    let count : length (xs ++ p ∷ ys) ≡ suc (length (xs ++ ys)) = length_mid xs p ys in
    let within : UpTo (suc (length (xs ++ ys))) (xs ++ p ∷ ys) = subst (λ (n : ℕ). UpTo n (xs ++ p ∷ ys)) count all.within in
    let own = UpTo-mid (suc (length (xs ++ ys))) xs p ys within in
    record {
      once = (Apart-out p xs ys all.once, AllApart-out p xs ys all.once);
      within = (own.0, own.1, UpTo-out (suc (length (xs ++ ys))) xs p ys within);
      all = λ place positive less. elim (cases_eq place p) as (λ _. (p ≡ place) ⊎ Member place (xs ++ ys)) [
        | inl same ↦ inl (sym same)
        | inr other ↦ let le : place ≤ length (xs ++ p ∷ ys) = omega arith in inr (Member-out p place xs ys other (all.all place positive le))
      ];
    }

pub AreAll-front : (p : ℕ) (ps : List ℕ) → AreAll ps → SplitAt p ps → AreAll (p ∷ left_out p ps)
AreAll-front p ps all cut =
    subst (λ (l : List ℕ). AreAll (p ∷ l)) (sym cut.others) (front_at cut.front p cut.back (subst (λ (l : List ℕ). AreAll l) cut.is all))

-- the greatest number removed
last_out : (xs : List ℕ) (p : ℕ) (ys : List ℕ) → AreAll (xs ++ p ∷ ys) → p ≡ suc (length (xs ++ ys)) → AreAll (xs ++ ys)
last_out xs p ys all last =
    let count : length (xs ++ p ∷ ys) ≡ suc (length (xs ++ ys)) = length_mid xs p ys in
    let within : UpTo (suc (length (xs ++ ys))) (xs ++ p ∷ ys) = subst (λ (n : ℕ). UpTo n (xs ++ p ∷ ys)) count all.within in
    let apart : Apart (suc (length (xs ++ ys))) (xs ++ ys) = subst (λ (n : ℕ). Apart n (xs ++ ys)) last (Apart-out p xs ys all.once) in
    record {
      once = AllApart-out p xs ys all.once;
      within = UpTo-less (length (xs ++ ys)) (xs ++ ys) (UpTo-out (suc (length (xs ++ ys))) xs p ys within) apart;
      all = λ place positive less.
          let le : place ≤ length (xs ++ p ∷ ys) = omega arith in
          let other : place ≡ p → ⊥ = λ same. omega arith in
          Member-out p place xs ys other (all.all place positive le);
    }

-- another removed, whose number the last one takes
other_out : (xs : List ℕ) (p : ℕ) (ys us : List ℕ) (n : ℕ) (vs : List ℕ) → AreAll (xs ++ p ∷ ys) → n ≡ length (xs ++ p ∷ ys) → (p ≡ n → ⊥)
    → xs ++ ys ≡ us ++ n ∷ vs → AreAll (us ++ p ∷ vs)
other_out xs p ys us n vs all last differ cut =
    let count : length (xs ++ p ∷ ys) ≡ suc (length (xs ++ ys)) = length_mid xs p ys in
    let left : length (xs ++ ys) ≡ length (us ++ n ∷ vs) = ap length cut in
    let middle : length (us ++ n ∷ vs) ≡ suc (length (us ++ vs)) = length_mid us n vs in
    let again : length (us ++ p ∷ vs) ≡ suc (length (us ++ vs)) = length_mid us p vs in
    let top : n ≡ suc (length (us ++ p ∷ vs)) = omega arith in
    let own = UpTo-mid (length (xs ++ p ∷ ys)) xs p ys all.within in
    let ple : p ≤ length (us ++ p ∷ vs) = omega arith in
    let outer : UpTo (length (xs ++ p ∷ ys)) (xs ++ ys) = UpTo-out (length (xs ++ p ∷ ys)) xs p ys all.within in
    let moved : UpTo (length (xs ++ p ∷ ys)) (us ++ n ∷ vs) = subst (λ (l : List ℕ). UpTo (length (xs ++ p ∷ ys)) l) cut outer in
    let inner : UpTo (length (xs ++ p ∷ ys)) (us ++ vs) = UpTo-out (length (xs ++ p ∷ ys)) us n vs moved in
    let whole : length (xs ++ p ∷ ys) ≡ suc (length (us ++ p ∷ vs)) = omega arith in
    let inner2 : UpTo (suc (length (us ++ p ∷ vs))) (us ++ vs) = subst (λ (k : ℕ). UpTo k (us ++ vs)) whole inner in
    let once1 : AllApart (us ++ n ∷ vs) = subst (λ (l : List ℕ). AllApart l) cut (AllApart-out p xs ys all.once) in
    let apartn : Apart (suc (length (us ++ p ∷ vs))) (us ++ vs) = subst (λ (k : ℕ). Apart k (us ++ vs)) top (Apart-out n us vs once1) in
    let less : UpTo (length (us ++ p ∷ vs)) (us ++ vs) = UpTo-less (length (us ++ p ∷ vs)) (us ++ vs) inner2 apartn in
    let apartp : Apart p (us ++ n ∷ vs) = subst (λ (l : List ℕ). Apart p l) cut (Apart-out p xs ys all.once) in
    record {
      once = AllApart-between p us vs (AllApart-out n us vs once1) (apart_out p us n vs apartp);
      within = UpTo-both (length (us ++ p ∷ vs)) us (p ∷ vs) (UpTo-front (length (us ++ p ∷ vs)) us vs less) (own.0, ple, UpTo-back (length (us ++ p ∷ vs)) us vs less);
      all = λ place positive le. elim (cases_eq place p) as (λ _. Member place (us ++ p ∷ vs)) [
        | inl same ↦ subst (λ (k : ℕ). Member k (us ++ p ∷ vs)) (sym same) (member_mid us p vs)
        | inr other ↦
            let lew : place ≤ length (xs ++ p ∷ ys) = omega arith in
            let held : Member place (xs ++ ys) = Member-out p place xs ys other (all.all place positive lew) in
            let held2 : Member place (us ++ n ∷ vs) = subst (λ (l : List ℕ). Member place l) cut held in
            let nn : place ≡ n → ⊥ = λ same. omega arith in
            Member-in p place us vs (Member-out n place us vs nn held2)
      ];
    }
  where
    apart_out : (q : ℕ) (us : List ℕ) (n : ℕ) (vs : List ℕ) → Apart q (us ++ n ∷ vs) → Apart q (us ++ vs)
    apart_out q [] n vs apart = apart.1
    apart_out q (u ∷ us) n vs apart = (apart.0, apart_out q us n vs apart.1)

-- the number of the last one
pub last_held : (ps : List ℕ) (p : ℕ) → AreAll ps → Member p ps → Member (length ps) ps
last_held ps p all held =
    let bounds = UpTo-member (length ps) p ps all.within held in
    grind arith

-- if another than the last is removed, what is left splits at the last
pub split_last : (p : ℕ) (ps : List ℕ) → AreAll ps → SplitAt p ps → (p ≡ length ps → ⊥) → SplitAt (length ps) (left_out p ps)
split_last p ps all cut differ =
    let all2 : AreAll (cut.front ++ p ∷ cut.back) = subst (λ (l : List ℕ). AreAll l) cut.is all in
    let own : Member p ps = subst (λ (l : List ℕ). Member p l) (sym cut.is) (member_mid cut.front p cut.back) in
    let held : Member (length ps) (cut.front ++ p ∷ cut.back) = subst (λ (l : List ℕ). Member (length ps) l) cut.is (last_held ps p all own) in
    let left : Member (length ps) (cut.front ++ cut.back) = Member-out p (length ps) cut.front cut.back (λ same. differ (sym same)) held in
    subst (λ (l : List ℕ). SplitAt (length ps) l) (sym cut.others) (split_at (length ps) (cut.front ++ cut.back) (AllApart-out p cut.front cut.back all2.once) left)

-- the last one removed
pub AreAll-last_out : (p : ℕ) (ps : List ℕ) → AreAll ps → SplitAt p ps → p ≡ length ps → AreAll (left_out p ps)
AreAll-last_out p ps all cut last = grind (arith, length_mid, last_out)

-- another removed
pub AreAll-other_out : (p : ℕ) (ps : List ℕ) → AreAll ps → SplitAt p ps → (p ≡ length ps → ⊥) → (rest : SplitAt (length ps) (left_out p ps))
    → AreAll (rest.front ++ p ∷ rest.back)
AreAll-other_out p ps all cut differ rest = grind (arith, other_out)
