-- Walks along a chain: to the place that leads past another, and to a key.
use Rattle.std.proofs.Common.{◌≡◌, ◌≢◌, ℕ, suc, ◌-◌, ◌<◌, ◌≤◌, Bool, false, List, length, get_or, inl, inr, Some, slice_get, sym, ap, ◌∙◌, subst, arith}
use Rattle.mc_table.specs.Chains.{bucket_of, at_place, falls, link, IsLast, IsChained}
use Rattle.std.proofs.lemmas.Bool.{cases_eq, cases_lt}
use Rattle.std.proofs.lemmas.Bool.Decides.{nat_tests}
use Rattle.mc_table.proofs.EntryLemmas.{got_within}
use Rattle.mc_table.proofs.ChainLemmas.{reach, reach_place, link_place, link_last, bucket_within}

-- what a walk down to a place has passed
pub record Descends (heads tags nexts : List ℕ) (bucket most place above at : ℕ) : Type 0 where
  pub within : above ≤ most
  pub over : 0 < above → place < above
  pub own : 0 < above → falls (length heads) tags above ≡ bucket
  pub chained : (out : ℕ) → IsChained heads tags nexts out most → 0 < above → above ≢ out
  pub leads : at ≡ link heads nexts bucket above

-- what a search for a key has passed
pub record Seeks {K V : Type 0} (test : K → Bool) (heads tags : List ℕ) (entries : List (K × V)) (tag place : ℕ) : Type 0 where
  pub within : place ≤ length entries
  pub own : 0 < place → falls (length heads) tags place ≡ bucket_of (length heads) tag
  pub passed : (index : ℕ) (e : K × V) → place ≤ index → slice_get entries index ≡ Some e → get_or tags index 0 ≡ tag → test e.0 ≡ false

-- a walk is always at one of the slots
reach_within : (most above at : ℕ) → above ≤ most → at ≤ reach most above → at ≤ most
reach_within most above at within low = elim (cases_eq above 0) as (λ _. at ≤ most) [
  | inl none ↦ grind (arith, nat_tests)
  | inr some ↦ let same = reach_place most above (omega arith) in omega arith
]

lead_is : (heads tags nexts : List ℕ) (out bucket most place above at : ℕ) → IsChained heads tags nexts out most → bucket < length heads
    → Descends heads tags nexts bucket most place above at → IsLast (falls (length heads) tags) out bucket (reach most above) at
lead_is heads tags nexts out bucket most place above at chained some walked =
    subst (λ (p : ℕ). IsLast (falls (length heads) tags) out bucket (reach most above) p) (sym walked.leads)
    (link_last heads tags nexts out most bucket above chained some walked.within walked.own (walked.chained out chained))

-- a step further down
pub descended : (heads tags nexts : List ℕ) (out bucket most place above at next : ℕ) → IsChained heads tags nexts out most → bucket < length heads
    → Descends heads tags nexts bucket most place above at → place < at → next ≡ at_place nexts at → Descends heads tags nexts bucket most place at next
descended heads tags nexts out bucket most place above at next chained some walked over leads =
    let last = lead_is heads tags nexts out bucket most place above at chained some walked in
    record {
      within = reach_within most above at walked.within last.within;
      over = λ low. over;
      own = last.own;
      chained = λ another held low. (lead_is heads tags nexts another bucket most place above at held some walked).chained low;
      leads = leads ∙ sym (link_place heads nexts bucket at (omega arith));
    }

pub walked_within : (heads tags nexts : List ℕ) (out bucket most place above at : ℕ) → IsChained heads tags nexts out most → bucket < length heads
    → Descends heads tags nexts bucket most place above at → at ≤ most
walked_within heads tags nexts out bucket most place above at chained some walked =
    reach_within most above at walked.within (lead_is heads tags nexts out bucket most place above at chained some walked).within

-- a search

own_bucket : (heads tags : List ℕ) (tag index : ℕ) → get_or tags index 0 ≡ tag → falls (length heads) tags (suc index) ≡ bucket_of (length heads) tag
own_bucket heads tags tag index same =
    let at : suc index - 1 ≡ index = omega arith in
    ap (λ (t : ℕ). bucket_of (length heads) t) (ap (λ (n : ℕ). get_or tags n 0) at ∙ same)

some_same : {X : Type 0} {x y : X} → Some x ≡ Some y → x ≡ y
some_same is = cc

pub sought : {K V : Type 0} (test : K → Bool) (heads tags nexts : List ℕ) (entries : List (K × V)) (tag place : ℕ) → IsChained heads tags nexts 0 (length entries) → 0 < length heads
    → place ≡ get_or heads (bucket_of (length heads) tag) 0 → Seeks test heads tags entries tag place
sought {K} {V} test heads tags nexts entries tag place chained some is =
    let bucket : ℕ = bucket_of (length heads) tag in
    let first : IsLast (falls (length heads) tags) 0 bucket (length entries) place =
    subst (λ (p : ℕ). IsLast (falls (length heads) tags) 0 bucket (length entries) p) (sym is) (chained.first bucket (bucket_within (length heads) tag some)) in
    record {
      within = first.within;
      own = first.own;
      passed = λ index e low got same. absurd (first.last (suc index) (omega arith) (got_within entries index e got) (λ none. absurd (omega arith)) (own_bucket heads tags tag index same));
    }

-- the slot of a place is not the one, and the search goes on with the next
pub sought_on : {K V : Type 0} (test : K → Bool) (heads tags nexts : List ℕ) (entries : List (K × V)) (tag place next : ℕ) (own : K × V) → IsChained heads tags nexts 0 (length entries)
    → Seeks test heads tags entries tag place → 0 < place → next ≡ at_place nexts place → slice_get entries (place - 1) ≡ Some own
    → (at_place tags place ≡ tag → test own.0 ≡ false) → Seeks test heads tags entries tag next
sought_on {K} {V} test heads tags nexts entries tag place next own chained seeks some leads got fails =
    let f : ℕ → ℕ = falls (length heads) tags in
    let further : IsLast f 0 (f place) (place - 1) next =
    subst (λ (p : ℕ). IsLast f 0 (f place) (place - 1) p) (sym leads) (chained.further place some seeks.within (λ none. absurd (omega arith))) in
    let low : next ≤ place - 1 = further.within in
    let high : place ≤ length entries = seeks.within in
    record {
      within = omega arith;
      own = λ more. further.own more ∙ seeks.own some;
      passed =
          λ index e from is same. elim (cases_lt index place) as (λ _. test e.0 ≡ false) [
            | inr more ↦ seeks.passed index e more is same
            | inl less ↦ elim (cases_eq index (place - 1)) as (λ _. test e.0 ≡ false) [
              | inl here ↦
                  let entry : own ≡ e = some_same (sym got ∙ ap (λ (n : ℕ). slice_get entries n) (sym here) ∙ is) in
                  subst (λ (x : K × V). test x.0 ≡ false) entry (fails (ap (λ (n : ℕ). get_or tags n 0) (sym here) ∙ same))
              | inr before ↦ absurd (further.last (suc index) (omega arith) (omega arith) (λ none. absurd (omega arith)) (own_bucket heads tags tag index same ∙ sym (seeks.own some)))
            ]
          ];
    }
