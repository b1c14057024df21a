-- Chains: what each link leads to, and what a write to one leaves.
use Rattle.std.proofs.Common.{◌≡◌, ◌≢◌, ◌⊎◌, ℕ, zero, suc, ◌-◌, ◌<◌, ◌≤◌, inl, inr, List, [], ◌∷◌, ◌++◌, length, set, get_or, get_or-set_same, get_or-set_other, refl, sym, ap, ◌∙◌, subst, arith}
use Rattle.std.proofs.lemmas.Bool.{cases_eq, cases_lt}
use Rattle.std.proofs.lemmas.List.{get_or_append_left, length-set}
use Rattle.std.proofs.lemmas.Bool.Decides.{nat_tests}
use Rattle.std.specs.Prelude.{◌==◌, if◌then◌else◌, bit_and}
use lib.Bits.{and_le_r}
use Rattle.mc_table.specs.Chains.{bucket_of, at_place, falls, link, heads_with, nexts_with, IsLast, IsChained, IsAbove}

pub bucket_within : (buckets tag : ℕ) → 0 < buckets → bucket_of buckets tag < buckets
unfolding bucket_of
bucket_within buckets tag some = let most : bit_and tag (buckets - 1) ≤ buckets - 1 = and_le_r tag (buckets - 1) in omega arith

-- the last place of a bucket

module _ (f : ℕ → ℕ) where
  -- at places that fall to the same bucket
  pub last_same : (g : ℕ → ℕ) (out bucket most place : ℕ) → ((q : ℕ) → 0 < q → q ≤ most → q ≢ out → g q ≡ f q) → IsLast f out bucket most place → IsLast g out bucket most place
  last_same g out bucket most place same is =
      record {
        within = is.within;
        own = λ some. same place some is.within (is.chained some) ∙ is.own some;
        chained = is.chained;
        last = λ q after within apart falls. is.last q after within apart (sym (same q (omega arith) within apart) ∙ falls);
      }

  -- up to a lower place
  pub last_less : (out bucket most less place : ℕ) → less ≤ most → place ≤ less → IsLast f out bucket most place → IsLast f out bucket less place
  last_less out bucket most less place low within is =
      record {
        within = within;
        own = is.own;
        chained = is.chained;
        last = λ q after more apart. is.last q after (omega arith) apart;
      }

  -- a place that is not led to goes out
  pub last_kept_out : (bucket most place gone : ℕ) → place ≢ gone → IsLast f 0 bucket most place → IsLast f gone bucket most place
  last_kept_out bucket most place gone apart is =
      record {
        within = is.within;
        own = is.own;
        chained = λ some. apart;
        last = λ q after within other. is.last q after within (λ none. absurd (omega arith));
      }

  -- the place that is led to goes out
  pub last_passed : (bucket most next gone : ℕ) → 0 < gone → IsLast f 0 bucket most gone → IsLast f 0 (f gone) (gone - 1) next → IsLast f gone bucket most next
  last_passed bucket most next gone some is further =
      let here : gone ≤ most = is.within in
      let before : next ≤ gone - 1 = further.within in
      record {
        within = omega arith;
        own = λ low. further.own low ∙ is.own some;
        chained = λ low. (λ same. absurd (omega arith));
        last = λ q after within other falls. elim (cases_lt q gone) as (λ _. ⊥) [
          | inl less ↦ further.last q after (omega arith) (λ none. absurd (omega arith)) (falls ∙ sym (is.own some))
          | inr more ↦ elim (cases_eq q gone) as (λ _. ⊥) [
            | inl same ↦ other same
            | inr apart ↦ is.last q (omega arith) within (λ none. absurd (omega arith)) falls
          ]
        ];
      }

  -- a place is inserted behind the place that is led to, or is of another bucket
  pub last_kept_in : (bucket most place new : ℕ) → (f new ≢ bucket) ⊎ ((most < new) ⊎ (new < place)) → IsLast f new bucket most place → IsLast f 0 bucket most place
  last_kept_in bucket most place new apart is =
      record {
        within = is.within;
        own = is.own;
        chained = λ some. (λ none. absurd (omega arith));
        last = λ q after within other falls. elim (cases_eq q new) as (λ _. ⊥) [
          | inr differ ↦ is.last q after within differ falls
          | inl same ↦ elim apart as (λ _. ⊥) [
            | inl another ↦ another (ap f (sym same) ∙ falls)
            | inr off ↦ elim off as (λ _. ⊥) [
              | inl above ↦ absurd (omega arith)
              | inr behind ↦ absurd (omega arith)
            ]
          ]
        ];
      }

  -- a place is inserted before the place that is led to
  pub last_new : (bucket most place new : ℕ) → f new ≡ bucket → 0 < new → new ≤ most → place < new → IsLast f new bucket most place → IsLast f 0 bucket most new
  last_new bucket most place new own some within before is =
      record {
        within = within;
        own = λ low. own;
        chained = λ low. (λ none. absurd (omega arith));
        last = λ q after high other. is.last q (omega arith) high (λ same. absurd (omega arith));
      }

  -- what the inserted place leads to
  pub last_behind : (bucket most place new : ℕ) → new ≤ suc most → place < new → IsLast f new bucket most place → IsLast f 0 bucket (new - 1) place
  last_behind bucket most place new within before is =
      record {
        within = omega arith;
        own = is.own;
        chained = λ low. (λ none. absurd (omega arith));
        last = λ q after high other. is.last q after (omega arith) (λ same. absurd (omega arith));
      }

  -- no place is out
  pub last_none_out : (out bucket most place : ℕ) → most < out → IsLast f out bucket most place → IsLast f 0 bucket most place
  last_none_out out bucket most place off is =
      record {
        within = is.within;
        own = is.own;
        chained = λ low. (λ none. absurd (omega arith));
        last = λ q after high other. is.last q after high (λ same. absurd (omega arith));
      }

-- each link leads to the last place of its bucket up to its reach

-- the reach of a link: any place for a head, those before it for a place
abbrev pub reach : ℕ → ℕ → ℕ
reach most place = if place == 0 then most else place - 1

pub reach_place : (most place : ℕ) → 0 < place → reach most place ≡ place - 1
reach_place most place some = grind (arith, nat_tests)

pub link_place : (heads nexts : List ℕ) (bucket place : ℕ) → 0 < place → link heads nexts bucket place ≡ at_place nexts place
link_place heads nexts bucket place some = grind (arith, nat_tests)

pub link_last : (heads tags nexts : List ℕ) (out most bucket place : ℕ) → IsChained heads tags nexts out most → bucket < length heads → place ≤ most
    → (0 < place → falls (length heads) tags place ≡ bucket) → (0 < place → place ≢ out)
    → IsLast (falls (length heads) tags) out bucket (reach most place) (link heads nexts bucket place)
link_last heads tags nexts out most bucket place chained some within own chains =
    let Last : ℕ → ℕ → ℕ → Type 0 = λ b n p. IsLast (falls (length heads) tags) out b n p in
    elim (cases_eq place 0) as (λ _. IsLast (falls (length heads) tags) out bucket (reach most place) (link heads nexts bucket place)) [
      | inl none ↦ subst (λ (p : ℕ). Last bucket (reach most p) (link heads nexts bucket p)) (sym none) (chained.first bucket some)
      | inr apart ↦
          let low : 0 < place = omega arith in
          subst (λ (n : ℕ). Last bucket n (link heads nexts bucket place)) (sym (reach_place most place low))
          (subst (λ (p : ℕ). Last bucket (place - 1) p) (sym (link_place heads nexts bucket place low))
          (subst (λ (b : ℕ). Last b (place - 1) (at_place nexts place)) (own low) (chained.further place low within (chains low))))
    ]

pub chained_of : (heads tags nexts : List ℕ) (out most : ℕ) → 0 < length heads
    → ((bucket place : ℕ) → bucket < length heads → place ≤ most → (0 < place → falls (length heads) tags place ≡ bucket) → (0 < place → place ≢ out)
    → IsLast (falls (length heads) tags) out bucket (reach most place) (link heads nexts bucket place))
    → IsChained heads tags nexts out most
chained_of heads tags nexts out most some links =
    let Last : ℕ → ℕ → ℕ → Type 0 = λ b n p. IsLast (falls (length heads) tags) out b n p in
    record {
      first = λ bucket low. links bucket 0 low (omega arith) (λ none. absurd (omega arith)) (λ none. absurd (omega arith));
      further =
          λ place low within chains.
          let bucket : ℕ = falls (length heads) tags place in
          subst (λ (n : ℕ). Last bucket n (at_place nexts place)) (reach_place most place low)
          (subst (λ (p : ℕ). Last bucket (reach most place) p) (link_place heads nexts bucket place low)
          (links bucket place (bucket_within (length heads) (at_place tags place) some) within (λ low. refl) (λ low. chains)));
    }

-- what one write to a link leaves

written_at : (numbers : List ℕ) (place other to : ℕ) → 0 < place → 0 < other → other ≢ place → at_place (set numbers (place - 1) to) other ≡ at_place numbers other
written_at numbers place other to low some apart =
    let differ : other - 1 ≢ place - 1 = λ same. apart (omega arith) in
    get_or-set_other numbers (place - 1) (other - 1) to 0 differ

pub link_own : (heads nexts : List ℕ) (bucket place to : ℕ) → bucket < length heads → place ≤ length nexts
    → link (heads_with bucket place to heads) (nexts_with place to nexts) bucket place ≡ to
link_own heads nexts bucket place to some within = elim (cases_eq place 0) as (λ _. link (heads_with bucket place to heads) (nexts_with place to nexts) bucket place ≡ to) [
  | inl none ↦ subst (λ (p : ℕ). link (heads_with bucket p to heads) (nexts_with p to nexts) bucket p ≡ to) (sym none) (get_or-set_same heads bucket to 0 some)
  | inr apart ↦
      let low : place - 1 < length nexts = omega arith in
      let own : get_or (set nexts (place - 1) to) (place - 1) 0 ≡ to = get_or-set_same nexts (place - 1) to 0 low in
      grind (arith, nat_tests)
]

pub link_other : (heads nexts : List ℕ) (bucket place to another other : ℕ) → (other ≢ place) ⊎ ((other ≡ 0) × (another ≢ bucket))
    → link (heads_with bucket place to heads) (nexts_with place to nexts) another other ≡ link heads nexts another other
link_other heads nexts bucket place to another other apart = elim (cases_eq place 0) as (λ _. link (heads_with bucket place to heads) (nexts_with place to nexts) another other ≡ link heads nexts another other) [
  | inl none ↦ elim apart as (λ _. link (heads_with bucket place to heads) (nexts_with place to nexts) another other ≡ link heads nexts another other) [
    | inl differ ↦ grind (arith, nat_tests)
    | inr head ↦ let same = get_or-set_other heads bucket another to 0 head.1 in grind (arith, nat_tests)
  ]
  | inr some ↦ elim (cases_eq other 0) as (λ _. link (heads_with bucket place to heads) (nexts_with place to nexts) another other ≡ link heads nexts another other) [
    | inl head ↦ grind (arith, nat_tests)
    | inr further ↦ elim apart as (λ _. link (heads_with bucket place to heads) (nexts_with place to nexts) another other ≡ link heads nexts another other) [
      | inl differ ↦ let same = written_at nexts place other to (omega arith) (omega arith) differ in grind (arith, nat_tests)
      | inr head ↦ absurd (further head.0)
    ]
  ]
]

pub length-heads_with : (heads : List ℕ) (bucket place to : ℕ) → length (heads_with bucket place to heads) ≡ length heads
length-heads_with heads bucket place to = grind (arith, nat_tests, length-set)

-- one link alone leads to a place, or past it

pub reaches : (heads tags nexts : List ℕ) (bucket most place above : ℕ) → place ≤ most → IsAbove heads tags nexts bucket most place above → place ≤ reach most above
reaches heads tags nexts bucket most place above within is =
    elim (cases_eq above 0) as (λ _. place ≤ reach most above) [
      | inl none ↦ grind (arith, nat_tests)
      | inr some ↦ let over : place < above = is.over (omega arith) in let same = reach_place most above (omega arith) in omega arith
    ]

pub above_leads : (heads tags nexts : List ℕ) (most place above : ℕ) → IsChained heads tags nexts 0 most → 0 < length heads → 0 < place → place ≤ most
    → IsAbove heads tags nexts (falls (length heads) tags place) most place above → link heads nexts (falls (length heads) tags place) above ≡ place
above_leads heads tags nexts most place above chained some low within is =
    let bucket : ℕ = falls (length heads) tags place in
    let last = link_last heads tags nexts 0 most bucket above chained (bucket_within (length heads) (at_place tags place) some) is.within is.own (λ high. (λ none. absurd (omega arith))) in
    let past : link heads nexts bucket above ≤ place = is.past in
    elim (cases_lt (link heads nexts bucket above) place) as (λ _. link heads nexts bucket above ≡ place) [
      | inl less ↦ absurd (last.last place less (reaches heads tags nexts bucket most place above within is) (λ none. absurd (omega arith)) refl)
      | inr more ↦ omega arith
    ]

pub beyond : (heads tags nexts : List ℕ) (out most bucket place above other : ℕ) → IsChained heads tags nexts out most → bucket < length heads → out ≤ place
    → IsAbove heads tags nexts bucket most place above → other ≢ above → other ≤ most → (0 < other → falls (length heads) tags other ≡ bucket)
    → (reach most other < place) ⊎ (place < link heads nexts bucket other)
beyond heads tags nexts out most bucket place above other chained some lower is apart within own =
    elim (cases_eq other 0) as (λ _. (reach most other < place) ⊎ (place < link heads nexts bucket other)) [
      | inl head ↦
          let high : 0 < above = omega arith in
          let over : place < above = is.over high in
          let first = chained.first bucket some in
          inr (elim (cases_lt (get_or heads bucket 0) above) as (λ _. place < link heads nexts bucket other) [
            | inl less ↦ absurd (first.last above less is.within (λ same. absurd (omega arith)) (is.own high))
            | inr more ↦ let lead : link heads nexts bucket other ≡ get_or heads bucket 0 = ap (λ (p : ℕ). link heads nexts bucket p) head in omega arith
          ])
      | inr further ↦ elim (cases_lt place other) as (λ _. (reach most other < place) ⊎ (place < link heads nexts bucket other)) [
        | inr lower ↦ let same = reach_place most other (omega arith) in inl (omega arith)
        | inl higher ↦ elim (cases_lt other above) as (λ _. (reach most other < place) ⊎ (place < link heads nexts bucket other)) [
          | inl between ↦
              let high : 0 < above = omega arith in
              let last = link_last heads tags nexts out most bucket above chained some is.within is.own (λ low. (λ same. let over = is.over high in absurd (omega arith))) in
              let same = reach_place most above high in
              absurd (last.last other (omega (arith, is.past)) (omega arith) (λ same. absurd (omega arith)) (own (omega arith)))
          | inr after ↦ elim (cases_eq above 0) as (λ _. (reach most other < place) ⊎ (place < link heads nexts bucket other)) [
            | inl none ↦
                let lead : link heads nexts bucket above ≡ get_or heads bucket 0 = ap (λ (p : ℕ). link heads nexts bucket p) none in
                absurd ((chained.first bucket some).last other (omega (arith, is.past)) within (λ same. absurd (omega arith)) (own (omega arith)))
            | inr high ↦
                let over : place < above = is.over (omega arith) in
                let last = link_last heads tags nexts out most bucket other chained some within own (λ low. (λ same. absurd (omega arith))) in
                let same = reach_place most other (omega arith) in
                inr (elim (cases_lt (link heads nexts bucket other) above) as (λ _. place < link heads nexts bucket other) [
                  | inl less ↦ absurd (last.last above less (omega arith) (λ same. absurd (omega arith)) (is.own (omega arith)))
                  | inr more ↦ omega arith
                ])
          ]
        ]
      ]
    ]

-- links of as many buckets
chained_by : (heads heads2 tags nexts : List ℕ) (out most : ℕ) → length heads2 ≡ length heads → 0 < length heads
    → ((b q : ℕ) → b < length heads → q ≤ most → (0 < q → falls (length heads) tags q ≡ b) → (0 < q → q ≢ out) → IsLast (falls (length heads) tags) out b (reach most q) (link heads2 nexts b q))
    → IsChained heads2 tags nexts out most
chained_by heads heads2 tags nexts out most count some links =
    chained_of heads2 tags nexts out most (omega arith)
    (subst (λ (n : ℕ). (b q : ℕ) → b < n → q ≤ most → (0 < q → falls n tags q ≡ b) → (0 < q → q ≢ out) → IsLast (falls n tags) out b (reach most q) (link heads2 nexts b q)) (sym count) links)

-- a link of another bucket is another link
of_another : (heads tags nexts : List ℕ) (bucket most place above b q : ℕ) → IsAbove heads tags nexts bucket most place above → b ≢ bucket
    → (0 < q → falls (length heads) tags q ≡ b) → (q ≢ above) ⊎ ((q ≡ 0) × (b ≢ bucket))
of_another heads tags nexts bucket most place above b q is differ own =
    let f : ℕ → ℕ = falls (length heads) tags in
    elim (cases_eq q above) as (λ _. (q ≢ above) ⊎ ((q ≡ 0) × (b ≢ bucket))) [
      | inr apart ↦ inl apart
      | inl here ↦ elim (cases_eq q 0) as (λ _. (q ≢ above) ⊎ ((q ≡ 0) × (b ≢ bucket))) [
        | inl none ↦ inr (none, differ)
        | inr more ↦ absurd (differ (sym (own (omega arith)) ∙ ap f here ∙ is.own (omega arith)))
      ]
    ]

-- a place goes out of its chain

pub unlinked : (heads tags nexts : List ℕ) (most place above : ℕ) → IsChained heads tags nexts 0 most → 0 < length heads → 0 < place → place ≤ most → most ≤ length nexts
    → IsAbove heads tags nexts (falls (length heads) tags place) most place above
    → IsChained (heads_with (falls (length heads) tags place) above (at_place nexts place) heads) tags (nexts_with above (at_place nexts place) nexts) place most
unlinked heads tags nexts most place above chained some low within size is =
    let f : ℕ → ℕ = falls (length heads) tags in
    let bucket : ℕ = f place in
    let next : ℕ = at_place nexts place in
    let heads2 : List ℕ = heads_with bucket above next heads in
    let nexts2 : List ℕ = nexts_with above next nexts in
    let mine : bucket < length heads = bucket_within (length heads) (at_place tags place) some in
    let count : length heads2 ≡ length heads = length-heads_with heads bucket above next in
    let leads = above_leads heads tags nexts most place above chained some low within is in
    let further = chained.further place low within (λ none. absurd (omega arith)) in
    let Goal : ℕ → ℕ → ℕ → Type 0 = λ b q r. IsLast f place b (reach most q) r in
    let links : (b q : ℕ) → b < length heads → q ≤ most → (0 < q → f q ≡ b) → (0 < q → q ≢ place) → Goal b q (link heads2 nexts2 b q) =
    λ b q inside high own chains.
    let old = link_last heads tags nexts 0 most b q chained inside high own (λ more. (λ none. absurd (omega arith))) in
    let kept : link heads nexts b q ≢ place → (q ≢ above) ⊎ ((q ≡ 0) × (b ≢ bucket)) → Goal b q (link heads2 nexts2 b q) =
    λ differ apart. subst (λ (r : ℕ). Goal b q r) (sym (link_other heads nexts bucket above next b q apart)) (last_kept_out f b (reach most q) (link heads nexts b q) place differ old) in
    elim (cases_eq b bucket) as (λ _. Goal b q (link heads2 nexts2 b q)) [
      | inl same ↦ elim (cases_eq q above) as (λ _. Goal b q (link heads2 nexts2 b q)) [
        | inl here ↦
            let now : link heads2 nexts2 b q ≡ next = ap (λ (n : ℕ). link heads2 nexts2 n q) same ∙ ap (λ (n : ℕ). link heads2 nexts2 bucket n) here ∙ link_own heads nexts bucket above next mine (omega (arith, is.within)) in
            let was : link heads nexts b q ≡ place = ap (λ (n : ℕ). link heads nexts n q) same ∙ ap (λ (n : ℕ). link heads nexts bucket n) here ∙ leads in
            subst (λ (r : ℕ). Goal b q r) (sym now) (last_passed f b (reach most q) next place low (subst (λ (r : ℕ). IsLast f 0 b (reach most q) r) was old) further)
        | inr apart ↦ kept (λ is_place. elim (beyond heads tags nexts 0 most bucket place above q chained mine (omega arith) is apart high (λ more. own more ∙ same)) as (λ _. ⊥) [
          | inl below ↦ let least = old.within in absurd (omega arith)
          | inr over ↦ let lead : link heads nexts b q ≡ link heads nexts bucket q = ap (λ (n : ℕ). link heads nexts n q) same in absurd (omega arith)
        ]) (inl apart)
      ]
      | inr differ ↦ kept (λ is_place. differ (sym (ap f (sym is_place) ∙ old.own (omega arith)))) (of_another heads tags nexts bucket most place above b q is differ own)
    ] in
    chained_by heads heads2 tags nexts2 place most count some links

-- a place is inserted into the chain of its bucket

pub linked : (heads tags nexts : List ℕ) (most place above : ℕ) → IsChained heads tags nexts place most → 0 < length heads → 0 < place → place ≤ most → most ≤ length nexts
    → IsAbove heads tags nexts (falls (length heads) tags place) most place above
    → IsChained (heads_with (falls (length heads) tags place) above place heads) tags
    (nexts_with above place (set nexts (place - 1) (link heads nexts (falls (length heads) tags place) above))) 0 most
linked heads tags nexts most place above chained some low within size is =
    let f : ℕ → ℕ = falls (length heads) tags in
    let bucket : ℕ = f place in
    let next : ℕ = link heads nexts bucket above in
    let nexts1 : List ℕ = set nexts (place - 1) next in
    let heads2 : List ℕ = heads_with bucket above place heads in
    let nexts2 : List ℕ = nexts_with above place nexts1 in
    let size1 : length nexts1 ≡ length nexts = length-set nexts (place - 1) next in
    let mine : bucket < length heads = bucket_within (length heads) (at_place tags place) some in
    let count : length heads2 ≡ length heads = length-heads_with heads bucket above place in
    let higher : 0 < above → above ≢ place = λ more. (λ same. let over = is.over more in absurd (omega arith)) in
    let behind = link_last heads tags nexts place most bucket above chained mine is.within is.own higher in
    let before : next < place = before_place next place low is.past behind.chained in
    let up : place ≤ reach most above = reaches heads tags nexts bucket most place above within is in
    let Goal : ℕ → ℕ → ℕ → Type 0 = λ b q r. IsLast f 0 b (reach most q) r in
    let links : (b q : ℕ) → b < length heads → q ≤ most → (0 < q → f q ≡ b) → (0 < q → q ≢ 0) → Goal b q (link heads2 nexts2 b q) =
    λ b q inside high own chains.
    elim (cases_eq q place) as (λ _. Goal b q (link heads2 nexts2 b q)) [
      | inl new ↦
          let same : b ≡ bucket = sym (own (omega arith)) ∙ ap f new in
          let apart : q ≢ above = λ one. higher (omega arith) (sym one ∙ new) in
          let now : link heads2 nexts2 b q ≡ next = link_other heads nexts1 bucket above place b q (inl apart) ∙ ap (λ (n : ℕ). link heads nexts1 b n) new ∙ link_place heads nexts1 b place low
          ∙ get_or-set_same nexts (place - 1) next 0 (omega arith) in
          let reached : reach most q ≡ place - 1 = ap (λ (n : ℕ). reach most n) new ∙ reach_place most place low in
          let mid = last_behind f bucket (reach most above) next place (omega arith) before behind in
          subst (λ (r : ℕ). Goal b q r) (sym now) (subst (λ (n : ℕ). IsLast f 0 b n next) (sym reached) (subst (λ (c : ℕ). IsLast f 0 c (place - 1) next) (sym same) mid))
      | inr other ↦
          let unset : link heads nexts1 b q ≡ link heads nexts b q = link_unset heads nexts b place next q low other in
          let old = link_last heads tags nexts place most b q chained inside high own (λ more. other) in
          let kept : (f place ≢ b) ⊎ ((reach most q < place) ⊎ (place < link heads nexts b q)) → (q ≢ above) ⊎ ((q ≡ 0) × (b ≢ bucket)) → Goal b q (link heads2 nexts2 b q) =
          λ off apart. subst (λ (r : ℕ). Goal b q r) (sym (link_other heads nexts1 bucket above place b q apart ∙ unset)) (last_kept_in f b (reach most q) (link heads nexts b q) place off old) in
          elim (cases_eq b bucket) as (λ _. Goal b q (link heads2 nexts2 b q)) [
            | inl same ↦ elim (cases_eq q above) as (λ _. Goal b q (link heads2 nexts2 b q)) [
              | inl here ↦
                  let now : link heads2 nexts2 b q ≡ place = ap (λ (n : ℕ). link heads2 nexts2 n q) same ∙ ap (λ (n : ℕ). link heads2 nexts2 bucket n) here ∙ link_own heads nexts1 bucket above place mine (omega (arith, is.within)) in
                  let new = last_new f bucket (reach most above) next place refl low up before behind in
                  subst (λ (r : ℕ). Goal b q r) (sym now) (subst (λ (c : ℕ). IsLast f 0 c (reach most q) place) (sym same) (subst (λ (n : ℕ). IsLast f 0 bucket (reach most n) place) (sym here) new))
              | inr apart ↦ kept (inr (subst (λ (c : ℕ). (reach most q < place) ⊎ (place < link heads nexts c q)) (sym same)
                  (beyond heads tags nexts place most bucket place above q chained mine (omega arith) is apart high (λ more. own more ∙ same)))) (inl apart)
            ]
            | inr differ ↦ kept (inl (λ one. differ (sym one))) (of_another heads tags nexts bucket most place above b q is differ own)
          ]
    ] in
    chained_by heads heads2 tags nexts2 0 most count some links
  where
    before_place : (next place : ℕ) → 0 < place → next ≤ place → (0 < next → next ≢ place) → next < place
    before_place next place low past apart = elim (cases_lt next place) as (λ _. next < place) [
      | inl less ↦ less
      | inr more ↦ absurd (apart (omega arith) (omega arith))
    ]

    link_unset : (heads nexts : List ℕ) (b place next q : ℕ) → 0 < place → q ≢ place → link heads (set nexts (place - 1) next) b q ≡ link heads nexts b q
    link_unset heads nexts b place next q low other = elim (cases_eq q 0) as (λ _. link heads (set nexts (place - 1) next) b q ≡ link heads nexts b q) [
      | inl none ↦ ap (λ (n : ℕ). link heads (set nexts (place - 1) next) b n) none ∙ sym (ap (λ (n : ℕ). link heads nexts b n) none)
      | inr more ↦ link_place heads (set nexts (place - 1) next) b q (omega arith) ∙ written_at nexts place q next low (omega arith) other ∙ sym (link_place heads nexts b q (omega arith))
    ]

lower : (f : ℕ → ℕ) (out bucket most place : ℕ) → IsLast f out bucket most place → place ≢ most → place ≤ most - 1
lower f out bucket most place is apart = let within : place ≤ most = is.within in omega arith

-- the last slot is the first of its chain, and goes

pub freed : (heads tags nexts : List ℕ) (out most : ℕ) → IsChained heads tags nexts out most → 0 < length heads → 0 < most → most ≢ out
    → IsChained (set heads (falls (length heads) tags most) (at_place nexts most)) tags nexts out (most - 1)
freed heads tags nexts out most chained some low apart =
    let f : ℕ → ℕ = falls (length heads) tags in
    let bucket : ℕ = f most in
    let heads2 : List ℕ = set heads bucket (at_place nexts most) in
    let count : length heads2 ≡ length heads = length-set heads bucket (at_place nexts most) in
    let mine : bucket < length heads = bucket_within (length heads) (at_place tags most) some in
    let first : (b : ℕ) → b < length heads → IsLast f out b (most - 1) (get_or heads2 b 0) =
    λ b inside. elim (cases_eq b bucket) as (λ _. IsLast f out b (most - 1) (get_or heads2 b 0)) [
      | inl same ↦
          let now : get_or heads2 b 0 ≡ at_place nexts most = ap (λ (n : ℕ). get_or heads2 n 0) same ∙ get_or-set_same heads bucket (at_place nexts most) 0 mine in
          subst (λ (r : ℕ). IsLast f out b (most - 1) r) (sym now) (subst (λ (c : ℕ). IsLast f out c (most - 1) (at_place nexts most)) (sym same) (chained.further most low (omega arith) apart))
      | inr differ ↦
          let now : get_or heads2 b 0 ≡ get_or heads b 0 = get_or-set_other heads bucket b (at_place nexts most) 0 differ in
          let old = chained.first b inside in
          let less : get_or heads b 0 ≤ most - 1 = lower f out b most (get_or heads b 0) old (λ one. differ (sym (ap f (sym one) ∙ old.own (omega arith)))) in
          subst (λ (r : ℕ). IsLast f out b (most - 1) r) (sym now) (last_less f out b most (most - 1) (get_or heads b 0) (omega arith) less old)
    ] in
    let Chains : ℕ → Type 0 = λ n. ((b : ℕ) → b < n → IsLast (falls n tags) out b (most - 1) (get_or heads2 b 0))
    × ((q : ℕ) → 0 < q → q ≤ most - 1 → q ≢ out → IsLast (falls n tags) out (falls n tags q) (q - 1) (at_place nexts q)) in
    let all : Chains (length heads2) = subst Chains (sym count) (first, λ q high within chains. chained.further q high (omega arith) chains) in
    record { first = all.0; further = all.1 }

-- the last slot, which is out of its chain, goes
pub cut : (heads tags nexts : List ℕ) (most : ℕ) → IsChained heads tags nexts most most → 0 < most → IsChained heads tags nexts 0 (most - 1)
cut heads tags nexts most chained some =
    let f : ℕ → ℕ = falls (length heads) tags in
    record {
      first =
          λ b inside.
          let old = chained.first b inside in
          let less : get_or heads b 0 ≤ most - 1 = lower f most b most (get_or heads b 0) old (λ one. old.chained (omega arith) one) in
          last_none_out f most b (most - 1) (get_or heads b 0) (omega arith) (last_less f most b most (most - 1) (get_or heads b 0) (omega arith) less old);
      further = λ q high within chains. last_none_out f most (f q) (q - 1) (at_place nexts q) (omega arith) (chained.further q high (omega arith) (λ same. absurd (omega arith)));
    }

-- slots that agree in all chains
pub chained_same : (heads tags nexts tags2 nexts2 : List ℕ) (out most : ℕ)
    → ((q : ℕ) → 0 < q → q ≤ most → q ≢ out → (at_place tags2 q ≡ at_place tags q) × (at_place nexts2 q ≡ at_place nexts q))
    → IsChained heads tags nexts out most → IsChained heads tags2 nexts2 out most
chained_same heads tags nexts tags2 nexts2 out most same chained =
    let f : ℕ → ℕ = falls (length heads) tags in
    let g : ℕ → ℕ = falls (length heads) tags2 in
    let falls_same : (q : ℕ) → 0 < q → q ≤ most → q ≢ out → g q ≡ f q = λ q high within chains. ap (λ (t : ℕ). bucket_of (length heads) t) (same q high within chains).0 in
    record {
      first = λ b inside. last_same f g out b most (get_or heads b 0) falls_same (chained.first b inside);
      further =
          λ q high within chains.
          let old = last_same f g out (f q) (q - 1) (at_place nexts q) (λ p more low apart. falls_same p more (omega arith) apart) (chained.further q high within chains) in
          subst (λ (r : ℕ). IsLast g out (g q) (q - 1) r) (sym (same q high within chains).1)
          (subst (λ (b : ℕ). IsLast g out b (q - 1) (at_place nexts q)) (sym (falls_same q high within chains)) old);
    }

-- one slot more, the first of its chain

pub read_push_old : (xs : List ℕ) (x i : ℕ) → i < length xs → get_or (xs ++ x ∷ []) i 0 ≡ get_or xs i 0
read_push_old xs x i within = get_or_append_left xs (x ∷ []) 0 i within

pub read_push_new : (xs : List ℕ) (x i : ℕ) → i ≡ length xs → get_or (xs ++ x ∷ []) i 0 ≡ x
read_push_new [] x i is = ap (λ (n : ℕ). get_or (x ∷ []) n 0) is
read_push_new (y ∷ xs) x zero is = absurd (omega arith)
read_push_new (y ∷ xs) x (suc i) is = read_push_new xs x i (omega arith)

last_more : (f : ℕ → ℕ) (bucket most place : ℕ) → f (suc most) ≢ bucket → IsLast f 0 bucket most place → IsLast f 0 bucket (suc most) place
last_more f bucket most place differ is =
    let within : place ≤ most = is.within in
    record {
      within = omega arith;
      own = is.own;
      chained = is.chained;
      last = λ q after high some. elim (cases_eq q (suc most)) as (λ _. f q ≢ bucket) [
        | inl new ↦ λ falls. differ (ap f (sym new) ∙ falls)
        | inr old ↦ is.last q after (omega arith) some
      ];
    }

last_itself : (f : ℕ → ℕ) (bucket most : ℕ) → f (suc most) ≡ bucket → IsLast f 0 bucket (suc most) (suc most)
last_itself f bucket most own =
    record {
      within = omega arith;
      own = λ some. own;
      chained = λ some. (λ none. absurd (omega arith));
      last = λ q after high some. absurd (omega arith);
    }

pub pushed : (heads tags nexts : List ℕ) (most tag : ℕ) → IsChained heads tags nexts 0 most → 0 < length heads → length tags ≡ most → length nexts ≡ most
    → IsChained (set heads (bucket_of (length heads) tag) (suc most)) (tags ++ tag ∷ []) (nexts ++ get_or heads (bucket_of (length heads) tag) 0 ∷ []) 0 (suc most)
pushed heads tags nexts most tag chained some width size =
    let n : ℕ = length heads in
    let bucket : ℕ = bucket_of n tag in
    let next : ℕ = get_or heads bucket 0 in
    let heads2 : List ℕ = set heads bucket (suc most) in
    let tags2 : List ℕ = tags ++ tag ∷ [] in
    let nexts2 : List ℕ = nexts ++ next ∷ [] in
    let f : ℕ → ℕ = falls n tags in
    let g : ℕ → ℕ = falls n tags2 in
    let count : length heads2 ≡ n = length-set heads bucket (suc most) in
    let mine : bucket < n = bucket_within n tag some in
    let new : g (suc most) ≡ bucket = ap (λ (t : ℕ). bucket_of n t) (read_push_new tags tag (suc most - 1) (omega arith)) in
    let old : (q : ℕ) → 0 < q → q ≤ most → q ≢ 0 → g q ≡ f q = λ q low high other. ap (λ (t : ℕ). bucket_of n t) (read_push_old tags tag (q - 1) (omega arith)) in
    let first : (b : ℕ) → b < n → IsLast g 0 b (suc most) (get_or heads2 b 0) =
    λ b inside. elim (cases_eq b bucket) as (λ _. IsLast g 0 b (suc most) (get_or heads2 b 0)) [
      | inl same ↦
          let now : get_or heads2 b 0 ≡ suc most = ap (λ (c : ℕ). get_or heads2 c 0) same ∙ get_or-set_same heads bucket (suc most) 0 mine in
          subst (λ (r : ℕ). IsLast g 0 b (suc most) r) (sym now) (last_itself g b most (new ∙ sym same))
      | inr differ ↦
          let now : get_or heads2 b 0 ≡ get_or heads b 0 = get_or-set_other heads bucket b (suc most) 0 differ in
          subst (λ (r : ℕ). IsLast g 0 b (suc most) r) (sym now)
          (last_more g b most (get_or heads b 0) (λ falls. differ (sym falls ∙ new)) (last_same f g 0 b most (get_or heads b 0) old (chained.first b inside)))
    ] in
    let further : (q : ℕ) → 0 < q → q ≤ suc most → q ≢ 0 → IsLast g 0 (g q) (q - 1) (at_place nexts2 q) =
    λ q low high other. elim (cases_eq q (suc most)) as (λ _. IsLast g 0 (g q) (q - 1) (at_place nexts2 q)) [
      | inl last ↦
          let now : at_place nexts2 q ≡ next = read_push_new nexts next (q - 1) (omega arith) in
          let own : g q ≡ bucket = ap g last ∙ new in
          let reached : q - 1 ≡ most = omega arith in
          subst (λ (r : ℕ). IsLast g 0 (g q) (q - 1) r) (sym now) (subst (λ (b : ℕ). IsLast g 0 b (q - 1) next) (sym own)
          (subst (λ (m : ℕ). IsLast g 0 bucket m next) (sym reached) (last_same f g 0 bucket most next old (chained.first bucket mine))))
      | inr before ↦
          let now : at_place nexts2 q ≡ at_place nexts q = read_push_old nexts next (q - 1) (omega arith) in
          let own : g q ≡ f q = old q low (omega arith) other in
          subst (λ (r : ℕ). IsLast g 0 (g q) (q - 1) r) (sym now) (subst (λ (b : ℕ). IsLast g 0 b (q - 1) (at_place nexts q)) (sym own)
          (last_same f g 0 (f q) (q - 1) (at_place nexts q) (λ p more less others. old p more (omega arith) others) (chained.further q low (omega arith) other)))
    ] in
    let Chains : ℕ → Type 0 = λ m. ((b : ℕ) → b < m → IsLast (falls m tags2) 0 b (suc most) (get_or heads2 b 0))
    × ((q : ℕ) → 0 < q → q ≤ suc most → q ≢ 0 → IsLast (falls m tags2) 0 (falls m tags2 q) (q - 1) (at_place nexts2 q)) in
    let all : Chains (length heads2) = subst Chains (sym count) (first, further) in
    record { first = all.0; further = all.1 }

-- what the calls leave

pub unlinked_by : (heads tags nexts heads2 tags2 nexts2 : List ℕ) (most most2 place above bucket next : ℕ) → IsChained heads tags nexts 0 most → 0 < length heads → 0 < place → place ≤ most
    → most ≤ length nexts → bucket ≡ falls (length heads) tags place → next ≡ at_place nexts place → IsAbove heads tags nexts bucket most place above
    → heads2 ≡ heads_with bucket above next heads → tags2 ≡ tags → nexts2 ≡ nexts_with above next nexts → most2 ≡ most → IsChained heads2 tags2 nexts2 place most2
unlinked_by heads tags nexts heads2 tags2 nexts2 most most2 place above bucket next chained some low within size own leads is heads_are tags_are nexts_are most_is =
    let made = unlinked heads tags nexts most place above chained some low within size (subst (λ (b : ℕ). IsAbove heads tags nexts b most place above) own is) in
    rw (heads_are, tags_are, nexts_are, most_is, own, leads) made

pub linked_by : (heads tags nexts heads2 tags2 nexts1 nexts2 : List ℕ) (most most2 place above bucket next : ℕ) → IsChained heads tags nexts place most → 0 < length heads → 0 < place → place ≤ most
    → most ≤ length nexts → bucket ≡ falls (length heads) tags place → next ≡ link heads nexts bucket above → IsAbove heads tags nexts bucket most place above
    → heads2 ≡ heads_with bucket above place heads → tags2 ≡ tags → nexts1 ≡ set nexts (place - 1) next → nexts2 ≡ nexts_with above place nexts1 → most2 ≡ most → IsChained heads2 tags2 nexts2 0 most2
linked_by heads tags nexts heads2 tags2 nexts1 nexts2 most most2 place above bucket next chained some low within size own leads is heads_are tags_are first_are nexts_are most_is =
    let made = linked heads tags nexts most place above chained some low within size (subst (λ (b : ℕ). IsAbove heads tags nexts b most place above) own is) in
    rw (heads_are, tags_are, nexts_are, first_are, most_is, leads, own) made
