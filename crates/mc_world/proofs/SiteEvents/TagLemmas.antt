-- The tags of pending commands, one by one.
use Rattle.std.proofs.Common.{◌≡◌, ◌∙◌, ℕ, zero, suc, ◌+◌, ◌<◌, List, [], ◌∷◌, ◌++◌, length, map, drop, Option, Some, None, slice_get, refl, sym, ap, append_assoc, arith}
use Rattle.std.specs.Option.{option_map}
use Rattle.std.proofs.lemmas.Option.{none-some, same_Some}
use Rattle.mc_link.specs.LinkState.{Waiting}
use Rattle.mc_link.specs.declared.turns.Tag.{Tag}

-- the tags of pending commands
abbrev pub tags_in : List Waiting → List Tag
tags_in waiting = map (λ (w : Waiting). w.1) waiting

abbrev pub tag_at : List Waiting → ℕ → Option Tag
tag_at waiting n = option_map (λ (w : Waiting). w.1) (slice_get waiting n)

some_here : (waiting : List Waiting) (n : ℕ) (tag : Tag) → tag_at waiting n ≡ Some tag → drop n (tags_in waiting) ≡ tag ∷ drop (suc n) (tags_in waiting)
some_here [] zero tag is = absurd (none-some tag is)
some_here [] (suc n) tag is = absurd (none-some tag is)
some_here (w ∷ ws) zero tag is = ap (λ (t : Tag). t ∷ tags_in ws) (same_Some w.1 tag is)
some_here (w ∷ ws) (suc n) tag is = some_here ws n tag is

none_here : (waiting : List Waiting) (n : ℕ) → tag_at waiting n ≡ None → drop n (tags_in waiting) ≡ drop (suc n) (tags_in waiting)
none_here [] zero is = refl
none_here [] (suc n) is = refl
none_here (w ∷ ws) zero is = absurd (none-some w.1 (sym is))
none_here (w ∷ ws) (suc n) is = none_here ws n is

-- those so far and the remaining ones are all from a number on
pub one_more : (waiting : List Waiting) (first n : ℕ) (tags : List Tag) (tag : Tag) → tag_at waiting n ≡ Some tag → tags ++ drop n (tags_in waiting) ≡ drop first (tags_in waiting)
    → (tags ++ tag ∷ []) ++ drop (n + 1) (tags_in waiting) ≡ drop first (tags_in waiting)
one_more waiting first n tags tag is h =
    let next : n + 1 ≡ suc n = omega arith in
    ap (λ (k : ℕ). (tags ++ tag ∷ []) ++ drop k (tags_in waiting)) next
    ∙ append_assoc tags (tag ∷ []) (drop (suc n) (tags_in waiting))
    ∙ ap (λ (ts : List Tag). tags ++ ts) (sym (some_here waiting n tag is)) ∙ h

pub no_more : (waiting : List Waiting) (first n : ℕ) (tags : List Tag) → tag_at waiting n ≡ None → tags ++ drop n (tags_in waiting) ≡ drop first (tags_in waiting)
    → tags ++ drop (n + 1) (tags_in waiting) ≡ drop first (tags_in waiting)
no_more waiting first n tags is h =
    let next : n + 1 ≡ suc n = omega arith in
    ap (λ (k : ℕ). tags ++ drop k (tags_in waiting)) next ∙ ap (λ (ts : List Tag). tags ++ ts) (sym (none_here waiting n is)) ∙ h

-- the element at a number, among the tags
pub tag_of_waiting : (waiting : List Waiting) (n : ℕ) (tag : Tag) → tag_at waiting n ≡ Some tag → slice_get (tags_in waiting) n ≡ Some tag
tag_of_waiting [] zero tag is = absurd (none-some tag is)
tag_of_waiting [] (suc n) tag is = absurd (none-some tag is)
tag_of_waiting (w ∷ ws) zero tag is = is
tag_of_waiting (w ∷ ws) (suc n) tag is = tag_of_waiting ws n tag is

pub no_tag : (waiting : List Waiting) (n : ℕ) → tag_at waiting n ≡ None → n < length waiting → ⊥
no_tag [] n none inside = omega (arith, inside)
no_tag (w ∷ ws) zero none inside = none-some w.1 (sym none)
no_tag (w ∷ ws) (suc n) none inside = no_tag ws n none (omega (arith, inside))
