-- The longest value.
use Rattle.std.proofs.Common.{◌≡◌, ℕ, ◌+◌, ◌<◌, ◌≤◌, max, true, false, cond, List, [], ◌∷◌, ◌++◌, length, drop, get_or, Some, refl, ap, subst, arith}
use Rattle.std.proofs.Math.Nat.{le-max_left, le-max_right, max-le}
use Rattle.std.specs.Str.{bytes_eq}
use Rattle.std.proofs.lemmas.List.{at_drop_more, at_drop_all}
use Rattle.mc_item.specs.declared.bodies.Body.{Body}
use Rattle.mc_store.specs.Items.{Items, body_at, without, longest_of}

-- without the item of a key the longest value is no longer
pub longest_of-without : (key : List ℕ) (items : Items) → longest_of (without key items) ≤ longest_of items
longest_of-without key [] = omega arith
longest_of-without key (item ∷ items) =
    let again : longest_of (without key items) ≤ longest_of items = longest_of-without key items in
    let own : length item.1.value ≤ max (length item.1.value) (longest_of items) = le-max_left (length item.1.value) (longest_of items) in
    let others : longest_of items ≤ max (length item.1.value) (longest_of items) = le-max_right (length item.1.value) (longest_of items) in
    elim (bytes_eq item.0 key) as (λ v. longest_of (cond v items (item ∷ without key items)) ≤ max (length item.1.value) (longest_of items)) [
      | true ↦ others
      | false ↦ max-le own (omega (arith, again, others))
    ]

-- a stored value is no longer than the longest
pub longest_of-held : (key : List ℕ) (items : Items) (body : Body) → body_at key items ≡ Some body → length body.value ≤ longest_of items
longest_of-held key [] body held = absurd cc
longest_of-held key (item ∷ items) body held =
    let again : body_at key items ≡ Some body → length body.value ≤ longest_of items = longest_of-held key items body in
    let own : length item.1.value ≤ max (length item.1.value) (longest_of items) = le-max_left (length item.1.value) (longest_of items) in
    let others : longest_of items ≤ max (length item.1.value) (longest_of items) = le-max_right (length item.1.value) (longest_of items) in
    (elim (bytes_eq item.0 key) as (λ v. cond v (Some item.1) (body_at key items) ≡ Some body → length body.value ≤ max (length item.1.value) (longest_of items)) [
      | true ↦ λ found. let its : item.1 ≡ body = cc in subst (λ (b : Body). length b.value ≤ max (length item.1.value) (longest_of items)) its own
      | false ↦ λ further. omega (arith, again further, others)
    ]) held

-- without the last item the longest value is no longer
longest_of-front : (front : Items) (last : List ℕ × Body) → longest_of front ≤ longest_of (front ++ last ∷ [])
longest_of-front [] last = omega arith
longest_of-front (item ∷ items) last =
    let again : longest_of items ≤ longest_of (items ++ last ∷ []) = longest_of-front items last in
    let own = le-max_left (length item.1.value) (longest_of (items ++ last ∷ [])) in
    let others = le-max_right (length item.1.value) (longest_of (items ++ last ∷ [])) in
    max-le own (omega (arith, again, others))

pub longest_of-last : (old new : Items) (last : List ℕ × Body) → old ≡ new ++ last ∷ [] → longest_of new ≤ longest_of old
longest_of-last old new last ends = rw ends (longest_of-front new last)

-- the items from a place on: the longest is its own, or one after it
pub longest_of-drop : (items : Items) (place : ℕ) (item : List ℕ × Body) → place < length items → item ≡ get_or items place item
    → longest_of (drop place items) ≡ max (length item.1.value) (longest_of (drop (place + 1) items))
longest_of-drop items place item inside is =
    let at : longest_of (drop place items) ≡ longest_of (get_or items place item ∷ drop (place + 1) items) = at_drop_more longest_of items place item inside in
    let same : length item.1.value ≡ length (get_or items place item).1.value = ap (λ (i : List ℕ × Body). length i.1.value) is in
    rw (at, same) refl

-- past the last item there is none
pub longest_of-drop_all : (items : Items) (place : ℕ) → length items ≤ place → longest_of (drop place items) ≡ 0
longest_of-drop_all items place past = at_drop_all longest_of items place past

pub ruleset steps = (longest_of-drop, longest_of-drop_all)
