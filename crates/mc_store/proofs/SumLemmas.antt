-- The sums over items.
use Rattle.std.proofs.Common.{◌≡◌, ℕ, ◌+◌, ◌-◌, ◌<◌, ◌≤◌, ◌^◌, max, true, false, cond, nat_lt, List, [], ◌∷◌, ◌++◌, length, Some, None, refl, sym, ap, ◌∙◌, subst, arith}
use Rattle.std.proofs.Math.Nat.{le-max_left, le-max_right, max-le}
use Rattle.std.proofs.lemmas.Bool.{ltb-false}
use Rattle.std.specs.Str.{bytes_eq}
use Rattle.std.specs.Option.{option_map}
use Rattle.mc_item.specs.declared.bodies.Body.{Body}
use Rattle.mc_item.specs.Costs.{cost_of}
use Rattle.mc_store.specs.declared.sums.TheConstants.{LONG}
use Rattle.mc_store.specs.declared.sums.Sums.{Sums}
use Rattle.mc_store.specs.Items.{Items, body_at, without, brought, item_cost, cost_sum, longest_of}
use Rattle.mc_store.specs.Sums.{IsSumOf, long_one, long_count, with_value, without_value}
use Rattle.mc_store.proofs.KeptLemmas.{cost_sum-held, cost_sum-last}
use Rattle.mc_store.proofs.LongestLemmas.{longest_of-without, longest_of-held, longest_of-last}

-- a value is long or not
one_most : (size : ℕ) → long_one size ≤ 1
one_most size = elim (nat_lt LONG size) as (λ v. cond v 1 0 ≤ 1) [
  | true ↦ omega arith
  | false ↦ omega arith
]

-- a length that is not counted is not long
not_long : (size : ℕ) → long_one size ≡ 0 → size ≤ LONG
not_long size none =
    let one : ℕ = 1 in
    let no : ℕ = 0 in
    (elim (nat_lt LONG size) as (λ v. nat_lt LONG size ≡ v → cond v one no ≡ no → size ≤ LONG) [
      | true ↦ λ is counted. absurd (omega (arith, counted))
      | false ↦ λ is counted. ltb-false LONG size is
    ]) refl none

-- if none is counted, none is longer
pub none_long : (items : Items) → long_count items ≡ 0 → longest_of items ≤ LONG
none_long [] none = omega arith
none_long (item ∷ items) none =
    let first : long_one (length item.1.value) ≡ 0 = omega (arith, none) in
    let rest : long_count items ≡ 0 = omega (arith, none) in
    max-le (not_long (length item.1.value) first) (none_long items rest)

-- no more are long than the items cost
pub long_least : (items : Items) → long_count items ≤ cost_sum items
long_least [] = omega arith
long_least (item ∷ items) = omega (arith, one_most (length item.1.value), long_least items)

-- the long ones but one
pub long_held : (key : List ℕ) (items : Items) (body : Body) → body_at key items ≡ Some body
    → long_one (length body.value) + long_count (without key items) ≡ long_count items
long_held key [] body held = absurd cc
long_held key (item ∷ items) body held =
    let again : body_at key items ≡ Some body → long_one (length body.value) + long_count (without key items) ≡ long_count items = long_held key items body in
    (elim (bytes_eq item.0 key) as (λ v. cond v (Some item.1) (body_at key items) ≡ Some body
    → long_one (length body.value) + long_count (cond v items (item ∷ without key items)) ≡ long_one (length item.1.value) + long_count items) [
      | true ↦ λ found. let its : item.1 ≡ body = cc in rw its refl
      | false ↦ λ found. omega (arith, again found)
    ]) held

long_append : (front : Items) (last : List ℕ × Body) → long_count (front ++ last ∷ []) ≡ long_count front + long_one (length last.1.value)
long_append [] last = omega arith
long_append (item ∷ items) last = omega (arith, long_append items last)

-- the sums stay if a stored body is written to and its value keeps its length
sum_written : (key : List ℕ) (before after : Body) (old new : Items) (sums : Sums) → IsSumOf sums old → body_at key old ≡ Some before
    → length after.value ≡ length before.value → new ≡ (key, after) ∷ without key old → IsSumOf sums new
sum_written key before after old new sums is held same written =
    let cost : cost_of key before.value + cost_sum (without key old) ≡ cost_sum old = cost_sum-held key old before held in
    let sum : cost_sum new ≡ cost_of key after.value + cost_sum (without key old) = ap cost_sum written in
    let long : long_one (length before.value) + long_count (without key old) ≡ long_count old = long_held key old before held in
    let count : long_count new ≡ long_one (length after.value) + long_count (without key old) = ap long_count written in
    let one : long_one (length after.value) ≡ long_one (length before.value) = ap long_one same in
    let own : length before.value ≤ longest_of old = longest_of-held key old before held in
    let rest : longest_of (without key old) ≤ longest_of old = longest_of-without key old in
    record {
      used = omega (arith, is.used);
      fits = is.fits;
      long = omega (arith, is.long);
      longest = rw written (max-le (omega (arith, own, same, is.longest)) (omega (arith, rest, is.longest)));
    }

-- if an item is brought to the front whose value keeps its length
pub sum_brought : (key : List ℕ) (change : Body → Body) (old new : Items) (sums : Sums) → IsSumOf sums old
    → ((body : Body) → length (change body).value ≡ length body.value)
    → new ≡ brought key (option_map change (body_at key old)) old → IsSumOf sums new
sum_brought key change old new sums is same written =
    (elim (body_at key old) as (λ o. body_at key old ≡ o → new ≡ brought key (option_map change o) old → IsSumOf sums new) [
      | None ↦ λ none at. subst (λ (items : Items). IsSumOf sums items) (sym at) is
      | Some before ↦ λ held at. sum_written key before (change before) old new sums is held (same before) at
    ]) refl written

pub sum_front : (key : List ℕ) (old new : Items) (sums : Sums) → IsSumOf sums old → new ≡ brought key (body_at key old) old → IsSumOf sums new
sum_front key old new sums is written =
    (elim (body_at key old) as (λ o. body_at key old ≡ o → new ≡ brought key o old → IsSumOf sums new) [
      | None ↦ λ none at. subst (λ (items : Items). IsSumOf sums items) (sym at) is
      | Some before ↦ λ held at. sum_written key before before old new sums is held refl at
    ]) refl written

-- what is taken away of the sums is in them
pub held_fits : (key : List ℕ) (old : Items) (body : Body) (sums : Sums) → IsSumOf sums old → body_at key old ≡ Some body
    → (cost_of key body.value ≤ sums.used) × (long_one (length body.value) ≤ sums.long)
held_fits key old body sums is held =
    let cost : cost_of key body.value + cost_sum (without key old) ≡ cost_sum old = cost_sum-held key old body held in
    let long : long_one (length body.value) + long_count (without key old) ≡ long_count old = long_held key old body held in
    (omega (arith, is.used), omega (arith, is.long))

-- if the item of a key is removed
pub sum_taken : (key : List ℕ) (old new : Items) (body : Body) (sums after : Sums) (price size : ℕ) → IsSumOf sums old → body_at key old ≡ Some body
    → new ≡ without key old → price ≡ cost_of key body.value → size ≡ length body.value → after ≡ without_value price size sums → IsSumOf after new
sum_taken key old new body sums after price size is held left priced sized less =
    let cost : cost_of key body.value + cost_sum (without key old) ≡ cost_sum old = cost_sum-held key old body held in
    let long : long_one (length body.value) + long_count (without key old) ≡ long_count old = long_held key old body held in
    let one : long_one size ≡ long_one (length body.value) = ap long_one sized in
    let sum : cost_sum new ≡ cost_sum (without key old) = ap cost_sum left in
    let count : long_count new ≡ long_count (without key old) = ap long_count left in
    let most : longest_of new ≡ longest_of (without key old) = ap longest_of left in
    rw less (record {
      used = omega (arith, is.used);
      fits = omega (arith, is.fits);
      long = omega (arith, is.long);
      longest = omega (arith, longest_of-without key old, is.longest);
    })

-- if an item is inserted in front
pub sum_put : (key : List ℕ) (body : Body) (old new : Items) (sums after : Sums) (price size : ℕ) → IsSumOf sums old
    → cost_sum old + cost_of key body.value < 2 ^ 63 → new ≡ (key, body) ∷ old
    → price ≡ cost_of key body.value → size ≡ length body.value → after ≡ with_value price size sums → IsSumOf after new
sum_put key body old new sums after price size is fits put priced sized more =
    let one : long_one size ≡ long_one (length body.value) = ap long_one sized in
    let sum : cost_sum new ≡ cost_of key body.value + cost_sum old = ap cost_sum put in
    let count : long_count new ≡ long_one (length body.value) + long_count old = ap long_count put in
    let most : longest_of new ≡ max (length body.value) (longest_of old) = ap longest_of put in
    let left : sums.longest ≤ max sums.longest size = le-max_left sums.longest size in
    let right : size ≤ max sums.longest size = le-max_right sums.longest size in
    let longer : max (length body.value) (longest_of old) ≤ max sums.longest size = max-le (omega (arith, right)) (omega (arith, left, is.longest)) in
    rw more (record {
      used = omega (arith, is.used);
      fits = omega (arith, is.used);
      long = omega (arith, is.long);
      longest = rw most longer;
    })

-- if a value replaces another
pub replaced_fits : (key : List ℕ) (before after : Body) (old : Items) (sums less : Sums) (shorter size : ℕ) → IsSumOf sums old
    → body_at key old ≡ Some before → cost_sum old + cost_of key after.value < 2 ^ 63
    → shorter ≡ length before.value → size ≡ length after.value → less ≡ without_value shorter shorter sums
    → (less.used + size < 2 ^ 64) × (less.long + 1 < 2 ^ 64)
replaced_fits key before after old sums less shorter size is held fits short sized taken =
    let cost : cost_of key before.value + cost_sum (without key old) ≡ cost_sum old = cost_sum-held key old before held in
    let used : less.used ≡ sums.used - shorter = ap (λ (s : Sums). s.used) taken in
    let long : less.long ≡ sums.long - long_one shorter = ap (λ (s : Sums). s.long) taken in
    (omega (arith, is.used), omega (arith, is.used, is.fits, is.long, long_least old))

pub sum_replaced : (key : List ℕ) (before after : Body) (old new : Items) (sums less more : Sums) (shorter size : ℕ) → IsSumOf sums old
    → body_at key old ≡ Some before → cost_sum old + cost_of key after.value < 2 ^ 63 → new ≡ (key, after) ∷ without key old
    → shorter ≡ length before.value → size ≡ length after.value → less ≡ without_value shorter shorter sums → more ≡ with_value size size less
    → IsSumOf more new
sum_replaced key before after old new sums less more shorter size is held fits put short sized taken added =
    let cost : cost_of key before.value + cost_sum (without key old) ≡ cost_sum old = cost_sum-held key old before held in
    let long : long_one (length before.value) + long_count (without key old) ≡ long_count old = long_held key old before held in
    let sum : cost_sum new ≡ cost_of key after.value + cost_sum (without key old) = ap cost_sum put in
    let count : long_count new ≡ long_one (length after.value) + long_count (without key old) = ap long_count put in
    let first : long_one shorter ≡ long_one (length before.value) = ap long_one short in
    let second : long_one size ≡ long_one (length after.value) = ap long_one sized in
    let used : more.used ≡ sums.used - shorter + size = rw (added, taken) refl in
    let longs : more.long ≡ sums.long - long_one shorter + long_one size = rw (added, taken) refl in
    let bound : more.longest ≡ max sums.longest size = rw (added, taken) refl in
    let left : sums.longest ≤ max sums.longest size = le-max_left sums.longest size in
    let right : size ≤ max sums.longest size = le-max_right sums.longest size in
    let longer : max (length after.value) (longest_of (without key old)) ≤ max sums.longest size =
    max-le (omega (arith, right)) (omega (arith, left, is.longest, longest_of-without key old)) in
    let most : longest_of new ≡ max (length after.value) (longest_of (without key old)) = ap longest_of put in
    record {
      used = omega (arith, is.used);
      fits = omega (arith, is.used, is.fits);
      long = omega (arith, is.long);
      longest = rw (most, bound) longer;
    }

-- if the last item is removed
pub last_fits : (old new : Items) (last : List ℕ × Body) (sums : Sums) → IsSumOf sums old → old ≡ new ++ last ∷ []
    → (item_cost last ≤ sums.used) × (long_one (length last.1.value) ≤ sums.long)
last_fits old new last sums is ends =
    let cost : cost_sum old ≡ cost_sum new + item_cost last = cost_sum-last old new last ends in
    let long : long_count old ≡ long_count new + long_one (length last.1.value) = ap long_count ends ∙ long_append new last in
    (omega (arith, is.used), omega (arith, is.long))

pub sum_last : (old new : Items) (last : List ℕ × Body) (sums after : Sums) (price size : ℕ) → IsSumOf sums old → old ≡ new ++ last ∷ []
    → price ≡ item_cost last → size ≡ length last.1.value → after ≡ without_value price size sums → IsSumOf after new
sum_last old new last sums after price size is ends priced sized less =
    let cost : cost_sum old ≡ cost_sum new + item_cost last = cost_sum-last old new last ends in
    let long : long_count old ≡ long_count new + long_one (length last.1.value) = ap long_count ends ∙ long_append new last in
    let one : long_one size ≡ long_one (length last.1.value) = ap long_one sized in
    rw less (record {
      used = omega (arith, is.used);
      fits = omega (arith, is.fits);
      long = omega (arith, is.long);
      longest = omega (arith, longest_of-last old new last ends, is.longest);
    })
