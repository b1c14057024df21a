-- What lru says of its last entry.
use Rattle.std.proofs.Common.{◌≡◌, ℕ, ◌-◌, List, [], ◌∷◌, ◌++◌, length, take, Option, Some, None, IfSome, IfNone, refl, sym, ◌∙◌, subst, arith}
use Rattle.lru.specs.LruCache.{last_entry}
use Rattle.lru.proofs.Pairs.{cut_end, last_of_push}
use Rattle.mc_store.specs.declared.epoch_entries.EpochEntry.{EpochEntry}
use Rattle.mc_store.specs.Epochs.{Entries}

-- the last entry is after all others
last_is : (entries : Entries) (last : List ℕ × EpochEntry) → last_entry entries ≡ Some last → entries ≡ take (length entries - 1) entries ++ last ∷ []
last_is [] last found = absurd cc
last_is (entry ∷ entries) last found =
    let parts = cut_end (entry ∷ entries) (omega arith) in
    let ends = last_of_push parts.0 parts.1 in
    let at : last_entry (parts.0 ++ parts.1 ∷ []) ≡ Some last = subst (λ (l : Entries). last_entry l ≡ Some last) parts.2 found in
    let same : parts.1 ≡ last = cc in
    subst (λ (l : Entries). l ≡ take (length l - 1) l ++ last ∷ []) (sym parts.2) (rw (ends.1, same) refl)

-- there is none if there is no entry
last_none : (entries : Entries) → last_entry entries ≡ None → entries ≡ []
last_none [] none = refl
last_none (entry ∷ entries) none =
    let parts = cut_end (entry ∷ entries) (omega arith) in
    let ends = last_of_push parts.0 parts.1 in
    let at : last_entry (parts.0 ++ parts.1 ∷ []) ≡ None = subst (λ (l : Entries). last_entry l ≡ None) parts.2 none in
    absurd cc

-- what is removed from the end, and what is left
pub pops_last : (old new : Entries) (result : Option (List ℕ × EpochEntry)) → result ≡ last_entry old → new ≡ take (length old - 1) old
    → IfSome result (λ last. old ≡ new ++ last ∷ [])
pops_last old new None is left = tt
pops_last old new (Some last) is left = rw left (last_is old last (sym is))

pub pops_nothing : (old new : Entries) (result : Option (List ℕ × EpochEntry)) → result ≡ last_entry old → new ≡ take (length old - 1) old
    → IfNone result ((old ≡ []) × (new ≡ []))
pops_nothing old new None is left = let none = last_none old (sym is) in (none, left ∙ rw none refl)
pops_nothing old new (Some last) is left = tt
