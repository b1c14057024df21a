-- The dead ones of entries.
use Rattle.std.proofs.Common.{◌≡◌, ℕ, zero, suc, ◌≤◌, inl, inr, List, [], ◌∷◌, ◌++◌, length, drop, None, refl, ap, ◌∙◌, arith}
use Rattle.mc_store.specs.Items.{body_at}
use Rattle.mc_store.specs.Epochs.{Entries, live, IsLetGo}
use Rattle.mc_store.proofs.HeldLemmas.{cut}

-- entries that are removed from the back are dead
dead_append : (count : ℕ) (front gone : Entries) → count ≤ length front → drop count (front ++ gone) ≡ drop count front ++ gone
dead_append zero front gone fits = refl
dead_append (suc count) [] gone fits = absurd (omega arith)
dead_append (suc count) (entry ∷ front) gone fits = dead_append count front gone (omega arith)

none_dead : (count : ℕ) (entries : Entries) → length entries ≡ count → length (drop count entries) ≡ 0
none_dead zero entries all = all
none_dead (suc count) [] all = absurd (omega arith)
none_dead (suc count) (entry ∷ entries) all = none_dead count entries (omega arith)

-- what is freed is freed of the dead ones
pub dead_let_go : (price count : ℕ) (old new : Entries) → IsLetGo price count old new → IsLetGo price 0 (drop count old) (drop count new)
dead_let_go price count old new go = record {
  gone = go.gone;
  parts = ap (λ (es : Entries). drop count es) go.parts ∙ dead_append count new go.gone go.stay;
  stay = omega arith;
  enough = elim (go.enough) [
    | inl none ↦ inl (none_dead count new none)
    | inr some ↦ inr some
  ];
  no_more = go.no_more;
}

-- an entry that is not live is removed from the dead ones
pub dead_without : (key : List ℕ) (count : ℕ) (entries : Entries) → body_at key (live count entries) ≡ None
    → drop count (cut key entries) ≡ cut key (drop count entries)
dead_without key zero entries absent = refl
dead_without key (suc count) [] absent = refl
dead_without key (suc count) (entry ∷ entries) absent =
    let again : body_at key (live count entries) ≡ None → drop count (cut key entries) ≡ cut key (drop count entries) = dead_without key count entries in
    grind (arith, cut)
