use Rattle.std.proofs.Common.{◌≡◌, ◌-◌, ◌<◌, ◌≤◌, ℕ, false, slice_index_or, length, sym, ap, ◌∙◌, subst, arith}
use Rattle.mc_table.specs.Chains.{at_place, bucket_of, IsChained}
use Rattle.mc_table.specs.Slots.{entries_of, tags_of, nexts_of}
use Rattle.mc_table.proofs.SlotLemmas.{map_read, map_got, length-entries_of}
use Rattle.std.proofs.lemmas.List.{get_or_read}
use Rattle.mc_table.proofs.WalkLemmas.{sought, sought_on}
use Rattle.mc_table.proofs.chains.search.Goals.{else-slot-tag-via-then-slot-tag+else-equivalent, else-slot-tag-via-else-slot-tag}
use Rattle.mc_table.proofs.chains.search.Goals as goal

pub loop-place-init : goal.loop-place-init
loop-place-init g c =
    let heads = c.args.heads.now.items in
    let slots = c.args.slots.now.items in
    let chained : IsChained heads (tags_of slots) (nexts_of slots) 0 (length (entries_of slots)) =
    subst (λ (n : ℕ). IsChained heads (tags_of slots) (nexts_of slots) 0 n) (sym (length-entries_of slots)) c.requires.chained in
    let count : c.len.result ≡ length heads = omega (arith, c.len.ensures, c.args.heads.now.ok.0) in
    let bucket : c.bucket_of.result ≡ bucket_of (length heads) c.args.tag = c.bucket_of.ensures.bucket ∙ ap (λ (n : ℕ). bucket_of n c.args.tag) count in
    sought _ heads (tags_of slots) (nexts_of slots) (entries_of slots) c.args.tag _ chained c.requires.some
    (get_or_read heads _ c.index-place.result.now (omega (arith, c.bucket_of.ensures.within)) c.index-place.ensures 0 ∙ ap (λ (n : ℕ). slice_index_or heads n 0) bucket)

pub returns-then-equivalent-clause-found : goal.returns-then-equivalent-clause-found
returns-then-equivalent-clause-found g c =
    let slots = c.args.slots.now.items in
    let slot = c.index-slot.result.now in
    let within : c.loop-place.place ≤ length slots = omega (arith, c.loop-place.invariant.within, length-entries_of slots) in
    ((slot.key, slot.value), map_got (λ s. (s.key, s.value)) slots (c.loop-place.place - 1) slot (omega (arith, c.loop-place-test.true)) c.index-slot.ensures, sym c.equivalent.ensures ∙ c.if-equivalent.true)

pub loop-place-preserved : goal.loop-place-preserved
loop-place-preserved g c =
    let heads = c.args.heads.now.items in
    let slots = c.args.slots.now.items in
    let slot = c.index-slot.result.now in
    let within : c.loop-place.place ≤ length slots = omega (arith, c.loop-place.invariant.within, length-entries_of slots) in
    let low : c.loop-place.place - 1 < length slots = omega (arith, c.loop-place-test.true) in
    let chained : IsChained heads (tags_of slots) (nexts_of slots) 0 (length (entries_of slots)) =
    subst (λ (n : ℕ). IsChained heads (tags_of slots) (nexts_of slots) 0 n) (sym (length-entries_of slots)) c.requires.chained in
    let tag : at_place (tags_of slots) c.loop-place.place ≡ slot.tag = map_read (λ s. s.tag) slots (c.loop-place.place - 1) slot 0 low c.index-slot.ensures in
    let next : at_place (nexts_of slots) c.loop-place.place ≡ slot.next = map_read (λ s. s.next) slots (c.loop-place.place - 1) slot 0 low c.index-slot.ensures in
    sought_on _ heads (tags_of slots) (nexts_of slots) (entries_of slots) c.args.tag c.loop-place.place slot.next (slot.key, slot.value) chained c.loop-place.invariant c.loop-place-test.true (sym next)
    (map_got (λ s. (s.key, s.value)) slots (c.loop-place.place - 1) slot low c.index-slot.ensures)
    (λ same. elim c.else-slot-tag.branch as (λ _. g.Q.Equivalent.equivalent c.args.query slot.key ≡ false) [
      | else-slot-tag-via-then-slot-tag+else-equivalent w ↦ sym w.equivalent.ensures ∙ w.if-equivalent.false
      | else-slot-tag-via-else-slot-tag w ↦ absurd (w.if-slot-tag.false (sym tag ∙ same))
    ])
