use Rattle.std.proofs.Common.{◌≡◌, ℕ, ◌-◌, ◌<◌, ◌≤◌, length, sym, ap, ◌∙◌, arith}
use Rattle.mc_table.specs.Chains.{bucket_of, at_place, falls}
use Rattle.mc_table.specs.Slots.{tags_of, nexts_of}
use Rattle.mc_table.proofs.SlotLemmas.{map_read, length-tags_of, length-nexts_of}
use Rattle.mc_table.proofs.ChainLemmas.{unlinked_by}
use Rattle.mc_table.proofs.chains.unlink.Goals as goal

pub returns-clause-chained : goal.returns-clause-chained
returns-clause-chained g c =
    let heads = c.args.heads.now.items in
    let slots = c.args.slots.now.items in
    let after = c.set_link.new.slots.items in
    let place : ℕ = c.args.place in
    let low : place - 1 < length slots = omega (arith, c.requires.positive, c.requires.within) in
    let count : c.len.result ≡ length heads = omega (arith, c.len.ensures, c.args.heads.now.ok.0) in
    let tag : at_place (tags_of slots) place ≡ c.index.result.now.tag = map_read (λ s. s.tag) slots (place - 1) c.index.result.now 0 low c.index.ensures in
    let next : at_place (nexts_of slots) place ≡ c.index-2.result.now.next = map_read (λ s. s.next) slots (place - 1) c.index-2.result.now 0 low c.index-2.ensures in
    let bucket : c.bucket_of-bucket.result ≡ falls (length heads) (tags_of slots) place =
    c.bucket_of-bucket.ensures.bucket ∙ ap (λ (n : ℕ). bucket_of n c.index.result.now.tag) count ∙ ap (λ (t : ℕ). bucket_of (length heads) t) (sym tag) in
    let size : length slots ≤ length (nexts_of slots) = omega (arith, length-nexts_of slots) in
    let same : length after ≡ length slots = sym (length-tags_of after) ∙ ap length c.set_link.ensures.tags ∙ length-tags_of slots in
    unlinked_by heads (tags_of slots) (nexts_of slots) c.set_link.new.heads.items (tags_of after) (nexts_of after) (length slots) (length after) place _ _ _ c.requires.chained c.requires.some
    c.requires.positive c.requires.within size bucket (sym next) c.above-above.ensures c.set_link.ensures.heads c.set_link.ensures.tags c.set_link.ensures.nexts same
