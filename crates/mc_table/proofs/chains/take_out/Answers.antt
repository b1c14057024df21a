use Rattle.std.proofs.Common.{◌≡◌, ◌≢◌, ◌+◌, ◌<◌, length, sym, ap, refl, ◌∙◌, arith}
use Rattle.mc_table.proofs.SlotLemmas.{length-tags_of, taken_last, taken_other, taken_entries, taken_tags, taken_entry}
use Rattle.mc_table.proofs.chains.take_out.Goals as goal

pub returns-then-place-len-clause-chained : goal.returns-then-place-len-clause-chained
returns-then-place-len-clause-chained g c =
    let slots = c.unlink.new.slots.items in
    let size : length slots ≡ length c.args.slots.now.items = sym (length-tags_of slots) ∙ ap length c.unlink.ensures.tags ∙ length-tags_of c.args.slots.now.items in
    let within : c.args.index < length slots = omega (arith, c.requires.within) in
    let last : c.args.index + 1 ≡ length slots = omega (arith, c.if-place-len.true, c.len.ensures, c.unlink.new.slots.ok.0) in
    taken_last _ slots _ c.args.index (c.args.index + 1) _ within c.swap_remove.ensures.items last refl c.unlink.ensures.chained

pub link_in-requires-clause-chained : goal.link_in-requires-clause-chained
link_in-requires-clause-chained g c =
    let slots = c.unlink.new.slots.items in
    let size : length slots ≡ length c.args.slots.now.items = sym (length-tags_of slots) ∙ ap length c.unlink.ensures.tags ∙ length-tags_of c.args.slots.now.items in
    let within : c.args.index < length slots = omega (arith, c.requires.within) in
    let last : length slots ≢ c.args.index + 1 = λ same. c.if-place-len.false (omega (arith, c.len.ensures, c.unlink.new.slots.ok.0)) in
    let some : 0 < length c.unlink.new.heads.items = omega (arith, c.unlink.ensures.buckets, c.requires.some) in
    taken_other c.unlink.new.heads.items _ slots _ c.args.index (c.args.index + 1) _ some within c.swap_remove-slot.ensures.items last refl c.free_last.ensures c.unlink.ensures.chained

pub returns-clause-slot : goal.returns-clause-slot
returns-clause-slot g c =
    let slots = c.unlink.new.slots.items in
    let size : length slots ≡ length c.args.slots.now.items = sym (length-tags_of slots) ∙ ap length c.unlink.ensures.tags ∙ length-tags_of c.args.slots.now.items in
    taken_entry slots _ c.args.index _ (omega (arith, c.requires.within)) c.swap_remove-slot.ensures.value c.unlink.ensures.entries

pub returns-clause-entries : goal.returns-clause-entries
returns-clause-entries g c =
    let slots = c.unlink.new.slots.items in
    let size : length slots ≡ length c.args.slots.now.items = sym (length-tags_of slots) ∙ ap length c.unlink.ensures.tags ∙ length-tags_of c.args.slots.now.items in
    c.link_in.ensures.entries ∙ taken_entries slots _ _ c.args.index _ (omega (arith, c.requires.within)) c.swap_remove-slot.ensures.items c.unlink.ensures.entries

pub returns-clause-tags : goal.returns-clause-tags
returns-clause-tags g c =
    let slots = c.unlink.new.slots.items in
    let size : length slots ≡ length c.args.slots.now.items = sym (length-tags_of slots) ∙ ap length c.unlink.ensures.tags ∙ length-tags_of c.args.slots.now.items in
    c.link_in.ensures.tags ∙ taken_tags slots _ _ c.args.index _ (omega (arith, c.requires.within)) c.swap_remove-slot.ensures.items c.unlink.ensures.tags
