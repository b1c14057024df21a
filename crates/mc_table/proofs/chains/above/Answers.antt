use Rattle.std.proofs.Common.{◌-◌, ◌≤◌, length, sym, arith}
use Rattle.mc_table.specs.Slots.{tags_of, nexts_of}
use Rattle.mc_table.proofs.SlotLemmas.{map_read}
use Rattle.mc_table.proofs.WalkLemmas.{descended, walked_within}
use Rattle.mc_table.proofs.chains.above.Goals as goal

pub loop-at-preserved : goal.loop-at-preserved
loop-at-preserved g c =
    let slots = c.args.slots.now.items in
    let chained = c.requires.chained.1 in
    let within : c.loop-at.at ≤ length slots = walked_within _ _ _ _ _ _ _ _ _ chained c.requires.bucket c.loop-at.invariant in
    let next = map_read (λ s. s.next) slots (c.loop-at.at - 1) c.index.result.now 0 (omega (arith, c.loop-at-test.true)) c.index.ensures in
    descended c.args.heads.now.items (tags_of slots) (nexts_of slots) _ c.args.bucket (length slots) c.args.place _ c.loop-at.at _ chained c.requires.bucket c.loop-at.invariant c.loop-at-test.true (sym next)
