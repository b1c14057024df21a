use Rattle.std.proofs.Common.{◌<◌, length, refl, ap, arith}
use Rattle.mc_proxy.proofs.AwaitedLemmas.{set_outcome_outside, awaited_bound, awaited_in_set, counted_bound, counts_one}
use Rattle.mc_proxy.specs.Held.{kept_by_all}
use Rattle.mc_proxy.proofs.HeldLemmas.{kept_by_set}
use Rattle.mc_proxy.proofs.unanswered.Unanswered.note.Goals as goal

-- if there is no command of that number, nothing is recorded
pub returns-then-at-len : goal.returns-then-at-len
returns-then-at-len c =
    let own = c.self.inside in
    let same = set_outcome_outside c.args.at c.args.outcome own.outcomes.items (omega (arith, c.if-at-len.true, c.len.ensures, own.outcomes.ok)) in
    rw (← c.self.view_is) (rw same refl)

-- the pending ones include the one that is recorded
pub overflow_sub-self : goal.overflow_sub-self
overflow_sub-self c =
    let own = c.self.inside in
    let inside : c.args.at < length own.outcomes.items = omega (arith, c.if-at-len.false, c.len.ensures, own.outcomes.ok) in
    omega (arith, counted_bound c.args.at c.index.result.now own.outcomes.items inside c.index.ensures, c.count_awaited-before.ensures, c.self.invariant.awaited)

-- no more are pending than there are commands
pub overflow_add-self : goal.overflow_add-self
overflow_add-self c =
    let own = c.self.inside in
    omega (arith, awaited_bound own.outcomes.items, counts_one c.args.outcome, c.count_awaited.ensures, c.self.invariant.awaited, own.outcomes.ok)

pub invariant_of-self : goal.invariant_of-self
invariant_of-self c =
    let own = c.self.inside in
    let inside : c.args.at < length own.outcomes.items = omega (arith, c.if-at-len.false, c.len.ensures, own.outcomes.ok) in
    omega (
      arith,
      awaited_in_set c.args.at c.args.outcome c.index.result.now own.outcomes.items inside c.index.ensures,
      counted_bound c.args.at c.index.result.now own.outcomes.items inside c.index.ensures,
      c.count_awaited-before.ensures,
      c.count_awaited.ensures,
      c.self.invariant.awaited,
      c.kept_once_set-kept_by_all.ensures,
      ap kept_by_all c.as_slice-outcomes.ensures.value,
    )

-- that outcome kept nothing, so what all keep grows by what it keeps now
pub kept_once_set-kept_by_all-requires : goal.kept_once_set-kept_by_all-requires
kept_once_set-kept_by_all-requires c =
    let own = c.self.inside in
    let inside : c.args.at < length own.outcomes.items = omega (arith, c.if-at-len.false, c.len.ensures, own.outcomes.ok) in
    let changed = kept_by_set c.args.at c.args.outcome c.index-2.result.now own.outcomes.items inside c.index-2.ensures in
    λ none. omega (arith, none, changed, ap kept_by_all c.as_slice-outcomes.ensures.value, c.kept_by-kept_before.ensures, c.kept_by-kept.ensures, c.self.invariant.kept)
