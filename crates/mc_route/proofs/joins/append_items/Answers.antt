use Rattle.std.proofs.Common.{◌≡◌, ◌≤◌, ◌++◌, ◌∙◌, List, ℕ, map, min, length, sym, ap, append-nil, append_assoc, arith}
use Rattle.mc_reply.specs.Spelling.{blocks_of, end_line}
use Rattle.mc_route.specs.Losses.{reply_or_miss}
use Rattle.mc_route.proofs.JoinLemmas.{blocks_past}
use Rattle.mc_route.proofs.joins.append_items.Goals as goal

-- each item is shown, and the end
pub returns-clause-items : goal.returns-clause-items
returns-clause-items c =
    let keys = c.args.keys.now in
    let outcomes = c.args.outcomes.now in
    let past : min (length keys) (length outcomes) ≤ c.loop-at.at = omega (arith, c.loop-at-test.false, c.min-at-end.ensures, c.len.ensures.len) in
    let none = blocks_past keys outcomes c.loop-at.at past in
    let shown : c.loop-at.out.items ≡ c.args.out.now.items ++ blocks_of keys (map reply_or_miss outcomes) =
    sym (append-nil c.loop-at.out.items) ∙ (rw none at c.loop-at.invariant.items) in
    let ended = rw c.unwrap.ensures at c.write_end.ensures.ok in
    rw (ended, ← append_assoc) (ap (λ (bytes : List ℕ). bytes ++ end_line) shown)
