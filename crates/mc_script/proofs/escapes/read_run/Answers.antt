use Rattle.std.proofs.Common.{rules, ◌≡◌, ◌<◌, ◌≤◌, length, eqb, arith}
use Rattle.std.specs.List.{position_or_len}
use Rattle.mc_script.proofs.EscapeLemmas.{block_end, reads_in_block, reads_one, reads_two, run_ends, run_in_block_le}
use Rattle.mc_script.proofs.escapes.read_run.Goals as goal

pub returns-then-text-eq92-clause-read : goal.returns-then-text-eq92-clause-read
returns-then-text-eq92-clause-read c = rw c.in_ok-push.ensures.items (reads_one c.args.bytes.now.items c.args.text.now (grind (arith, c.is_run_over.ensures, c.if-is_run_over.false)))

pub returns-then-text-eq92-2-clause-read : goal.returns-then-text-eq92-2-clause-read
returns-then-text-eq92-2-clause-read c =
    let text = c.args.text.now in
    let long : 1 < length text = omega (arith, c.if-text-lt-BLOCK.false) in
    let some : 0 < position_or_len (λ b. eqb b 92) text = grind (arith, c.is_run_over.ensures, c.if-is_run_over.false) in
    rw (c.in_ok-push-3.ensures.items, c.in_ok-push-2.ensures.items) (reads_two c.args.bytes.now.items text long some c.if-text-eq92.false)

pub returns-clause-over : goal.returns-clause-over
returns-clause-over c =
    let text = c.args.text.now in
    let long : 16 ≤ length text = omega (arith, c.if-text-lt-BLOCK.false) in
    let count = c.run_in_block-count.result in
    let lt : count < 16 = omega (arith, c.run_in_block-count.ensures, c.if-count-eq-BLOCK.false, run_in_block_le text) in
    rw c.split_at-2.ensures.back (run_ends text count (block_end 16 text count long c.run_in_block-count.ensures lt))

pub returns-clause-read : goal.returns-clause-read
returns-clause-read c =
    let text = c.args.text.now in
    let size : length c.args.bytes.now.items ≡ c.len-held.result = search rules in
    let long : 16 ≤ length text = omega (arith, c.if-text-lt-BLOCK.false) in
    let count = c.run_in_block-count.result in
    let lt : count < 16 = omega (arith, c.run_in_block-count.ensures, c.if-count-eq-BLOCK.false, run_in_block_le text) in
    rw (c.truncate.ensures.items, c.in_ok-extend_from_slice.ensures.items, c.split_at.ensures.front, c.split_at-2.ensures.back)
    (reads_in_block c.args.bytes.now.items text count c.len-held.result size long c.run_in_block-count.ensures lt)
