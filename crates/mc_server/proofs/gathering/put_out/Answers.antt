use Rattle.std.proofs.Common.{◌≡◌, ◌∙◌, ◌++◌, ℕ, min, length, drop, codes, length-append, rules, arith}
use Rattle.mc_server.proofs.GatherLemmas.{left_behind}
use Rattle.mc_server.proofs.gathering.put_out.Goals as goal

-- the writer took the first bytes
pub returns-clause-wrote : goal.returns-clause-wrote
returns-clause-wrote g c =
    let first : c.split_at.result.1.now ≡ drop c.args.sent c.args.output.now.items = search rules in
    let last : c.as_slice-end.result.now ≡ codes "\r\nEND\r\n" = search rules in
    let unsent = c.split_at.result.1.now in
    let value = c.args.value.now in
    let end = c.as_slice-end.result.now in
    rw (← first, ← last) (omega (arith, c.gather-went.ensures.bound, length-append unsent (value ++ end), length-append value end), c.gather-went.ensures.bytes)

-- what it did not take is left
pub returns-clause-left : goal.returns-clause-left
returns-clause-left g c =
    let first : c.split_at.result.1.now ≡ drop c.args.sent c.args.output.now.items = search rules in
    let last : c.as_slice-end.result.now ≡ codes "\r\nEND\r\n" = search rules in
    let taken : c.min-taken.result ≡ min c.gather-went.result (length (drop c.args.sent c.args.output.now.items)) = rw first at c.min-taken.ensures in
    c.consume_front.ensures.kept ∙ rw (← last, c.append-2.ensures.items, c.append.ensures.items, c.left_of.ensures.left, c.left_of-behind.ensures.left, c.left_of-behind.ensures.behind)
    (left_behind c.args.sent c.gather-went.result c.min-taken.result c.args.output.now.items c.args.value.now c.as_slice-end.result.now (omega (arith, c.requires.sent, c.args.output.now.ok)) taken)
