use Rattle.std.proofs.Common.{◌≡◌, ◌+◌, ◌-◌, arith}
use Rattle.std.proofs.lemmas.List.{drop-set}
use Rattle.mc_reply.proofs.SpellingLemmas.{length-number}
use Rattle.mc_reply.proofs.appends.put_number.Goals as goal

pub write_digits-start-requires : goal.write_digits-start-requires
write_digits-start-requires c =
    let short = length-number c.args.number c.ranges.number.fits in
    (omega arith, omega arith)

pub overflow_sub-start : goal.overflow_sub-start
overflow_sub-start c =
    let short = length-number c.args.number c.ranges.number.fits in
    omega arith

pub returns-clause-put : goal.returns-clause-put
returns-clause-put c =
    let short = length-number c.args.number c.ranges.number.fits in
    let start = c.write_digits-start.result in
    let back : start - 1 + 1 ≡ start = omega arith in
    rw (drop-set c.write_digits-start.new.buf (start - 1) _ (omega arith), back, c.write_digits-start.ensures.written)

pub returns-clause-start : goal.returns-clause-start
returns-clause-start c =
    let short = length-number c.args.number c.ranges.number.fits in
    omega arith
