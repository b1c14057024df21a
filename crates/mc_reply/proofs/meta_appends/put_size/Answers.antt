use Rattle.std.proofs.Common.{◌≡◌, ◌+◌, ◌-◌, drop, [], ◌∷◌, ap, append-nil, arith}
use Rattle.std.specs.Fmt.{decimal}
use Rattle.std.proofs.lemmas.List.{drop_all}
use Rattle.mc_reply.proofs.SpellingLemmas.{length-number, drop-set_three}
use Rattle.mc_reply.proofs.meta_appends.put_size.Goals as goal

pub write_digits-start-requires : goal.write_digits-start-requires
write_digits-start-requires c =
    let short = length-number c.args.size c.ranges.size.fits in
    (omega arith, omega arith)

pub overflow_sub-start : goal.overflow_sub-start
overflow_sub-start c =
    let short = length-number c.args.size c.ranges.size.fits in
    omega arith

pub returns-clause-put : goal.returns-clause-put
returns-clause-put c =
    let short = length-number c.args.size c.ranges.size.fits in
    let start = c.write_digits-start.result in
    let bytes = c.write_digits-start.new.buf in
    let back : start - 3 + 3 ≡ start = omega arith in
    let none : drop 23 c.args.text.now ≡ [] = drop_all 23 c.args.text.now (omega arith) in
    rw (drop-set_three bytes (start - 3) 86 65 32 (omega arith), back, c.write_digits-start.ensures.written, none)
    (ap (λ digits. 86 ∷ 65 ∷ 32 ∷ digits) (append-nil (decimal c.args.size)))
