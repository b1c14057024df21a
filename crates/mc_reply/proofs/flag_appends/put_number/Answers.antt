use Rattle.std.proofs.Common.{◌≡◌, ◌+◌, ◌-◌, drop, [], ◌∷◌, ap, append-nil, arith}
use Rattle.std.specs.Fmt.{decimal}
use Rattle.std.proofs.lemmas.List.{drop_all}
use Rattle.mc_reply.proofs.SpellingLemmas.{length-number, drop-set_two}
use Rattle.mc_reply.proofs.flag_appends.put_number.Goals as goal

pub write_digits-start-requires : goal.write_digits-start-requires
write_digits-start-requires c =
    let short = length-number c.args.number c.ranges.number.fits in
    (omega arith, omega arith)

pub overflow_sub-start : goal.overflow_sub-start
overflow_sub-start c =
    let short = length-number c.args.number c.ranges.number.fits in
    omega arith

pub returns-clause-put : goal.returns-clause-put
returns-clause-put c =
    let short = length-number c.args.number c.ranges.number.fits in
    let start = c.write_digits-start.result in
    let bytes = c.write_digits-start.new.buf in
    let back : start - 2 + 2 ≡ start = omega arith in
    let none : drop 22 c.args.text.now ≡ [] = drop_all 22 c.args.text.now (omega arith) in
    rw (drop-set_two bytes (start - 2) 32 c.args.letter (omega arith), back, c.write_digits-start.ensures.written, none)
    (ap (λ digits. 32 ∷ c.args.letter ∷ digits) (append-nil (decimal c.args.number)))
