use Rattle.std.proofs.Common.{◌≡◌, length, take, drop, ℕ, ◌+◌, ◌-◌, ◌*◌, List, ap, ◌∙◌, arith}
use Rattle.mc_script.specs.Escapes.{escape_of}
use Rattle.mc_script.proofs.TableLemmas.{size_at, escape_at, escape_short}
use Rattle.mc_script.proofs.escape_tables.escape_of.Goals as goal

pub returns-clause-escape : goal.returns-clause-escape
returns-clause-escape c =
    let b = c.args.byte in
    let four : 4 * b + 4 - 4 * b ≡ 4 = omega arith in
    rw (size_at b (omega arith), four) (ap (λ (t : List ℕ). take (length (escape_of b)) (take 4 (drop (4 * b) t))) c.as_slice-escapes.ensures ∙ escape_at b (omega arith))

pub returns-clause-size : goal.returns-clause-size
returns-clause-size c = rw (size_at c.args.byte (omega arith)) (escape_short c.args.byte)
