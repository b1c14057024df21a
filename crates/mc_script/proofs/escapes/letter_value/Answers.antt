use Rattle.std.proofs.Common.{arith}
use Rattle.mc_script.proofs.TableLemmas.{letter_is, letter_none}
use Rattle.mc_script.proofs.escapes.letter_value.Goals as goal

pub returns-then-byte-eq-NO_LETTER : goal.returns-then-byte-eq-NO_LETTER
returns-then-byte-eq-NO_LETTER c = letter_none c.args.letter (omega arith) c.if-byte-eq-NO_LETTER.true

pub returns-else-byte-eq-NO_LETTER : goal.returns-else-byte-eq-NO_LETTER
returns-else-byte-eq-NO_LETTER c = letter_is c.args.letter (omega arith) c.if-byte-eq-NO_LETTER.false
