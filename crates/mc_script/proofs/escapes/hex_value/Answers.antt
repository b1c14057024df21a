use Rattle.std.proofs.Common.{arith}
use Rattle.mc_script.proofs.TableLemmas.{value_is, value_none}
use Rattle.mc_script.proofs.escapes.hex_value.Goals as goal

pub returns-then-value-lt-NO_DIGIT-clause-value : goal.returns-then-value-lt-NO_DIGIT-clause-value
returns-then-value-lt-NO_DIGIT-clause-value c = value_is c.args.digit (omega arith) (omega (arith, c.if-value-lt-NO_DIGIT.true))

pub returns-else-value-lt-NO_DIGIT-clause-value : goal.returns-else-value-lt-NO_DIGIT-clause-value
returns-else-value-lt-NO_DIGIT-clause-value c = value_none c.args.digit (omega arith) (omega (arith, c.if-value-lt-NO_DIGIT.false))
