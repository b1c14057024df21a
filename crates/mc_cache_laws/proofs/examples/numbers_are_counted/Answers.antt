use Rattle.std.proofs.Common.{refl}
use Rattle.std.specs.Fmt.{digits}
use Rattle.mc_cache_laws.proofs.examples.numbers_are_counted.Goals as goal

pub returns-clause-wraps : goal.returns-clause-wraps
unfolding digits
returns-clause-wraps c = refl

pub returns-clause-stops : goal.returns-clause-stops
unfolding digits
returns-clause-stops c = refl

pub returns-clause-shorter : goal.returns-clause-shorter
unfolding digits
returns-clause-shorter c = refl

pub returns-clause-longer : goal.returns-clause-longer
unfolding digits
returns-clause-longer c = refl

pub returns-clause-no_number : goal.returns-clause-no_number
unfolding digits
returns-clause-no_number c = refl
