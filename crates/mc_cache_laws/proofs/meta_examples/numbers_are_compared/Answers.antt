use Rattle.std.proofs.Common.{refl}
use Rattle.std.specs.Fmt.{digits}
use Rattle.mc_cache_laws.proofs.meta_examples.numbers_are_compared.Goals as goal

pub returns-clause-order : goal.returns-clause-order
unfolding digits
returns-clause-order c = refl
