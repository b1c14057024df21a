use Rattle.std.proofs.Common.{refl}
use Rattle.std.specs.Fmt.{digits}
use Rattle.mc_cache_laws.proofs.meta_examples.numbers_are_made.Goals as goal

pub returns-clause-made : goal.returns-clause-made
unfolding digits
returns-clause-made c = refl

pub returns-clause-expiry : goal.returns-clause-expiry
unfolding digits
returns-clause-expiry c = refl

pub returns-clause-no_number : goal.returns-clause-no_number
unfolding digits
returns-clause-no_number c = refl
