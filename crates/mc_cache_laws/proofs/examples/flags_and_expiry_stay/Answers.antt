use Rattle.std.proofs.Common.{refl}
use Rattle.std.specs.Fmt.{digits}
use Rattle.mc_cache_laws.proofs.examples.flags_and_expiry_stay.Goals as goal

pub returns-clause-count : goal.returns-clause-count
unfolding digits
returns-clause-count c = refl
