use Rattle.std.proofs.Common.{refl}
use Rattle.std.specs.Fmt.{digits}
use Rattle.mc_reply.proofs.examples.get_of_a_hit.Goals as goal

pub returns-clause-shown : goal.returns-clause-shown
unfolding digits
returns-clause-shown c = refl

pub returns-clause-empty : goal.returns-clause-empty
unfolding digits
returns-clause-empty c = refl
