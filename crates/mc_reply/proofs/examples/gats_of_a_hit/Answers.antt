use Rattle.std.proofs.Common.{refl}
use Rattle.std.specs.Fmt.{digits}
use Rattle.mc_reply.proofs.examples.gats_of_a_hit.Goals as goal

pub returns : goal.returns
unfolding digits
returns c = refl
