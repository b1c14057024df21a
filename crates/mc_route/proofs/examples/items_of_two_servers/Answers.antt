use Rattle.std.proofs.Common.{refl}
use Rattle.std.specs.Fmt.{digits}
use Rattle.mc_text.specs.Words.{words}
use Rattle.mc_request.specs.Names.{name_of}
use Rattle.mc_route.proofs.examples.items_of_two_servers.Goals as goal

pub returns : goal.returns
unfolding digits words name_of
returns c = refl
