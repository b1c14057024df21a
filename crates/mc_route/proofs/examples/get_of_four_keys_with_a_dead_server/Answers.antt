use Rattle.std.proofs.Common.{refl}
use Rattle.std.specs.Fmt.{digits}
use Rattle.mc_text.specs.Words.{words}
use Rattle.mc_request.specs.Names.{name_of}
use Rattle.mc_route.proofs.examples.get_of_four_keys_with_a_dead_server.Goals as goal

pub returns-clause-items : goal.returns-clause-items
unfolding digits words name_of
returns-clause-items c = refl

pub returns-clause-first_lost : goal.returns-clause-first_lost
unfolding digits words name_of
returns-clause-first_lost c = refl

pub returns-clause-touched : goal.returns-clause-touched
unfolding digits words name_of
returns-clause-touched c = refl
