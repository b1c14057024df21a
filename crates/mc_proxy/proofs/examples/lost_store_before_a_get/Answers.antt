use Rattle.std.proofs.Common.{refl}
use Rattle.std.specs.Fmt.{digits}
use Rattle.mc_text.specs.Words.{words}
use Rattle.mc_request.specs.Names.{name_of}
use Rattle.mc_proxy.proofs.examples.lost_store_before_a_get.Goals as goal

pub returns-clause-told : goal.returns-clause-told
unfolding digits words name_of
returns-clause-told c = refl

pub returns-clause-missed : goal.returns-clause-missed
unfolding digits words name_of
returns-clause-missed c = refl
