use Rattle.std.proofs.Common.{refl}
use Rattle.std.specs.Fmt.{digits}
use Rattle.mc_text.specs.Words.{words}
use Rattle.mc_request.specs.Names.{name_of}
use Rattle.mc_reply.proofs.meta_examples.flags_as_asked.Goals as goal

pub returns-clause-all : goal.returns-clause-all
unfolding digits words name_of
returns-clause-all c = refl

pub returns-clause-empty : goal.returns-clause-empty
unfolding digits words name_of
returns-clause-empty c = refl
