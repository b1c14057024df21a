use Rattle.std.proofs.Common.{refl}
use Rattle.std.specs.Fmt.{digits}
use Rattle.mc_text.specs.Words.{words}
use Rattle.mc_request.specs.Names.{name_of}
use Rattle.mc_reply.proofs.meta_examples.quiet_answers.Goals as goal

pub returns-clause-counted : goal.returns-clause-counted
unfolding digits words name_of
returns-clause-counted c = refl
