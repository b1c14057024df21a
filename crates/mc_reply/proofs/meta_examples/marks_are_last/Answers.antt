use Rattle.std.proofs.Common.{refl}
use Rattle.std.specs.Fmt.{digits}
use Rattle.mc_text.specs.Words.{words}
use Rattle.mc_request.specs.Names.{name_of}
use Rattle.mc_reply.proofs.meta_examples.marks_are_last.Goals as goal

pub returns-clause-stale : goal.returns-clause-stale
unfolding digits words name_of
returns-clause-stale c = refl

pub returns-clause-stale_sent : goal.returns-clause-stale_sent
unfolding digits words name_of
returns-clause-stale_sent c = refl
