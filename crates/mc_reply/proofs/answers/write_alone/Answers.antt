use Rattle.mc_reply.proofs.SpellingLemmas.{blocks_of-none}
use Rattle.mc_reply.proofs.answers.write_alone.Goals as goal

pub returns-in-Get-clause-ok : goal.returns-in-Get-clause-ok
returns-in-Get-clause-ok c = rw (c.in-Get.is, blocks_of-none c.in-Get.keys) c.write_end.ensures.ok
