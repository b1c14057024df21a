use Rattle.std.proofs.Common.{arith}
use Rattle.mc_codec.proofs.PieceLemmas.{mg_line_length}
use Rattle.mc_codec.proofs.spelled_metas.meta_len.Goals as goal

pub returns-in-Get-clause-len : goal.returns-in-Get-clause-len
returns-in-Get-clause-len c =
    rw c.in-Get.is (omega (arith, mg_line_length c.in-Get.key c.in-Get.get))
