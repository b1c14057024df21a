use Rattle.std.proofs.Common.{append_assoc, arith}
use Rattle.mc_codec.proofs.PieceLemmas.{mg_line_is, mg_line_length}
use Rattle.mc_codec.proofs.spelled_metas.append_meta.Goals as goal

pub append_mg_flags-requires : goal.append_mg_flags-requires
append_mg_flags-requires c =
    let room = rw c.in-Get.is at c.requires in omega (arith, mg_line_length c.in-Get.key c.in-Get.get)

pub returns-in-Get-clause-items : goal.returns-in-Get-clause-items
returns-in-Get-clause-items c =
    rw (c.in-Get.is, mg_line_is c.in-Get.key c.in-Get.get, c.append_mg_flags.ensures.items, c.append_coded.ensures.items) (simp append_assoc)

pub returns-in-Get-clause-len : goal.returns-in-Get-clause-len
returns-in-Get-clause-len c =
    rw c.in-Get.is (omega (arith, mg_line_length c.in-Get.key c.in-Get.get))
