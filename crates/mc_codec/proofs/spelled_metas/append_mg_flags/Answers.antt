use Rattle.std.proofs.Common.{append_assoc}
use Rattle.mc_codec.proofs.PieceLemmas.{mg_flags_are}
use Rattle.mc_codec.proofs.spelled_metas.append_mg_flags.Goals as goal

pub returns-clause-items : goal.returns-clause-items
returns-clause-items c =
    rw (c.append_number_if.ensures.items, c.append_signed_if-2.ensures.items, c.append_signed_if.ensures.items, c.append_mg_show.ensures.items, mg_flags_are c.args.get.now)
    (simp append_assoc)
