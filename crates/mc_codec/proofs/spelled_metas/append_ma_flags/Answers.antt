use Rattle.std.proofs.Common.{append_assoc}
use Rattle.mc_codec.proofs.PieceLemmas.{ma_flags_are}
use Rattle.mc_codec.proofs.spelled_metas.append_ma_flags.Goals as goal

pub returns-clause-items : goal.returns-clause-items
returns-clause-items c =
    rw (
      c.append.ensures.items,
      c.direction_word.ensures.word,
      c.append_number.ensures.items,
      c.append_creation.ensures.items,
      c.append_number_if.ensures.items,
      c.append_signed_if.ensures.items,
      c.append_ma_show.ensures.items,
      ma_flags_are c.args.counting.now c.args.show.now,
    )
    (simp append_assoc)
