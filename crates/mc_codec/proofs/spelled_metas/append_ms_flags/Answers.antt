use Rattle.std.proofs.Common.{◌≡◌, append_assoc}
use Rattle.std.proofs.lemmas.Int.{to_z-of_z}
use mir.Syntax.{w64}
use mir.Val.{to_z, of_z}
use Rattle.mc_codec.proofs.PieceLemmas.{ms_flags_are}
use Rattle.mc_codec.proofs.spelled_metas.append_ms_flags.Goals as goal

pub returns-clause-items : goal.returns-clause-items
returns-clause-items c =
    let same : to_z w64 (of_z w64 c.args.exptime) ≡ c.args.exptime = to_z-of_z w64 c.args.exptime c.ranges.exptime in
    rw (
      c.append.ensures.items,
      c.mode_word.ensures.word,
      c.append_number_if.ensures.items,
      c.append_number.ensures.items,
      c.from.ensures,
      c.append_signed.ensures.items,
      c.append_ms_show.ensures.items,
      same,
      ms_flags_are c.args.mode c.args.compare c.args.flags c.args.exptime c.args.show.now,
    )
    (simp append_assoc)
