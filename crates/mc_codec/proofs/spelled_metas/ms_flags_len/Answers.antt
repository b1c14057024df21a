use Rattle.std.proofs.Common.{ℤ, ℕ, ◌≡◌, length, ap, codes, arith}
use Rattle.std.proofs.lemmas.List.{length-append}
use Rattle.mc_codec.specs.SpelledPieces.{piece_if}
use Rattle.std.specs.Fmt.{decimal, signed_decimal}
use Rattle.std.proofs.lemmas.Int.{to_z-of_z}
use mir.Syntax.{w64}
use mir.Val.{to_z, of_z}
use Rattle.mc_codec.proofs.PieceLemmas.{ms_flags_length}
use Rattle.mc_codec.proofs.spelled_metas.ms_flags_len.Goals as goal

pub returns-clause-len : goal.returns-clause-len
returns-clause-len c =
    let same : to_z w64 (of_z w64 c.args.exptime) ≡ c.args.exptime = to_z-of_z w64 c.args.exptime c.ranges.exptime in
    omega (arith, length-append (piece_if c.args.show.now.cas (codes " c")) (piece_if c.args.show.now.size (codes " s")), ap (λ (z : ℤ). length (signed_decimal z)) same, ap length c.mode_word.ensures.word, ap (λ (n : ℕ). length (decimal n)) c.from.ensures, ms_flags_length c.args.mode c.args.compare c.args.flags c.args.exptime c.args.show.now)
