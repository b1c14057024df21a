use Rattle.std.proofs.Common.{ℕ, ◌≡◌, length, ap, refl, rules, arith}
use Rattle.mc_codec.specs.Spellings.{ms_flags}
use Rattle.mc_codec.specs.SpelledPieces.{after_spaces}
use Rattle.std.specs.Fmt.{decimal}
use Rattle.std.proofs.lemmas.Int.{to_z-of_z}
use mir.Syntax.{w64}
use mir.Val.{to_z, of_z}
use Rattle.mc_codec.proofs.PieceLemmas.{ms_line_length, ma_line_length}
use Rattle.mc_codec.proofs.spelled_metas.meta_update_len.Goals as goal

pub returns-in-Store-clause-len : goal.returns-in-Store-clause-len
returns-in-Store-clause-len c =
    let same : to_z w64 (of_z w64 c.in-Store.exptime) ≡ c.in-Store.exptime = search (rules, to_z-of_z) in
    let words : length (after_spaces (ms_flags c.in-Store.mode c.in-Store.compare c.in-Store.flags (to_z w64 (of_z w64 c.in-Store.exptime)) c.args.show.now)) ≡ length (after_spaces (ms_flags c.in-Store.mode c.in-Store.compare c.in-Store.flags c.in-Store.exptime c.args.show.now)) = rw same refl in
    rw c.in-Store.is (omega (arith, words, ap (λ (size : ℕ). length (decimal size)) c.len.ensures, ms_line_length c.in-Store.mode c.in-Store.compare c.in-Store.key c.in-Store.flags c.in-Store.exptime c.in-Store.block c.args.show.now))

pub returns-in-Count-clause-len : goal.returns-in-Count-clause-len
returns-in-Count-clause-len c =
    rw c.in-Count.is (omega (arith, ma_line_length c.in-Count.key c.in-Count.counting c.args.show.now))
