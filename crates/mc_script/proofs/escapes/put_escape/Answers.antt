use Rattle.std.proofs.Common.{◌≡◌, ℕ, ◌+◌, ◌-◌, ◌++◌, List, length, take, ap, ◌∙◌, arith}
use Rattle.mc_script.proofs.BlockLemmas.{written}
use borrow.Rule.Slice.PartMut.{put_mid}
use Rattle.mc_script.proofs.escapes.put_escape.Goals as goal

pub returns-clause-escape : goal.returns-clause-escape
returns-clause-escape c =
    let at = c.args.at in
    let room = c.args.room.now in
    let size = c.escape_of-size.result.1 in
    let put = c.copy_from_slice.new.self in
    let four : at + 4 - at ≡ 4 = omega arith in
    let long : length put ≡ 4 = omega (arith, ap length c.copy_from_slice.ensures.after) in
    ap (λ (k : ℕ). take (at + size) (put_mid at k room put)) four
    ∙ written at size 4 room put (omega (arith, c.requires, c.told-room)) long c.escape_of-size.ensures.size
    ∙ ap (λ (e : List ℕ). take at room ++ take size e) c.copy_from_slice.ensures.after
    ∙ ap (λ (e : List ℕ). take at room ++ e) c.escape_of-size.ensures.escape
