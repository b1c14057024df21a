-- A block of escapes.
use Rattle.std.proofs.Common.{◌≡◌, ℕ, ◌+◌, ◌≤◌, ◌++◌, List, length, take, sym, ap, ◌∙◌, arith}
use Rattle.std.proofs.Math.Seq.{take-append-add}
use Rattle.std.proofs.lemmas.List.{length-take, take-take}
use Rattle.std.proofs.lemmas.Slice.{take-put_mid}
use borrow.Rule.Slice.PartMut.{put_mid}

-- the front of what was written at a place
pub written : (at size k : ℕ) (room escape : List ℕ) → at + k ≤ length room → length escape ≡ k → size ≤ k
    → take (at + size) (put_mid at k room escape) ≡ take at room ++ take size escape
written at size k room escape inside is le =
    let all : take (at + k) (put_mid at k room escape) ≡ take at room ++ escape = take-put_mid at k room escape (at + k) (omega (arith, is)) (omega arith) in
    let front : length (take at room) ≡ at = omega (arith, length-take at room) in
    sym (take-take (at + size) (at + k) (put_mid at k room escape) (omega arith))
    ∙ ap (take (at + size)) all
    ∙ ap (λ (n : ℕ). take (n + size) (take at room ++ escape)) (sym front)
    ∙ take-append-add (take at room) escape size
