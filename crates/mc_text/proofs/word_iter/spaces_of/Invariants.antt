use Rattle.std.proofs.Common.{◌≡◌, ◌==◌, ◌+◌, ◌≤◌, drop}
use Rattle.std.specs.List.{count_by}
use Rattle.mc_text.proofs.word_iter.spaces_of.Given as goal

-- the spaces so far, and the others, are all of them
abbrev pub invariant-loop-byte : goal.invariant-loop-byte
invariant-loop-byte l = (l.count + count_by (λ b. b == 32) (drop l.byte-index l.stretch) ≡ count_by (λ b. b == 32) l.stretch) × (l.count ≤ l.byte-index)
