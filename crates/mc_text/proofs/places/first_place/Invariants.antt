use Rattle.std.proofs.Common.{◌≡◌, ◌≤◌, length, drop}
use Rattle.memchr.specs.Find.{Nowhere, Passes, is_byte}
use Rattle.mc_text.proofs.places.first_place.Given as goal

-- what is left is what is after the bytes that were passed, and the byte is none of those
abbrev pub invariant-loop-rest : goal.invariant-loop-rest
invariant-loop-rest l =
    (l.passed ≤ length l.text) × (l.rest ≡ drop l.passed l.text) × Nowhere (Passes (is_byte l.byte) l.text) 0 l.passed

abbrev pub decreases-loop-rest : goal.decreases-loop-rest
decreases-loop-rest l = length l.rest
