use Rattle.std.proofs.Common.{◌≤◌, length}
use Rattle.mc_script.specs.Escapes.{ReadsFront, Between}
use Rattle.mc_script.proofs.escapes.read_short_run.Given as goal

-- the bytes so far, and the rest
abbrev pub invariant-loop-bytes : goal.invariant-loop-bytes
invariant-loop-bytes l = ReadsFront l.fn.bytes.items Between l.text l.bytes.items l.rest × (length l.rest ≤ length l.text)

abbrev pub decreases-loop-bytes : goal.decreases-loop-bytes
decreases-loop-bytes l = length l.rest
