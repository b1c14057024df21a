use Rattle.std.proofs.Common.{◌≡◌, ◌+◌, ◌≤◌, length}
use Rattle.std.specs.List.{prefix_len}
use Rattle.mc_script.specs.Escapes.{is_plain}
use Rattle.mc_script.proofs.escapes.plain_blocks.Given as goal

-- the run continues in the rest
abbrev pub invariant-loop-rest : goal.invariant-loop-rest
invariant-loop-rest l = (length l.rest ≤ length l.bytes) × (length l.rest + prefix_len is_plain l.bytes ≡ length l.bytes + prefix_len is_plain l.rest)

abbrev pub decreases-loop-rest : goal.decreases-loop-rest
decreases-loop-rest l = length l.rest
