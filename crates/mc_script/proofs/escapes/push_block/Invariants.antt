use Rattle.std.proofs.Common.{◌≡◌, ◌≤◌, ◌*◌, take}
use Rattle.mc_script.specs.Escapes.{escaped}
use Rattle.mc_script.proofs.escapes.push_block.Given as goal

-- the bytes so far are escaped in the room
abbrev pub invariant-loop-byte : goal.invariant-loop-byte
invariant-loop-byte l = (l.used ≤ 4 * l.byte-index) × (take l.used l.room ≡ escaped (take l.byte-index l.block))
