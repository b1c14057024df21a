use Rattle.std.proofs.Common.{◌≡◌, ◌&&◌, drop}
use Rattle.std.specs.List.{list_all}
use Rattle.mc_script.specs.Escapes.{is_plain}
use Rattle.mc_script.proofs.escapes.are_plain.Given as goal

-- the bytes so far, and the remaining ones, are all of them
abbrev pub invariant-loop-byte : goal.invariant-loop-byte
invariant-loop-byte l = (l.good && list_all is_plain (drop l.byte-index l.bytes)) ≡ list_all is_plain l.bytes
