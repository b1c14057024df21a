use Rattle.std.proofs.Common.{◌≡◌, ◌<◌, ◌^◌, drop, Some}
use Rattle.mc_pool_script.specs.PoolScripts.{hex_from}
use Rattle.mc_pool_script.proofs.points.read_hex.Given as goal

abbrev pub invariant-loop-digit : goal.invariant-loop-digit
invariant-loop-digit l = record {
  read : hex_from (Some l.number) (drop l.digit-index l.word) ≡ hex_from (Some 0) l.word;
  small : l.number < 16 ^ l.digit-index;
}
