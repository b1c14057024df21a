use Rattle.std.proofs.Common.{◌≡◌, ◌≤◌, take}
use Rattle.std.specs.Prelude.{sum}
use Rattle.mc_world.proofs.worlds.are_few.Given as goal

-- the clients of the first proxies, which are not too many
abbrev pub invariant-loop-count : goal.invariant-loop-count
invariant-loop-count l = record {
  all : l.all ≡ sum (take l.count-index l.clients);
  few : l.all ≤ 1024;
}
