use Rattle.std.proofs.Common.{◌≡◌, ◌++◌, take}
use Rattle.std.specs.List.{flat_map}
use Rattle.mc_admin.specs.Conns.{conn_lines}
use Rattle.mc_admin.proofs.conns.push_conns.Given as goal

abbrev pub invariant-loop-conn : goal.invariant-loop-conn
invariant-loop-conn l = l.out.items ≡ l.fn.out.items ++ flat_map conn_lines (take l.conn-index l.conns)
