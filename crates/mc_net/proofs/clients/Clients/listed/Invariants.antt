use Rattle.std.proofs.Common.{◌≡◌, ◌-◌, ◌≤◌, ◌++◌, map, vec_len}
use Rattle.mc_net.specs.Lists.{all_shown, shown_of}
use Rattle.mc_net.specs.declared.conns.TheConstants.{LIST_LEN}
use Rattle.mc_net.proofs.clients.Clients.listed.Given as goal

-- those that are listed, and those of the places to come
abbrev pub invariant-loop-place : goal.invariant-loop-place
invariant-loop-place g l = record {
  shown : map shown_of l.conns.items ++ all_shown l.self.slots l.moment l.place (l.self.most - l.place)
      ≡ all_shown l.self.slots l.moment l.from (l.self.most - l.from);
  most : vec_len l.conns ≤ LIST_LEN;
}
