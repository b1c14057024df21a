use Rattle.std.proofs.Common.{◌≡◌}
use Rattle.std.specs.Prelude.{find}
use Rattle.std.specs.Net.Addr.{is_ipv4}
use Rattle.std.specs.Net.Socket.{socket_ip}
use Rattle.std.specs.Net.ToAddrs.{host_addrs}
use Rattle.mc_net.proofs.binding.first_ipv4.Given as goal

-- the first IPv4 address of those that are left is that of all
abbrev pub invariant-loop-address : goal.invariant-loop-address
invariant-loop-address l = record {
  can : (goal.iterator-loop-address).can_next l.address-iterator;
  finite : (goal.iterator-loop-address).is_finite l.address-iterator;
  first : find (λ address. is_ipv4 (socket_ip address)) (host_addrs l.address-iterator) ≡ find (λ address. is_ipv4 (socket_ip address)) (host_addrs l.initial.address-iterator);
}
