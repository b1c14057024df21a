use Rattle.std.proofs.Common.{rules, ◌≡◌, ◌∙◌, ◌∷◌, false}
use Rattle.std.specs.Net.Addr.{is_ipv4}
use Rattle.std.specs.Net.Socket.{socket_ip}
use Rattle.std.specs.Net.ToAddrs.{host_addrs}
use Rattle.mc_net.proofs.BindingLemmas.{find_past, take_past}
use Rattle.mc_net.proofs.binding.first_ipv4.Goals as goal

pub loop-address-preserved : goal.loop-address-preserved
loop-address-preserved c =
    let steps = c.in-Some.ensures.steps in
    let left : host_addrs c.loop-address.address-iterator ≡ c.in-Some.address ∷ host_addrs c.next.new.self = take_past _ _ _ _ _ steps.1 steps.0 in
    let fails : is_ipv4 (socket_ip c.in-Some.address) ≡ false = search rules in
    record {
      can = tt;
      finite = tt;
      first = find_past (λ address. is_ipv4 (socket_ip address)) c.in-Some.address _ _ left fails ∙ c.loop-address.invariant.first;
    }
