use Rattle.std.proofs.Common.{◌≡◌, ℕ, List, length, ap, arith}
use Rattle.mc_proxy.proofs.LinkLemmas.{states-push, length_never_up}
use Rattle.mc_proxy.proofs.proxies.Proxy.with_losses.Goals as goal

-- one more link is made
pub loop-preserved : goal.loop-preserved
loop-preserved c = rw c.in_ok-push.ensures.items (states-push c.loop.links.items c.new.result c.loop.counter c.loop.invariant c.new.ensures)

-- the number of links is that of the servers
pub invariant_of-result : goal.invariant_of-result
invariant_of-result c =
    let many : length c.loop.links.items ≡ c.loop.counter = length_never_up c.loop.links.items c.loop.counter c.loop.invariant in
    let servers = ap (λ (servers : List (List ℕ)). length servers) c.servers-end.ensures.servers in
    record {
      linked = omega (arith, many, servers, c.loop-test.false, c.loop.auto.counter-end);
      emptied = c.new-3.ensures.items;
    }
