use Rattle.std.proofs.Common.{◌∙◌, List, ℕ, ap}
use Rattle.mc_ring.specs.declared.points.Point.{Point}
use Rattle.mc_pool_script.specs.PoolScripts.{PoolSeen, first_servers, refusal_of_pool}
use Rattle.mc_pool_script.proofs.AddressLemmas.{script_serves}
use Rattle.mc_pool_script.proofs.scripts.PoolScript.ring.Goals as goal

pub refused_memory-requires : goal.refused_memory-requires
refused_memory-requires c =
    let s = c.self.inside in
    let seen : PoolSeen = record { servers = s.servers; clients = s.clients; proxies = s.proxies; budget = s.budget; items = s.items; points = s.points.items; losses = s.losses; lines = s.lines.items } in
    let servers = c.as_slice.ensures.value ∙ c.in_ok-servers.ensures.addresses in
    c.in-Err.ensures.refused
    ∙ ap (λ (all : List (List ℕ)). refusal_of_pool all c.as_slice-2.result.now) servers
    ∙ ap (λ (points : List Point). refusal_of_pool (first_servers s.servers) points) c.as_slice-2.ensures.value
    ∙ script_serves seen c.self.invariant.0
