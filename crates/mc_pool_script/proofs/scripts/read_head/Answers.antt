use Rattle.std.proofs.Common.{◌≡◌, ◌∙◌, None, rules}
use Rattle.mc_pool_script.specs.PoolScripts.{PoolSeen, known_of}
use Rattle.mc_pool_script.proofs.KnownLemmas.{known_first}
use Rattle.mc_pool_script.proofs.scripts.read_head.Goals as goal

pub invariant_of-result : goal.invariant_of-result
invariant_of-result c =
    let seen : PoolSeen = record {
      servers = c.in-Some.servers;
      clients = c.in-Some.clients;
      proxies = c.in-Some.proxies;
      budget = c.in-Some.budget;
      items = c.in-Some.items;
      points = c.new.result.items;
      losses = None;
      lines = c.new-2.result.items;
    } in
    let all : c.in_ok-known.known.items ≡ known_of seen = c.in_ok-known.ensures.items_if_clones_equal (λ y is. is) ∙ known_first seen c.new-2.ensures.items in
    (search rules, search rules, all)
