use Rattle.std.proofs.Common.{◌≡◌, ℕ, List, replicate, sym, ap, ◌∙◌, subst}
use Rattle.mc_ring.specs.Rings.{RingState}
use Rattle.mc_route.specs.declared.losses.Losses.{Losses}
use Rattle.mc_world.specs.Worlds.{WorldState, world_opened}
use Rattle.mc_pool_script.specs.PoolScripts.{IsOpeningRing, losses_of}
use Rattle.mc_pool_script.proofs.worlds.opened_world.Goals as goal

pub returns-clause-opened : goal.returns-clause-opened
returns-clause-opened g c =
    let script = c.args.script.now in
    let world = c.in-Ok.world in
    let clients = c.as_slice-clients.result.now in
    let ring : world.opening ≡ c.in_ok-ring.ring = ap (λ (w : WorldState). w.opening) c.in-Ok.ensures.opened in
    let each : clients ≡ replicate script.proxies script.clients = c.as_slice-clients.ensures.value ∙ c.in_ok-clients.ensures.items_if_clones_equal (λ y is. is)
    ∙ ap (λ (n : ℕ). replicate n c.clients.result) c.proxies.ensures.proxies ∙ ap (λ (n : ℕ). replicate script.proxies n) c.clients.ensures.clients in
    record {
      ring = subst (λ (r : RingState). IsOpeningRing script r) (sym ring) c.in_ok-ring.ensures.ring;
      is = c.in-Ok.ensures.opened
          ∙ ap (λ (r : RingState). world_opened c.losses-losses.result r clients c.budget-budget.result c.items-items.result) (sym ring)
          ∙ ap (λ (l : Losses). world_opened l world.opening clients c.budget-budget.result c.items-items.result) c.losses-losses.ensures.losses
          ∙ ap (λ (ns : List ℕ). world_opened (losses_of script) world.opening ns c.budget-budget.result c.items-items.result) each
          ∙ ap (λ (n : ℕ). world_opened (losses_of script) world.opening (replicate script.proxies script.clients) n c.items-items.result) c.budget-budget.ensures.budget
          ∙ ap (λ (n : ℕ). world_opened (losses_of script) world.opening (replicate script.proxies script.clients) script.budget n) c.items-items.ensures.items;
    }
