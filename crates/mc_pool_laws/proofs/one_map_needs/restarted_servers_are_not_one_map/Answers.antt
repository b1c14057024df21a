use Rattle.std.proofs.Common.{◌≡◌, ℕ, ◌==◌, true, false, if◌then◌else◌, List, [], ◌∷◌, length, refl, ap, arith}
use Rattle.std.specs.Fmt.{digits}
use Rattle.mc_route.specs.Routes.{owner_in}
use Rattle.mc_cache.specs.CacheState.{opening_cache}
use Rattle.mc_cache_laws.specs.Pools.{ArePlainSteps, opening_caches}
use Rattle.mc_account.specs.Lookups.{command_at}
use Rattle.mc_pool_laws.proofs.NeedLemmas.{first_only, one_server, outs_of}
use Rattle.mc_pool_laws.proofs.RestartExample.{restart_accounts, restart_answers, restart_history, restart_log, restart_order, restart_text}
use Rattle.mc_pool_laws.specs.Executions.{commands_of}
use Rattle.mc_pool_laws.specs.OneMaps.{AreOfOneMap}
use Rattle.mc_pool_laws.proofs.one_map_needs.restarted_servers_are_not_one_map.Goals as goal

-- both commands are plain steps of one cache
both : ArePlainSteps (opening_cache 1000 10 0) (commands_of (command_at restart_order) restart_history)
both = (record { of_map = refl; answered = refl; kept = refl }, (record { of_map = refl; answered = refl; kept = refl }, tt))

-- the length of the second reply
abbrev second_size : List (List ℕ) → ℕ
second_size [] = 0
second_size (first ∷ []) = 0
second_size (first ∷ second ∷ others) = length second

-- the map has the item
found : AreOfOneMap (owner_in one_server) (opening_caches 1000 10 0) (command_at restart_order) (first_only restart_history) restart_log → ⊥
unfolding digits
found h = let size : 5 ≡ 21 = ap second_size (h.told 0) in omega (arith, size)

pub returns : goal.returns
returns c losses = (
  one_server,
  restart_order,
  restart_text,
  outs_of losses restart_order restart_log,
  first_only restart_history,
  restart_log,
  restart_accounts losses,
  refl,
  restart_answers losses,
  refl,
  refl,
  λ place.
      elim (0 == place) as (λ v. ArePlainSteps (opening_cache 1000 10 0) (commands_of (command_at restart_order) (if v then restart_history else []))) [
        | true ↦ both
        | false ↦ tt
      ],
  found,
)
