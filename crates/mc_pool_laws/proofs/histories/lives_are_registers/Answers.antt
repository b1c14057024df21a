use Rattle.mc_cache.specs.CacheState.{opening_cache}
use Rattle.mc_registers.proofs.RunLemmas.{opening-knows}
use Rattle.mc_registers.proofs.RecordLemmas.{recorded-runs}
use Rattle.mc_world.specs.Logs.{in_life}
use Rattle.mc_pool_laws.proofs.histories.lives_are_registers.Goals as goal

pub returns : goal.returns
returns c home losses ring budget items order texts outs histories log bounds h place life =
    recorded-runs order place (in_life place life log (histories place)) (opening_cache budget items 0) 0 (λ key. opening-knows budget items 0 key bounds) (h.legal place life)
