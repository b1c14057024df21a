use Rattle.mc_cache.specs.CacheState.{opening_cache}
use Rattle.mc_registers.proofs.RunLemmas.{opening-knows}
use Rattle.mc_registers.proofs.RecordLemmas.{recorded-runs}
use Rattle.mc_registers.proofs.laws.histories_are_registers.Goals as goal

pub returns : goal.returns
returns c order place budget limit counter bounds history legal =
    recorded-runs order place history (opening_cache budget limit counter) counter (λ key. opening-knows budget limit counter key bounds) legal
