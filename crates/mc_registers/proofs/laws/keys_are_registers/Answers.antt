use Rattle.std.specs.Prelude.{None}
use Rattle.mc_cache.specs.CacheState.{opening_cache}
use Rattle.mc_registers.proofs.RunLemmas.{runs, opening-knows}
use Rattle.mc_registers.proofs.laws.keys_are_registers.Goals as goal

pub returns : goal.returns
returns c budget limit counter bounds commands key = runs commands (opening_cache budget limit counter) key counter None (opening-knows budget limit counter key bounds)
