use Rattle.std.proofs.Common.{sym}
use Rattle.mc_store.proofs.EpochLemmas.{length-live}
use Rattle.mc_store.proofs.epoch_cache.EpochCache.len.Goals as goal

pub returns : goal.returns
returns g c = rw (← c.self.view_is) (sym (length-live c.self.inside.epoch c.self.inside.count (g.M.Recent.entries c.self.inside.cache) c.self.invariant.0))
