use Rattle.std.proofs.Common.{refl}
use Rattle.mc_cache.proofs.caches.settling.ItemMeta.with.Goals as goal

-- what is stored anew has no mark
pub returns : goal.returns
returns c = refl
