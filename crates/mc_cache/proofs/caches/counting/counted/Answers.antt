use Rattle.std.proofs.Common.{refl}
use Rattle.mc_cache.proofs.caches.counting.counted.Goals as goal

pub returns-in-Up : goal.returns-in-Up
returns-in-Up c = rw c.in-Up.is refl

pub returns-in-Down : goal.returns-in-Down
returns-in-Down c = cc
