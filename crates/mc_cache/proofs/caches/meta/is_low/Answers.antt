use Rattle.mc_cache.proofs.caches.meta.is_low.Goals as goal

pub returns-in-Some-Some : goal.returns-in-Some-Some
returns-in-Some-Some c = cc
