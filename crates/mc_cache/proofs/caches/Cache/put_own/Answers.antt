use Rattle.mc_cache.proofs.caches.Cache.put_own.Goals as goal

-- a stored key is never refused
pub returns-then-is_held-clause-refusal : goal.returns-then-is_held-clause-refusal
returns-then-is_held-clause-refusal g c = λ is. absurd cc
