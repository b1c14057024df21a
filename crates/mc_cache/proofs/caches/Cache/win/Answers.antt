use Rattle.mc_cache.proofs.caches.Cache.win.Goals as goal

-- all but one mark stays as it was found
pub returns : goal.returns
returns g c = rw c.requires.found at c.mark.ensures.items
