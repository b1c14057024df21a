use Rattle.mc_request.specs.declared.parts.Atom.TheVariants.{Update}
use Rattle.mc_request.specs.declared.parts.Update.TheVariants.{FlushAll}
use Rattle.mc_route.proofs.LookLemmas.{flush_goes_to}
use Rattle.mc_route.proofs.looks.update_goes_to.Goals as goal

-- a flush goes to each server
pub returns-in-FlushAll : goal.returns-in-FlushAll
returns-in-FlushAll c =
    rw (c.in-FlushAll.is, ← c.servers.ensures.servers) (flush_goes_to c.args.place c.servers.result.now (Update (FlushAll c.in-FlushAll.delay)))
