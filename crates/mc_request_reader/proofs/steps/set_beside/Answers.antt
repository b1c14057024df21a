use Rattle.mc_request.specs.LinesSeen.{storing_of}
use Rattle.mc_request_reader.proofs.ApartLemmas.{set_known}
use Rattle.mc_request_reader.proofs.steps.set_beside.Goals as goal

pub returns-in-Stores-clause-set : goal.returns-in-Stores-clause-set
returns-in-Stores-clause-set c =
    set_known c.args.line.now c.args.after.now (storing_of c.in-Stores.storing) c.in-Stores.len c.set_by.result c.in-Stores.ensures.starts c.set_by.ensures.long c.set_by.ensures.set
