use Rattle.mc_net.proofs.ReadyLemmas.{if_absent, if_found, if_there}
use Rattle.mc_net.proofs.ready_queues.place_of.Goals as goal

pub returns-clause-found : goal.returns-clause-found
returns-clause-found c = if_found c.args.key c.args.keys.now.items c.first_of.result c.first_of.ensures

pub returns-clause-there : goal.returns-clause-there
returns-clause-there c = if_there c.args.key c.args.keys.now.items c.first_of.result c.first_of.ensures

pub returns-clause-absent : goal.returns-clause-absent
returns-clause-absent c = if_absent c.args.key c.args.keys.now.items c.first_of.result c.first_of.ensures
