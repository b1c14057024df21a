use Rattle.mc_world.proofs.Course.StepLemmas.{run_accounts}
use Rattle.mc_world.proofs.world_laws.every_world_gives_account.Goals as goal

pub returns-clause-account : goal.returns-clause-account
returns-clause-account g c =
    run_accounts c.args.losses c.args.ring c.args.clients.now c.args.budget c.args.items c.args.events.now c.in_ok-world.world c.run.new.self c.run.result
    c.in_ok-world.ensures.opened c.run.ensures.runs c.run.ensures.opened c.run.ensures.account
