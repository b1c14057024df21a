use Rattle.mc_pool_laws.proofs.refusals.no_command_in_two_histories.Goals as goal

pub returns : goal.returns
returns c home losses ring opening texts outs histories log r s j k d e differ at also same account = differ (account.1.once r s j k d e at also same).0
