use Rattle.mc_linearizable.proofs.JoinExample.{restarted_and_joined}
use Rattle.mc_linearizable.proofs.examples.a_restart_and_a_join_are_linearizable.Goals as goal

pub returns : goal.returns
returns c = restarted_and_joined
