use Rattle.mc_net.proofs.ReadyLemmas.{a_round}
use Rattle.mc_net.proofs.ready_queues.a_round_takes_what_was_there.Goals as goal

pub returns : goal.returns
returns c = λ most pushed keys h. a_round most pushed keys h
