use Rattle.mc_threads.proofs.LawLemmas.{in_order}
use Rattle.mc_threads.proofs.laws.each_clients_commands_are_in_order.Goals as goal

pub returns : goal.returns
returns c ring opening order texts outs histories began ended account server =
    in_order order server (histories server) account.numbered (account.commands server)
