use Rattle.mc_server.proofs.answering.serve_within.Goals as goal

pub returns-clause-served : goal.returns-clause-served
returns-clause-served g c _ number = rw c.reserve.ensures.items at (c.in_ok-work.ensures.served number)
