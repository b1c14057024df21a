use Rattle.mc_server.proofs.connections.Connection.turn.Goals as goal

-- what is not refused is a turn
pub returns-clause-turn : goal.returns-clause-turn
returns-clause-turn g c number = rw c.in-Turned.is at (c.in_ok-turn.ensures.turn number)
