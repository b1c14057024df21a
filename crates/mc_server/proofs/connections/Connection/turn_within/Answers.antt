use Rattle.std.proofs.lemmas.Result.{IfOk-weaker}
use Rattle.mc_server.proofs.GatherLemmas.{ungathered}
use Rattle.mc_server.proofs.connections.Connection.turn_within.Goals as goal

-- the writer took nothing
pub returns-clause-turn : goal.returns-clause-turn
returns-clause-turn g c number =
    IfOk-weaker c.turn_gathering.result _ _
    (λ limited h. ungathered number c.args.moment c.turn_gathering.new.went limited c.args.cache.now c.turn_gathering.new.cache c.args.self.now c.turn_gathering.new.self h)
    (c.turn_gathering.ensures.turn number)
