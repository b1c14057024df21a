use Rattle.std.proofs.Common.{Err}
use Rattle.mc_stream.specs.declared.outcomes.Pumped.TheVariants.{Again}
use Rattle.mc_pump.proofs.ReadLemmas.{reads_nothing}
use Rattle.mc_pump.proofs.RoundLemmas.{receives_still}
use Rattle.mc_pump.specs.Counts.{counted_by}
use Rattle.mc_pump.proofs.rounds.receive.Goals as goal

-- there is no room
pub returns-then-len-eq0 : goal.returns-then-len-eq0
returns-then-len-eq0 g c = λ moment.
    rw c.lacks.ensures.counted (receives_still c.args.number moment (counted_by c.args.watch.now) (Err Again) c.args.server.now _ _ c.args.ended.now c.requires.is_open
    (reads_nothing (g.R.Read.remaining c.args.reader.now) c.args.ended.now c.requires.goes_on))

-- it was read straight into a block
pub returns-in-Some : goal.returns-in-Some
returns-in-Some g c = λ moment. c.in-Some.ensures.receives moment

-- nothing was read before
pub returns-in-None : goal.returns-in-None
returns-in-None g c = λ moment.
    rw (c.in-None.ensures.none, c.in-None.ensures.unread, c.in-None.ensures.unwatched) at (c.receive_piece-in-None.ensures moment)
