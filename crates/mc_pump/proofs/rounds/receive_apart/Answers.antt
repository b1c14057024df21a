use Rattle.mc_pump.proofs.ReadLemmas.{receives_read}
use Rattle.mc_pump.specs.Counts.{counted_by}
use Rattle.mc_pump.proofs.rounds.receive_apart.Goals as goal

-- what was read is fed
pub returns-clause-receives : goal.returns-clause-receives
returns-clause-receives g c = λ moment.
    let h = c.in_ok-read.ensures.read in
    let read_result = c.read_result-side.ensures in
    rw c.moved_by.ensures (receives_read c.args.number moment (counted_by c.args.watch.now) c.in_ok-read.read c.read_result-side.result c.args.server.now c.read_from.new.self
    _ _ c.read_result-side.new.ended c.requires.is_open c.requires.below h
    (read_result.reads h.piece _ _ h.some h.within h.given) read_result.came read_result.error)
