use Rattle.std.proofs.Common.{Some, sym, arith}
use Rattle.mc_text.proofs.LaneLemmas.{first_in_lanes}
use Rattle.mc_text.proofs.PlaceLemmas.{position_first}
use Rattle.mc_text.proofs.word_iter.find_space.Goals as goal

pub returns-then-place-lt-LANES : goal.returns-then-place-lt-LANES
returns-then-place-lt-LANES c =
    let place = c.place_in_lanes-place.result in
    sym (position_first 32 c.args.text.now (Some place) (first_in_lanes 32 c.args.text.now place (omega (arith, c.if-text-lt-LANES.false)) c.place_in_lanes-place.ensures (omega (arith, c.if-place-lt-LANES.true))))

pub returns : goal.returns
returns c = sym (position_first 32 c.args.text.now c.first_place.result c.first_place.ensures)
