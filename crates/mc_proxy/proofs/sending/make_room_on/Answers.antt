use Rattle.mc_proxy.proofs.SessionLinkLemmas.{states_same}
use Rattle.mc_proxy.proofs.sending.make_room_on.Goals as goal

-- a link with more room is as it was
pub returns-in_err-make_room-clause-unchanged : goal.returns-in_err-make_room-clause-unchanged
returns-in_err-make_room-clause-unchanged c =
    states_same c.args.links.now c.args.place c.index-links-place.result c.make_room.new.self c.make_room.ensures.unchanged

pub returns-in_ok-make_room-clause-unchanged : goal.returns-in_ok-make_room-clause-unchanged
returns-in_ok-make_room-clause-unchanged c =
    states_same c.args.links.now c.args.place c.index-links-place.result c.make_room.new.self c.make_room.ensures.unchanged
