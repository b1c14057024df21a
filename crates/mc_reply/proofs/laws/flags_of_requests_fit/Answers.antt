use Rattle.mc_reply.proofs.RoomLemmas.{flags_room-good, part_room-good}
use Rattle.mc_reply.proofs.laws.flags_of_requests_fit.Goals as goal

pub returns-clause-flags : goal.returns-clause-flags
returns-clause-flags c = flags_room-good

pub returns-clause-part : goal.returns-clause-part
returns-clause-part c = part_room-good
