use Rattle.std.proofs.Common.{arith}
use Rattle.mc_request.specs.Parts.{key_bytes}
use Rattle.mc_server.proofs.RoomLemmas.{get_room-longest}
use Rattle.mc_server.proofs.answering.enough_for_value.Goals as goal

-- the value that is shown is no longer than the longest
pub returns-in-Get-clause-enough : goal.returns-in-Get-clause-enough
returns-in-Get-clause-enough g c =
    let room = get_room-longest (key_bytes c.args.coded c.in-Get.key.now) c.in-Get.get c.args.cache.now in
    rw c.in-Get.is (omega (arith, room, c.longest-longest.ensures))
