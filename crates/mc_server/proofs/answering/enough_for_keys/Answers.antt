use Rattle.std.proofs.Common.{◌+◌, ◌*◌, ◌≤◌, length, arith}
use Rattle.mc_server.specs.Rooms.{keys_room}
use Rattle.mc_server.proofs.RoomLemmas.{keys_room-most, few_words}
use Rattle.mc_server.proofs.answering.enough_for_keys.Goals as goal

-- the longest value for each byte of the keys' text is enough
pub returns-then-by_bytes-le-ROOM_BY_LONGEST-clause-enough : goal.returns-then-by_bytes-le-ROOM_BY_LONGEST-clause-enough
returns-then-by_bytes-le-ROOM_BY_LONGEST-clause-enough g c =
    let each = c.longest-longest.result + 384 in
    let most = length c.text.result.now + 1 in
    let few : length c.args.keys.now ≤ most = few_words c.text.result.now c.args.keys.now c.text.ensures in
    let room : keys_room 384 c.args.keys.now c.args.cache.now ≤ each * most =
    keys_room-most 384 each most c.args.keys.now c.args.cache.now (omega (arith, c.longest-longest.ensures)) few in
    omega (arith, room, c.saturating_mul-by_bytes.ensures, c.if-by_bytes-le-ROOM_BY_LONGEST.true)

-- likewise for each of as many keys as there are spaces
pub returns-then-by_spaces-le-ROOM_BY_LONGEST-clause-enough : goal.returns-then-by_spaces-le-ROOM_BY_LONGEST-clause-enough
returns-then-by_spaces-le-ROOM_BY_LONGEST-clause-enough g c =
    let each = c.longest-longest.result + 384 in
    let room : keys_room 384 c.args.keys.now c.args.cache.now ≤ each * c.most.result =
    keys_room-most 384 each c.most.result c.args.keys.now c.args.cache.now (omega (arith, c.longest-longest.ensures)) c.most.ensures in
    omega (arith, room, c.saturating_mul-by_spaces.ensures, c.if-by_spaces-le-ROOM_BY_LONGEST.true)
