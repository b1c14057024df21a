use Rattle.std.proofs.Common.{◌≤◌, ◌*◌, arith}
use Rattle.std.proofs.lemmas.Bool.Decides.{nat_tests}
use Rattle.mc_request.specs.LinesSeen.{asked_of}
use Rattle.mc_server.specs.Rooms.{room_of, taken_bound}
use Rattle.mc_server.proofs.RoomLemmas.{bound_within}
use Rattle.mc_server.proofs.limits.AnswerLimit.is_passed.Goals as goal

-- if the room is small, so is the bound
pub returns-then-room-self : goal.returns-then-room-self
returns-then-room-self g c =
    let what = asked_of c.args.asked.now in
    let s = c.args.cache.now in
    let within : taken_bound what s ≤ 16 * room_of what s = bound_within what s in
    let few : taken_bound what s ≤ c.args.self.bytes = omega (arith, within, c.requires.room, c.if-room-self.true) in
    (λ is. absurd (grind (arith, nat_tests, is)), λ less. absurd (omega (arith, few, less)))
