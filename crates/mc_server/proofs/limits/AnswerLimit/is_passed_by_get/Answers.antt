use Rattle.std.proofs.Common.{◌≤◌, ◌*◌, None, false, arith}
use Rattle.std.proofs.lemmas.Bool.Decides.{nat_tests}
use Rattle.mc_request.specs.declared.parts.Request.TheVariants.{Get}
use Rattle.mc_request.specs.declared.parts.Parsed.{Parsed}
use Rattle.mc_request.specs.declared.parts.Parsed.TheVariants.{Whole}
use Rattle.mc_server.specs.Rooms.{room_of, taken_bound}
use Rattle.mc_server.proofs.RoomLemmas.{bound_within}
use Rattle.mc_server.proofs.limits.AnswerLimit.is_passed_by_get.Goals as goal

-- if the room is small, so is the bound
pub returns-then-room-self : goal.returns-then-room-self
returns-then-room-self g c =
    let what : Parsed = Whole (Get c.args.keys.now None false) in
    let s = c.args.cache.now in
    let within : taken_bound what s ≤ 16 * room_of what s = bound_within what s in
    let few : taken_bound what s ≤ c.args.self.bytes = omega (arith, within, c.requires, c.if-room-self.true) in
    (λ is. absurd (grind (arith, nat_tests, is)), λ less. absurd (omega (arith, few, less)))
