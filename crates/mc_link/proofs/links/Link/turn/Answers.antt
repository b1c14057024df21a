use Rattle.std.proofs.Common.{◌<◌, length, drop, refl, arith}
use Rattle.mc_codec.specs.NextReply.{HasReply as IsNext}
use Rattle.mc_link.specs.contracts.links.Link.{the_view}
use Rattle.mc_link.proofs.LinkLemmas.{front_is, next_if}
use Rattle.mc_link.proofs.links.Link.turn.Goals as goal

-- memory is refused only for the value of a whole reply to the oldest command
pub returns-in_err-reply-clause-cause : goal.returns-in_err-reply-clause-cause
returns-in_err-reply-clause-cause c =
    let inside = c.self.inside in
    let some : 0 < length inside.waiting.items = omega (arith, c.in-Some.ensures.variant.0 refl, inside.waiting.ok) in
    let front = front_is inside.waiting.items c.in-Some.field-0.now some c.in-Some.ensures.lookup in
    let next : IsNext c.in-Some.field-0.now.0 inside.reader.unread = c.in_err-reply.ensures.cause in
    rw (← c.self.view_is) (λ _. (next_if (the_view inside).state c.in-Some.field-0.now (drop 1 inside.waiting.items) front).0 next)
