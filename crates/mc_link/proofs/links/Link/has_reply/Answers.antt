use Rattle.std.proofs.Common.{◌<◌, length, drop, refl, arith}
use Rattle.mc_link.specs.contracts.links.Link.{the_view}
use Rattle.mc_link.proofs.LinkLemmas.{front_is, next_if}
use Rattle.mc_link.proofs.links.Link.has_reply.Goals as goal

-- the command in front is the oldest
pub returns-in-Some : goal.returns-in-Some
returns-in-Some c =
    let inside = c.self.inside in
    let some : 0 < length inside.waiting.items = omega (arith, c.in-Some.ensures.variant.0 refl, inside.waiting.ok) in
    let front = front_is inside.waiting.items c.in-Some.field-0.now some c.in-Some.ensures.lookup in
    let next = next_if (the_view inside).state c.in-Some.field-0.now (drop 1 inside.waiting.items) front in
    rw (← c.self.view_is) (λ is. next.0 (c.has_next.ensures.0 is), λ has. c.has_next.ensures.1 (next.1 has))
