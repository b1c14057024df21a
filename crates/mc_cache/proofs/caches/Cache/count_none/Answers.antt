use Rattle.std.proofs.Common.{◌≡◌, rules, w64}
use Rattle.std.proofs.lemmas.Int.{to_z-of_z}
use Rattle.std.specs.Fmt.{decimal}
use Rattle.mc_reply.specs.declared.replies.Reply.TheVariants.{Number}
use Rattle.mc_cache.proofs.caches.Cache.count_none.Goals as goal
use mir.Val.{to_z, of_z}

-- what is made has the number that was asked for, and the expiry of what makes it
pub returns-clause-step : goal.returns-clause-step
returns-clause-step g c = λ value.
    let same : to_z w64 (of_z w64 c.in-Some.creation.exptime) ≡ c.in-Some.creation.exptime = search (rules, to_z-of_z) in
    let text : c.as_bytes.result.now ≡ decimal c.in-Some.creation.initial = cc in
    rw (c.in-Some.is, c.number_or_fault.ensures.refusal, c.number_or_fault.ensures.reply value)
    (rw (c.of.ensures, same, text) at c.make.ensures.step (Number c.in-Some.creation.initial))
