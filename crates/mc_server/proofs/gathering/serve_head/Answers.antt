use Rattle.std.proofs.Common.{◌∙◌, ap}
use Rattle.mc_reply.specs.declared.replies.Reply.TheVariants.{Miss}
use Rattle.mc_server.proofs.GetLemmas.{lone_hit, lone_served}
use Rattle.mc_server.proofs.gathering.serve_head.Goals as goal

-- the line is written
pub returns-clause-hit : goal.returns-clause-hit
returns-clause-hit g c = λ _ number.
    let written = rw c.front_value.ensures at (rw c.unwrap-2.ensures at c.write_head.ensures.ok) in
    lone_hit number c.args.key.now c.args.with_cas c.args.moment c.args.cache.now c.get_head.new.self c.in-Some.head.0 c.in-Some.head.1 _
    c.args.output.now.items c.write_head.new.out.items c.in-Some.ensures.hit written

-- there is no item, and the end is written
pub returns-in_default-clause-miss : goal.returns-in_default-clause-miss
returns-in_default-clause-miss g c = λ _ number.
    let written = rw c.unwrap.ensures at c.write_end.ensures.ok in
    lone_served number c.args.key.now c.args.with_cas c.args.moment c.args.cache.now c.get_head.new.self Miss
    c.args.output.now.items c.write_end.new.out.items c.in_default.ensures.miss written
