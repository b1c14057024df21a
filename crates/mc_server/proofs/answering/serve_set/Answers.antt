use Rattle.std.proofs.Common.{◌≡◌, ◌∙◌, [], None, w64, ap, sym, rules, List, ℕ, ◌++◌, append-nil}
use Rattle.std.proofs.lemmas.Int.{to_z-of_z}
use Rattle.mc_request.specs.declared.parts.StoreMode.TheVariants.{Set}
use Rattle.mc_request.specs.declared.parts.Update.{Update}
use Rattle.mc_request.specs.declared.parts.Update.TheVariants.{Store}
use Rattle.mc_reply.specs.declared.replies.Reply.{Reply}
use Rattle.mc_reply.specs.Spelling.{reply_line}
use Rattle.mc_server.proofs.GetLemmas.{filled_is_seen}
use Rattle.mc_server.proofs.UpdateLemmas.{update_served, line_shown, line_hidden}
use Rattle.mc_server.proofs.answering.serve_set.Goals as goal
use mir.Val.{to_z, of_z}

-- the line is written
pub returns-then-not-is_hidden-clause-served : goal.returns-then-not-is_hidden-clause-served
returns-then-not-is_hidden-clause-served g c number =
    let given = c.args.set in
    let same : to_z w64 (of_z w64 c.args.set.exptime) ≡ c.args.set.exptime = search (rules, to_z-of_z) in
    let update : Update (List ℕ) (List ℕ) = Store Set None given.key given.flags given.exptime given.block in
    let seen = filled_is_seen c.set-reply.result c.as_slice.result [] c.with.result c.with.ensures c.as_slice.ensures in
    let written = rw c.unwrap.ensures at c.write_line.ensures.ok in
    let shown = sym c.is_hidden.ensures ∙ c.if-not-is_hidden.true in
    update_served number c.args.moment c.args.cache.now c.set-reply.new.self update given.noreply c.hides_by.result c.set-reply.result c.args.output.now.items c.write_line.new.out.items
    (rw same at c.set-reply.ensures.step) c.set-reply.ensures.refusal (c.hides_by.ensures update)
    (written ∙ ap (λ (bytes : List ℕ). c.args.output.now.items ++ bytes) (ap (λ (r : Reply (List ℕ)). reply_line r) seen ∙ sym (line_shown c.hides_by.result c.set-reply.result shown)))

-- nothing is written
pub returns-else-not-is_hidden-clause-served : goal.returns-else-not-is_hidden-clause-served
returns-else-not-is_hidden-clause-served g c number =
    let given = c.args.set in
    let same : to_z w64 (of_z w64 c.args.set.exptime) ≡ c.args.set.exptime = search (rules, to_z-of_z) in
    let update : Update (List ℕ) (List ℕ) = Store Set None given.key given.flags given.exptime given.block in
    let hidden = sym c.is_hidden.ensures ∙ c.if-not-is_hidden.false in
    update_served number c.args.moment c.args.cache.now c.set-reply.new.self update given.noreply c.hides_by.result c.set-reply.result c.args.output.now.items c.args.output.now.items
    (rw same at c.set-reply.ensures.step) c.set-reply.ensures.refusal (c.hides_by.ensures update)
    (sym (append-nil c.args.output.now.items) ∙ ap (λ (bytes : List ℕ). c.args.output.now.items ++ bytes) (sym (line_hidden c.hides_by.result c.set-reply.result hidden)))
