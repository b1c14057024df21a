use Rattle.std.proofs.Common.{◌∙◌, [], ap, sym, List, ℕ, ◌++◌, append-nil}
use Rattle.mc_request.specs.Parts.{update_seen}
use Rattle.mc_reply.specs.declared.replies.Reply.{Reply}
use Rattle.mc_reply.specs.Spelling.{reply_line}
use Rattle.mc_server.proofs.GetLemmas.{filled_is_seen}
use Rattle.mc_server.proofs.UpdateLemmas.{update_served, line_shown, line_hidden}
use Rattle.mc_server.proofs.answering.serve_update.Goals as goal

-- the line is written
pub returns-then-not-is_hidden-clause-served : goal.returns-then-not-is_hidden-clause-served
returns-then-not-is_hidden-clause-served g c number noreply hides_is =
    let facts = c.in_ok-reply.ensures in
    let seen = filled_is_seen c.in_ok-reply.reply c.as_slice.result [] c.with.result c.with.ensures c.as_slice.ensures in
    let written = rw c.unwrap.ensures at c.write_line.ensures.ok in
    let shown = sym c.is_hidden.ensures ∙ c.if-not-is_hidden.true in
    update_served number c.args.moment c.args.cache.now c.update.new.self (update_seen c.args.update.now) noreply c.args.hides c.in_ok-reply.reply c.args.output.now.items c.write_line.new.out.items
    facts.step facts.refusal hides_is
    (written ∙ ap (λ (bytes : List ℕ). c.args.output.now.items ++ bytes) (ap (λ (r : Reply (List ℕ)). reply_line r) seen ∙ sym (line_shown c.args.hides c.in_ok-reply.reply shown)))

-- nothing is written
pub returns-else-not-is_hidden-clause-served : goal.returns-else-not-is_hidden-clause-served
returns-else-not-is_hidden-clause-served g c number noreply hides_is =
    let facts = c.in_ok-reply.ensures in
    let hidden = sym c.is_hidden.ensures ∙ c.if-not-is_hidden.false in
    update_served number c.args.moment c.args.cache.now c.update.new.self (update_seen c.args.update.now) noreply c.args.hides c.in_ok-reply.reply c.args.output.now.items c.args.output.now.items
    facts.step facts.refusal hides_is
    (sym (append-nil c.args.output.now.items) ∙ ap (λ (bytes : List ℕ). c.args.output.now.items ++ bytes) (sym (line_hidden c.args.hides c.in_ok-reply.reply hidden)))
