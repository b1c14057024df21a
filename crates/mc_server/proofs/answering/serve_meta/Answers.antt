use Rattle.std.proofs.Common.{◌∙◌, ap, sym, List, ℕ, ◌++◌}
use Rattle.mc_request.specs.Parts.{key_bytes, meta_said}
use Rattle.mc_reply.specs.declared.replies.Reply.{Reply}
use Rattle.mc_reply.specs.Replies.{filled}
use Rattle.mc_reply.specs.MetaSpelling.{meta_line}
use Rattle.mc_reply.specs.Spelling.{meta_key}
use Rattle.mc_reply.proofs.RoomLemmas.{flags_room-good}
use Rattle.mc_cache.specs.CacheState.{front_value}
use Rattle.mc_server.proofs.GetLemmas.{filled_is_seen}
use Rattle.mc_server.proofs.MetaLemmas.{word_is_key, meta_served, meta_shown}
use Rattle.mc_server.proofs.answering.serve_meta.Goals as goal

pub write_meta-requires-clause-key : goal.write_meta-requires-clause-key
write_meta-requires-clause-key g c = rw c.word.ensures (word_is_key c.args.command.now c.args.form.now c.requires.well_formed).0

pub write_meta-requires-clause-flags : goal.write_meta-requires-clause-flags
write_meta-requires-clause-flags g c = flags_room-good (meta_said c.args.form.now.coded c.args.command.now) c.args.form.now c.requires.well_formed

-- the answer is written
pub returns-then-not-is_hidden-clause-served : goal.returns-then-not-is_hidden-clause-served
returns-then-not-is_hidden-clause-served g c number hides_is =
    let facts = c.in_ok-reply.ensures in
    let form = c.args.form.now in
    let command = meta_said form.coded c.args.command.now in
    let front = front_value c.meta_reply.new.cache.items in
    let reply = c.in_ok-reply.reply in
    let seen = filled_is_seen reply c.front_value.result front c.with.result c.with.ensures c.front_value.ensures in
    let written = rw c.unwrap.ensures at c.write_meta.ensures.ok in
    let shown = sym c.is_hidden.ensures ∙ c.if-not-is_hidden.true in
    let key_is = ap (key_bytes form.coded) c.word.ensures ∙ sym (word_is_key c.args.command.now form c.requires.well_formed).1 in
    let line_is = ap (λ (r : Reply (List ℕ)). meta_line form (key_bytes form.coded c.word.result.now) r) seen
    ∙ ap (λ (key : List ℕ). meta_line form key (filled reply front)) key_is
    ∙ sym (meta_shown c.args.hides form (meta_key command) reply front shown) in
    meta_served number c.args.moment c.args.cache.now c.meta_reply.new.cache command form c.args.hides reply front c.args.output.now.items c.write_meta.new.out.items
    facts.step facts.refusal hides_is
    (written ∙ ap (λ (bytes : List ℕ). c.args.output.now.items ++ bytes) line_is)
