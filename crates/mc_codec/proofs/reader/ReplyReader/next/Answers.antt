use Rattle.std.proofs.Common.{◌≡◌, ◌++◌, ◌∙◌, ◌+◌, ◌-◌, ◌<◌, ◌≤◌, ℕ, List, drop, length, refl, sym, ap, subst, arith}
use Rattle.std.proofs.lemmas.List.{drop-drop}
use Rattle.mc_text.proofs.CoverLaws.{drop-taken}
use Rattle.mc_reply.specs.CanHave.{can_have}
use Rattle.mc_reply.specs.Seen.{bytes_seen}
use Rattle.mc_reply.specs.Spelling.{spelling_of}
use Rattle.mc_codec.specs.ReplyForms.{Answer}
use Rattle.mc_codec.specs.NextReply.{HasReply, IsShortOf, IsStrange}
use Rattle.mc_codec.proofs.HeadLemmas.{at_error, reply_read, reply_short, reply_strange, reply_whole}
use Rattle.mc_codec.proofs.reader.ReplyReader.next.Goals as goal

pub overflow_sub-taken : goal.overflow_sub-taken
overflow_sub-taken c =
    let unread = c.split_at.result.1.now in
    let read = reply_read c.args.head.now unread (bytes_seen c.in-Ok.reply, c.in-Ok.rest.now) (sym c.in-Ok.ensures) in
    (drop-taken unread c.in-Ok.rest.now (spelling_of c.args.head.now (bytes_seen c.in-Ok.reply)) read.spelled).0

pub returns-in_ok-reply-in-Ok-clause-given : goal.returns-in_ok-reply-in-Ok-clause-given
returns-in_ok-reply-in-Ok-clause-given c =
    let head = c.args.head.now in
    let unread = c.split_at.result.1.now in
    let left = c.in-Ok.rest.now in
    let reply = bytes_seen c.in-Ok.reply in
    let read = reply_read head unread (reply, left) (sym c.in-Ok.ensures) in
    let buffer = c.self.inside.buffer.items in
    let start = c.self.inside.start in
    let unread_is : unread ≡ drop start buffer = c.split_at.ensures.back ∙ ap (drop start) c.deref.ensures.value in
    let left_is : drop (start + (length unread - length left)) buffer ≡ left =
    sym (drop-drop (length unread - length left) start buffer) ∙ ap (drop (length unread - length left)) (sym unread_is)
    ∙ (drop-taken unread left (spelling_of head reply) read.spelled).1 in
    let copied : c.in_ok-reply-in-Ok.reply ≡ reply = c.in_ok-reply-in-Ok.ensures in (
      ap (can_have head) copied ∙ read.allowed,
      ap (λ s. s.unread) (sym c.self.view_is) ∙ sym unread_is ∙ read.spelled ∙ ap (λ (r : Answer). spelling_of head r ++ left) (sym copied)
          ∙ ap (λ (w : List ℕ). spelling_of head c.in_ok-reply-in-Ok.reply ++ w) (sym left_is ∙ sym c.consume_front-self-inside.ensures.kept),
    )

-- memory is refused only for the value of a whole reply
pub returns-in_err-reply-in-Ok-clause-cause : goal.returns-in_err-reply-in-Ok-clause-cause
returns-in_err-reply-in-Ok-clause-cause c =
    let head = c.args.head.now in
    let unread = c.split_at.result.1.now in
    let unread_is : unread ≡ c.args.self.now.unread = c.split_at.ensures.back ∙ ap (drop c.self.inside.start) c.deref.ensures.value ∙ ap (λ s. s.unread) c.self.view_is in
    let whole : HasReply head unread = reply_whole head unread (bytes_seen c.in-Ok.reply, c.in-Ok.rest.now) (sym c.in-Ok.ensures) in
    at_error c.from_residual.result (subst (HasReply head) unread_is whole)

pub returns-in-Err-More-clause-given : goal.returns-in-Err-More-clause-given
returns-in-Err-More-clause-given c =
    let head = c.args.head.now in
    let unread = c.split_at.result.1.now in
    let unread_is : unread ≡ c.args.self.now.unread = c.split_at.ensures.back ∙ ap (drop c.self.inside.start) c.deref.ensures.value ∙ ap (λ s. s.unread) c.self.view_is in
    let wanted = c.saturating_add.result in
    let read = rw c.in-Err-More.field-0-is at (sym c.in-Err-More.ensures) in
    let parts : length unread ≤ length c.deref.result.now = omega (arith, c.split_at.ensures.back_len) in
    let bound : length unread < 18446744073709551615 = omega (arith, c.deref.ensures.len) in (
      subst (IsShortOf head wanted) unread_is (reply_short head unread c.in-Err-More.missing wanted read
          (λ some. omega (arith, c.saturating_add.ensures, c.in-Err-More.missing-is)) (omega (arith, c.saturating_add.ensures, c.in-Err-More.missing-is))),
      refl,
    )

pub returns-in-Err-Strange-clause-given : goal.returns-in-Err-Strange-clause-given
returns-in-Err-Strange-clause-given c =
    let unread = c.split_at.result.1.now in
    let unread_is : unread ≡ c.args.self.now.unread = c.split_at.ensures.back ∙ ap (drop c.self.inside.start) c.deref.ensures.value ∙ ap (λ s. s.unread) c.self.view_is in
    (subst (IsStrange c.args.head.now) unread_is (reply_strange c.args.head.now unread (rw c.in-Err-Strange.field-0-is at (sym c.in-Err-Strange.ensures))), refl)
