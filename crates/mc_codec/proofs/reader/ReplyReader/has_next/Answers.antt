use Rattle.std.proofs.Common.{◌≡◌, ◌∙◌, drop, ap}
use Rattle.mc_reply.specs.Seen.{bytes_seen}
use Rattle.mc_codec.proofs.HeadLemmas.{whole_if_read}
use Rattle.mc_codec.proofs.reader.ReplyReader.has_next.Goals as goal

pub returns : goal.returns
returns c =
    let head = c.args.head.now in
    let unread = c.split_at.result.1.now in
    let unread_is : unread ≡ c.args.self.now.unread = c.split_at.ensures.back ∙ ap (drop c.self.inside.start) c.deref.ensures.value ∙ ap (λ s. s.unread) c.self.view_is in
    let whole = whole_if_read (λ x. (bytes_seen x.0, x.1.now)) head unread c.read_reply.result c.read_reply.ensures in
    rw (c.is_ok.ensures.value, ← unread_is) whole
