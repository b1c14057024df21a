use Rattle.std.proofs.Common.{◌≡◌, length, drop, ap, arith, length-drop}
use Rattle.mc_request_reader.specs.Reader.{ReaderState}
use Rattle.mc_request_reader.proofs.ReaderLemmas.{front_size}
use Rattle.mc_request_reader.proofs.unread.Unread.consume.Goals as goal

-- what the look showed has arrived
pub overflow_add-self-inside : goal.overflow_add-self-inside
overflow_add-self-inside c =
    let size = front_size c.args.self.now c.args.front c.requires in
    let unread : length (drop c.self.inside.start c.self.inside.buffer.items) ≡ length c.args.self.now.unread = ap (λ (s : ReaderState). length s.unread) c.self.view_is in
    omega (arith, size, unread, length-drop c.self.inside.start c.self.inside.buffer.items, c.self.invariant.half, c.self.inside.buffer.ok)

pub consume_front-self-inside-requires : goal.consume_front-self-inside-requires
consume_front-self-inside-requires c =
    let size = front_size c.args.self.now c.args.front c.requires in
    let unread : length (drop c.self.inside.start c.self.inside.buffer.items) ≡ length c.args.self.now.unread = ap (λ (s : ReaderState). length s.unread) c.self.view_is in
    omega (arith, size, unread, length-drop c.self.inside.start c.self.inside.buffer.items, c.self.invariant.half, c.self.inside.buffer.ok)
