use Rattle.std.proofs.Common.{◌∙◌, sym, ap}
use Rattle.mc_request_reader.specs.Reader.{ReaderState}
use Rattle.mc_request_reader.proofs.ReaderLemmas.{ready_by}
use Rattle.mc_request_reader.proofs.unread.Unread.ready.Goals as goal

pub returns-in-None : goal.returns-in-None
returns-in-None c =
    let unclosed = sym (ap (λ (s : ReaderState). s.closed) c.self.view_is) ∙ c.if-self.false in
    let none = sym (ap (λ (s : ReaderState). s.dropping) c.self.view_is) ∙ c.in-None.is in
    ready_by c.args.self.now c.has_whole.result unclosed none c.has_whole.ensures
