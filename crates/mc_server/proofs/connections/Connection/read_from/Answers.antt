use Rattle.std.proofs.Common.{drop, ap}
use Rattle.std.proofs.lemmas.Option.{IfSome_then}
use Rattle.mc_request_reader.specs.Reader.{ReaderState}
use Rattle.mc_request_reader.proofs.ReadLemmas.{reads_as}
use Rattle.mc_server.specs.ServerState.{ConnectionState}
use Rattle.mc_server.proofs.ReadLemmas.{fed_by}
use Rattle.mc_server.proofs.connections.Connection.read_from.Goals as goal

-- what was read is more of its text
pub returns-clause-read : goal.returns-clause-read
returns-clause-read g c =
    let r = c.self.inside in
    let output = drop r.sent r.output.items in
    let at : ReaderState → ConnectionState = λ s. record { reader = s; output = output } in
    rw (← c.self.view_is)
    (IfSome_then c.read_from.result c.read_from.ensures.read (λ read h. reads_as read _ _ _ _ _ _
    (λ came comes. fed_by r.reader c.read_from.new.self output came comes) (λ e. ap at e) h))
