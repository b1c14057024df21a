use Rattle.std.proofs.Common.{sym}
use Rattle.std.proofs.lemmas.Option.{IfSome_then}
use Rattle.mc_request_reader.proofs.ReadLemmas.{reads_as}
use Rattle.mc_server.proofs.ConnectionLemmas.{updated_own}
use Rattle.mc_server.proofs.ReadLemmas.{server_same, steps_fed}
use Rattle.mc_server.proofs.servers.Server.read_from.Goals as goal

-- what was read is more of the connection's text
pub returns-clause-read : goal.returns-clause-read
returns-clause-read g c =
    let was = sym c.in-Some.ensures.value in
    rw (← c.self.view_is)
    (IfSome_then c.read_from.result c.read_from.ensures.read (λ read h. reads_as read _ _ _ _ _ _
    (λ came fed. steps_fed c.args.number _ c.in-Some.connection.now c.read_from.new.self came was fed)
    (λ e. server_same c.args.number _ c.in-Some.connection.now c.read_from.new.self was e) h))

-- its reader keeps little
pub returns-clause-little : goal.returns-clause-little
returns-clause-little g c =
    let was = sym c.in-Some.ensures.value in
    rw (updated_own c.args.number _ c.read_from.new.self _ was) c.read_from.ensures.little
