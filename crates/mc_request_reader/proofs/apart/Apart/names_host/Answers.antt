use Rattle.std.proofs.Common.{sym}
use Rattle.mc_request_reader.proofs.apart.Apart.names_host.Goals as goal

pub returns : goal.returns
returns c = rw (← c.self.view_is) (sym (c.self.invariant.known c.self.inside.block))
