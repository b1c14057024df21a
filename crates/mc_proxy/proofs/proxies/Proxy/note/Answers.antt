use Rattle.std.proofs.Common.{refl, sym}
use Rattle.mc_proxy.proofs.NotingLemmas.{noted_open}
use Rattle.mc_proxy.proofs.proxies.Proxy.note.Goals as goal

-- the session under the number is that of the command
pub returns : goal.returns
returns c =
    let was = sym c.in-Some.ensures.value in
    rw (← c.self.view_is, noted_open c.args.tag c.args.outcome c.in-Some.session.now c.self.inside.sessions.entries was, c.note.ensures) refl
