use Rattle.std.proofs.Common.{◌∷◌, [], refl}
use Rattle.mc_request.specs.LinesSeen.{asked_of}
use Rattle.mc_request_reader.specs.Peeks.{past}
use Rattle.mc_request_reader.specs.Reader.{rest_of}
use Rattle.mc_request_reader.proofs.ReaderLemmas.{rest_closed, shown_waits}
use Rattle.mc_proxy.proofs.TurnLemmas.{counted_by}
use Rattle.mc_proxy.specs.contracts.sessions.Session.{the_view}
use Rattle.mc_proxy.proofs.sessions.Session.next_commands.Goals as goal

-- the request that is shown is the first that waits
pub returns-in-First : goal.returns-in-First
returns-in-First c =
    let seen = rw c.in-First.is at c.peek.ensures.seen in
    let own = the_view c.self.inside in
    let what = asked_of c.in-First.asked in
    let first = shown_waits own.reader what c.in-First.field-1 seen in
    rw (← c.self.view_is) (counted_by c.args.ring.now (rest_of own.reader []) (what ∷ rest_of (past c.in-First.field-1 own.reader) []) c.command_count.result first c.command_count.ensures)

-- none has arrived whole
pub returns-in-More : goal.returns-in-More
returns-in-More c =
    let seen = rw c.in-More.is at c.peek.ensures.seen in
    rw (← c.self.view_is, seen.none) refl

-- the session is closed to input
pub returns-in-Closed : goal.returns-in-Closed
returns-in-Closed c =
    let seen = rw c.in-Closed.is at c.peek.ensures.seen in
    let own = the_view c.self.inside in
    rw (← c.self.view_is, rest_closed own.reader [] seen) refl
