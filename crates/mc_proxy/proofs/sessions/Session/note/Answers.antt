use Rattle.std.proofs.Common.{◌≡◌, ◌-◌, ◌<◌, ◌≤◌, length, arith}
use Rattle.mc_proxy.specs.SessionState.{answered}
use Rattle.mc_proxy.proofs.SessionNotingLemmas.{noted_there, noted_nowhere}
use Rattle.mc_proxy.specs.contracts.sessions.Session.{the_view}
use Rattle.mc_proxy.proofs.sessions.Session.note.Goals as goal

-- the request of the tag's number is not answered
pub returns-then-place-len : goal.returns-then-place-len
returns-then-place-len c =
    let own = the_view c.self.inside in
    let place = c.in-Some.place in
    let late : answered own ≤ c.args.tag.request = omega (arith, c.in-Some.ensures.0, c.len.ensures, c.self.inside.unanswered.ok) in
    let at : place ≡ c.args.tag.request - answered own = omega (arith, c.in-Some.ensures.1, c.len.ensures, c.self.inside.unanswered.ok) in
    let inside : place < length own.unanswered = omega (arith, c.if-place-len.true, c.len-2.ensures, c.self.inside.unanswered.ok) in
    rw (← c.self.view_is) (noted_there c.args.tag c.args.outcome place own c.index_mut.result.now c.note.new.self late at inside c.index_mut.ensures.value c.note.ensures)

-- it was not taken yet
pub returns-else-place-len : goal.returns-else-place-len
returns-else-place-len c =
    let own = the_view c.self.inside in
    let place = c.in-Some.place in
    let late : answered own ≤ c.args.tag.request = omega (arith, c.in-Some.ensures.0, c.len.ensures, c.self.inside.unanswered.ok) in
    let at : place ≡ c.args.tag.request - answered own = omega (arith, c.in-Some.ensures.1, c.len.ensures, c.self.inside.unanswered.ok) in
    let outside : length own.unanswered ≤ place = omega (arith, c.if-place-len.false, c.len-2.ensures, c.self.inside.unanswered.ok) in
    rw (← c.self.view_is) (noted_nowhere c.args.tag c.args.outcome place own late at outside)
