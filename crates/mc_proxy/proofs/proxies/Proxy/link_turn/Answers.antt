use Rattle.std.proofs.Common.{refl}
use Rattle.std.proofs.lemmas.Result.{err_from_is_err_and}
use Rattle.mc_proxy.proofs.LinkLemmas.{read_at, states-set, states-set_same, at_error, same_error}
use Rattle.mc_proxy.proofs.proxies.Proxy.link_turn.Goals as goal

-- the link that refused is as it was
pub returns-in_err-tag-clause-err : goal.returns-in_err-tag-clause-err
returns-in_err-tag-clause-err c =
    let same = states-set_same c.self.inside.links.items c.args.server c.in-Some.link.now c.turn.new.self c.in-Some.ensures.value c.in_err-tag.ensures.err in
    at_error c.from_residual.result (rw (← c.self.view_is, same) refl)

-- a violation leaves the link as it was, until it is lost
pub returns-in_err-lost-in-Strange-clause-state : goal.returns-in_err-lost-in-Strange-clause-state
returns-in_err-lost-in-Strange-clause-state c =
    let told = rw c.in-Strange.is at c.in_ok-tag.ensures.turn in
    let same = states-set_same c.self.inside.links.items c.args.server c.in-Some.link.now c.turn.new.self c.in-Some.ensures.value told.1 in
    let p = err_from_is_err_and c.from_residual-in_err-lost-in-Strange.result c.from_residual-in_err-lost-in-Strange.ensures.1 in
    rw (p.1, p.2, ← c.self.view_is) (same_error _ _ (rw same at c.in_err-lost-in-Strange.ensures.state))

pub returns-in_err-lost-in-Strange-clause-err : goal.returns-in_err-lost-in-Strange-clause-err
returns-in_err-lost-in-Strange-clause-err c =
    let told = rw c.in-Strange.is at c.in_ok-tag.ensures.turn in
    let same = states-set_same c.self.inside.links.items c.args.server c.in-Some.link.now c.turn.new.self c.in-Some.ensures.value told.1 in
    at_error c.from_residual-in_err-lost-in-Strange.result (rw (c.in_err-lost-in-Strange.ensures.err, ← c.self.view_is, same) refl)

-- the reply is recorded under the tag of the oldest pending command
pub returns-in-Took-clause-turn : goal.returns-in-Took-clause-turn
returns-in-Took-clause-turn c =
    let taken = rw c.in-Took.is at c.in_ok-tag.ensures.turn in
    let links = c.self.inside.links.items in
    let here = read_at links c.args.server c.in-Some.link.now c.in-Some.ensures.item.3.0 c.in-Some.ensures.value in
    rw (← c.self.view_is, c.note.ensures) (record {
      tag = c.in-Took.tag;
      reply = c.in-Took.reply;
      link = c.turn.new.self.state;
      takes = rw here taken;
      links = states-set links c.args.server c.turn.new.self;
      sessions = refl;
      ring = refl;
      losses = refl;
      admitted = refl;
    })

-- nothing has changed
pub returns-in-Idle-clause-turn : goal.returns-in-Idle-clause-turn
returns-in-Idle-clause-turn c =
    let told = rw c.in-Idle.is at c.in_ok-tag.ensures.turn in
    let links = c.self.inside.links.items in
    let here = read_at links c.args.server c.in-Some.link.now c.in-Some.ensures.item.3.0 c.in-Some.ensures.value in
    let same = states-set_same links c.args.server c.in-Some.link.now c.turn.new.self c.in-Some.ensures.value told.1 in
    rw (← c.self.view_is, same, here) (told.0, refl)

-- the link is lost from its state before
pub returns-in_ok-lost-in-Strange-clause-turn : goal.returns-in_ok-lost-in-Strange-clause-turn
returns-in_ok-lost-in-Strange-clause-turn c =
    let told = rw c.in-Strange.is at c.in_ok-tag.ensures.turn in
    let links = c.self.inside.links.items in
    let here = read_at links c.args.server c.in-Some.link.now c.in-Some.ensures.item.3.0 c.in-Some.ensures.value in
    let same = states-set_same links c.args.server c.in-Some.link.now c.turn.new.self c.in-Some.ensures.value told.1 in
    rw (c.in_ok-lost-in-Strange.ensures.lost, ← c.self.view_is, same, here) (told.0, refl)
