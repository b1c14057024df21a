use Rattle.std.proofs.Common.{◌≡◌, length, refl, sym, arith}
use Rattle.std.proofs.lemmas.List.{with_items_is}
use Rattle.mc_table.proofs.NumberedEntryLemmas.{updated_same}
use Rattle.mc_proxy.proofs.LinkLemmas.{at_error}
use Rattle.mc_proxy.proofs.proxies.Proxy.turn.Goals as goal

-- the number of links stays
pub invariant_of-self-in-Some : goal.invariant_of-self-in-Some
invariant_of-self-in-Some c =
    let as_many : length c.turn.new.links ≡ c.self.inside.links.len = omega (arith, c.turn.auto.links, c.as_mut_slice-links.ensures.len, c.self.inside.links.ok) in
    record {
      linked = rw (with_items_is c.self.inside.links c.turn.new.links as_many) (omega (arith, as_many, c.self.inside.links.ok, c.self.invariant.linked));
      emptied = c.turn.ensures.emptied;
    }

-- the session under the number takes a turn
pub returns-in_ok-turn-in-Some-clause-turn : goal.returns-in_ok-turn-in-Some-clause-turn
returns-in_ok-turn-in-Some-clause-turn c =
    let as_many : length c.turn.new.links ≡ c.self.inside.links.len = omega (arith, c.turn.auto.links, c.as_mut_slice-links.ensures.len, c.self.inside.links.ok) in
    rw (← c.self.view_is, with_items_is c.self.inside.links c.turn.new.links as_many) (record {
      before = c.in-Some.session.now;
      after = c.turn.new.self;
      was = sym c.in-Some.ensures.value;
      is = refl;
      ring = refl;
      losses = refl;
      admitted = refl;
      step = rw c.as_mut_slice-links.ensures.value at c.in_ok-turn-in-Some.ensures.turn;
    })

-- a session that gets no memory stays, and so do the links
pub returns-in_err-turn-in-Some-clause-err : goal.returns-in_err-turn-in-Some-clause-err
returns-in_err-turn-in-Some-clause-err c =
    let as_many : length c.turn.new.links ≡ c.self.inside.links.len = omega (arith, c.turn.auto.links, c.as_mut_slice-links.ensures.len, c.self.inside.links.ok) in
    let refused = c.in_err-turn-in-Some.ensures in
    let stays = updated_same c.args.number c.turn.new.self c.self.inside.sessions.entries (rw refused.err (sym c.in-Some.ensures.value)) in
    at_error c.from_residual.result
    (rw (← c.self.view_is, with_items_is c.self.inside.links c.turn.new.links as_many, stays, refused.links_kept, c.as_mut_slice-links.ensures.value) refl)
