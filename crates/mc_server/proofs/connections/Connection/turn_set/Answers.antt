use Rattle.std.proofs.Common.{◌≡◌, ◌≤◌, [], List, length, length-append, length-drop, ap, arith}
use Rattle.std.proofs.lemmas.List.{drop-append-le}
use Rattle.mc_request.specs.declared.parts.Parsed.{Parsed}
use Rattle.mc_request_reader.specs.Peeks.{set_of}
use Rattle.mc_server.specs.Rooms.{bound_of, taken_bound}
use Rattle.mc_server.proofs.connections.Connection.turn_set.Goals as goal

-- the answer goes after what was sent
pub invariant_of-self-2 : goal.invariant_of-self-2
invariant_of-self-2 g c =
    let served = (c.serve_set.ensures.served 0).1 in
    let longer : length c.reserve.new.self.items ≤ length c.serve_set.new.output.items = rw (served.answered, length-append) (omega arith) in
    omega (arith, c.serve_set.new.output.ok, c.self.inside.output.ok, longer)

-- the `set` that was taken is served
pub returns-clause-turn : goal.returns-clause-turn
returns-clause-turn g c number =
    let all = c.serve_set.ensures.served number in
    let served = all.1 in
    let sent : c.self.inside.sent ≤ length c.self.inside.output.items = omega (arith, c.self.inside.output.ok) in (
      set_of c.in_ok-set.set,
      record {
        first = rw (← c.self.view_is) c.in_ok-set.ensures.first;
        closed = c.in_ok-set.ensures.closed;
        served = (
          all.0,
          record {
            legal = served.legal;
            cache = served.cache;
            answered = rw (← c.self.view_is, served.answered, c.reserve.ensures.items) (drop-append-le _ _ _ sent);
          },
        );
      },
    )

-- no more is written than was reported
pub returns-clause-bounded : goal.returns-clause-bounded
returns-clause-bounded g c =
    let what : Parsed = set_of c.in_ok-set.set in
    let bound : bound_of _ c.args.cache.now ≡ taken_bound what c.args.cache.now = ap (λ (ts : List Parsed). bound_of ts c.args.cache.now) (c.in_ok-set.ensures.first.rest []) in
    let len = c.serve_set.ensures.len in
    rw (← c.self.view_is) (omega (arith, len, bound, length-drop c.self.inside.sent c.serve_set.new.output.items, length-drop c.self.inside.sent c.self.inside.output.items, c.serve_set.new.output.ok, c.self.inside.output.ok, c.reserve.new.self.ok))

pub returns-clause-within : goal.returns-clause-within
returns-clause-within g c =
    let what : Parsed = set_of c.in_ok-set.set in
    let bound : bound_of _ c.args.cache.now ≡ taken_bound what c.args.cache.now = ap (λ (ts : List Parsed). bound_of ts c.args.cache.now) (c.in_ok-set.ensures.first.rest []) in
    rw (← c.self.view_is) (omega (arith, bound))
