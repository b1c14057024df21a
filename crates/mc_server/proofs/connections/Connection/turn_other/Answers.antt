use Rattle.std.proofs.Common.{◌≡◌, ◌≤◌, Bool, List, Ok, length, length-append, length-drop, sym, ap, ◌∙◌, arith}
use Rattle.std.proofs.lemmas.List.{drop-append-le}
use Rattle.mc_request.specs.LinesSeen.{asked_of, meaning_of}
use Rattle.mc_request_reader.specs.Peeks.{front_by, IsAlone}
use Rattle.mc_request_reader.specs.declared.peeks.Front.{Front}
use Rattle.mc_request_reader.proofs.ReaderLemmas.{shown_is_first, shown_closes, shown_waits}
use Rattle.mc_request.specs.declared.parts.Parsed.{Parsed}
use Rattle.mc_server.specs.Rooms.{bound_of, taken_bound}
use Rattle.mc_server.proofs.RoomLemmas.{room_within}
use Rattle.mc_server.proofs.connections.Connection.turn_other.Goals as goal

-- the answer goes after what was sent
pub invariant_of-self-2 : goal.invariant_of-self-2
invariant_of-self-2 g c =
    let served = (c.in_ok-serve_within.ensures.served (ap (λ (b : Bool). Ok b) c.if-not-branch.false) 0).1 in
    let longer : length c.self.inside.output.items ≤ length c.serve_within.new.output.items = rw (served.answered, length-append) (omega arith) in
    omega (arith, c.serve_within.new.output.ok, c.self.inside.output.ok, longer)

-- what the line asks for is served and taken
pub returns-clause-turn : goal.returns-clause-turn
returns-clause-turn g c number =
    let what = asked_of c.in-Alone.asked in
    let front : Front = record { size = c.in-Line.line.size; closes = c.ends.result } in
    let front_is : front_by c.in-Line.line what ≡ front = ap (λ (b : Bool). record { size = c.in-Line.line.size; closes = b }) (sym c.ends.ensures) in
    let alone : IsAlone c.in-Line.line what = sym c.command_line.ensures ∙ ap meaning_of c.in-Alone.is in
    let seen = rw front_is at (c.in-Line.ensures.seen what alone) in
    let all = c.in_ok-serve_within.ensures.served (ap (λ (b : Bool). Ok b) c.if-not-branch.false) number in
    let served = all.1 in
    let sent : c.self.inside.sent ≤ length c.self.inside.output.items = omega (arith, c.self.inside.output.ok) in (
      what,
      record {
        first = rw (← c.self.view_is) (shown_is_first _ _ _ _ seen c.consume.ensures.taken);
        closed = shown_closes _ _ _ _ seen c.consume.ensures.taken;
        served = (
          all.0,
          record {
            legal = served.legal;
            cache = served.cache;
            answered = rw (← c.self.view_is, served.answered) (drop-append-le _ _ _ sent);
          },
        );
      },
    )

-- no more is written than was reported
pub returns-clause-bounded : goal.returns-clause-bounded
returns-clause-bounded g c =
    let what = asked_of c.in-Alone.asked in
    let alone : IsAlone c.in-Line.line what = sym c.command_line.ensures ∙ ap meaning_of c.in-Alone.is in
    let within = room_within what c.args.cache.now (c.in-Line.ensures.well_formed what alone) in
    let len = c.in_ok-serve_within.ensures.len in
    let waits = shown_waits _ _ _ (c.in-Line.ensures.seen what alone) in
    let bound : bound_of _ c.args.cache.now ≡ taken_bound what c.args.cache.now = ap (λ (ts : List Parsed). bound_of ts c.args.cache.now) waits in
    rw (← c.self.view_is) (omega (arith, within, len, bound, length-drop c.self.inside.sent c.serve_within.new.output.items, length-drop c.self.inside.sent c.self.inside.output.items, c.serve_within.new.output.ok, c.self.inside.output.ok))
