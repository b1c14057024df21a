use Rattle.std.proofs.Common.{◌≡◌, ℕ, List, length, drop, refl, ap, arith}
use Rattle.std.proofs.lemmas.Result.{IfOk-weaker}
use Rattle.mc_request_reader.specs.Peeks.{get_of}
use Rattle.mc_request_reader.proofs.ReaderLemmas.{shown_is_first, shown_closes, shown_waits}
use Rattle.mc_request.specs.declared.parts.Parsed.{Parsed}
use Rattle.mc_server.specs.Rooms.{bound_of, taken_bound}
use Rattle.mc_server.proofs.GatherLemmas.{gathered_none, keeps_same}
use Rattle.mc_server.proofs.RoomLemmas.{room_within}
use Rattle.mc_server.proofs.connections.Connection.turn_gathering.Goals as goal

-- nothing is pending
pub returns-in-More-clause-turn : goal.returns-in-More-clause-turn
returns-in-More-clause-turn g c number =
    (refl, keeps_same _, rw (← c.self.view_is) (record { none = c.in-More.ensures.seen; cache = refl; output = refl }))

-- the answer may be too large
pub returns-then-is_passed_by_get-clause-turn : goal.returns-then-is_passed_by_get-clause-turn
returns-then-is_passed_by_get-clause-turn g c number = (refl, keeps_same _, (refl, c.self.view_is))

-- the answer goes after what was sent, or to the writer
pub returns-in_ok-reserve-in-Get-clause-turn : goal.returns-in_ok-reserve-in-Get-clause-turn
returns-in_ok-reserve-in-Get-clause-turn g c number =
    let seen = c.in-Get.ensures.seen in
    record {
      what = get_of c.in-Get.get;
      first = rw (← c.self.view_is) (shown_is_first _ _ _ _ seen c.consume.ensures.taken);
      closed = shown_closes _ _ _ _ seen c.consume.ensures.taken;
      put = rw (← c.self.view_is) (rw c.reserve.ensures.items at (c.serve_get-put.ensures.put number));
    }

pub returns-in_ok-reserve-in-Get-clause-bounded : goal.returns-in_ok-reserve-in-Get-clause-bounded
returns-in_ok-reserve-in-Get-clause-bounded g c =
    let seen = c.in-Get.ensures.seen in
    let good = c.in-Get.ensures.well_formed in
    let within = room_within (get_of c.in-Get.get) c.args.cache.now good in
    let len = c.serve_get-put.ensures.len in
    let waits = shown_waits _ _ _ seen in
    let bound : bound_of _ c.args.cache.now ≡ taken_bound (get_of c.in-Get.get) c.args.cache.now = ap (λ (ts : List Parsed). bound_of ts c.args.cache.now) waits in
    let size = ap (λ (bytes : List ℕ). length (drop c.self.inside.sent bytes)) c.reserve.ensures.items in
    rw (← c.self.view_is) (omega (arith, within, len, bound, size))

-- any other request is served as within a limit
pub returns-in-Line-clause-turn : goal.returns-in-Line-clause-turn
returns-in-Line-clause-turn g c number =
    IfOk-weaker c.turn_other.result _ _ (λ limited h. gathered_none number c.args.moment limited _ c.args.cache.now c.turn_other.new.cache c.args.self.now c.turn_other.new.self h) (c.turn_other.ensures.turn number)
