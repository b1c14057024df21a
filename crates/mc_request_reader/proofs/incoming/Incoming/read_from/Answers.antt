use Rattle.std.proofs.Common.{◌≡◌, ◌∙◌, ◌<◌, ◌≤◌, ◌+◌, length, take, ap, arith, rules}
use Rattle.std.proofs.lemmas.Bool.Decides.{nat_tests}
use Rattle.std.proofs.lemmas.List.{with_items_is, places}
use Rattle.mc_request_reader.proofs.ReadLemmas.{reads_behind}
use Rattle.mc_request_reader.proofs.incoming.Incoming.read_from.Goals as goal

-- what was read is behind what had arrived
pub returns-clause-read : goal.returns-clause-read
returns-clause-read g c =
    let r = c.self.inside in
    let read = c.read_behind-read in
    let some : 0 < c.next_read-room.result = grind (arith, nat_tests) in
    let inside : r.come + c.next_read-room.result ≤ length c.widen.new.bytes.items = omega (arith, c.if-not-widen.ensures.enough, c.widen.new.bytes.ok.0) in
    let same : length read.new.bytes ≡ length c.widen.new.bytes.items = read.ensures.same ∙ ap length c.as_mut_slice.ensures.value in
    let front = read.ensures.front ∙ ap (take r.come) c.as_mut_slice.ensures.value in
    rw (← c.self.view_is, with_items_is c.widen.new.bytes read.new.bytes (search (rules, places)))
    (reads_behind read.result _ _ r.come c.next_read-room.result c.count_of.result r.bytes.items c.widen.new.bytes.items read.new.bytes
    some inside same front c.widen.ensures.kept read.ensures.within read.ensures.given c.count_of.ensures.some c.count_of.ensures.none)
