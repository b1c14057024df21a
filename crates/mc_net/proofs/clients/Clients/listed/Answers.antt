use Rattle.std.proofs.Common.{rules, ◌≡◌, Some, length}
use Rattle.slab.specs.Slab.{get}
use Rattle.mc_net.specs.declared.conns.TheConstants.{LIST_LEN}
use Rattle.mc_net.proofs.ListLemmas.{full_at}
use Rattle.mc_net.proofs.clients.Clients.listed.Goals as goal

-- the list is full, and a client is to come
pub returns-then-len-eq-LIST_LEN-clause-conns : goal.returns-then-len-eq-LIST_LEN-clause-conns
returns-then-len-eq-LIST_LEN-clause-conns g c =
    let full : length c.loop-place.conns.items ≡ LIST_LEN = search in
    let found : get c.args.self.now.slots c.loop-place.place ≡ Some c.in-Some.slot.now = search (rules) in
    (full_at c.args.self.now.slots c.args.moment c.args.from c.loop-place.place c.args.self.now.most c.in-Some.slot.now c.loop-place.conns.items
    c.loop-place-test.true found full c.loop-place.invariant.shown).0

pub returns-then-len-eq-LIST_LEN-clause-next : goal.returns-then-len-eq-LIST_LEN-clause-next
returns-then-len-eq-LIST_LEN-clause-next g c =
    let full : length c.loop-place.conns.items ≡ LIST_LEN = search in
    let found : get c.args.self.now.slots c.loop-place.place ≡ Some c.in-Some.slot.now = search (rules) in
    (full_at c.args.self.now.slots c.args.moment c.args.from c.loop-place.place c.args.self.now.most c.in-Some.slot.now c.loop-place.conns.items
    c.loop-place-test.true found full c.loop-place.invariant.shown).1
