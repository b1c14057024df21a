use Rattle.std.proofs.Common.{false, refl, arith}
use Rattle.mc_server.proofs.RoomLemmas.{keys_room-shrinks}
use Rattle.mc_server.proofs.GetLemmas.{good_keys, serving_none, serving_more, serving_all}
use Rattle.mc_server.proofs.answering.serve_keys.Goals as goal

-- no key is served yet
pub loop-key-init : goal.loop-key-init
loop-key-init g c =
    rw c.into_iter-key-iterator.ensures.into_iter_gives (record {
      good = c.requires.plain;
      served = serving_none c.args.keys c.args.exptime c.args.with_cas c.args.moment c.args.cache.now c.args.output.now.items;
      room = c.requires.room;
      len = omega arith;
      work = refl;
      bound = omega arith;
    })

-- one key more
pub loop-key-preserved : goal.loop-key-preserved
loop-key-preserved g c =
    let facts = c.serve_key.ensures in
    let left = c.next.new.self in
    let key = c.in-Some.key.now in
    let shrinks = keys_room-shrinks 384 left c.loop-key.cache c.serve_key.new.cache facts.shrinks in
    let room = rw c.in-Some.ensures.steps at c.loop-key.invariant.room in
    let len = rw c.in-Some.ensures.steps at c.loop-key.invariant.len in
    let count = rw c.in-Some.ensures.steps at c.loop-key.invariant.work in
    record {
      good = (good_keys c.loop-key.key-iterator left key c.in-Some.ensures.steps c.loop-key.invariant.good).1;
      served = serving_more c.args.keys left key c.args.exptime c.args.with_cas c.args.moment c.args.cache.now c.loop-key.cache c.serve_key.new.cache
          c.args.output.now.items c.loop-key.output.items c.serve_key.new.output.items facts.cache facts.answered
          (rw c.in-Some.ensures.steps at c.loop-key.invariant.served);
      room = omega (arith, room, shrinks, facts.len, facts.room);
      len = omega (arith, len, shrinks, facts.len);
      work = grind (arith, count, c.saturating_add-work.ensures, c.loop-key.invariant.bound);
      bound = grind (arith, c.saturating_add-work.ensures);
    }

-- each key is served, and the end is written
pub returns-clause-served : goal.returns-clause-served
returns-clause-served g c number =
    let none = c.in-None.ensures.steps.0 in
    let written = rw c.unwrap.ensures at c.write_end.ensures.ok in (
      false,
      serving_all number c.args.keys c.args.exptime c.args.with_cas c.args.moment c.args.cache.now c.loop-key.cache
          c.args.output.now.items c.loop-key.output.items c.write_end.new.out.items (rw none at c.loop-key.invariant.served) written,
    )
