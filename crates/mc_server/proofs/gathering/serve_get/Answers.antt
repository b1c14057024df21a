use Rattle.std.proofs.Common.{◌≤◌, [], length, length-append, arith}
use Rattle.mc_server.proofs.GatherLemmas.{puts_none, served_behind}
use Rattle.mc_server.proofs.GetLemmas.{good_keys}
use Rattle.mc_server.proofs.gathering.serve_get.Goals as goal

-- the only key is a good one
pub serve_lone-requires-clause-plain : goal.serve_lone-requires-clause-plain
serve_lone-requires-clause-plain g c = (good_keys c.args.keys [] c.in-Some.key.now c.in-Some.ensures c.requires.plain).0

pub serve_lone-requires-clause-room : goal.serve_lone-requires-clause-room
serve_lone-requires-clause-room g c = rw c.in-Some.ensures at c.requires.room

-- its answer is that of all keys
pub returns-clause-put : goal.returns-clause-put
returns-clause-put g c number = rw c.in-Some.ensures (c.serve_lone.ensures.put number)

pub returns-clause-len : goal.returns-clause-len
returns-clause-len g c = rw c.in-Some.ensures c.serve_lone.ensures.len

-- all goes after what is unsent
pub returns-2-clause-put : goal.returns-2-clause-put
returns-2-clause-put g c number =
    puts_none number c.args.moment _ c.args.cache.now c.serve_keys-work.new.cache _ _ _
    (served_behind number c.args.moment c.args.sent c.args.cache.now c.serve_keys-work.new.cache _ c.args.output.now.items c.serve_keys-work.new.output.items (omega arith)
    (c.serve_keys-work.ensures.served number))

pub returns-2-clause-half : goal.returns-2-clause-half
returns-2-clause-half g c =
    let served = (c.serve_keys-work.ensures.served 0).1 in
    let longer : length c.args.output.now.items ≤ length c.serve_keys-work.new.output.items = rw (served.answered, length-append) (omega arith) in
    omega (arith, c.serve_keys-work.new.output.ok, c.args.output.now.ok, longer, c.requires.half)
