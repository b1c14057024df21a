use Rattle.std.proofs.Common.{◌≡◌, length, slice_set, arith}
use Rattle.std.proofs.lemmas.List.{drop-set, drop_all, length-set}
use Rattle.mc_reply.proofs.appends.put_line_end.Goals as goal

pub returns-clause-put : goal.returns-clause-put
returns-clause-put c =
    let bytes = c.args.numbers.now in
    let feed = slice_set bytes 64 10 in
    let long : length feed ≡ length bytes = length-set bytes 64 10 in
    rw (drop-set feed 63 13 (omega arith), drop-set bytes 64 10 (omega arith), drop_all 65 bytes (omega arith))
