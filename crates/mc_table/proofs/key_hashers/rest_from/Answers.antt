use Rattle.std.specs.Prelude.{◌-◌, length}
use borrow.Author.Tests.{le-leb, lt-leb, lt-ltb, le-ltb}
use Rattle.mc_table.specs.Hashes.{rest_from}
use Rattle.mc_table.proofs.key_hashers.rest_from.Goals as goal

pub returns-then-len-ge4 : goal.returns-then-len-ge4
unfolding rest_from
returns-then-len-ge4 c = rw (c.half_at.ensures, c.half_at-then-len-ge4.ensures, le-leb 4 (length c.args.bytes.now - c.args.at) c.if-len-ge4.true)

pub returns-then-len-gt0 : goal.returns-then-len-gt0
unfolding rest_from
returns-then-len-gt0 c = rw (lt-leb 4 (length c.args.bytes.now - c.args.at) c.if-len-ge4.false, lt-ltb 0 (length c.args.bytes.now - c.args.at) c.if-len-gt0.true)

pub returns-else-len-gt0 : goal.returns-else-len-gt0
unfolding rest_from
returns-else-len-gt0 c = rw (lt-leb 4 (length c.args.bytes.now - c.args.at) c.if-len-ge4.false, le-ltb 0 (length c.args.bytes.now - c.args.at) c.if-len-gt0.false)
