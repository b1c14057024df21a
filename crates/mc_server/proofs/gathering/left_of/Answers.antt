use Rattle.std.proofs.Common.{sym, arith}
use Rattle.std.proofs.lemmas.List.{drop_all}
use Rattle.mc_server.proofs.gathering.left_of.Goals as goal

-- nothing is left
pub returns-then-count-part-clause-left : goal.returns-then-count-part-clause-left
returns-then-count-part-clause-left c = sym (drop_all c.args.count c.args.part.now (omega arith))
