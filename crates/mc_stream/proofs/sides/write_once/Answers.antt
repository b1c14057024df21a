use Rattle.mc_stream.proofs.SideLemmas.{writes_nothing}
use Rattle.mc_stream.proofs.sides.write_once.Goals as goal

pub returns-in-Err : goal.returns-in-Err
returns-in-Err g c = writes_nothing c.moved_nothing.result _ _ _ c.moved_nothing.ensures.nothing c.in-Err.ensures.bytes
