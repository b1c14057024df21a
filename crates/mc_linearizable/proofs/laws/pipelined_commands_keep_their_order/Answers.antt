use Rattle.mc_linearizable.proofs.PipelineLemmas.{in_order}
use Rattle.mc_linearizable.proofs.laws.pipelined_commands_keep_their_order.Goals as goal

pub returns : goal.returns
returns c = in_order
