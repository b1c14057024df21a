use Rattle.mc_route.proofs.KeptLemmas.{joined-kept, join_room-kept, with-kept}
use Rattle.mc_route.proofs.laws.blocks_play_no_part.Goals as goal

pub returns-clause-answer : goal.returns-clause-answer
returns-clause-answer c = joined-kept

pub returns-clause-with_losses : goal.returns-clause-with_losses
returns-clause-with_losses c = with-kept

pub returns-clause-room : goal.returns-clause-room
returns-clause-room c = join_room-kept
