use Rattle.mc_world.proofs.Course.DoneLemmas.{course_done}
use Rattle.mc_world.proofs.world_laws.courses_go_on.Goals as goal

pub returns : goal.returns
returns c = course_done
