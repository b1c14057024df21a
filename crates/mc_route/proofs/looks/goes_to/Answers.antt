use Rattle.std.proofs.Common.{◌∙◌, sym}
use Rattle.mc_route.proofs.LookLemmas.{gets_go_to}
use Rattle.mc_route.proofs.looks.goes_to.Goals as goal

-- the owners of its keys decide
pub returns-in-Get : goal.returns-in-Get
returns-in-Get c = rw c.in-Get.is (rw c.again.ensures at c.keys_go_to.ensures ∙ sym (gets_go_to c.args.ring.now c.in-Get.exptime c.in-Get.with_cas c.args.place c.in-Get.keys))
