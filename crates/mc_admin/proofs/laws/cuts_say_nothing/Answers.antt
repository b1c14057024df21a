use Rattle.mc_admin.proofs.InboxLemmas.{taking_cut}
use Rattle.mc_admin.proofs.laws.cuts_say_nothing.Goals as goal

pub returns : goal.returns
returns c = λ s front more. taking_cut s front more
