use Rattle.mc_pump.proofs.LawLemmas.{holds_after_stretch}
use Rattle.mc_pump.proofs.laws.servers_hold_after_a_stretch.Goals as goal

pub returns : goal.returns
returns c = holds_after_stretch
