use Rattle.mc_linearizable.proofs.TwoRings.{shown_by_another}
use Rattle.mc_linearizable.proofs.examples.two_rings_show_older_values.Goals as goal

pub returns : goal.returns
returns c = shown_by_another
