use Rattle.mc_linearizable.proofs.EarlyGet.{early_and_older}
use Rattle.mc_linearizable.proofs.needs.early_gets_show_older_values.Goals as goal

pub returns : goal.returns
returns c = early_and_older
