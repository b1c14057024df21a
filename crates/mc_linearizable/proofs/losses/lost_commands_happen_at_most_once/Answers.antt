use Rattle.mc_linearizable.proofs.OnceLemmas.{once_or_never}
use Rattle.mc_linearizable.proofs.losses.lost_commands_happen_at_most_once.Goals as goal

pub returns : goal.returns
returns c home losses ring opening texts outs histories log account = once_or_never home losses ring opening account.0 texts outs histories log account.1
