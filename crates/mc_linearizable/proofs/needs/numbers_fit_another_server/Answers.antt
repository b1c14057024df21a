use Rattle.mc_linearizable.proofs.JoinExample.{number_fits}
use Rattle.mc_linearizable.proofs.needs.numbers_fit_another_server.Goals as goal

pub returns : goal.returns
returns c = number_fits
