use Rattle.mc_linearizable.proofs.LinearLemmas.{run_homes, run_linearizable}
use Rattle.mc_linearizable.proofs.laws.every_run_is_linearizable.Goals as goal

pub returns-clause-linearizable : goal.returns-clause-linearizable
returns-clause-linearizable c = run_linearizable

pub returns-clause-homes : goal.returns-clause-homes
returns-clause-homes c = run_homes
