use Rattle.std.proofs.Common.{◌∷◌}
use Rattle.mc_route.specs.declared.outcomes.Outcome.TheVariants as outcomes
use Rattle.mc_route.proofs.LossLemmas.{joined-items, joined-meta, joined-meta_lost, shown-hit}
use Rattle.mc_route.proofs.laws.shown_values_are_replies.Goals as goal

pub returns-clause-items : goal.returns-clause-items
returns-clause-items c = joined-items

pub returns-clause-hits : goal.returns-clause-hits
returns-clause-hits c = shown-hit

pub returns-clause-meta : goal.returns-clause-meta
returns-clause-meta c = λ key get form reply others. joined-meta key get form (outcomes.Reply reply ∷ others)

pub returns-clause-meta_lost : goal.returns-clause-meta_lost
returns-clause-meta_lost c = joined-meta_lost
