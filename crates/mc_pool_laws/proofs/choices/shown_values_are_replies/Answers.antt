use Rattle.mc_pool_laws.proofs.ChoiceLemmas.{shown_meta_missed, shown_missed, shown_told}
use Rattle.mc_pool_laws.proofs.choices.shown_values_are_replies.Goals as goal

pub returns-clause-missed : goal.returns-clause-missed
returns-clause-missed c = shown_missed

pub returns-clause-told : goal.returns-clause-told
returns-clause-told c = shown_told

pub returns-clause-meta_missed : goal.returns-clause-meta_missed
returns-clause-meta_missed c = shown_meta_missed
