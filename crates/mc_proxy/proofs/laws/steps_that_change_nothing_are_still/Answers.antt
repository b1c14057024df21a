use Rattle.mc_proxy.proofs.StepLemmas.{steps_still}
use Rattle.mc_proxy.proofs.laws.steps_that_change_nothing_are_still.Goals as goal

pub returns : goal.returns
returns c number old new step = steps_still number old new (λ _ _ _ _. Unit {0}) step
