use Rattle.mc_pool_script.proofs.PlayLemmas.{PlayedTo}
use Rattle.mc_pool_script.proofs.plays.played_script.Given as goal

-- the lines so far were played
abbrev pub invariant-loop-line : goal.invariant-loop-line
invariant-loop-line g l = PlayedTo l.script l.line-index l.steps.items l.world
