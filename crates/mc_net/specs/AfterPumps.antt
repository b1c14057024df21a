-- What is done with a client after its pump. All of it is this project's own.
use Rattle.mc_stream.specs.declared.outcomes.Pumped.{Pumped}
use Rattle.mc_stream.specs.declared.outcomes.Pumped.TheVariants.{Again, Blocked}
use Rattle.mc_net.specs.declared.after_pumps.AfterPump.{AfterPump}
use Rattle.mc_net.specs.declared.after_pumps.AfterPump.TheVariants.{GoOn, Wait, Close}

-- one that may go on does, one that is blocked waits, and one that is over or has failed is closed
abbrev pub step_after : Pumped → AfterPump
step_after Again = GoOn
step_after Blocked = Wait
step_after other = Close
