use Rattle.std.proofs.Common.{take}
use Rattle.mc_threads.specs.Accounts.{joined}
use Rattle.mc_threads.specs.Talks.{HasFed}
use Rattle.mc_threads.proofs.opening.feed_all.Given as goal

-- the first pieces arrived
abbrev pub invariant-loop-place : goal.invariant-loop-place
invariant-loop-place l = HasFed l.fn.client (joined (take l.place l.fn.pieces.items)) l.initial.proxy l.proxy
