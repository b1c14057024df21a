use Rattle.std.proofs.Common.{[]}
use Rattle.mc_threads.specs.Accounts.{texts_of}
use Rattle.mc_threads.specs.Talks.{Talks}
use Rattle.mc_threads.proofs.AtLemmas.{below}
use Rattle.mc_threads.proofs.opening.opened_proxy.Given as goal

-- the first clients were admitted, and their texts arrived
abbrev pub invariant-loop-client : goal.invariant-loop-client
invariant-loop-client l = Talks l.fn.ring l.client (below l.client (texts_of l.fn.inputs)) (λ _. []) (λ _. []) (λ _. []) l.proxy
