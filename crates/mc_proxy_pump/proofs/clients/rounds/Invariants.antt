use Rattle.mc_stream.specs.declared.outcomes.Pumped.TheVariants.{Again}
use Rattle.mc_proxy_pump.specs.Clients.{PumpsClient}
use Rattle.mc_proxy_pump.specs.Tallies.{counts_of}
use Rattle.mc_proxy_pump.proofs.clients.rounds.Given as goal

-- the rounds so far are one pump
abbrev pub invariant-loop : goal.invariant-loop
invariant-loop g l = PumpsClient l.session Again l.fn.proxy l.proxy (g.R.Read.remaining l.fn.reader) (g.R.Read.remaining l.reader)
    (g.W.Write.contents l.fn.writer) (g.W.Write.contents l.writer) l.fn.ended l.ended (counts_of l.fn.tally) (counts_of l.tally)
