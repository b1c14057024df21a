use Rattle.mc_stream.specs.declared.outcomes.Pumped.TheVariants.{Again}
use Rattle.mc_proxy_pump.specs.Links.{PumpsLink}
use Rattle.mc_proxy_pump.proofs.links.pump_link.Given as goal

-- the rounds so far are one pump
abbrev pub invariant-loop : goal.invariant-loop
invariant-loop g l = PumpsLink l.server Again l.fn.proxy l.proxy (g.R.Read.remaining l.fn.reader) (g.R.Read.remaining l.reader)
    (g.W.Write.contents l.fn.writer) (g.W.Write.contents l.writer) l.fn.woken.items l.woken.items
