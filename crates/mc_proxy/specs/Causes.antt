-- Why a call of a proxy fails if one of its parts fails.
use Rattle.mc_link.specs.declared.turns.LinkError.{LinkError}
use Rattle.mc_link.specs.declared.turns.LinkError.TheVariants as links
use Rattle.mc_ring.specs.declared.errors.RingError.{RingError}
use Rattle.mc_ring.specs.declared.errors.RingError.TheVariants as rings
use Rattle.mc_proxy.specs.declared.errors.ProxyError.{ProxyError}
use Rattle.mc_proxy.specs.declared.errors.ProxyError.TheVariants.{LinkState, Memory, RingFull, AlreadyThere}

abbrev pub of_link : LinkError → ProxyError
of_link links.State = LinkState
of_link links.Memory = Memory

-- a server joins a valid ring, by a valid address: it can be refused for two causes, or for lack of memory
abbrev pub of_ring : RingError → ProxyError
of_ring rings.NoServer = Memory
of_ring rings.TooMany = RingFull
of_ring rings.Doubled = AlreadyThere
of_ring rings.BadAddress = Memory
of_ring rings.Memory = Memory
