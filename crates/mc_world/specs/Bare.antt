-- An event as a log keeps it.
use Rattle.std.specs.Prelude.{ℕ, List}
use Rattle.mc_world.specs.declared.events.Event.{Event}
use Rattle.mc_world.specs.declared.events.Event.TheVariants.{ClientBytes, ClientGone, ClientTakes, Emit, LinkBack, LinkLost, ProxyTurn, ReplyTurn, ServerSeesEnd, ServerTurn, ToProxy, ToServer}

-- an event without the bytes of a client
abbrev pub bare : Event (List ℕ) → Event (Unit {0})
bare (ClientBytes client bytes) = ClientBytes client tt
bare (ClientGone client) = ClientGone client
bare (ProxyTurn client) = ProxyTurn client
bare (ToServer proxy server generation count) = ToServer proxy server generation count
bare (ServerTurn proxy server generation moment) = ServerTurn proxy server generation moment
bare (ToProxy proxy server count) = ToProxy proxy server count
bare (ReplyTurn proxy server) = ReplyTurn proxy server
bare (Emit client) = Emit client
bare (ClientTakes client count) = ClientTakes client count
bare (LinkLost proxy server) = LinkLost proxy server
bare (LinkBack proxy server) = LinkBack proxy server
bare (ServerSeesEnd proxy server generation) = ServerSeesEnd proxy server generation
