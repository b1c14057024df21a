-- What a drain adds to a log: this project's own.
use Rattle.std.specs.Prelude.{ℕ, ◌==◌, Bool, true, false}
use Rattle.mc_world.specs.declared.events.Event.TheVariants.{ClientTakes, Emit, ProxyTurn, ReplyTurn, ServerSeesEnd, ServerTurn, ToProxy, ToServer}
use Rattle.mc_world.specs.declared.logs.Logged.{Logged}
use Rattle.mc_world.specs.declared.logs.Logged.TheVariants.{Happened}

-- A turn of a proxy, of a server at this moment, bytes that move, a reply that is taken, an answer that is emitted or taken, and the end of a
-- lost generation. No client sends or goes, no link is lost or comes up, and no server joins or restarts.
abbrev pub is_of_drain_at : ℕ → Logged → Bool
is_of_drain_at moment (Happened (ProxyTurn client)) = true
is_of_drain_at moment (Happened (ToServer proxy server generation count)) = true
is_of_drain_at moment (Happened (ServerTurn proxy server generation at)) = at == moment
is_of_drain_at moment (Happened (ToProxy proxy server count)) = true
is_of_drain_at moment (Happened (ReplyTurn proxy server)) = true
is_of_drain_at moment (Happened (Emit client)) = true
is_of_drain_at moment (Happened (ClientTakes client count)) = true
is_of_drain_at moment (Happened (ServerSeesEnd proxy server generation)) = true
is_of_drain_at moment other = false
