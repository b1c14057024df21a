-- A session with a pending request or an unsent answer, and the effect of sending its answers.
use Rattle.std.proofs.Common.{◌≡◌, refl, ℕ, Bool, true, false, List, [], Option, Some, None, IsSome, Result, Ok, Err}
use Rattle.mc_proxy.specs.SessionState.{SessionState}
use Rattle.mc_proxy.specs.ProxyState.{ProxyState}
use Rattle.mc_stream.specs.declared.outcomes.Pumped.{Pumped}
use Rattle.mc_stream.specs.declared.outcomes.Pumped.TheVariants.{Again}
use Rattle.mc_stream.specs.Sides.{pump_of}
use Rattle.mc_proxy_pump.specs.Calls.{SessionStretch}
use Rattle.mc_proxy_pump.specs.Clients.{PumpsClient, has_pending_at}
use Rattle.mc_proxy_pump.specs.Tallies.{Counts}
use Rattle.mc_proxy_pump.specs.Rounds.{Sends}
use Rattle.mc_proxy_pump.proofs.PumpLemmas.{pumps_then, pumps_turns, pumps_unsent, stopped}

-- such a session is open
pub pending_is_open : (session : Option SessionState) → has_pending_at session ≡ true → IsSome session
pending_is_open None pending = let clash : false ≡ true = pending in absurd cc
pending_is_open (Some session) pending = refl

-- answers, and then a write
pub answered : (number : ℕ) (side : Result Bool Pumped) (a b c : ProxyState) (unread written written' : Option (List ℕ)) (ended : Bool) (first second third : Counts)
    → SessionStretch number a b [] [] first second → Sends number side b c written written' second third
    → PumpsClient number (pump_of side) a c unread unread written written' ended ended first third
answered number (Ok moved) a b c unread written written' ended first second third put sent = stopped number moved Again a b c unread written written' ended first second third put sent tt
answered number (Err pump) a b c unread written written' ended first second third put sent =
    pumps_then number pump a b c unread unread unread written written written' ended ended ended first second third
    (pumps_turns number Again a b unread written ended first second put tt) (pumps_unsent number pump b c unread written written' ended second third sent)
