-- What a pump of a link does between a proxy and the two sides of its server's stream.
use Rattle.std.specs.Prelude.{◌≡◌, ℕ, Bool, true, false, List, Option}
use Rattle.mc_link.specs.LinkState.{LinkState}
use Rattle.mc_link.specs.Turns.{IsIdle}
use Rattle.mc_proxy.specs.SessionState.{link_at}
use Rattle.mc_proxy.specs.ProxyState.{ProxyState}
use Rattle.mc_stream.specs.Sides.{CarriesBy}
use Rattle.mc_stream.specs.declared.outcomes.Pumped.{Pumped}
use Rattle.mc_stream.specs.declared.outcomes.Pumped.TheVariants.{Again, Blocked, Done, Failed}
use Rattle.mc_proxy_pump.specs.LinkCalls.{LinkStretch}

-- how a link is left: up unless the pump failed, and blocked or done if no whole reply waits
abbrev pub LeavesLink : Pumped → LinkState → Type 0
LeavesLink Again link = link.up ≡ true
LeavesLink Blocked link = (link.up ≡ true) × IsIdle link.waiting link.unread
LeavesLink Done link = (link.up ≡ true) × IsIdle link.waiting link.unread
LeavesLink Failed link = Unit {0}

-- whether a pump of a link is done, as it is if the input has ended
abbrev pub is_done : Pumped → Bool
is_done Done = true
is_done other = false

-- What a pump of the link at a place does: calls for it, and nothing else. The bytes that arrived are those that the reader
-- gave, or a prefix of them if the pump failed, and all of them if it is done. The bytes that were sent are those that the
-- writer took. The sessions that it woke are after those that were woken before.
pub record PumpsLink (place : ℕ) (pump : Pumped) (old new : ProxyState) (unread unread' written written' : Option (List ℕ)) (woken woken' : List ℕ) : Type 0 where
  pub came : List ℕ
  pub went : List ℕ
  pub stretch : LinkStretch place old new came went woken woken'
  pub carried : CarriesBy pump unread unread' written written' false (is_done pump) came went
  pub left : LeavesLink pump (link_at new.links place)
