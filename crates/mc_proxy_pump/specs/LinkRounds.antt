-- What the parts of a round of a link's pump do.
use Rattle.std.specs.Prelude.{◌≡◌, ℕ, ◌<◌, Bool, true, false, List, [], length, Option, Result, Ok, Err}
use Rattle.mc_link.specs.Turns.{IsIdle}
use Rattle.mc_link.specs.LinkState.{LinkState}
use Rattle.mc_proxy.specs.SessionState.{link_at}
use Rattle.mc_proxy.specs.ProxyState.{ProxyState}
use Rattle.mc_stream.specs.Sides.{HowItCame, HowItWent}
use Rattle.mc_stream.specs.declared.outcomes.Pumped.{Pumped}
use Rattle.mc_stream.specs.declared.outcomes.Pumped.TheVariants.{Failed}
use Rattle.mc_proxy_pump.specs.LinkCalls.{LinkStretch}

-- a write of a link's output
pub record SendsLink (place : ℕ) (side : Result Bool Pumped) (old new : ProxyState) (written written' : Option (List ℕ)) : Type 0 where
  pub went : List ℕ
  pub stretch : (woken : List ℕ) → LinkStretch place old new [] went woken woken
  pub how : HowItWent side written written' went (new ≡ old)
  pub still_up : (link_at new.links place).up ≡ true

-- a read, which feeds a link
pub record ReceivesLink (place : ℕ) (side : Result Bool Pumped) (old new : ProxyState) (unread unread' : Option (List ℕ)) (ended' : Bool) : Type 0 where
  pub came : List ℕ
  pub stretch : (woken : List ℕ) → LinkStretch place old new came [] woken woken
  pub how : HowItCame side unread unread' ended' came (new ≡ old)
  pub still_up : (link_at new.links place).up ≡ true

-- how a turn leaves a link: one command fewer is pending, or no whole reply has arrived; the pump fails if the turn was refused or lost
-- the link
abbrev pub HowItTurned : Result Bool Pumped → LinkState → LinkState → Type 0
HowItTurned (Ok true) old new = (new.up ≡ true) × (length new.waiting < length old.waiting)
HowItTurned (Ok false) old new = (new.up ≡ true) × IsIdle new.waiting new.unread
HowItTurned (Err pump) old new = pump ≡ Failed

-- a turn of a link
pub record TakesReply (place : ℕ) (side : Result Bool Pumped) (old new : ProxyState) (woken woken' : List ℕ) : Type 0 where
  pub stretch : LinkStretch place old new [] [] woken woken'
  pub how : HowItTurned side (link_at old.links place) (link_at new.links place)

-- how turns leave a link: no whole reply has arrived
abbrev pub HowTheyTurned : Result (Unit {0}) Pumped → LinkState → Type 0
HowTheyTurned (Ok u) link = (link.up ≡ true) × IsIdle link.waiting link.unread
HowTheyTurned (Err pump) link = pump ≡ Failed

-- turns of a link
pub record TakesReplies (place : ℕ) (side : Result (Unit {0}) Pumped) (old new : ProxyState) (woken woken' : List ℕ) : Type 0 where
  pub stretch : LinkStretch place old new [] [] woken woken'
  pub how : HowTheyTurned side (link_at new.links place)
