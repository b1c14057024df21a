-- An acceptor: what contracts see of a listener, and what accepting does to it. All of it is this project's own.
use Rattle.std.specs.Prelude.{◌≡◌, ◌+◌, ◌-◌, ◌^◌, ◌&&◌, ℕ, Bool, true, false, Option, Some, None, min, nat_lt, nat_le}
use Rattle.mc_net.specs.declared.acceptors.Backlog.{Backlog}
use Rattle.mc_net.specs.declared.acceptors.Backlog.TheVariants.{Nobody, More, Refused}

-- what contracts see of an acceptor
pub record AcceptorState : Type 0 where
  -- how many connections it accepts in all; 0 for no limit
  pub limit : ℕ
  pub accepted : ℕ
  pub backlog : Backlog

-- more connections may wait, and the system gives none now
abbrev pub is_refused : Backlog → Bool
is_refused (Refused error) = true
is_refused _ = false

-- an acceptor that has accepted no connection
abbrev pub new_acceptor : ℕ → AcceptorState
new_acceptor limit = record { limit = limit; accepted = 0; backlog = Nobody }

-- the listener was reported
abbrev pub reported : AcceptorState → AcceptorState
reported acceptor = record acceptor { backlog = More }

-- as many as the limit were accepted
abbrev pub is_shut : AcceptorState → Bool
is_shut acceptor = nat_lt 0 acceptor.limit && nat_le acceptor.limit acceptor.accepted

-- one was accepted: it is counted, as far as 64 bits count, and there may be more
abbrev pub passed : AcceptorState → AcceptorState
passed acceptor = record acceptor { accepted = min (acceptor.accepted + 1) (2 ^ 64 - 1); backlog = More }

-- What a call of an acceptor does. It accepts a connection only if the acceptor is not shut, and counts it. If it accepts none, all
-- that may change is what is known of the waiting connections, and for an acceptor that is shut none waits.
abbrev pub IsAccept : {A : Type 0} → Option A → (old new : AcceptorState) → Type 0
IsAccept (Some stream) old new = (is_shut old ≡ false) × (new ≡ passed old)
IsAccept None old new = (new ≡ record old { backlog = new.backlog }) × (is_shut old ≡ true → new.backlog ≡ Nobody)
