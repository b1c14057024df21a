-- What the parts of a round of a session's pump do.
use Rattle.std.specs.Prelude.{◌≡◌, ℕ, ◌+◌, ◌*◌, ◌<◌, ◌≤◌, ◌⊎◌, Bool, true, false, not, ◌&&◌, List, [], length, Option, None, Result}
use Rattle.mc_proxy.specs.FirstAndLast.{is_foreign_at}
use Rattle.mc_proxy.specs.SessionState.{SessionState}
use Rattle.mc_proxy.specs.declared.session_limits.TheConstants.{UNSENT_MARK}
use Rattle.mc_proxy.specs.declared.session_turns.SessionTurn.{SessionTurn}
use Rattle.mc_proxy.specs.declared.session_turns.SessionTurn.TheVariants as turns
use Rattle.mc_proxy.specs.ProxyState.{ProxyState, output_of, session_at, unanswered_of}
use Rattle.mc_proxy.specs.Turns.{waiting_of}
use Rattle.mc_stream.specs.Sides.{HowItCame, HowItWent}
use Rattle.mc_stream.specs.declared.outcomes.Pumped.{Pumped}
use Rattle.mc_proxy_pump.specs.Calls.{SessionStretch}
use Rattle.mc_proxy_pump.specs.Clients.{IsHeldUpAt, emitted_at, is_closed_at}
use Rattle.mc_proxy_pump.specs.Tallies.{Counts}

-- how much a session has to do: each request that is taken lessens it, and so does each answer that is emitted
abbrev pub work_of : Option SessionState → ℕ
work_of session = 2 * length (waiting_of session) + unanswered_of session

-- why no more is taken
abbrev pub StopsAt : SessionTurn → ProxyState → Option SessionState → Type 0
StopsAt turns.Took proxy session = ⊥
StopsAt turns.Idle proxy session = (waiting_of session ≡ []) × (is_closed_at session ≡ false)
StopsAt turns.Waiting proxy session = IsHeldUpAt proxy.ring proxy.links session
StopsAt turns.Closing proxy session = (waiting_of session ≡ []) × (is_closed_at session ≡ true)

-- whether nothing more will arrive, given why no more is taken: the input has ended, or is read no further
abbrev pub ends_by : SessionTurn → (ended : Bool) → Bool
ends_by turns.Idle ended = ended
ends_by turns.Closing ended = true
ends_by other ended = false

-- whether the input is read on, given why no more is taken and whether the mark of unsent bytes is reached
abbrev pub reads_by : SessionTurn → (ended marked : Bool) → Bool
reads_by turns.Idle ended marked = not ended && not marked
reads_by other ended marked = false

-- requests are taken until none can be, and no answer is counted
pub record TakesTurns (number : ℕ) (old new : ProxyState) (counts counts' : Counts) : Type 0 where
  pub stretch : SessionStretch number old new [] [] counts counts'
  pub uncounted : counts'.0 ≡ counts.0
  pub fewer : work_of (session_at new number) ≤ work_of (session_at old number)

-- no answer is known, or the unsent bytes have reached the mark
abbrev pub HasAnswered : Option SessionState → Type 0
HasAnswered session = (emitted_at session ≡ None) ⊎ (UNSENT_MARK ≤ length (output_of session))

-- whether answers were emitted so far
abbrev pub HowMany : Bool → ℕ → ProxyState → ProxyState → Type 0
HowMany true number old new = work_of (session_at new number) < work_of (session_at old number)
HowMany false number old new = new ≡ old

-- a session that has sent some of its output: all else of it is as it was
pub record IsSentOf (old new : Option SessionState) : Type 0 where
  pub waits : waiting_of new ≡ waiting_of old
  pub closed : is_closed_at new ≡ is_closed_at old
  pub foreign : is_foreign_at new ≡ is_foreign_at old
  pub known : emitted_at old ≡ None → emitted_at new ≡ None
  pub fewer : length (output_of new) ≤ length (output_of old)

-- a write of the unsent output: no answer is counted
pub record Sends (number : ℕ) (side : Result Bool Pumped) (old new : ProxyState) (written written' : Option (List ℕ)) (counts counts' : Counts) : Type 0 where
  pub went : List ℕ
  pub stretch : SessionStretch number old new [] went counts counts'
  pub uncounted : counts' ≡ counts
  pub how : HowItWent side written written' went (new ≡ old)
  pub same : IsSentOf (session_at old number) (session_at new number)

-- a read, which feeds the session: no answer is counted
pub record Receives (number : ℕ) (side : Result Bool Pumped) (old new : ProxyState) (unread unread' : Option (List ℕ)) (ended' : Bool) (counts counts' : Counts) : Type 0 where
  pub came : List ℕ
  pub stretch : SessionStretch number old new came [] counts counts'
  pub uncounted : counts' ≡ counts
  pub how : HowItCame side unread unread' ended' came (new ≡ old)
