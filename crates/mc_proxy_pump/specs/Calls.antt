-- Calls for one session of a proxy, in sequence: this project's own.
use Rattle.std.specs.Prelude.{◌≡◌, ℕ, ◌-◌, ◌<◌, ◌≤◌, Bool, false, List, [], ◌∷◌, ◌++◌, length, take, Option, IsSome}
use Rattle.mc_proxy.specs.Emits.{IsEmit}
use Rattle.mc_proxy.specs.FirstAndLast.{is_foreign_at}
use Rattle.mc_proxy.specs.SessionTurns.{IsFed, IsTurn}
use Rattle.mc_proxy.specs.declared.session_limits.TheConstants.{UNSENT_MARK}
use Rattle.mc_proxy.specs.declared.session_turns.Emit.TheVariants.{Done, Idle}
use Rattle.mc_proxy.specs.declared.session_turns.SessionTurn.{SessionTurn}
use Rattle.mc_proxy.specs.ProxyState.{ProxyState, output_of, sent_by, session_at}
use Rattle.mc_proxy.specs.Turns.{Alone, Steps, hides_loss_at, waiting_of}
use Rattle.mc_proxy_pump.specs.Tallies.{Counts, counted}
use Rattle.mc_proxy_pump.specs.Work.{emit_work, turn_work}

-- a call for a session
pub data Call : Type 0 where
  -- it is fed these bytes, which its client sent
  Fed : List ℕ → Call
  -- it takes a turn, which costs this much work
  Turned : SessionTurn → ℕ → Call
  -- an answer is emitted, which hides a loss or not, and costs this much work
  Emitted : Bool → ℕ → Call
  -- no answer is known, and none is emitted
  Rested : Call
  -- the first bytes of its output are consumed, by their number and the bytes themselves: they were sent to its client
  Sent : ℕ → List ℕ → Call

-- What a call for the session of a number does to the proxy. It is fed only if no whole request waits, and only while less is unsent
-- than the mark. Likewise an answer is emitted, or found not to be known, only while less is unsent than the mark. It takes a turn only
-- if its unread bytes do not name a host.
abbrev pub IsCall : ℕ → Call → ProxyState → ProxyState → Type 0
IsCall number (Fed came) old new =
    Steps number old new (Alone (IsFed came)) × (waiting_of (session_at old number) ≡ []) × (length (output_of (session_at old number)) < UNSENT_MARK)
IsCall number (Turned turn work) old new =
    Steps number old new (IsTurn number turn old.ring old.losses) × (is_foreign_at (session_at old number) ≡ false) × (work ≡ turn_work turn (session_at new number))
IsCall number (Emitted hides work) old new =
    Steps number old new (Alone (IsEmit Done)) × (length (output_of (session_at old number)) < UNSENT_MARK) × (hides ≡ hides_loss_at (session_at old number))
    × (work ≡ emit_work (session_at old number) (session_at new number))
IsCall number Rested old new = Steps number old new (Alone (IsEmit Idle)) × (length (output_of (session_at old number)) < UNSENT_MARK)
IsCall number (Sent count went) old new =
    (count ≤ length (output_of (session_at old number))) × (went ≡ take count (output_of (session_at old number))) × (new ≡ sent_by number count (session_at old number) old)

-- the calls in sequence, from a proxy to the state that they leave
abbrev pub Calls : ℕ → List Call → ProxyState → ProxyState → Type 0
Calls number [] old new = new ≡ old
Calls number (call ∷ calls) old new = (middle : ProxyState) × (IsCall number call old middle × Calls number calls middle new)

-- the bytes that arrived by a call, and those that were sent
abbrev pub came_by : Call → List ℕ
came_by (Fed came) = came
came_by other = []

abbrev pub went_by : Call → List ℕ
went_by (Sent count went) = went
went_by other = []

-- the bytes that arrived by calls, joined, and those that were sent
abbrev pub came_of : List Call → List ℕ
came_of [] = []
came_of (call ∷ calls) = came_by call ++ came_of calls

abbrev pub went_of : List Call → List ℕ
went_of [] = []
went_of (call ∷ calls) = went_by call ++ went_of calls

-- the count of requests whose answers hide a loss, after calls: each such answer that they emit is counted, and nothing else
abbrev pub missed_by : List Call → Option ℕ → Option ℕ
missed_by [] missed = missed
missed_by (Emitted hides work ∷ calls) missed = missed_by calls (counted hides missed)
missed_by (other ∷ calls) missed = missed_by calls missed

-- the work of a call
abbrev pub work_by : Call → ℕ
work_by (Turned turn work) = work
work_by (Emitted hides work) = work
work_by other = 0

-- Calls that spend work: a call that costs work is made only while some is left of this. What they cost is taken from it, down to none,
-- and the other is left. So all but the last that cost work cost less together.
abbrev pub Spends : List Call → ℕ → ℕ → Type 0
Spends [] left left' = left' ≡ left
Spends (call ∷ calls) left left' = (0 < work_by call → 0 < left) × Spends calls (left - work_by call) left'

-- Calls for an open session by which these bytes arrived and these were sent. They take the one count of answers that hide a loss to
-- the other, and spend the work that the one count leaves, down to what the other leaves. The session is open after them.
pub record SessionStretch (number : ℕ) (old new : ProxyState) (came went : List ℕ) (counts counts' : Counts) : Type 0 where
  pub calls : List Call
  pub chain : Calls number calls old new
  pub came_is : came_of calls ≡ came
  pub went_is : went_of calls ≡ went
  pub missed_is : missed_by calls counts.0 ≡ counts'.0
  pub spends : Spends calls counts.1 counts'.1
  pub still_open : IsSome (session_at new number)
