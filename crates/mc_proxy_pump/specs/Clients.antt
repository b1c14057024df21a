-- What a pump of a session does between a proxy and the two sides of its client's stream.
use Rattle.std.specs.Prelude.{◌≡◌, ℕ, ◌<◌, ◌≤◌, ◌⊎◌, ◌||◌, nat_lt, Bool, true, false, List, [], length, Option, Some, None}
use Rattle.mc_ring.specs.Rings.{RingState}
use Rattle.mc_link.specs.LinkState.{LinkState}
use Rattle.mc_proxy.specs.Emits.{emitted}
use Rattle.mc_proxy.specs.FirstAndLast.{is_foreign_at}
use Rattle.mc_proxy.specs.SessionState.{SessionState}
use Rattle.mc_proxy.specs.SessionTurns.{IsHeldUp}
use Rattle.mc_proxy.specs.declared.session_limits.TheConstants.{UNSENT_MARK}
use Rattle.mc_proxy.specs.ProxyState.{ProxyState, output_of, session_at, unanswered_of}
use Rattle.mc_proxy.specs.Turns.{waiting_of}
use Rattle.mc_stream.specs.Sides.{CarriesBy}
use Rattle.mc_stream.specs.declared.outcomes.Pumped.{Pumped}
use Rattle.mc_stream.specs.declared.outcomes.Pumped.TheVariants.{Blocked, Done, Failed}
use Rattle.mc_proxy_pump.specs.Calls.{SessionStretch}
use Rattle.mc_proxy_pump.specs.Tallies.{Counts}

-- whether a session is closed to input; false if it is not open
abbrev pub is_closed_at : Option SessionState → Bool
is_closed_at None = false
is_closed_at (Some session) = session.reader.closed

-- the first request or fault of a session must wait for a mark; false if it is not open
abbrev pub IsHeldUpAt : RingState → List LinkState → Option SessionState → Type 0
IsHeldUpAt ring links None = ⊥
IsHeldUpAt ring links (Some session) = IsHeldUp ring links session

-- whether a request of a session is not answered, or an answer not sent; false if it is not open
abbrev pub has_pending_at : Option SessionState → Bool
has_pending_at session = nat_lt 0 (unanswered_of session) || nat_lt 0 (length (output_of session))

-- a session after its next answer is emitted, if that is known: none if it is not known, or the session not open
abbrev pub emitted_at : Option SessionState → Option SessionState
emitted_at None = None
emitted_at (Some session) = emitted session

-- nothing is left to take, to answer or to send, and nothing more will arrive: the input has ended, or is read no further
pub record IsOver (ended : Bool) (session : Option SessionState) : Type 0 where
  pub none_waits : waiting_of session ≡ []
  pub all_answered : unanswered_of session ≡ 0
  pub all_sent : output_of session ≡ []
  pub no_more : (ended ≡ true) ⊎ (is_closed_at session ≡ true)

-- A session of a proxy is not over, but makes no progress alone. No whole request waits, or the first must wait for a mark; and no
-- answer is known, or the unsent bytes have reached the mark.
pub record IsStuck (ended : Bool) (proxy : ProxyState) (session : Option SessionState) : Type 0 where
  pub taken : (waiting_of session ≡ []) ⊎ IsHeldUpAt proxy.ring proxy.links session
  pub answered : (emitted_at session ≡ None) ⊎ (UNSENT_MARK ≤ length (output_of session))
  pub goes_on : IsOver ended session → ⊥

-- A pump ends before its work reaches the quantum, and not at a line that names a host: some work is left, and the unread bytes of the
-- session do not begin with such a line.
abbrev pub EndsEarly : ℕ → Option SessionState → Type 0
EndsEarly left session = (0 < left) × (is_foreign_at session ≡ false)

-- How a session is left, and how much work: done if it is over, blocked if it is stuck, and either only if the pump ends early. So if its
-- work has reached the quantum, the pump goes on later, or failed.
abbrev pub Leaves : Pumped → ℕ → Bool → ProxyState → Option SessionState → Type 0
Leaves Blocked left ended proxy session = IsStuck ended proxy session × EndsEarly left session
Leaves Done left ended proxy session = IsOver ended session × EndsEarly left session
Leaves other left ended proxy session = Unit {0}

-- What a pump of the session of a number does: calls for it, and nothing else. The bytes that arrived are those that the reader gave,
-- or a prefix of them if the pump failed. The bytes that were sent are those that the writer took. Of the emitted answers it counts
-- just those that hide a loss. It takes a request and emits an answer only while work is left.
pub record PumpsClient (number : ℕ) (pump : Pumped) (old new : ProxyState) (unread unread' written written' : Option (List ℕ)) (ended ended' : Bool) (counts counts' : Counts) : Type 0 where
  pub came : List ℕ
  pub went : List ℕ
  pub stretch : SessionStretch number old new came went counts counts'
  pub carried : CarriesBy pump unread unread' written written' ended ended' came went
  pub left : Leaves pump counts'.1 ended' new (session_at new number)

-- whether a client was foreign, after a pump that leaves its session so: one was before, or the pump failed and unread bytes name a host
abbrev pub foreign_after : Pumped → Option SessionState → (before : Bool) → Bool
foreign_after Failed session before = before || is_foreign_at session
foreign_after other session before = before
