-- A proxy, as contracts see it.
use Rattle.std.specs.Prelude.{ℕ, ◌+◌, ◌==◌, ◌&&◌, Bool, false, List, [], ◌∷◌, ◌++◌, length, replicate, drop, Option, Some, None}
use Rattle.mc_table.specs.Entries.{entry_of, updated as with_entry, without as without_entry}
use Rattle.mc_ring.specs.Rings.{RingState}
use Rattle.mc_route.specs.declared.losses.Losses.{Losses}
use Rattle.mc_link.specs.LinkState.{LinkState, down_link}
use Rattle.mc_proxy.specs.SessionState.{SessionState, fresh_session}

-- the open sessions, by their numbers
abbrev pub Sessions : Type 0
Sessions = List (ℕ × SessionState)

-- a proxy: its choice for lost commands, its ring, its open sessions, how many it has admitted, which is the number of the next one,
-- and its links by the places of their servers
pub record ProxyState : Type 0 where
  pub losses : Losses
  pub ring : RingState
  pub sessions : Sessions
  pub admitted : ℕ
  pub links : List LinkState

-- a proxy that has admitted no session, whose links are down and have never been up
abbrev pub opened : Losses → RingState → ProxyState
opened losses ring = record { losses = losses; ring = ring; sessions = []; admitted = 0; links = replicate (length ring.servers) (down_link 0) }

-- the session of a number, if it is open
abbrev pub session_in : Sessions → ℕ → Option SessionState
session_in = entry_of

abbrev pub session_at : ProxyState → ℕ → Option SessionState
session_at p number = session_in p.sessions number

-- the sessions, with this one under a number
abbrev pub updated : ℕ → SessionState → Sessions → Sessions
updated = with_entry

-- the sessions without the one of a number
abbrev pub without : ℕ → Sessions → Sessions
without = without_entry

-- a proxy that has admitted one session more
abbrev pub with_fresh : ProxyState → ProxyState
with_fresh p = record p { sessions = p.sessions ++ (p.admitted, fresh_session) ∷ []; admitted = p.admitted + 1 }

-- the output of a session: none if it is not open
abbrev pub output_of : Option SessionState → List ℕ
output_of None = []
output_of (Some session) = session.output

-- how many requests of a session are not answered: none if it is not open
abbrev pub unanswered_of : Option SessionState → ℕ
unanswered_of None = 0
unanswered_of (Some session) = length session.unanswered

-- whether a session is closed to input, and all that was taken of it is answered; false if it is not open
abbrev pub is_finished : Option SessionState → Bool
is_finished None = false
is_finished (Some session) = session.reader.closed && (length session.unanswered == 0)

-- a proxy whose session of a number, if it is open, has sent this many bytes of its output
abbrev pub sent_by : ℕ → ℕ → Option SessionState → ProxyState → ProxyState
sent_by number count None p = p
sent_by number count (Some session) p =
    record p { sessions = updated number (record session { output = drop count session.output }) p.sessions }
