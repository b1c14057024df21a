-- What is listed of the clients of a host: this project's own.
use Rattle.std.specs.Prelude.{ℕ, zero, suc, ◌+◌, ◌-◌, ◌%◌, ◌^◌, Bool, true, false, List, [], ◌∷◌, Option, Some, None, codes}
use Rattle.slab.specs.Slab.{Slab, get}
use Rattle.mc_admin.specs.declared.conns.Conn.{Conn}
use Rattle.mc_net.specs.declared.clients.ClientSlot.{ClientSlot}
use Rattle.mc_net.specs.declared.conns.Known.{Known}
use Rattle.mc_net.specs.declared.conns.Awaits.{Awaits}
use Rattle.mc_net.specs.declared.conns.Awaits.TheVariants.{Answers, Replies}

-- a count after another has gone from one number to the next: each wraps to 0 after 2^64 - 1
abbrev pub count_after : ℕ → ℕ → ℕ → ℕ
count_after count before after = (count + (after + (2 ^ 64 - before)) % 2 ^ 64) % 2 ^ 64

-- how far a count has gone from one number to the next, if it wraps to 0 after 2^64 - 1
abbrev pub within_word : ℕ → ℕ → ℕ
within_word before after = (after + (2 ^ 64 - before)) % 2 ^ 64

-- what is known of a client at a place: for how many seconds it was quiet, since when it is connected, how much was read and written
module _ {K : Type 0} where
  abbrev pub known_of : ℕ → ℕ → Bool → ClientSlot K → Known
  known_of moment place awaits slot =
      record { place = place; has_pending = awaits; quiet = moment - slot.used; age = moment - slot.since; read = slot.read; written = slot.written }

-- what is listed of a client beside its addresses and its state
pub record Shown : Type 0 where
  pub place : ℕ
  pub quiet : ℕ
  pub age : ℕ
  pub read : ℕ
  pub written : ℕ

abbrev pub shown_by : Known → Shown
shown_by known = record { place = known.place; quiet = known.quiet; age = known.age; read = known.read; written = known.written }

abbrev pub shown_of : Conn → Shown
shown_of conn = record { place = conn.place; quiet = conn.quiet; age = conn.age; read = conn.read; written = conn.written }

abbrev pub conn_state : Conn → List ℕ
conn_state conn = conn.state.now

-- what a client with pending answers waits for
-- source: memcached's doc/protocol.txt, "Connection statistics"
abbrev pub awaits_state : Awaits → List ℕ
awaits_state Answers = codes "conn_mwrite"
awaits_state Replies = codes "conn_io_queue"

abbrev pub state_of : Bool → Awaits → List ℕ
state_of true awaits = awaits_state awaits
state_of false awaits = codes "conn_waiting"

module _ {K : Type 0} where
  -- the client of a place, if there is one, before others
  abbrev pub shown_before : ℕ → ℕ → Option (ClientSlot K) → List Shown → List Shown
  shown_before moment place (Some slot) rest = shown_by (known_of moment place false slot) ∷ rest
  shown_before moment place None rest = rest

  -- the clients of a number of places from one on, in their order
  abbrev pub all_shown : Slab (ClientSlot K) → ℕ → ℕ → ℕ → List Shown
  all_shown slots moment place zero = []
  all_shown slots moment place (suc count) =
      shown_before moment place (get slots place) (all_shown slots moment (place + 1) count)

-- the place of the first, if there is one
abbrev pub place_of : List Shown → Option ℕ
place_of [] = None
place_of (shown ∷ rest) = Some shown.place
