-- How many bytes are kept for requests that were taken and are not answered: this project's own.
use Rattle.std.specs.Prelude.{ℕ, ◌+◌, ◌*◌, List, [], ◌∷◌, length, Option, Some, None}
use Rattle.mc_request.specs.declared.parts.Parsed.{Parsed}
use Rattle.mc_request.specs.declared.parts.Parsed.TheVariants.{Whole}
use Rattle.mc_request.specs.declared.parts.Request.TheVariants.{Get}
use Rattle.mc_reply.specs.Seen.{value_len}
use Rattle.mc_ring.specs.Rings.{RingState}
use Rattle.mc_route.specs.Routes.{route_of_taken}
use Rattle.mc_route.specs.declared.outcomes.Outcome.{Outcome}
use Rattle.mc_route.specs.declared.outcomes.Outcome.TheVariants.{Awaited, Reply, Lost}
use Rattle.mc_proxy.specs.SessionState.{Unanswered, SessionState}
use Rattle.mc_proxy.specs.declared.held.TheConstants.{REQUEST_ROOM, COMMAND_ROOM}

-- how many bytes of a value an outcome keeps
abbrev pub kept_by : Outcome → ℕ
kept_by Awaited = 0
kept_by (Reply reply) = value_len reply
kept_by Lost = 0

-- likewise all outcomes together
abbrev pub kept_by_all : List Outcome → ℕ
kept_by_all [] = 0
kept_by_all (outcome ∷ outcomes) = kept_by outcome + kept_by_all outcomes

-- how many bytes some keys have
abbrev pub keys_len : List (List ℕ) → ℕ
keys_len [] = 0
keys_len (key ∷ keys) = length key + keys_len keys

-- how many bytes the keys of a retrieval command have, which may have many; any other request has a key at most
abbrev pub keys_len_of : Parsed → ℕ
keys_len_of (Whole (Get keys exptime with_cas)) = keys_len keys
keys_len_of other = 0

-- how many bytes are kept for one request: room for itself and for each of its commands, its keys, and the values that arrived
abbrev pub held_by_one : Unanswered → ℕ
held_by_one open_one =
    REQUEST_ROOM + length open_one.outcomes * COMMAND_ROOM + keys_len_of open_one.what + kept_by_all open_one.outcomes

-- likewise for all requests together
abbrev pub held_by_all : List Unanswered → ℕ
held_by_all [] = 0
held_by_all (open_one ∷ others) = held_by_one open_one + held_by_all others

-- likewise for the oldest alone: none if all are answered
abbrev pub held_by_first : List Unanswered → ℕ
held_by_first [] = 0
held_by_first (open_one ∷ others) = held_by_one open_one

-- how many bytes are kept for the unanswered requests of a session: none if it is not open
abbrev pub held_of : Option SessionState → ℕ
held_of None = 0
held_of (Some session) = held_by_all session.unanswered

-- likewise for its oldest unanswered request alone
abbrev pub held_first_of : Option SessionState → ℕ
held_first_of None = 0
held_first_of (Some session) = held_by_first session.unanswered

-- how many commands the first waiting request or fault has: none if nothing waits
abbrev pub next_commands : RingState → List Parsed → ℕ
next_commands ring [] = 0
next_commands ring (what ∷ others) = length (route_of_taken ring what)
