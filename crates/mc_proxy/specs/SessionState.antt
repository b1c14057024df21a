-- A session, as contracts see it.
use Rattle.std.specs.Prelude.{ℕ, ◌-◌, List, [], length, map, slice_index_or, slice_set}
use Rattle.mc_request.specs.declared.parts.Parsed.{Parsed}
use Rattle.mc_request_reader.specs.Reader.{ReaderState, fresh_reader}
use Rattle.mc_route.specs.declared.losses.Losses.{Losses}
use Rattle.mc_route.specs.declared.outcomes.Outcome.{Outcome}
use Rattle.mc_link.specs.LinkState.{LinkState, RoomyLink, down_link}

-- a request or fault that was taken and is not answered: without its data block, with the choice for its lost commands, and with the
-- outcomes of its commands so far
pub record Unanswered : Type 0 where
  pub what : Parsed
  pub losses : Losses
  pub outcomes : List Outcome

-- a session: its reader, the answers that were not consumed, how many requests and faults were taken of it, and the unanswered ones
-- of them, the oldest first
pub record SessionState : Type 0 where
  pub reader : ReaderState
  pub output : List ℕ
  pub taken : ℕ
  pub unanswered : List Unanswered

-- a session that was just admitted
abbrev pub fresh_session : SessionState
fresh_session = record { reader = fresh_reader; output = []; taken = 0; unanswered = [] }

-- how many of its requests are answered, which is the number of the oldest unanswered one; requests are counted from 0
abbrev pub answered : SessionState → ℕ
answered session = session.taken - length session.unanswered

-- links without the room that they have reserved
abbrev pub states : List RoomyLink → List LinkState
states links = map (λ link. link.state) links

-- the link to the server at a place; a link that is down if there is none
abbrev pub link_at : List LinkState → ℕ → LinkState
link_at links place = slice_index_or links place (down_link 0)

-- the links, with this one at a place
abbrev pub with_link : ℕ → LinkState → List LinkState → List LinkState
with_link place link links = slice_set links place link
