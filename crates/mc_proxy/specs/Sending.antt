-- How the commands of a request are sent.
use Rattle.std.specs.Prelude.{ℕ, suc, ◌+◌, ◌-◌, ◌^◌, ◌&&◌, ◌||◌, ◌≡◌, ◌≤◌, nat_le, Bool, true, List, [], ◌∷◌, length, slice_index_or, All, if◌then◌else◌}
use Rattle.std.specs.List.{list_any}
use Rattle.mc_request.specs.declared.parts.Atom.{Atom}
use Rattle.mc_route.specs.declared.routes.Routed.{Routed}
use Rattle.mc_route.specs.declared.outcomes.Outcome.{Outcome}
use Rattle.mc_route.specs.declared.outcomes.Outcome.TheVariants.{Awaited, Lost}
use Rattle.mc_codec.specs.Spellings.{spelling_of_atom}
use Rattle.mc_link.specs.LinkState.{LinkState, RoomyLink, down_link, sent}
use Rattle.mc_link.specs.declared.turns.Tag.{Tag}
use Rattle.mc_proxy.specs.SessionState.{SessionState, link_at, with_link}
use Rattle.mc_proxy.specs.declared.session_limits.TheConstants.{MAX_UNANSWERED, UNSENT_MARK, LINK_MARK}

-- whose a command is: the session's number, the request's in the session, and the command's in the request
abbrev pub tag_of : ℕ → ℕ → ℕ → Tag
tag_of session request atom = record { session = session; request = request; atom = atom }

-- a command sent to a link: if the link is up, the spelling is appended to its output, and the head to its pending
-- commands
abbrev pub handed_to : Tag → Atom (List ℕ) → LinkState → LinkState
handed_to tag atom link =
    if link.up then sent atom tag link else link

-- commands of a request, each sent in order to the link at its place; the first of them has this number in the request
abbrev pub handed : ℕ → ℕ → ℕ → List Routed → List LinkState → List LinkState
handed session request at [] links = links
handed session request at (command ∷ commands) links =
    handed session request (suc at) commands (with_link command.server (handed_to (tag_of session request at) command.atom (link_at links command.server)) links)

-- the immediate outcome of a command: it is lost if its link is down, and its reply is pending if the link is up
abbrev pub outcome_by : LinkState → Outcome
outcome_by link = if link.up then Awaited else Lost

abbrev pub at_once : List LinkState → Routed → Outcome
at_once links command = outcome_by (link_at links command.server)

-- a link that is up, and has reached its mark of unsent bytes
abbrev pub is_link_marked : LinkState → Bool
is_link_marked link = link.up && nat_le LINK_MARK (length link.output)

-- how many bytes the spellings of commands have in all
abbrev pub spelled : List Routed → ℕ
spelled [] = 0
spelled (command ∷ commands) = length (spelling_of_atom command.atom) + spelled commands

-- if the link is up, `heads` commands of `bytes` bytes in all can be sent without memory
pub record IsRoomy (bytes heads : ℕ) (link : RoomyLink) : Type 0 where
  pub bytes_fit : link.state.up ≡ true → bytes ≤ link.bytes
  pub heads_fit : link.state.up ≡ true → heads ≤ link.heads

abbrev pub roomy_at : List RoomyLink → ℕ → RoomyLink
roomy_at links place = slice_index_or links place (record { state = down_link 0; bytes = 0; heads = 0 })

-- every link that the commands need can be sent them all
abbrev pub AreRoomy : List RoomyLink → List Routed → Type 0
AreRoomy links commands = All (λ command. IsRoomy (spelled commands) (length commands) (roomy_at links command.server)) commands

-- whether a session has reached a mark of its own: the limit of unanswered requests, or that of bytes unsent to the
-- client; or no number is left for a request
abbrev pub is_session_marked : SessionState → Bool
is_session_marked session =
    nat_le MAX_UNANSWERED (length session.unanswered) || nat_le UNSENT_MARK (length session.output) || nat_le (2 ^ 64 - 1) session.taken

-- whether a request must wait: its session has reached a mark, or a link that it needs has
abbrev pub is_marked : SessionState → List LinkState → List Routed → Bool
is_marked session links commands =
    is_session_marked session || list_any (λ command. is_link_marked (link_at links command.server)) commands
