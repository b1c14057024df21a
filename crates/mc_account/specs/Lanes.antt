-- What passed over a link since it came up.
use Rattle.std.specs.Prelude.{ℕ, ◌≡◌, ◌≢◌, ◌≤◌, true, List, [], ◌∷◌, ◌++◌, length, map, take, drop}
use Rattle.std.specs.List.{list_all}
use Rattle.mc_request.specs.Atoms.{head_of}
use Rattle.mc_reply.specs.CanHave.{can_have}
use Rattle.mc_reply.specs.Spelling.{spelling_of}
use Rattle.mc_reply.specs.declared.replies.Reply.{Reply as AReply}
use Rattle.mc_route.specs.declared.outcomes.Outcome.TheVariants.{Awaited, Reply}
use Rattle.mc_codec.specs.Spellings.{spelling_of_atom}
use Rattle.mc_link.specs.LinkState.{LinkState, Waiting, down_link}
use Rattle.mc_proxy.specs.Emits.{is_noted}
use Rattle.mc_account.specs.Orders.{Order, Tagged, commands_to, outcomes_to}

-- since a link came up: how many requests had been taken then, the replies that were taken, the bytes that were consumed for its
-- server, and the bytes that arrived from it
pub record Lane : Type 0 where
  pub since : ℕ
  pub replies : List (AReply (List ℕ))
  pub out : List ℕ
  pub came : List ℕ

-- a lane of a link that came up when this number of requests had been taken
abbrev pub fresh_lane : ℕ → Lane
fresh_lane since = record { since = since; replies = []; out = []; came = [] }

-- the commands that were sent on a lane: those to its server, of all requests that were taken since its link came up, in that order
abbrev pub sent_on : ℕ → Order → Lane → List Tagged
sent_on place order lane = commands_to place (drop lane.since order)

-- the spellings of commands, joined
abbrev pub spelled : List Tagged → List ℕ
spelled [] = []
spelled (command ∷ commands) = spelling_of_atom command.0 ++ spelled commands

-- the spellings of replies to the first of these commands, joined
abbrev pub replies_text : List Tagged → List (AReply (List ℕ)) → List ℕ
replies_text commands [] = []
replies_text [] (reply ∷ replies) = []
replies_text (command ∷ commands) (reply ∷ replies) = spelling_of (head_of command.0) reply ++ replies_text commands replies

-- each is a reply that its command can have
abbrev pub CanHave : List Tagged → List (AReply (List ℕ)) → Type 0
CanHave commands [] = Unit {0}
CanHave [] (reply ∷ replies) = ⊥
CanHave (command ∷ commands) (reply ∷ replies) = (can_have (head_of command.0) reply ≡ true) × CanHave commands replies

-- commands as a link has them while they are pending: each head with its tag
abbrev pub as_waiting : List Tagged → List Waiting
as_waiting commands = map (λ command. (head_of command.0, command.1)) commands

-- Over a link that is up went the commands to its server of all requests that were taken since it came up, in that order. The
-- bytes sent on it are their joined spellings. The bytes that arrived are the joined spellings of the replies taken, and the
-- unread bytes. The commands without a reply are pending. No earlier command to it is pending.
pub record LaneHolds (place : ℕ) (order : Order) (lane : Lane) (link : LinkState) : Type 0 where
  pub since : lane.since ≤ length order
  pub put : lane.out ++ link.output ≡ spelled (sent_on place order lane)
  pub came : lane.came ≡ replies_text (sent_on place order lane) lane.replies ++ link.unread
  pub can : CanHave (sent_on place order lane) lane.replies
  pub waiting : link.waiting ≡ as_waiting (drop (length lane.replies) (sent_on place order lane))
  pub outcomes : outcomes_to place (drop lane.since order) ≡ map (λ reply. Reply reply) lane.replies ++ map (λ _. Awaited) link.waiting
  pub before : list_all is_noted (outcomes_to place (take lane.since order)) ≡ true

-- no command to a link that is down is pending
pub record IsDown (place : ℕ) (order : Order) (link : LinkState) : Type 0 where
  pub nothing : link ≡ down_link link.generation
  pub outcomes : list_all is_noted (outcomes_to place order) ≡ true

-- the state of the link at a place
abbrev pub LinkHolds : ℕ → Order → Lane → LinkState → Type 0
LinkHolds place order lane link = (link.up ≡ true → LaneHolds place order lane link) × (link.up ≢ true → IsDown place order link)
