-- The outcome of a command, and the answer to its client, as the histories and the log show them. All of it is this project's own.
use Rattle.std.specs.Prelude.{ℕ, ◌≡◌, ◌<◌, ◌⊎◌, suc, List, [], ◌∷◌, Some, slice_get}
use Rattle.mc_request.specs.declared.parts.Parsed.{Parsed}
use Rattle.mc_reply.specs.Spelling.{spelling_of}
use Rattle.mc_ring.specs.Rings.{RingState}
use Rattle.mc_route.specs.Routes.{route_of_taken}
use Rattle.mc_route.specs.declared.losses.Losses.{Losses}
use Rattle.mc_route.specs.declared.outcomes.Outcome.{Outcome}
use Rattle.mc_route.specs.declared.outcomes.Outcome.TheVariants.{Awaited, Lost, Reply}
use Rattle.mc_route.specs.declared.routes.Routed.{Routed}
use Rattle.mc_link.specs.declared.turns.Tag.{Tag}
use Rattle.mc_proxy.specs.Emits.{answer_by}
use Rattle.mc_proxy.specs.Sending.{tag_of}
use Rattle.mc_history.specs.declared.entries.Entry.{Entry}
use Rattle.mc_history.specs.Histories.{HasReply, tag_in}
use Rattle.mc_world.specs.Accounts.{WasLost, WasNeverSentOrLost}
use Rattle.mc_world.specs.Homes.{Homes}
use Rattle.mc_world.specs.Logs.{Log, number_of, puts}
use Rattle.mc_pool_laws.specs.Sent.{IsSent, IsTaken}

-- a request was answered
abbrev pub WasAnswered : Tag → Log → Type 0
WasAnswered tag log = tag.request < number_of (puts tag.session) log

-- the link of a command's proxy to a place was not lost between the turn that took its request and the answer
abbrev pub LinkHeld : Homes → ℕ → Tag → Log → Type 0
LinkHeld home place tag log = WasLost (home tag.session) place tag log → ⊥

-- a history has an entry of a command
abbrev pub HasEntry : List Entry → Tag → Type 0
HasEntry history tag = (k : ℕ) × (e : Entry) × (slice_get history k ≡ Some e) × (tag_in e ≡ tag)

-- the history of a place has an entry of a command, and none of them has another
abbrev pub HasOneEntry : (ℕ → List Entry) → ℕ → Tag → Type 0
HasOneEntry histories place tag =
    (k : ℕ) × (e : Entry) × (slice_get (histories place) k ≡ Some e) × (tag_in e ≡ tag)
    × ((other j : ℕ) (d : Entry) → slice_get (histories other) j ≡ Some d → tag_in d ≡ tag → (other ≡ place) × (j ≡ k))

-- a command of an answered request that was sent, and for which there is neither an entry in its server's history nor a loss in the
-- log
pub record IsUnaccounted (home : Homes) (opening : RingState) (texts : ℕ → List ℕ) (histories : ℕ → List Entry) (log : Log) : Type 0 where
  pub tag : Tag
  pub command : Routed
  pub sent : IsSent home opening texts log tag command
  pub answered : WasAnswered tag log
  pub untold : HasEntry (histories command.server) tag ⊎ WasNeverSentOrLost home command.server tag (histories command.server) log → ⊥

-- the outcome of a command: its server's history has its entry with this reply, or it is lost, and the log shows the loss
abbrev pub HasOutcomeBy : Homes → (ℕ → List Entry) → Log → Tag → Routed → Outcome → Type 0
HasOutcomeBy home histories log tag command (Reply reply) = HasReply (histories command.server) tag (spelling_of command.atom reply)
HasOutcomeBy home histories log tag command Lost = WasNeverSentOrLost home command.server tag (histories command.server) log
HasOutcomeBy home histories log tag command Awaited = ⊥

-- the outcomes of the commands of one request, in sequence, the first of which has this number
abbrev pub HaveOutcomesBy : Homes → (ℕ → List Entry) → Log → ℕ → ℕ → ℕ → List Routed → List Outcome → Type 0
HaveOutcomesBy home histories log client request at [] [] = Unit {0}
HaveOutcomesBy home histories log client request at [] (outcome ∷ outcomes) = ⊥
HaveOutcomesBy home histories log client request at (command ∷ commands) [] = ⊥
HaveOutcomesBy home histories log client request at (command ∷ commands) (outcome ∷ outcomes) =
    HasOutcomeBy home histories log (tag_of client request at) command outcome × HaveOutcomesBy home histories log client request (suc at) commands outcomes

-- the answer to a client's request of a number, by a choice for lost commands, and by the outcomes of its commands
pub record IsAnswerTo (home : Homes) (losses : Losses) (opening : RingState) (texts : ℕ → List ℕ) (histories : ℕ → List Entry) (log : Log) (client request : ℕ) (answer : List ℕ) : Type 0 where
  pub what : Parsed
  pub ring : RingState
  pub taken : IsTaken home opening texts log client request what ring
  pub outcomes : List Outcome
  pub told : HaveOutcomesBy home histories log client request 0 (route_of_taken ring what) outcomes
  pub bytes : answer ≡ answer_by losses what outcomes

-- the answers to a client's requests, in sequence, the first of which is to the request of this number
abbrev pub AreAnswersFrom : Homes → Losses → RingState → (ℕ → List ℕ) → (ℕ → List Entry) → Log → ℕ → ℕ → List (List ℕ) → Type 0
AreAnswersFrom home losses opening texts histories log client request [] = Unit {0}
AreAnswersFrom home losses opening texts histories log client request (answer ∷ answers) =
    IsAnswerTo home losses opening texts histories log client request answer × AreAnswersFrom home losses opening texts histories log client (suc request) answers
