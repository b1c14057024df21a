-- The account of a run: this project's own.
use Rattle.std.specs.Prelude.{ℕ, ◌≡◌, ◌<◌, ◌≤◌, ◌⊎◌, true, false, List, [], ◌∷◌, ◌++◌, map, take, drop, Some, slice_get, All}
use Rattle.std.specs.List.{list_all}
use Rattle.mc_request.specs.declared.parts.Atom.{Atom}
use Rattle.mc_request.specs.declared.parts.Parsed.{Parsed}
use Rattle.mc_request.specs.Requests.{requests_of}
use Rattle.mc_reply.specs.declared.replies.Reply.{Reply as AReply}
use Rattle.mc_reply.specs.Spelling.{spelling_of}
use Rattle.mc_ring.specs.Rings.{RingState}
use Rattle.mc_route.specs.Routes.{to_place}
use Rattle.mc_route.specs.declared.losses.Losses.{Losses}
use Rattle.mc_route.specs.declared.outcomes.Outcome.TheVariants.{Lost, Reply}
use Rattle.mc_link.specs.declared.turns.Tag.{Tag}
use Rattle.mc_proxy.specs.Emits.{answer_by}
use Rattle.mc_cache.specs.CacheState.{CacheState}
use Rattle.mc_account.specs.Orders.{AreInOrder, IsSized, Order, TakenRequest, commands_to, entries_of, is_complete, taken_of}
use Rattle.mc_history.specs.declared.entries.Entry.{Entry}
use Rattle.mc_world.specs.Homes.{Homes, of_proxy, tags_through}
use Rattle.mc_world.specs.Logs.{IsRingAfter, Log, before, drops, in_life, is_up, loses, moments_of, number_of, puts, serves, takes, turns_of}
use Rattle.mc_history.specs.Histories.{HasNone, HasReply, IsLegal, tag_in}
use Rattle.mc_history.specs.Named.{tags_of}
use Rattle.mc_account.specs.Lookups.{IsBefore, asked_at, command_at, outcome_at}

-- at a place of the log, a request was taken, and was not answered yet
abbrev pub WasTaken : Tag → Log → Type 0
WasTaken tag log = tag.request < number_of (takes tag.session) log

abbrev pub NotAnswered : Tag → Log → Type 0
NotAnswered tag log = number_of (puts tag.session) log ≤ tag.request

-- the link of a proxy to a server was up, or down, when a request of a client was taken
abbrev pub up_when_taken : ℕ → ℕ → Tag → Log → Type 0
up_when_taken proxy place tag log = is_up proxy place (before (takes tag.session) tag.request log) ≡ true

abbrev pub down_when_taken : ℕ → ℕ → Tag → Log → Type 0
down_when_taken proxy place tag log = is_up proxy place (before (takes tag.session) tag.request log) ≡ false

-- the link was lost while a request had been taken and was not answered
abbrev pub WasLost : ℕ → ℕ → Tag → Log → Type 0
WasLost proxy place tag log =
    (loss : ℕ) × (loss < number_of (loses proxy place) log)
    × WasTaken tag (before (loses proxy place) loss log) × NotAnswered tag (before (loses proxy place) loss log)

-- what a log shows of a command that is lost: it was never sent, since its proxy's link was down when it was taken, or that link was lost before it
-- was answered
abbrev pub WasNeverSentOrLost : Homes → ℕ → Tag → List Entry → Log → Type 0
WasNeverSentOrLost home place tag history log =
    (down_when_taken (home tag.session) place tag log × HasNone history tag)
    ⊎ (up_when_taken (home tag.session) place tag log × WasLost (home tag.session) place tag log)

-- an entry of a history: its request was taken before its turn, and not answered before it, if a reply answered its command
abbrev pub TakenBeforeAnswered : Order → Log → ℕ → ℕ → Entry → Type 0
TakenBeforeAnswered order log place k e =
    WasTaken (tag_in e) (before (serves place) k log)
    × ((reply : AReply (List ℕ)) → outcome_at order (tag_in e) ≡ Some (Reply reply) → NotAnswered (tag_in e) (before (serves place) k log))

-- the answers to requests that were taken, joined, by a choice for lost commands
abbrev pub answers_by : Losses → Order → List ℕ
answers_by losses [] = []
answers_by losses (e ∷ es) = answer_by losses e.what e.outcomes ++ answers_by losses es

-- The account of a run, by the proxy of each client, the choice for lost commands, and an order in which the proxies took the requests, with the
-- outcome of each command. The account is over the clients' texts, the bytes that were emitted to them, the servers' histories, all by number, and
-- the log.
pub record Accounts (home : Homes) (losses : Losses) (ring : RingState) (opening : CacheState) (order : Order) (texts outs : ℕ → List ℕ) (histories : ℕ → List Entry) (log : Log) : Type 0 where
  -- each client's requests were taken in order, by the turns of the log in theirs, and routed by their proxy's ring of that moment; each of their
  -- commands has its outcome
  pub asked : (client : ℕ) → (untaken : List Parsed) × (taken_of client order ++ untaken ≡ requests_of (texts client))
  pub turns : map (λ (e : TakenRequest). e.session) order ≡ turns_of log
  pub numbered : (client : ℕ) → AreInOrder (entries_of client order)
  pub rings : (client request : ℕ) (e : TakenRequest) → asked_at order client request ≡ Some e → IsRingAfter (home client) ring (before (takes client) request log) e.ring
  pub sized : All IsSized order
  -- the entries of a server in each of its lives are legal, and no command has two entries in all histories
  pub legal : (place life : ℕ) → IsLegal order place opening (in_life place life log (histories place))
  pub once : (r s j k : ℕ) (d e : Entry) → slice_get (histories r) j ≡ Some d → slice_get (histories s) k ≡ Some e → tag_in d ≡ tag_in e
      → (r ≡ s) × (j ≡ k)
  -- a reply is that of its server's history
  pub replied : (tag : Tag) (place : ℕ) (atom : Atom (List ℕ)) (reply : AReply (List ℕ)) → command_at order tag ≡ Some (to_place place atom)
      → outcome_at order tag ≡ Some (Reply reply) → HasReply (histories place) tag (spelling_of atom reply)
  -- a lost command was never sent, or its proxy's link was lost before it was answered
  pub lost : (tag : Tag) (place : ℕ) (atom : Atom (List ℕ)) → command_at order tag ≡ Some (to_place place atom) → outcome_at order tag ≡ Some Lost
      → WasNeverSentOrLost home place tag (histories place) log
  -- in a history the commands of one client that were answered are in its order
  pub ordered : (place j k : ℕ) (d e : Entry) (r q : AReply (List ℕ)) → slice_get (histories place) j ≡ Some d → slice_get (histories place) k ≡ Some e → j < k
      → d.client ≡ e.client → outcome_at order (tag_in d) ≡ Some (Reply r) → outcome_at order (tag_in e) ≡ Some (Reply q) → IsBefore (tag_in d) (tag_in e)
  -- if a proxy's link was never down, its server took the first of that proxy's commands to it, in the order in which it took the requests
  pub followed : (proxy place : ℕ) → number_of (drops proxy place) log ≡ 0
      → (untaken : List Tag) × (tags_through home proxy (histories place) ++ untaken ≡ tags_of (commands_to place (of_proxy home proxy order)))
  -- the bytes emitted to a client are the answers to its first requests, one for each put, and each was taken before it was answered
  pub answered : (client : ℕ) → list_all is_complete (take (number_of (puts client) log) (entries_of client order)) ≡ true
  pub put : (client : ℕ) → outs client ≡ answers_by losses (take (number_of (puts client) log) (entries_of client order))
  pub after : (client request : ℕ) → request < number_of (puts client) log → request < number_of (takes client) (before (puts client) request log)
  -- a history has one entry for each turn of its server, at its moment
  pub moments : (place : ℕ) → map (λ (e : Entry). e.moment) (histories place) ≡ moments_of place log
  pub placed : (place k : ℕ) (e : Entry) → slice_get (histories place) k ≡ Some e → TakenBeforeAnswered order log place k e

-- the account: such an order exists
abbrev pub Account : Homes → Losses → RingState → CacheState → (ℕ → List ℕ) → (ℕ → List ℕ) → (ℕ → List Entry) → Log → Type 0
Account home losses ring opening texts outs histories log = (order : Order) × Accounts home losses ring opening order texts outs histories log

-- The clauses of the account that name no place of the log. Each client's requests were taken in order, and each command has its outcome.
-- The entries of each server since its life began are legal, and all its entries are of commands to it. No command has two entries in all
-- histories.
pub record AccountsForCommands (opening : CacheState) (order : Order) (texts : ℕ → List ℕ) (histories : ℕ → List Entry) (begun : ℕ → ℕ) : Type 0 where
  pub asked : (client : ℕ) → (untaken : List Parsed) × (taken_of client order ++ untaken ≡ requests_of (texts client))
  pub sized : All IsSized order
  pub legal : (place : ℕ) → IsLegal order place opening (drop (begun place) (histories place))
  pub named : (place k : ℕ) (e : Entry) → slice_get (histories place) k ≡ Some e → (atom : Atom (List ℕ)) × (command_at order (tag_in e) ≡ Some (to_place place atom))
  pub once : (r s j k : ℕ) (d e : Entry) → slice_get (histories r) j ≡ Some d → slice_get (histories s) k ≡ Some e → tag_in d ≡ tag_in e
      → (r ≡ s) × (j ≡ k)
