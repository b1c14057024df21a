-- Each key of a pool is linearizable: source Herlihy and Wing, "Linearizability: a correctness condition for concurrent objects" (1990). The
-- commands on a key have one order. In it a register that may forget (mc_registers) gives the replies that the proxies took. It keeps to real
-- time: if a proxy took a command's reply, and emitted its answer before another request was taken, the command comes first, unless the other
-- request's proxy routed the key back (`IsNotRoutedBack`). A lost command happens at most once, at any time after it was taken: theirs says this of
-- calls that never return. Its client is answered by the choice for lost commands: by a line that says so, or as if it had missed. All else is
-- this project's own.
--
-- Stronger than theirs: the order is a known one, by place, and at one place that of the server's turns. A request is taken after its client has
-- sent it, and answered before its client has the answer. A client that does not wait for its answers has its order too
-- (`pipelined_commands_keep_their_order`).
-- Weaker: a `get` of several keys is a command for each, so it may show values that were never stored together. A flush has no key: a register
-- may forget at any time, and nothing says that it does. Of two keys no common order is stated. Their theorem 1 has one for commands of one key
-- each: what is linearizable key by key is so as a whole. That is not proved here. Proxies whose rings differ may have a key at two servers, each with a
-- register of its own. Then real time is kept among the clients of each proxy, at each server, and from the server of the lower place to the other, but not
-- back (`two_rings_show_older_values`). Of a key that stays at one server it is kept between all clients (`keys_that_stay_keep_to_real_time`).
use Rattle.std.specs.Prelude.{ℕ, ◌≡◌, ◌<◌, ◌≤◌, ◌⊎◌, ◌==◌, ◌&&◌, ◌++◌, nat_le, true, List, [], ◌∷◌, Some, None, All, map, slice_get, take, if◌then◌else◌}
use Rattle.mc_request.specs.Requests.{requests_of}
use Rattle.mc_request.specs.declared.parts.Atom.{Atom}
use Rattle.mc_request.specs.declared.parts.Parsed.{Parsed}
use Rattle.mc_reply.specs.Spelling.{spelling_of}
use Rattle.mc_reply.specs.declared.replies.Reply.{Reply as AReply}
use Rattle.mc_route.specs.Routes.{to_place}
use Rattle.mc_route.specs.declared.losses.Losses.{Losses}
use Rattle.mc_route.specs.declared.outcomes.Outcome.{Outcome}
use Rattle.mc_route.specs.declared.outcomes.Outcome.TheVariants.{Awaited, Lost, Reply}
use Rattle.mc_link.specs.declared.turns.Tag.{Tag}
use Rattle.mc_account.specs.Lookups.{command_at, outcome_at}
use Rattle.mc_account.specs.Orders.{IsSized, Order, TakenRequest, entries_of, taken_of}
use Rattle.mc_history.specs.declared.entries.Entry.{Entry}
use Rattle.mc_history.specs.Histories.{tag_in}
use Rattle.mc_registers.specs.Registers.{Done, IsRun}
use Rattle.mc_registers.specs.Laws.{is_on}
use Rattle.mc_registers.specs.Records.{RecordEach, on_key}
use Rattle.mc_world.specs.Accounts.{Accounts, WasNeverSentOrLost, answers_by}
use Rattle.mc_world.specs.Homes.{Homes}
use Rattle.mc_world.specs.Logs.{Log, before, in_life, moments_of, number_of, puts, takes, turns_of}
use Rattle.mc_world.specs.declared.logs.Logged.TheVariants.{Happened, Joined, Restarted}
use Rattle.mc_world.specs.WorldState.{home_of}
use Rattle.mc_world.specs.Worlds.{WorldState, cache_of, history_of, put_out_of, text_of}
use Rattle.mc_pool_laws.specs.Outcomes.{HasOutcomeBy, WasAnswered}

-- a command on a key that was executed: its entry is the one of this number in the history of this place
pub record Executed (order : Order) (histories : ℕ → List Entry) (key : List ℕ) : Type 0 where
  pub place : ℕ
  pub number : ℕ
  pub entry : Entry
  pub atom : Atom (List ℕ)
  pub at : slice_get (histories place) number ≡ Some entry
  pub command : command_at order (tag_in entry) ≡ Some (to_place place atom)
  pub on : is_on key atom ≡ true

-- The one order of a key's commands. By each proxy a key stays where it is, or goes to a server that joins, whose place is higher. So a command comes before
-- another if its place is lower, or if it is earlier in the same history.
abbrev pub ComesFirst : {order : Order} {histories : ℕ → List Entry} {key : List ℕ} → Executed order histories key → Executed order histories key → Type 0
ComesFirst a b = (a.place < b.place) ⊎ ((a.place ≡ b.place) × (a.number < b.number))

-- real time: the request of a command was answered before that of another was taken
abbrev pub IsEarlier : Tag → Tag → Log → Type 0
IsEarlier a b log = WasAnswered a (before (takes b.session) b.request log)

-- the addresses of the servers that joined at a proxy, in order: of those up to a place
abbrev pub joined_to : ℕ → ℕ → Log → List (List ℕ)
joined_to proxy place [] = []
joined_to proxy place (Happened event ∷ es) = joined_to proxy place es
joined_to proxy place (Joined of server address up ∷ es) =
    if (of == proxy) && nat_le server place then address ∷ joined_to proxy place es else joined_to proxy place es
joined_to proxy place (Restarted server ∷ es) = joined_to proxy place es

-- When the second of two requests was taken, its proxy had the servers up to a place that the first one's proxy had when that was taken, under the same
-- addresses. Those of the opening ring all proxies have.
abbrev pub HasServersTo : Homes → ℕ → Tag → Tag → Log → Type 0
HasServersTo home place a b log =
    joined_to (home b.session) place (before (takes b.session) b.request log) ≡ joined_to (home a.session) place (before (takes a.session) a.request log)

-- A key is not routed back from one command on it to another: the clients of both have one proxy, or the place of the second is not lower, or its proxy
-- had the servers up to the place of the first. No proxy routes a key back by its own rings. Of two proxies one may while it lacks one of these
-- servers, or has another address for it.
abbrev pub IsNotRoutedBack : {order : Order} {histories : ℕ → List Entry} {key : List ℕ} → Homes → Log → Executed order histories key → Executed order histories key → Type 0
IsNotRoutedBack home log a b =
    (home a.entry.client ≡ home b.entry.client) ⊎ ((a.place ≤ b.place) ⊎ HasServersTo home a.place (tag_in a.entry) (tag_in b.entry) log)

-- A proxy took the reply to a command. A client may not see it: a `get` of two keys, one of which was lost, can be answered by one line.
abbrev pub WasReplied : Order → Tag → Type 0
WasReplied order tag = (reply : AReply (List ℕ)) × (outcome_at order tag ≡ Some (Reply reply))

-- The outcome of a command on a key: it was executed, and its entry has the reply that its proxy took; or it was lost, as the log shows.
abbrev pub Became : Homes → Order → (ℕ → List Entry) → Log → List ℕ → Tag → ℕ → Atom (List ℕ) → Outcome → Type 0
Became home order histories log key tag place atom (Reply reply) =
    (x : Executed order histories key) × (tag_in x.entry ≡ tag) × (x.entry.reply ≡ spelling_of atom reply)
Became home order histories log key tag place atom Lost = WasNeverSentOrLost home place tag (histories place) log
Became home order histories log key tag place atom Awaited = ⊥

-- Of these entries those on a key are a run of its register. The register holds nothing at first, and answers each command what its entry has.
abbrev pub AreOfRegister : ℕ → Order → ℕ → List ℕ → List Entry → Type 0
AreOfRegister counter order place key entries = (all : List Done) × RecordEach order place entries all × IsRun counter None (on_key key all)

-- A key is linearizable: by its order, which each life of each server continues.
pub record IsLinearizable (home : Homes) (counter : ℕ) (order : Order) (histories : ℕ → List Entry) (log : Log) (key : List ℕ) : Type 0 where
  -- in this order a register may give these replies, if it begins anew with each life of a server
  pub lives : (place life : ℕ) → AreOfRegister counter order place key (in_life place life log (histories place))
  -- the order keeps to real time, for each command whose reply its proxy took, to each command to which the key is not routed back
  pub in_time : (a b : Executed order histories key) → WasReplied order (tag_in a.entry) → IsEarlier (tag_in a.entry) (tag_in b.entry) log → IsNotRoutedBack home log a b
      → ComesFirst a b
  -- each command whose request was answered is in it, with the reply that its proxy took, or was lost
  pub told : (tag : Tag) (place : ℕ) (atom : Atom (List ℕ)) → command_at order tag ≡ Some (to_place place atom) → is_on key atom ≡ true → WasAnswered tag log
      → (outcome : Outcome) × (outcome_at order tag ≡ Some outcome) × Became home order histories log key tag place atom outcome
  -- no command is in it twice
  pub once : (a b : Executed order histories key) → tag_in a.entry ≡ tag_in b.entry → (a.place ≡ b.place) × (a.number ≡ b.number)

-- A pool is linearizable, each key by itself, by the proxy of each client and an order of all requests that were taken. Most clauses are those of its
-- account (mc_world). The account, and not this, says which rings route requests.
pub record IsLinearizablePool (home : Homes) (losses : Losses) (counter : ℕ) (order : Order) (texts outs : ℕ → List ℕ) (histories : ℕ → List Entry) (log : Log) : Type 0 where
  -- the requests of each client were taken as it sent them, in order, by the turns of the log; each of their commands has its outcome
  pub asked : (client : ℕ) → (untaken : List Parsed) × (taken_of client order ++ untaken ≡ requests_of (texts client))
  pub turns : map (λ (e : TakenRequest). e.session) order ≡ turns_of log
  pub sized : All IsSized order
  -- each client was given the answers to its first requests, one for each put of the log, by the outcomes of their commands and the choice for
  -- lost commands; each request was taken before it was answered
  pub put : (client : ℕ) → outs client ≡ answers_by losses (take (number_of (puts client) log) (entries_of client order))
  pub after : (client request : ℕ) → request < number_of (puts client) log → request < number_of (takes client) (before (puts client) request log)
  -- the outcome of each of these commands is the reply that its server gave, or that it was lost, as the log shows
  pub told : (tag : Tag) (place : ℕ) (atom : Atom (List ℕ)) → command_at order tag ≡ Some (to_place place atom) → WasAnswered tag log
      → (outcome : Outcome) × (outcome_at order tag ≡ Some outcome) × HasOutcomeBy home histories log tag (to_place place atom) outcome
  -- a history has one entry for each turn of its server, at its moment
  pub moments : (place : ℕ) → map (λ (e : Entry). e.moment) (histories place) ≡ moments_of place log
  -- each key is linearizable
  pub keys : (key : List ℕ) → IsLinearizable home counter order histories log key

-- each world is linearizable, by some order: of its clients' texts, the bytes that were emitted to them, its servers' histories, and its log
abbrev pub IsLinearizableWorld : WorldState → Type 0
IsLinearizableWorld w =
    (order : Order) × IsLinearizablePool (home_of w.course.pool) w.losses 0 order (text_of w.course) (put_out_of w.course) (history_of w.course) w.course.log

-- each world is linearizable by an order by which it gives account
abbrev pub IsAccountedWorld : WorldState → Type 0
IsAccountedWorld w =
    (order : Order) × Accounts (home_of w.course.pool) w.losses w.opening (cache_of w) order (text_of w.course) (put_out_of w.course) (history_of w.course) w.course.log
    × IsLinearizablePool (home_of w.course.pool) w.losses 0 order (text_of w.course) (put_out_of w.course) (history_of w.course) w.course.log
