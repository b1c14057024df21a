-- The state in which a log leaves a pool, and the order in which its proxies took requests.
use Rattle.std.specs.Prelude.{ℕ, ◌≡◌, ◌<◌, ◌≤◌, ◌⊎◌, true, List, [], length, map, Some, slice_get, All}
use Rattle.mc_request.specs.declared.parts.Atom.{Atom}
use Rattle.mc_ring.specs.Rings.{IsRing, RingState}
use Rattle.mc_route.specs.Routes.{to_place}
use Rattle.mc_route.specs.declared.outcomes.Outcome.{Outcome}
use Rattle.mc_route.specs.declared.outcomes.Outcome.TheVariants.{Awaited, Lost, Reply}
use Rattle.mc_link.specs.declared.turns.Tag.{Tag}
use Rattle.mc_proxy.specs.SessionState.{SessionState, answered}
use Rattle.mc_account.specs.Answered.{AreAnswers}
use Rattle.mc_account.specs.Lookups.{IsBefore, IsRoutedWithin, asked_at, command_at, outcome_at}
use Rattle.mc_account.specs.Orders.{Order, TakenRequest}
use Rattle.mc_history.specs.Histories.{tag_in}
use Rattle.mc_history.specs.declared.entries.Entry.{Entry}
use Rattle.mc_world.specs.Accounts.{NotAnswered, WasNeverSentOrLost, WasTaken, up_when_taken}
use Rattle.mc_world.specs.Homes.{Homes, of_proxy}
use Rattle.mc_world.specs.Logs.{IsRingAfter, Log, before, is_up, moments_of, number_of, puts, serves, takes, turns_of}
use Rattle.mc_world.specs.WorldState.{PoolState, SiteState, StaleState, histories_of, home_of, link_of, proxy_at, session_of}

-- the outcome of a command, as a log shows it: an awaited command was sent on a link that was up; for a lost one the log shows the
-- cause
abbrev pub HasOutcome : Homes → ℕ → Tag → List Entry → Log → Outcome → Type 0
HasOutcome home place tag history log Awaited = up_when_taken (home tag.session) place tag log
HasOutcome home place tag history log (Reply reply) = Unit {0}
HasOutcome home place tag history log Lost = WasNeverSentOrLost home place tag history log

-- an entry of a history was made after its request was taken, and before that was answered, unless its command is lost
pub record IsPlaced (order : Order) (earlier : Log) (e : Entry) : Type 0 where
  pub taken : WasTaken (tag_in e) earlier
  pub answered : (outcome_at order (tag_in e) ≡ Some Lost) ⊎ NotAnswered (tag_in e) earlier

-- of two entries of one client the first was asked before the second, unless one of them is lost
abbrev pub AreOrdered : Order → Entry → Entry → Type 0
AreOrdered order d e =
    d.client ≡ e.client → (outcome_at order (tag_in d) ≡ Some Lost) ⊎ ((outcome_at order (tag_in e) ≡ Some Lost) ⊎ IsBefore (tag_in d) (tag_in e))

-- a command of a lost generation that its server has not taken: it is lost, and was sent
pub record IsUntaken (home : Homes) (place : ℕ) (order : Order) (log : Log) (tag : Tag) : Type 0 where
  pub lost : outcome_at order tag ≡ Some Lost
  pub sent : up_when_taken (home tag.session) place tag log

-- The ring of each proxy after a log, with a link for each of its servers, of which each has a site. The links are as the log has them; nothing is
-- logged of a place without a link. A site has a way for each proxy.
pub record ServersHold (opening : RingState) (log : Log) (pool : PoolState) : Type 0 where
  pub ring : (proxy : ℕ) → proxy < length pool.proxies → IsRingAfter proxy opening log (proxy_at pool proxy).ring
  pub is_ring : (proxy : ℕ) → proxy < length pool.proxies → IsRing (proxy_at pool proxy).ring
  pub linked : (proxy : ℕ) → length (proxy_at pool proxy).links ≡ length (proxy_at pool proxy).ring.servers
  pub sited : (proxy : ℕ) → length (proxy_at pool proxy).links ≤ length pool.sites
  pub ways : (place : ℕ) (site : SiteState) → slice_get pool.sites place ≡ Some site → length site.ways ≡ length pool.proxies
  pub links : (proxy place : ℕ) → place < length (proxy_at pool proxy).links → is_up proxy place log ≡ (link_of pool proxy place).up
  pub no_links : (proxy place : ℕ) → length (proxy_at pool proxy).links ≤ place → is_up proxy place log ≡ true

-- Requests that were taken: by the turns of the log, in their order, each routed by its proxy's ring of its moment, to a place to which that proxy
-- has a link.
pub record RequestsHold (opening : RingState) (order : Order) (log : Log) (pool : PoolState) : Type 0 where
  pub turns : map (λ (e : TakenRequest). e.session) order ≡ turns_of log
  pub rings : (client request : ℕ) (e : TakenRequest) → asked_at order client request ≡ Some e
      → IsRingAfter (home_of pool client) opening (before (takes client) request log) e.ring
  pub inside : (proxy : ℕ) → All (IsRoutedWithin (length (proxy_at pool proxy).links)) (of_proxy (home_of pool) proxy order)

-- The bytes emitted to each client are the answers to its first requests, one for each put, and each request was taken before. An
-- open session counts the same number of answers.
pub record AnswersHold (order : Order) (outs : ℕ → List ℕ) (log : Log) (pool : PoolState) : Type 0 where
  pub put : (client : ℕ) → AreAnswers client order (number_of (puts client) log) (outs client) []
  pub after : (client request : ℕ) → request < number_of (puts client) log → request < number_of (takes client) (before (puts client) request log)
  pub unanswered : (client : ℕ) (session : SessionState) → session_of pool client ≡ Some session → answered session ≡ number_of (puts client) log

-- Histories have an entry for each turn of the server, at its moment. Unless its command is lost, each entry was made after its
-- request was taken and before it was answered, and those of one client are in its order.
pub record HistoriesHold (order : Order) (log : Log) (histories : ℕ → List Entry) : Type 0 where
  pub moments : (place : ℕ) → map (λ (e : Entry). e.moment) (histories place) ≡ moments_of place log
  pub placed : (place k : ℕ) (e : Entry) → slice_get (histories place) k ≡ Some e → IsPlaced order (before (serves place) k log) e
  pub ordered : (place j k : ℕ) (d e : Entry) → slice_get (histories place) j ≡ Some d → slice_get (histories place) k ≡ Some e → j < k → AreOrdered order d e

-- Outcomes of commands are as the log shows them; the commands of lost generations that their server has not taken were sent and
-- are lost.
pub record CommandsHold (home : Homes) (order : Order) (log : Log) (sites : List SiteState) : Type 0 where
  pub told : (tag : Tag) (place : ℕ) (atom : Atom (List ℕ)) (outcome : Outcome) → command_at order tag ≡ Some (to_place place atom) → outcome_at order tag ≡ Some outcome
      → HasOutcome home place tag (histories_of sites place) log outcome
  pub untaken : (place i j : ℕ) (site : SiteState) (way : StaleState) (tag : Tag) → slice_get sites place ≡ Some site → slice_get site.lost i ≡ Some way
      → slice_get way.untaken j ≡ Some tag → IsUntaken home place order log tag

-- A log leaves a pool in this state, whose requests were taken in this order and routed by this ring at first, and which emitted
-- these bytes.
pub record LogHolds (opening : RingState) (order : Order) (outs : ℕ → List ℕ) (log : Log) (pool : PoolState) : Type 0 where
  pub servers : ServersHold opening log pool
  pub requests : RequestsHold opening order log pool
  pub answers : AnswersHold order outs log pool
  pub histories : HistoriesHold order log (histories_of pool.sites)
  pub commands : CommandsHold (home_of pool) order log pool.sites

-- A pool in which nothing has happened: its links are up, no session has answered a request, and no server took anything.
pub record IsFresh (opening : RingState) (pool : PoolState) : Type 0 where
  pub ring : (proxy : ℕ) → proxy < length pool.proxies → (proxy_at pool proxy).ring ≡ opening
  pub is_ring : IsRing opening
  pub linked : (proxy : ℕ) → length (proxy_at pool proxy).links ≡ length (proxy_at pool proxy).ring.servers
  pub sited : length pool.sites ≡ length opening.servers
  pub ways : (place : ℕ) (site : SiteState) → slice_get pool.sites place ≡ Some site → length site.ways ≡ length pool.proxies
  pub ups : (proxy place : ℕ) → place < length (proxy_at pool proxy).links → (link_of pool proxy place).up ≡ true
  pub unanswered : (client : ℕ) (session : SessionState) → session_of pool client ≡ Some session → answered session ≡ 0
  pub histories : (place : ℕ) → histories_of pool.sites place ≡ []
  pub none_lost : (place : ℕ) (site : SiteState) → slice_get pool.sites place ≡ Some site → site.lost ≡ []
