-- An account without one of its clauses, to show why it has each of them. All of it is this project's own.
use Rattle.std.specs.Prelude.{ℕ, ◌≡◌, ◌≢◌, ◌<◌, true, List, ◌++◌, map, take, Some, slice_get, All}
use Rattle.std.specs.List.{list_all}
use Rattle.mc_request.specs.declared.parts.Atom.{Atom}
use Rattle.mc_request.specs.declared.parts.Parsed.{Parsed}
use Rattle.mc_request.specs.Requests.{requests_of}
use Rattle.mc_reply.specs.declared.replies.Reply.{Reply as AReply}
use Rattle.mc_reply.specs.Spelling.{spelling_of}
use Rattle.mc_ring.specs.Rings.{RingState}
use Rattle.mc_route.specs.declared.losses.Losses.{Losses}
use Rattle.mc_route.specs.Routes.{to_place}
use Rattle.mc_route.specs.declared.outcomes.Outcome.TheVariants as outcomes
use Rattle.mc_link.specs.declared.turns.Tag.{Tag}
use Rattle.mc_cache.specs.CacheState.{CacheState}
use Rattle.mc_account.specs.Lookups.{IsBefore, asked_at, command_at, outcome_at}
use Rattle.mc_account.specs.Orders.{AreInOrder, IsSized, Order, TakenRequest, commands_to, entries_of, is_complete, taken_of}
use Rattle.mc_history.specs.declared.entries.Entry.{Entry}
use Rattle.mc_history.specs.Histories.{HasReply, IsLegal, tag_in}
use Rattle.mc_history.specs.Named.{tags_of}
use Rattle.mc_world.specs.Accounts.{NotAnswered, WasNeverSentOrLost, WasTaken, answers_by}
use Rattle.mc_world.specs.Homes.{Homes, of_proxy, tags_through}
use Rattle.mc_world.specs.Logs.{IsRingAfter, Log, before, drops, in_life, moments_of, number_of, puts, serves, takes, turns_of}

-- the clauses of an account, by their names there; the second part of `placed` has a name of its own
pub data Clause : Type 0 where
  Asked : Clause
  Turns : Clause
  Numbered : Clause
  Rings : Clause
  Sized : Clause
  Legal : Clause
  Once : Clause
  Replied : Clause
  Lost : Clause
  Ordered : Clause
  Followed : Clause
  Answered : Clause
  Put : Clause
  After : Clause
  Moments : Clause
  Placed : Clause
  Unanswered : Clause

-- the clauses of an account, except one, as they are there
pub record AccountsBut (one : Clause) (home : Homes) (losses : Losses) (ring : RingState) (opening : CacheState) (order : Order) (texts outs : ℕ → List ℕ) (histories : ℕ → List Entry) (log : Log) : Type 0 where
  pub asked : one ≢ Asked → (client : ℕ) → (untaken : List Parsed) × (taken_of client order ++ untaken ≡ requests_of (texts client))
  pub turns : one ≢ Turns → map (λ (e : TakenRequest). e.session) order ≡ turns_of log
  pub numbered : one ≢ Numbered → (client : ℕ) → AreInOrder (entries_of client order)
  pub rings : one ≢ Rings → (client request : ℕ) (e : TakenRequest) → asked_at order client request ≡ Some e → IsRingAfter (home client) ring (before (takes client) request log) e.ring
  pub sized : one ≢ Sized → All IsSized order
  pub legal : one ≢ Legal → (place life : ℕ) → IsLegal order place opening (in_life place life log (histories place))
  pub once : one ≢ Once → (r s j k : ℕ) (d e : Entry) → slice_get (histories r) j ≡ Some d → slice_get (histories s) k ≡ Some e → tag_in d ≡ tag_in e
      → (r ≡ s) × (j ≡ k)
  pub replied : one ≢ Replied → (tag : Tag) (place : ℕ) (atom : Atom (List ℕ)) (reply : AReply (List ℕ)) → command_at order tag ≡ Some (to_place place atom)
      → outcome_at order tag ≡ Some (outcomes.Reply reply) → HasReply (histories place) tag (spelling_of atom reply)
  pub lost : one ≢ Lost → (tag : Tag) (place : ℕ) (atom : Atom (List ℕ)) → command_at order tag ≡ Some (to_place place atom)
      → outcome_at order tag ≡ Some outcomes.Lost → WasNeverSentOrLost home place tag (histories place) log
  pub ordered : one ≢ Ordered → (place j k : ℕ) (d e : Entry) (r q : AReply (List ℕ)) → slice_get (histories place) j ≡ Some d
      → slice_get (histories place) k ≡ Some e → j < k → d.client ≡ e.client → outcome_at order (tag_in d) ≡ Some (outcomes.Reply r)
      → outcome_at order (tag_in e) ≡ Some (outcomes.Reply q) → IsBefore (tag_in d) (tag_in e)
  pub followed : one ≢ Followed → (proxy place : ℕ) → number_of (drops proxy place) log ≡ 0
      → (untaken : List Tag) × (tags_through home proxy (histories place) ++ untaken ≡ tags_of (commands_to place (of_proxy home proxy order)))
  pub answered : one ≢ Answered → (client : ℕ) → list_all is_complete (take (number_of (puts client) log) (entries_of client order)) ≡ true
  pub put : one ≢ Put → (client : ℕ) → outs client ≡ answers_by losses (take (number_of (puts client) log) (entries_of client order))
  pub after : one ≢ After → (client request : ℕ) → request < number_of (puts client) log → request < number_of (takes client) (before (puts client) request log)
  pub moments : one ≢ Moments → (place : ℕ) → map (λ (e : Entry). e.moment) (histories place) ≡ moments_of place log
  pub placed : one ≢ Placed → (place k : ℕ) (e : Entry) → slice_get (histories place) k ≡ Some e → WasTaken (tag_in e) (before (serves place) k log)
  pub unanswered : one ≢ Unanswered → (place k : ℕ) (e : Entry) → slice_get (histories place) k ≡ Some e → (reply : AReply (List ℕ))
      → outcome_at order (tag_in e) ≡ Some (outcomes.Reply reply) → NotAnswered (tag_in e) (before (serves place) k log)

-- for each choice for lost commands, a run exists of which by some order all clauses except one hold, and this holds
-- too
abbrev pub Allows : Clause → (Homes → RingState → CacheState → (ℕ → List ℕ) → (ℕ → List ℕ) → (ℕ → List Entry) → Log → Type 0) → Type 0
Allows one P =
    (losses : Losses) → (home : Homes) × (ring : RingState) × (opening : CacheState) × (texts : ℕ → List ℕ) × (outs : ℕ → List ℕ) × (histories : ℕ → List Entry) × (log : Log)
    × ((order : Order) × AccountsBut one home losses ring opening order texts outs histories log) × P home ring opening texts outs histories log
