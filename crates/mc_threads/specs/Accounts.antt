-- The account of a run of threads: this project's own.
use Rattle.std.specs.Prelude.{ℕ, ◌≡◌, ◌<◌, true, Bool, false, List, [], ◌∷◌, ◌++◌, length, map, slice_index_or, All}
use Rattle.std.specs.List.{list_all}
use Rattle.std.specs.declared.vec.Vec.{Vec}
use Rattle.std.specs.declared.alloc.Global.{Global}
use Rattle.mc_request.specs.Requests.{requests_of}
use Rattle.mc_ring.specs.Rings.{RingState}
use Rattle.mc_route.specs.declared.losses.Losses.TheVariants.{Told}
use Rattle.mc_route.specs.declared.outcomes.Outcome.{Outcome}
use Rattle.mc_route.specs.declared.outcomes.Outcome.TheVariants.{Reply}
use Rattle.mc_cache.specs.CacheState.{CacheState}
use Rattle.mc_account.specs.Orders.{AreInOrder, HasChoice, IsSized, Order, TakenRequest, answers_of, commands_to, entries_of, taken_of}
use Rattle.mc_history.specs.Histories.{IsLegal, tag_in}
use Rattle.mc_history.specs.Named.{AreReplied, tags_of}
use Rattle.mc_history.specs.declared.entries.Entry.{Entry}

abbrev pub Bytes : Type 0
Bytes = Vec ℕ Global

-- pieces, joined
abbrev pub joined : List Bytes → List ℕ
joined [] = []
joined (piece ∷ pieces) = piece.items ++ joined pieces

-- the list at a place: empty if there is none
abbrev pub at : List (List ℕ) → ℕ → List ℕ
at lists place = slice_index_or lists place []

-- the text of each client, which is its pieces joined, and the bytes emitted to each
abbrev pub texts_of : List (Vec Bytes Global) → ℕ → List ℕ
texts_of inputs = at (map (λ pieces. joined pieces.items) inputs)

abbrev pub outs_of : List Bytes → ℕ → List ℕ
outs_of outputs = at (map (λ output. output.items) outputs)

-- whether an outcome is a reply
abbrev pub is_reply : Outcome → Bool
is_reply (Reply reply) = true
is_reply other = false

-- The account of a run of threads, by an order in which all requests were taken. It is over the clients' texts, the bytes emitted
-- to them, the servers' histories, and the moments that the servers' clocks had given before the run and after it, all by number.
pub record RunAccounts (ring : RingState) (opening : CacheState) (order : Order) (texts outs : ℕ → List ℕ) (histories : ℕ → List Entry) (began ended : ℕ → List ℕ) : Type 0 where
  -- the order has all requests of each client, in the client's order; each was routed by this ring, its choice for lost commands is
  -- `Told`, and each of its commands has a reply
  pub asked : (client : ℕ) → taken_of client order ≡ requests_of (texts client)
  pub numbered : (client : ℕ) → AreInOrder (entries_of client order)
  pub rings : All (λ (e : TakenRequest). e.ring ≡ ring) order
  pub chosen : All (HasChoice Told) order
  pub sized : All IsSized order
  pub all_replied : All (λ (e : TakenRequest). list_all is_reply e.outcomes ≡ true) order
  -- each history is legal, and has the commands of the order to its server, each once and in that order
  pub legal : (server : ℕ) → IsLegal order server opening (histories server)
  pub commands : (server : ℕ) → map tag_in (histories server) ≡ tags_of (commands_to server order)
  -- a reply is that of its server's history
  pub replied : (server : ℕ) → AreReplied server order (histories server)
  -- the bytes emitted to a client are the answers to all its requests, in order, and nothing else
  pub put : (client : ℕ) → outs client ≡ answers_of (entries_of client order)
  -- the moments that a server's clock gave in the run are those of its history, and one for `quit`
  pub clocked : (server : ℕ) → server < length ring.servers
      → (quit : ℕ) × (ended server ≡ began server ++ (map (λ (e : Entry). e.moment) (histories server) ++ quit ∷ []))

-- the account: such an order and such histories exist
abbrev pub RunAccount : RingState → CacheState → (ℕ → List ℕ) → (ℕ → List ℕ) → (ℕ → List ℕ) → (ℕ → List ℕ) → Type 0
RunAccount ring opening texts outs began ended =
    (order : Order) × (histories : ℕ → List Entry) × RunAccounts ring opening order texts outs histories began ended
