-- The state of the caller's thread, between its clients and its ends of the rings.
use Rattle.std.specs.Prelude.{ℕ, ◌≡◌, ◌<◌, ◌+◌, true, List, [], ◌++◌, length, map, Some, All, codes}
use Rattle.rtrb.specs.Ring.{sent, received}
use Rattle.mc_ring.specs.Rings.{IsRing, RingState}
use Rattle.mc_route.specs.declared.losses.Losses.TheVariants.{Told}
use Rattle.mc_proxy.specs.SessionState.{SessionState, link_at}
use Rattle.mc_proxy.specs.ProxyState.{ProxyState, output_of, session_at, unanswered_of}
use Rattle.mc_proxy.specs.Turns.{waiting_of}
use Rattle.mc_account.specs.Lanes.{Lane}
use Rattle.mc_account.specs.Orders.{Order, TakenRequest}
use Rattle.mc_account.specs.Holds.{ProxyHolds, grown}
use Rattle.mc_threads.specs.Accounts.{Bytes, at, outs_of}
use Rattle.mc_threads.specs.declared.links.Ends.{Ends}

-- the session of a number is open
abbrev pub IsOpen : ProxyState → ℕ → Type 0
IsOpen proxy client = (session : SessionState) × (session_at proxy client ≡ Some session)

-- A proxy over the servers of a ring, whose links are up and were never lost, and whose choice for lost commands is `Told`. This
-- number of clients were admitted, which sent these texts, and to which these outputs were moved. These bytes were sent to each
-- server and received from it.
pub record Talks (ring : RingState) (clients : ℕ) (texts outs went came : ℕ → List ℕ) (proxy : ProxyState) : Type 0 where
  pub order : Order
  pub lanes : ℕ → Lane
  pub holds : ProxyHolds texts outs order lanes proxy
  pub is_ring : IsRing ring
  pub rings : All (λ (e : TakenRequest). e.ring ≡ ring) order
  pub ring_is : proxy.ring ≡ ring
  pub losses_is : proxy.losses ≡ Told
  pub admitted : proxy.admitted ≡ clients
  pub is_open : (client : ℕ) → client < clients → IsOpen proxy client
  pub bytes : (client : ℕ) → All (λ b. b < 256) (texts client)
  pub up : (server : ℕ) → server < length ring.servers → (link_at proxy.links server).up ≡ true
  pub since : (server : ℕ) → (lanes server).since ≡ 0
  pub went_is : (server : ℕ) → (lanes server).out ≡ went server
  pub came_is : (server : ℕ) → (lanes server).came ≡ came server

-- the bytes that were sent to each server and received from it, by the caller's ends of the rings
abbrev pub went_to : List Ends → ℕ → List ℕ
went_to ends = at (map (λ (e : Ends). sent e.to) ends)

abbrev pub came_from : List Ends → ℕ → List ℕ
came_from ends = at (map (λ (e : Ends). received e.from) ends)

-- the state of a whole round: the clients' bytes were moved to these outputs
abbrev pub RunTalks : RingState → ℕ → (ℕ → List ℕ) → List Bytes → List Ends → ProxyState → Type 0
RunTalks ring clients texts outputs ends proxy = Talks ring clients texts (outs_of outputs) (went_to ends) (came_from ends) proxy

-- all requests of a client that arrived were taken, answered and moved
pub record IsAnswered (proxy : ProxyState) (client : ℕ) : Type 0 where
  pub taken : waiting_of (session_at proxy client) ≡ []
  pub answered : unanswered_of (session_at proxy client) ≡ 0
  pub moved : output_of (session_at proxy client) ≡ []

-- no bytes are left to send to a server, and no reply is pending from it
pub record IsSilent (proxy : ProxyState) (server : ℕ) : Type 0 where
  pub sent : (link_at proxy.links server).output ≡ []
  pub none_waits : (link_at proxy.links server).waiting ≡ []

-- all clients are answered, and all servers silent
pub record IsQuiet (clients servers : ℕ) (proxy : ProxyState) : Type 0 where
  pub answered : (client : ℕ) → client < clients → IsAnswered proxy client
  pub silent : (server : ℕ) → server < servers → IsSilent proxy server

-- What the calls of the caller's thread do, whatever texts, outputs and ends: those that move no byte; replies of a server; a piece
-- of a client's text; one more client, with its text; each link moves bytes; bytes are moved to each client; and all of a round.
abbrev pub StillTalks : ProxyState → ProxyState → Type 0
StillTalks old new =
    (ring : RingState) (clients : ℕ) (texts outs went came : ℕ → List ℕ) → Talks ring clients texts outs went came old
    → Talks ring clients texts outs went came new

abbrev pub HasReplied : ℕ → ProxyState → ProxyState → Type 0
HasReplied server old new =
    (ring : RingState) (clients : ℕ) (texts outs went came : ℕ → List ℕ) → server < length ring.servers → Talks ring clients texts outs went came old
    → Talks ring clients texts outs went came new

abbrev pub HasFed : ℕ → List ℕ → ProxyState → ProxyState → Type 0
HasFed client piece old new =
    (ring : RingState) (clients : ℕ) (texts outs went came : ℕ → List ℕ) → Talks ring clients texts outs went came old
    → Talks ring clients (grown client piece texts) outs went came new

abbrev pub HasAdmitted : List ℕ → ProxyState → ProxyState → Type 0
HasAdmitted text old new =
    (ring : RingState) (clients : ℕ) (texts outs went came : ℕ → List ℕ) → Talks ring clients texts outs went came old
    → Talks ring (clients + 1) (grown clients text texts) outs went came new

abbrev pub HasCarried : List Ends → List Ends → ProxyState → ProxyState → Type 0
HasCarried ends now old new =
    (ring : RingState) (clients : ℕ) (texts outs : ℕ → List ℕ) → length ends ≡ length ring.servers
    → Talks ring clients texts outs (went_to ends) (came_from ends) old → Talks ring clients texts outs (went_to now) (came_from now) new

abbrev pub HasAnswered : List Bytes → List Bytes → ProxyState → ProxyState → Type 0
HasAnswered outputs now old new =
    (ring : RingState) (clients : ℕ) (texts went came : ℕ → List ℕ) → Talks ring clients texts (outs_of outputs) went came old
    → Talks ring clients texts (outs_of now) went came new

abbrev pub HasRound : List Bytes → List Bytes → List Ends → List Ends → ProxyState → ProxyState → Type 0
HasRound outputs outputs' ends ends' old new =
    (ring : RingState) (clients : ℕ) (texts : ℕ → List ℕ) → length ends ≡ length ring.servers
    → RunTalks ring clients texts outputs ends old → RunTalks ring clients texts outputs' ends' new

-- `quit` was sent to each of this number of servers, and nothing else
pub record HasQuit (servers : ℕ) (ends now : List Ends) : Type 0 where
  pub went : (server : ℕ) → server < servers → went_to now server ≡ went_to ends server ++ codes "quit\r\n"
  pub came : (server : ℕ) → came_from now server ≡ came_from ends server

-- The caller's thread is done: all is answered, and `quit` was sent to each server after all that its link sent.
pub record IsEnded (ring : RingState) (clients : ℕ) (texts : ℕ → List ℕ) (outputs : List Bytes) (ends : List Ends) (proxy : ProxyState) : Type 0 where
  pub went : ℕ → List ℕ
  pub talks : Talks ring clients texts (outs_of outputs) went (came_from ends) proxy
  pub quiet : IsQuiet clients (length ring.servers) proxy
  pub quit : (server : ℕ) → server < length ring.servers → went_to ends server ≡ went server ++ codes "quit\r\n"

abbrev pub HasEnded : List Bytes → List Bytes → List Ends → List Ends → ProxyState → ProxyState → Type 0
HasEnded outputs outputs' ends ends' old new =
    (ring : RingState) (clients : ℕ) (texts : ℕ → List ℕ) → length ends ≡ length ring.servers → length outputs ≡ clients
    → RunTalks ring clients texts outputs ends old → IsEnded ring clients texts outputs' ends' new
