-- What was done, in order, and places in it: this project's own.
use Rattle.std.specs.Prelude.{ℕ, ◌≡◌, ◌≢◌, ◌⊎◌, zero, suc, ◌==◌, ◌&&◌, not, Bool, true, false, List, [], ◌∷◌, ◌++◌, length, take, drop, if◌then◌else◌}
use Rattle.mc_ring.specs.Points.{pairs_at, points_of}
use Rattle.mc_ring.specs.Rings.{RingState, Shows}
use Rattle.mc_history.specs.declared.entries.Entry.{Entry}
use Rattle.mc_world.specs.declared.events.Event.TheVariants.{Emit, LinkBack, LinkLost, ProxyTurn, ServerTurn}
use Rattle.mc_world.specs.declared.logs.Logged.{Logged}
use Rattle.mc_world.specs.declared.logs.Logged.TheVariants.{Happened, Joined, Restarted}

-- what was done, the oldest first, without the bytes of clients
abbrev pub Log : Type 0
Log = List Logged

-- whether an entry does this: it takes a request of this client; it emits one of its answers; this server takes a request; this proxy's link to
-- it is lost; that goes down, or is down when the server joins; the server restarts
abbrev pub takes : ℕ → Logged → Bool
takes client (Happened (ProxyTurn of)) = of == client
takes client other = false

abbrev pub puts : ℕ → Logged → Bool
puts client (Happened (Emit of)) = of == client
puts client other = false

abbrev pub serves : ℕ → Logged → Bool
serves server (Happened (ServerTurn proxy at generation moment)) = at == server
serves server other = false

abbrev pub loses : ℕ → ℕ → Logged → Bool
loses proxy server (Happened (LinkLost of at)) = (of == proxy) && (at == server)
loses proxy server other = false

abbrev pub drops : ℕ → ℕ → Logged → Bool
drops proxy server (Joined of at address up) = ((of == proxy) && (at == server)) && not up
drops proxy server other = loses proxy server other

abbrev pub restarts : ℕ → Logged → Bool
restarts server (Restarted at) = at == server
restarts server other = false

-- the number of entries that do so
abbrev pub number_of : (Logged → Bool) → Log → ℕ
number_of is [] = 0
number_of is (e ∷ es) = if is e then suc (number_of is es) else number_of is es

-- the log before the entry of a number, the first being number 0: the whole log if there is none
abbrev pub before : (Logged → Bool) → ℕ → Log → Log
before is number [] = []
before is zero (e ∷ es) = if is e then [] else e ∷ before is zero es
before is (suc number) (e ∷ es) = e ∷ before is (if is e then number else suc number) es

-- how many requests a server took before a life of it, the first life being number 0: each restart ends one
abbrev pub taken_before : ℕ → ℕ → Log → ℕ
taken_before server zero log = 0
taken_before server (suc life) log = number_of (serves server) (before (restarts server) life log)

-- the part of its history that it took in a life: empty if it had no life of that number
abbrev pub in_life : ℕ → ℕ → Log → List Entry → List Entry
in_life server life log history = drop (taken_before server life log) (take (taken_before server (suc life) log) history)

-- the clients whose requests were taken, one by each turn of the proxy
abbrev pub turn_of : Logged → List ℕ
turn_of (Happened (ProxyTurn client)) = client ∷ []
turn_of other = []

abbrev pub turns_of : Log → List ℕ
turns_of [] = []
turns_of (e ∷ es) = turn_of e ++ turns_of es

-- the moments at which a server took its requests
abbrev pub moment_of : ℕ → Logged → List ℕ
moment_of server (Happened (ServerTurn proxy at generation moment)) = if at == server then moment ∷ [] else []
moment_of server other = []

abbrev pub moments_of : ℕ → Log → List ℕ
moments_of server [] = []
moments_of server (e ∷ es) = moment_of server e ++ moments_of server es

-- whether the link of a proxy to a server is up after an entry, by whether it was before
abbrev pub up_by : ℕ → ℕ → Logged → Bool → Bool
up_by proxy server (Happened (LinkLost of at)) up = if (of == proxy) && (at == server) then false else up
up_by proxy server (Happened (LinkBack of at)) up = if (of == proxy) && (at == server) then true else up
up_by proxy server (Joined of at address now) up = if (of == proxy) && (at == server) then now else up
up_by proxy server other up = up

-- whether a link is up after a log, by whether it was before
abbrev pub up_from : ℕ → ℕ → Bool → Log → Bool
up_from proxy server up [] = up
up_from proxy server up (e ∷ es) = up_from proxy server (up_by proxy server e up) es

-- whether a link is up after a log: at first it is, and so is a link that the proxy does not have yet
abbrev pub is_up : ℕ → ℕ → Log → Bool
is_up proxy server log = up_from proxy server true log

-- a server has joined a ring at the last place: its points are added to those before
pub record HasJoined (server : ℕ) (address : List ℕ) (old new : RingState) : Type 0 where
  pub last : server ≡ length old.servers
  pub servers : new.servers ≡ old.servers ++ address ∷ []
  pub points : Shows (old.points ++ pairs_at server (points_of address)) new.points

-- a ring by which a proxy routes requests after a log, if it routed them by this one at first
abbrev pub IsRingAfter : ℕ → RingState → Log → RingState → Type 0
IsRingAfter proxy ring [] now = now ≡ ring
IsRingAfter proxy ring (Happened event ∷ es) now = IsRingAfter proxy ring es now
IsRingAfter proxy ring (Joined of server address up ∷ es) now =
    ((of ≡ proxy) × (next : RingState) × HasJoined server address ring next × IsRingAfter proxy next es now) ⊎ ((of ≢ proxy) × IsRingAfter proxy ring es now)
IsRingAfter proxy ring (Restarted server ∷ es) now = IsRingAfter proxy ring es now
