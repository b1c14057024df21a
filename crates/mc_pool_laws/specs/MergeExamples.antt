-- A run of two servers for the worked examples, in short. All of it is this project's own.
use Rattle.std.specs.Prelude.{ℕ, ◌==◌, pos, false, if◌then◌else◌, None, List, [], ◌∷◌, codes}
use Rattle.mc_request.specs.declared.parts.Atom.{Atom}
use Rattle.mc_request.specs.declared.parts.Request.TheVariants as requests
use Rattle.mc_request.specs.declared.parts.StoreMode.TheVariants.{Set}
use Rattle.mc_request.specs.declared.parts.Parsed.{Parsed}
use Rattle.mc_request.specs.declared.parts.Parsed.TheVariants.{Whole}
use Rattle.mc_request.specs.declared.parts.Update.TheVariants.{FlushAll, Store}
use Rattle.mc_ring.specs.Rings.{RingState}
use Rattle.mc_route.specs.declared.losses.Losses.TheVariants.{Told}
use Rattle.mc_cache.specs.Replay.{granted}
use Rattle.mc_cache_laws.specs.Pools.{Executed}
use Rattle.mc_account.specs.Orders.{Order, TakenRequest}
use Rattle.mc_history.specs.declared.entries.Entry.{Entry}
use Rattle.mc_world.specs.declared.events.Event.TheVariants.{ProxyTurn, ServerTurn}
use Rattle.mc_world.specs.declared.logs.Logged.TheVariants.{Happened}
use Rattle.mc_world.specs.Logs.{Log}

-- a ring of two servers, of which the first owns all keys
abbrev pub two_in_ring : RingState
two_in_ring = record { servers = codes "a:1" ∷ codes "b:1" ∷ []; points = record { point = 0; place = 0 } ∷ [] }

-- a client's first request, as it was taken
abbrev pub first_asked : ℕ → Parsed → TakenRequest
first_asked client what = record { session = client; request = 0; what = what; ring = two_in_ring; losses = Told; outcomes = [] }

-- client 7 sets a key, and client 8 flushes both servers
abbrev pub set_and_flush : Order
set_and_flush =
    first_asked 7 (Whole (requests.Update (Store Set None (codes "k") 0 (pos 0) (codes "v")) false))
    ∷ first_asked 8 (Whole (requests.Update (FlushAll (pos 0)) false)) ∷ []

-- a command of a client's first request, as a server took it
abbrev pub entry_of : ℕ → ℕ → ℕ → List ℕ → Entry
entry_of client atom moment reply = record { client = client; request = 0; atom = atom; moment = moment; refused = false; reply = reply }

-- the first server takes the flush and then the set, and the second the flush
abbrev pub two_histories : ℕ → List Entry
two_histories place =
    if place == 0 then entry_of 8 0 5 (codes "OK\r\n") ∷ entry_of 7 0 9 (codes "STORED\r\n") ∷ [] else entry_of 8 1 6 (codes "OK\r\n") ∷ []

-- their turns; that of the second is between those of the first
abbrev pub three_turns : Log
three_turns =
    Happened (ProxyTurn 7) ∷ Happened (ProxyTurn 8) ∷ Happened (ServerTurn 0 0 1 5) ∷ Happened (ServerTurn 0 1 1 6) ∷ Happened (ServerTurn 0 0 1 9) ∷ []

-- client 7 sets a key, and client 8 gets it
abbrev pub set_and_get : Order
set_and_get =
    first_asked 7 (Whole (requests.Update (Store Set None (codes "k") 0 (pos 0) (codes "v")) false))
    ∷ first_asked 8 (Whole (requests.Get (codes "k" ∷ []) None false)) ∷ []

-- the first server takes both, and the second nothing
abbrev pub one_history : ℕ → List Entry
one_history place =
    if place == 0 then entry_of 7 0 5 (codes "STORED\r\n") ∷ entry_of 8 0 6 (codes "VALUE k 0 1\r\nv\r\nEND\r\n") ∷ [] else []

abbrev pub two_turns : Log
two_turns = Happened (ProxyTurn 7) ∷ Happened (ServerTurn 0 0 1 5) ∷ Happened (ProxyTurn 8) ∷ Happened (ServerTurn 0 0 1 6) ∷ []

-- a command that was not refused, executed by a server at a moment
abbrev pub executed_at : ℕ → ℕ → Atom (List ℕ) → Executed
executed_at place moment atom = record { place = place; command = granted moment atom }
