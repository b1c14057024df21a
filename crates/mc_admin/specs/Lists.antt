-- The figures that a program shows.
use Rattle.std.specs.Prelude.{ℕ, ◌+◌, ◌%◌, ◌^◌, Bool, true, false, List, [], ◌∷◌, ◌++◌, Option, Some, None}
use Rattle.mc_admin.specs.declared.names.Name.{Name}
use Rattle.mc_admin.specs.declared.names.Name.TheVariants.{Up, Version as VersionName, Uptime, Time, Pid, Threads, CurrConnections, MaxConnections, TotalConnections, RejectedConnections, Requests, BytesRead, BytesWritten, Buffered, Resident, CmdGet, GetHits, GetMisses, CmdSet, CurrItems, TotalItems, Bytes, LimitMaxbytes, LimitItems, Evictions, Expired, NoMemory, Missed, ServerUp, ServerLosses, ServerSent, ServerLost, ServerWaiting}
use Rattle.mc_admin.specs.declared.figures.Figure.{Figure}
use Rattle.mc_admin.specs.declared.figures.Value.TheVariants.{Number, Version}
use Rattle.mc_admin.specs.declared.lists.ClientFigures.{ClientFigures}
use Rattle.mc_admin.specs.declared.lists.StoreFigures.{StoreFigures}
use Rattle.mc_admin.specs.declared.lists.LinkFigures.{LinkFigures}

-- a number of the program's own, the first of its metric
abbrev pub own : Name → ℕ → Figure
own name n = record { name = name; server = None; value = Number n; first = true }

-- a number of the program's own that is not the first of its metric
abbrev pub further : Name → ℕ → Figure
further name n = record { name = name; server = None; value = Number n; first = false }

-- the memory of the process, if the system says it
abbrev pub resident_figures : Option ℕ → List Figure
resident_figures None = []
resident_figures (Some bytes) = own Resident bytes ∷ []

-- the figures of a process
unfoldable pub process_figures : ClientFigures → List Figure
process_figures c =
    own Up 1 ∷ own Pid c.pid ∷ own Uptime c.uptime ∷ own Time c.time
    ∷ record { name = VersionName; server = None; value = Version; first = true } ∷ own Threads 1 ∷ []

-- the figures of its clients, and of their traffic
unfoldable pub traffic_figures : ClientFigures → List Figure
traffic_figures c =
    own CurrConnections c.connected ∷ own MaxConnections c.most ∷ own TotalConnections c.accepted
    ∷ own RejectedConnections c.refused ∷ own Requests c.requests ∷ own BytesRead c.read ∷ own BytesWritten c.written ∷ own Buffered c.buffered ∷ []

-- the figures of the clients that a program serves
abbrev pub client_figures : ClientFigures → List Figure
client_figures c = process_figures c ++ traffic_figures c ++ resident_figures c.resident

-- the requests of a proxy's clients whose answers hide a loss, if they are counted
abbrev pub missed_figures : Option ℕ → List Figure
missed_figures None = []
missed_figures (Some count) = own Missed count ∷ []

-- the figures of commands
-- source: memcached's protocol.txt, "General-purpose statistics": cmd_get is get_hits and get_misses
unfoldable pub command_figures : StoreFigures → List Figure
command_figures s =
    own CmdGet ((s.hits + s.misses) % 2 ^ 64) ∷ own GetHits s.hits ∷ further GetMisses s.misses ∷ further CmdSet s.stores ∷ []

-- the figures of items, stored and removed
unfoldable pub item_figures : StoreFigures → List Figure
item_figures s =
    own CurrItems s.items ∷ own TotalItems s.stores ∷ own Bytes s.used ∷ own LimitMaxbytes s.budget ∷ own LimitItems s.most
    ∷ own Evictions s.evictions ∷ own Expired s.expired ∷ own NoMemory s.no_memory ∷ []

-- the figures of what a server stores
abbrev pub store_figures : StoreFigures → List Figure
store_figures s = command_figures s ++ item_figures s

-- the number that a name stands for, if it is of a proxy's server
abbrev pub link_number : Name → LinkFigures → ℕ
link_number ServerUp l = l.up
link_number ServerLosses l = l.losses
link_number ServerSent l = l.sent
link_number ServerLost l = l.lost
link_number ServerWaiting l = l.waiting
link_number _ l = 0

-- a number of each server; that of the first server may be the first of its metric
abbrev pub of_each : Bool → Name → List LinkFigures → List Figure
of_each first name [] = []
of_each first name (l ∷ ls) =
    record { name = name; server = Some l.server; value = Number (link_number name l); first = first } ∷ of_each false name ls

-- the figures of a proxy's servers
abbrev pub link_figures : List LinkFigures → List Figure
link_figures ls =
    of_each true ServerUp ls ++ of_each true ServerLosses ls ++ of_each true ServerSent ls ++ of_each true ServerLost ls
    ++ of_each true ServerWaiting ls
