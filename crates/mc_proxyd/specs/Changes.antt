-- What a list of servers changes of the present servers: this project's own.
use Rattle.std.specs.Prelude.{ℕ, ◌+◌, List, [], ◌∷◌, length, Option, Some, None, nat_lt, if◌then◌else◌}
use Rattle.mc_proxyd.specs.declared.servers.NamedServer.{NamedServer}
use Rattle.mc_proxyd.specs.declared.changes.Change.{Change}
use Rattle.mc_proxyd.specs.declared.changes.Change.TheVariants.{Nothing, Missing, Moved, Joined}
use Rattle.std.specs.Str.{bytes_eq}

-- the first place, counted on from a number, at which the list lacks the servers' name
abbrev pub missing_from : (servers list : List NamedServer) → ℕ → Option ℕ
missing_from [] list place = None
missing_from (server ∷ servers) [] place = Some place
missing_from (server ∷ servers) (line ∷ list) place =
    if bytes_eq line.name server.name then missing_from servers list (place + 1) else Some place

-- the first place, counted on from a number, at which the list has another address than the servers, as far as both go
abbrev pub moved_from : (servers list : List NamedServer) → ℕ → Option ℕ
moved_from [] list place = None
moved_from (server ∷ servers) [] place = None
moved_from (server ∷ servers) (line ∷ list) place =
    if bytes_eq line.address server.address then moved_from servers list (place + 1) else Some place

-- if every name is at its place and every address is as before, the next server of the list joins, if there is one
abbrev pub join_by : (servers list : List NamedServer) → Change
join_by servers list = if nat_lt (length servers) (length list) then Joined (length servers) else Nothing

abbrev pub move_by : (servers list : List NamedServer) → Option ℕ → Change
move_by servers list (Some place) = Moved place
move_by servers list None = join_by servers list

abbrev pub refusal_by : (servers list : List NamedServer) → Option ℕ → Change
refusal_by servers list (Some place) = Missing place
refusal_by servers list None = move_by servers list (moved_from servers list 0)

-- the next step: none before every name is at its place; then addresses are taken over, in their order; then servers join
abbrev pub change_by : (servers list : List NamedServer) → Change
change_by servers list = refusal_by servers list (missing_from servers list 0)
