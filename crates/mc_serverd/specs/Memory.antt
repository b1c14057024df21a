-- How much memory a server may come to take, by what was measured of its items (docs/RUNNING.md, "Memory"). Source: this project's own.
use Rattle.std.specs.Prelude.{ℕ, ◌+◌, ◌-◌, ◌*◌, ◌/◌, ◌^◌, min, nat_lt, Option, Some, None, if◌then◌else◌}
use Rattle.mc_net.specs.declared.buffers.TheConstants.{ROOM_AHEAD}
use Rattle.mc_server.specs.declared.servers.TheConstants.{MAX_CONNECTIONS}
use Rattle.mc_serverd.specs.declared.memory.Limit.{Limit}
use Rattle.mc_serverd.specs.declared.memory.Limit.TheVariants.{Addresses, Group}

-- 1.07 of the budget, 112 bytes for each of the most items, and what is kept for clients: 32,768 bytes for each, the bytes for all of them, and those
-- for the one that is ahead; as far as 64 bits count
abbrev pub memory_of : (budget items buffers : ℕ) → ℕ
memory_of budget items buffers =
    min (budget * 107 / 100 + items * 112 + (MAX_CONNECTIONS * 32768 + ROOM_AHEAD) + buffers) (2 ^ 64 - 1)

-- what n items of 120 bytes cost, 184 each, if that leaves some of the budget
abbrev pub filled_by : ℕ → ℕ → Option ℕ
filled_by items budget = if nat_lt (items * 184) budget then Some (items * 184) else None

-- a limit that exists and is below what may be taken
abbrev pub below : ℕ → Option ℕ → Option ℕ
below memory None = None
below memory (Some limit) = if nat_lt limit memory then Some limit else None

-- the lower one of two optional limits: of the addresses of a process, and of its control group
abbrev pub lower_of : Option ℕ → Option ℕ → Option Limit
lower_of None None = None
lower_of (Some limit) None = Some (Addresses limit)
lower_of None (Some limit) = Some (Group limit)
lower_of (Some limit) (Some shared) = Some (if nat_lt limit shared then Addresses limit else Group shared)

-- the limit that a server meets which takes this much memory
abbrev pub met_limit : ℕ → Option ℕ → Option ℕ → Option Limit
met_limit memory limit shared = lower_of (below memory limit) (below memory shared)

-- a number of bytes in tenths of a unit, to the nearest
abbrev pub tenths_of : ℕ → ℕ → ℕ
tenths_of tenth bytes = (bytes + tenth / 2) / tenth
