-- Why a client of a proxy is held: this project's own.
use Rattle.std.specs.Prelude.{Bool, true, false, if◌then◌else◌}
use Rattle.mc_stream.specs.declared.outcomes.Pumped.{Pumped}
use Rattle.mc_stream.specs.declared.outcomes.Pumped.TheVariants.{Blocked}
use Rattle.mc_proxyd.specs.declared.holds.Held.{Held}
use Rattle.mc_proxyd.specs.declared.holds.Held.TheVariants.{No, ByOwn, ByLink}

-- A pump that is blocked although a request has arrived was stopped by a mark: one of the client, if it has reached one, and else a link's. No
-- other pump holds its client.
abbrev pub held_after : Pumped → (ready marked : Bool) → Held
held_after Blocked ready marked = if ready then (if marked then ByOwn else ByLink) else No
held_after other ready marked = No

-- A client that its own mark holds is free once that has fallen. One that a link holds is free once it is released.
abbrev pub holds : Held → Bool → Bool
holds No marked = false
holds ByOwn marked = marked
holds ByLink marked = true
