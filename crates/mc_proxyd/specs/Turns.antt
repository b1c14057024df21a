-- What is done for a server's connection at a moment: this project's own.
use Rattle.std.specs.Prelude.{ℕ, ◌+◌, ◌-◌, ◌^◌, min, nat_le, if◌then◌else◌}
use Rattle.mc_proxyd.specs.declared.limits.TheConstants.{CONNECT_MILLIS, PROBE_MILLIS}
use Rattle.mc_proxyd.specs.declared.turns.Stage.{Stage}
use Rattle.mc_proxyd.specs.declared.turns.Stage.TheVariants.{Down, Asking, Connecting, Probing, Up}
use Rattle.mc_proxyd.specs.declared.turns.ConnectTurn.{ConnectTurn}
use Rattle.mc_proxyd.specs.declared.turns.ConnectTurn.TheVariants.{Rest, Begin, GoOn, GiveUp}
use Rattle.mc_proxyd.specs.declared.notices.Cause.{Cause}
use Rattle.mc_proxyd.specs.declared.notices.Cause.TheVariants.{TimedOut, LookUp, NoAnswer}

-- a try that was begun at a moment is given up some milliseconds later, as far as 64 bits count, for a cause; until then it has another turn
abbrev pub until_late : (span begun now : ℕ) → Cause → ConnectTurn → ConnectTurn
until_late span begun now cause turn = if nat_le (min (begun + span) (2 ^ 64 - 1)) now then GiveUp cause else turn

-- A server that is down is tried once it is time. A try that waits for a look-up goes on with it, and one that waits for its connection
-- waits; the three seconds are those of the try. Once the connection is established, its server has three more to answer. A server that is up
-- needs nothing.
abbrev pub turn_by : Stage → (begun next now : ℕ) → ConnectTurn
turn_by Down begun next now = if nat_le next now then Begin else Rest
turn_by Asking begun next now = until_late CONNECT_MILLIS begun now LookUp GoOn
turn_by Connecting begun next now = until_late CONNECT_MILLIS begun now TimedOut Rest
turn_by Probing begun next now = until_late PROBE_MILLIS begun now NoAnswer Rest
turn_by Up begun next now = Rest
