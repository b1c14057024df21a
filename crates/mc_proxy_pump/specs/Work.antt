-- The work of a pump of a session, in units: this project's own.
use Rattle.std.specs.Prelude.{ℕ, ◌+◌, ◌-◌, ◌/◌, length, Option}
use Rattle.mc_proxy.specs.FirstAndLast.{commands_of}
use Rattle.mc_proxy.specs.ProxyState.{output_of}
use Rattle.mc_proxy.specs.SessionState.{SessionState}
use Rattle.mc_proxy.specs.declared.session_turns.SessionTurn.{SessionTurn}
use Rattle.mc_proxy.specs.declared.session_turns.SessionTurn.TheVariants.{Took}
use Rattle.mc_proxy_pump.specs.declared.limits.TheConstants.{WORK_BYTES}

-- a request of this many commands that is taken: one unit, and one for each command
abbrev pub request_work : ℕ → ℕ
request_work commands = 1 + commands

-- an answer of this many bytes that is emitted: one unit, and one for each whole `WORK_BYTES` of them
abbrev pub answer_work : ℕ → ℕ
answer_work bytes = 1 + bytes / WORK_BYTES

-- a turn, by the session that it leaves, whose last unanswered request is the one that it took; if it took none, it is no work
abbrev pub turn_work : SessionTurn → Option SessionState → ℕ
turn_work Took after = request_work (commands_of after)
turn_work other after = 0

-- an answer that takes a session to another: its output grows by the answer
abbrev pub emit_work : Option SessionState → Option SessionState → ℕ
emit_work before after = answer_work (length (output_of after) - length (output_of before))
