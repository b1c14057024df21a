-- The first unread text of a session, and the request that was taken last: this project's own.
use Rattle.std.specs.Prelude.{ℕ, ◌-◌, Bool, false, List, length, slice_get, Option, Some, None}
use Rattle.std.specs.Option.{option_map_or}
use Rattle.mc_request_reader.specs.Hosts.{names_host}
use Rattle.mc_proxy.specs.SessionState.{SessionState, Unanswered}

-- whether the unread bytes of a session begin with a line that names a host, which no client of a cache sends; false if it is not open
abbrev pub is_foreign_at : Option SessionState → Bool
is_foreign_at None = false
is_foreign_at (Some session) = names_host session.reader.unread

-- how many commands the last unanswered request has: none if all are answered
abbrev pub commands_in : List Unanswered → ℕ
commands_in requests = option_map_or (λ request. length request.outcomes) (slice_get requests (length requests - 1)) 0

-- likewise of a session: none if it is not open
abbrev pub commands_of : Option SessionState → ℕ
commands_of None = 0
commands_of (Some session) = commands_in session.unanswered
