-- How much memory a request takes that is taken: this project's own.
use Rattle.std.specs.Prelude.{ℕ, ◌+◌, ◌*◌}
use Rattle.mc_proxy.specs.declared.held.TheConstants.{COMMAND_ROOM, PENDING_ROOM, REQUEST_ROOM}

-- how many bytes a request of this many commands takes, beside the bytes of its keys and its block: room for itself, and for each command both
-- in the session and on its link
abbrev pub request_room : ℕ → ℕ
request_room commands = REQUEST_ROOM + commands * (COMMAND_ROOM + PENDING_ROOM)
