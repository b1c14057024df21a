-- The other name by which requests may call the listener of operators: this project's own.
use Rattle.std.specs.Prelude.{ℕ, ◌==◌, ◌||◌, Bool, List, length}
use Rattle.mc_text.specs.Addresses.{is_host}

-- no name, or a host
abbrev pub is_name : List ℕ → Bool
is_name name = length name == 0 || is_host name
