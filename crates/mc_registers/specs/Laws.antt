-- The commands on one key that a cache executes: this project's own.
use Rattle.std.specs.Prelude.{ℕ, Bool, false, List, [], ◌∷◌, if◌then◌else◌}
use Rattle.std.specs.Option.{option_map_or}
use Rattle.std.specs.Str.{bytes_eq}
use Rattle.mc_request.specs.declared.parts.Atom.{Atom}
use Rattle.mc_cache.specs.CacheState.{CacheState}
use Rattle.mc_cache.specs.Replay.{Command, command_step}
use Rattle.mc_cache.specs.Step.{atom_key}
use Rattle.mc_registers.specs.Registers.{Done}

-- whether a command is on a key
abbrev pub is_on : List ℕ → Atom (List ℕ) → Bool
is_on key atom = option_map_or (λ own. bytes_eq own key) (atom_key atom) false

-- a command, and the reply that a cache gives it
abbrev pub done_by : CacheState → Command → Done
done_by s command = record { atom = command.atom; moment = command.moment; reply = (command_step s command).1 }

-- the commands on a key that a cache executes, each with its reply
abbrev pub done_on : List ℕ → CacheState → List Command → List Done
done_on key s [] = []
done_on key s (command ∷ commands) =
    if is_on key command.atom then done_by s command ∷ done_on key (command_step s command).0 commands else done_on key (command_step s command).0 commands
