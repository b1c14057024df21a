-- Whether a server gets any of some commands.
use Rattle.std.specs.Prelude.{ℕ, ◌==◌, Bool, List}
use Rattle.std.specs.List.{list_any}
use Rattle.mc_route.specs.declared.routes.Routed.{Routed}

-- whether any of some commands is for the server at a place
abbrev pub goes_to : ℕ → List Routed → Bool
goes_to place commands = list_any (λ command. command.server == place) commands
