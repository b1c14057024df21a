-- Exit statuses. Source: this project's own.
use Rattle.std.specs.Prelude.{ℕ}
use Rattle.mc_program.specs.Statuses.{status_of as status_of_failure}
use Rattle.mc_script.specs.Statuses.{status_of as status_of_error}
use Rattle.mc_sim.specs.declared.endings.Ending.{Ending}
use Rattle.mc_sim.specs.declared.endings.Ending.TheVariants.{Words, Script}

-- the exit status of an ending
abbrev pub status_of : Ending → ℕ
status_of (Words failure) = status_of_failure failure
status_of (Script error) = status_of_error error
