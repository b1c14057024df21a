-- Exit statuses. Source: this project's own.
use Rattle.std.specs.Prelude.{ℕ}
use Rattle.mc_script.specs.declared.errors.SimError.{SimError}
use Rattle.mc_script.specs.declared.errors.SimError.TheVariants.{BadLine, Stream, Memory}

-- the exit status of a program that ends by an error
abbrev pub status_of : SimError → ℕ
status_of (BadLine n) = 2
status_of (Stream side) = 3
status_of Memory = 4
