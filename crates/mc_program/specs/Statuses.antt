-- The exit status of a program that fails: this project's own.
use Rattle.std.specs.Prelude.{ℕ, ◌≡◌, List, string_bytes}
use Rattle.std.specs.declared.io.ErrorKind.{ErrorKind as IoKind}
use Rattle.std.specs.declared.io.ErrorKind.TheVariants as io
use Rattle.clap.specs.Values.{kind_of}
use Rattle.clap.specs.declared.error.Error.{Error}
use Rattle.clap.specs.declared.error.kind.ErrorKind.{ErrorKind}
use Rattle.clap.specs.declared.error.kind.ErrorKind.TheVariants.{DisplayVersion, OutOfMemory}
use Rattle.mc_program.specs.declared.errors.ServeError.{ServeError}
use Rattle.mc_program.specs.declared.errors.ServeError.TheVariants.{Listen, Memory, MemoryFor}
use Rattle.mc_program.specs.declared.failures.Failure.{Failure}
use Rattle.mc_program.specs.declared.failures.Failure.TheVariants as failure
use Rattle.mc_program.specs.declared.failures.Failure.TheVariants.{NoText, Output, Serve, Words}

-- the status of a program that cannot serve, or cannot go on
abbrev pub status_of_error : ServeError → ℕ
status_of_error (Listen _) = 3
status_of_error Memory = 4
status_of_error (MemoryFor _) = 4

-- 0 if the words ask for the version, 2 if they are refused or ask for help
abbrev pub status_of_words : ErrorKind → ℕ
status_of_words DisplayVersion = 0
status_of_words _ = 2

-- 1 if output fails, 2 if a word is no text or the program refuses the words, and else that of the words or of the error of
-- serving
abbrev pub status_of : Failure → ℕ
status_of Output = 1
status_of (Words error) = status_of_words (kind_of error)
status_of (Serve error) = status_of_error error
status_of (failure.Listen _ _) = 3
status_of other = 2

-- the failure of a program that cannot serve at a place: the error, or the place and the cause beside it
abbrev pub Tells : List ℕ → ServeError → Failure → Type 0
Tells place error (failure.Listen told cause) = (error ≡ Listen cause) × (string_bytes told ≡ place)
Tells place error other = other ≡ Serve error

-- the failure of an error of the command line, by its kind: lack of memory, or words that are refused
abbrev pub failure_by_kind : ErrorKind → Error → Failure
failure_by_kind OutOfMemory error = Serve Memory
failure_by_kind other error = Words error

abbrev pub failure_by : Error → Failure
failure_by error = failure_by_kind (kind_of error) error

-- the failure of an error of reading the words, by its kind: lack of memory, or a word that is no text
abbrev pub failure_of : IoKind → Failure
failure_of io.OutOfMemory = Serve Memory
failure_of _ = NoText
