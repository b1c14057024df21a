-- A run: a script in, its text out. Source: this project's own.
use Rattle.std.specs.Prelude.{ℕ, List, Option}
use Rattle.std.specs.Io.KnownBytes.{Appends, Keeps}
use Rattle.mc_script.specs.declared.errors.SimError.{SimError}
use Rattle.mc_script.specs.declared.errors.SimError.TheVariants.{BadLine, Stream}
use Rattle.mc_script.specs.declared.errors.Side.TheVariants.{Output}
use Rattle.mc_pool_script.specs.Kinds.{is_of_pool}
use Rattle.mc_sim.specs.Printed.{ExplainsFor, IsTextFor}
use Rattle.mc_sim.specs.declared.texts.Printed.{Printed}

-- the text of an input was written, and nothing else
pub record Prints (printed : Printed) (input : List ℕ) (old new : Option (List ℕ)) : Type 0 where
  pub text : List ℕ
  pub is : IsTextFor (is_of_pool input) printed input text
  pub written : Appends old new text

-- any cause that stops a run, except a failed write, stops it before anything is written
abbrev pub StopsBeforeWriting : SimError → Option (List ℕ) → Option (List ℕ) → Type 0
StopsBeforeWriting (Stream Output) old new = Unit {0}
StopsBeforeWriting other old new = Keeps old new

-- if a run stopped at a bad line, that is the first one of the input
abbrev pub IsBadLineOf : SimError → List ℕ → Type 0
IsBadLineOf (BadLine n) input = ExplainsFor (is_of_pool input) (BadLine n) input
IsBadLineOf other input = Unit {0}
