-- The text of a script: a line for each client. Source: this project's own.
use Rattle.std.specs.Prelude.{◌≡◌, ℕ, List, Ok}
use Rattle.mc_script.specs.Escapes.{client_lines}
use Rattle.mc_script.specs.Scripts.{ScriptSeen, script_of}
use Rattle.mc_script.specs.Answers.{Answers}

-- a text is that of outputs which answer the script that the input is
pub record IsTextOf (input text : List ℕ) : Type 0 where
  pub script : ScriptSeen
  pub read : script_of input ≡ Ok script
  pub outputs : List (List ℕ)
  pub answers : Answers script outputs
  pub printed : text ≡ client_lines outputs
