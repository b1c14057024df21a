-- What is printed for an input. Source: this project's own.
use Rattle.std.specs.Prelude.{ℕ, Bool, true, false, List}
use Rattle.mc_script.specs.ScriptSeen.{Explains}
use Rattle.mc_script.specs.Scripts.{script_of}
use Rattle.mc_script.specs.Texts.{IsTextOf}
use Rattle.mc_script.specs.declared.errors.SimError.{SimError}
use Rattle.mc_pool_script.specs.PoolTexts.{IsAccountOf, IsPoolTextOf}
use Rattle.mc_pool_script.specs.PoolScripts.{pool_script_of}
use Rattle.mc_sim.specs.declared.texts.Printed.{Printed}
use Rattle.mc_sim.specs.declared.texts.Printed.TheVariants.{Account, Outputs}

-- a text is that of an input: as a script of a pool, with its account or without, or as one of a server
abbrev pub IsTextFor : Bool → Printed → List ℕ → List ℕ → Type 0
IsTextFor true Outputs input text = IsPoolTextOf input text
IsTextFor true Account input text = IsAccountOf input text
IsTextFor false printed input text = IsTextOf input text

-- why there is no text: the first bad line of the input as such a script, or refused memory
abbrev pub ExplainsFor : Bool → SimError → List ℕ → Type 0
ExplainsFor true error input = Explains error (pool_script_of input)
ExplainsFor false error input = Explains error (script_of input)
