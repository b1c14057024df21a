-- The code's scripts and errors, as definitions see them.
use Rattle.std.specs.Prelude.{◌≡◌, ℕ, Result, Err}
use Rattle.mc_script.specs.Scripts.{ScriptSeen}
use Rattle.mc_script.specs.declared.events.Script.{Script}
use Rattle.mc_script.specs.declared.errors.SimError.{SimError}
use Rattle.mc_script.specs.declared.errors.SimError.TheVariants.{BadLine, Stream, Memory}

-- a script, whose vector is a list
abbrev pub script_seen : Script → ScriptSeen
script_seen s = record { connections = s.connections; budget = s.budget; items = s.items; events = s.events.items }

-- why reading stopped: at the first bad line, or since memory was refused, which may happen at any
-- time
abbrev pub Explains : {Y : Type 0} → SimError → Result Y ℕ → Type 0
Explains (BadLine n) read = read ≡ Err n
Explains (Stream side) read = ⊥
Explains Memory read = Unit {0}
