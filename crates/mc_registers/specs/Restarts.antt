-- What an application may rely on across a restart of its server: this project's own.
use Rattle.std.specs.Prelude.{◌≡◌, ℕ, ◌+◌, ◌≤◌, false, List, ◌∷◌, ◌++◌, length, Some}
use Rattle.mc_request.specs.declared.parts.Update.{Update}
use Rattle.mc_cache.specs.CacheState.{CacheState}
use Rattle.mc_cache.specs.Replay.{Command}
use Rattle.mc_registers.specs.Registers.{Done}
use Rattle.mc_registers.specs.Laws.{done_on}
use Rattle.mc_registers.specs.Guarantees.{is_done, update_in, number_shown, number_needed}

-- A `cas` loses nothing across restarts. A cache executed these commands, on whatever keys, and the numbers of a later cache begin above its own
-- by one for each command. A reply of the first showed a number: then no update of the same key that needs it is done by the later one.
abbrev pub CasLosesNothingAcrossRestarts : CacheState → CacheState → Type 0
CasLosesNothingAcrossRestarts first later =
    (commands anew : List Command) (key : List ℕ) (front back before after : List Done) (read cas : Done) (update : Update (List ℕ) (List ℕ)) (number : ℕ)
    → first.counter + length commands ≤ later.counter
    → done_on key first commands ≡ front ++ read ∷ back → number_shown read.reply ≡ Some number
    → done_on key later anew ≡ before ++ cas ∷ after → update_in cas.atom ≡ Some update → number_needed update ≡ Some number
    → is_done cas.reply ≡ false
