-- The text of a pool script. Source: this project's own.
use Rattle.std.specs.Prelude.{◌≡◌, ℕ, List, ◌++◌, length, Ok}
use Rattle.mc_script.specs.Escapes.{client_lines}
use Rattle.mc_pool_script.specs.PoolScripts.{PoolSeen, clients_of, pool_script_of, servers_of}
use Rattle.mc_pool_script.specs.Plays.{HasPlayed, outs_of}
use Rattle.mc_pool_script.specs.Printed.{account_lines}
use Rattle.mc_world.specs.Worlds.{WorldState}
use Rattle.mc_world.specs.declared.errors.Step.{Step}

-- some world has played the script that an input is
pub record IsPlayOf (input : List ℕ) (script : PoolSeen) : Type 0 where
  pub read : pool_script_of input ≡ Ok script
  pub steps : List Step
  pub world : WorldState
  pub played : HasPlayed script steps world

-- a text is the lines of the clients of such a world: the bytes that were emitted to each
pub record IsPoolTextOf (input text : List ℕ) : Type 0 where
  pub script : PoolSeen
  pub play : IsPlayOf input script
  pub printed : text ≡ client_lines (outs_of (clients_of script) play.world.course)

-- a text is those lines, and the account of the world
pub record IsAccountOf (input text : List ℕ) : Type 0 where
  pub script : PoolSeen
  pub play : IsPlayOf input script
  pub printed : text ≡ client_lines (outs_of (clients_of script) play.world.course)
      ++ account_lines play.steps (clients_of script) (length (servers_of script)) play.world.course

-- what each line of the script that an input is does, if a world plays it
pub record AreStepsOf (input : List ℕ) (steps : List Step) : Type 0 where
  pub script : PoolSeen
  pub read : pool_script_of input ≡ Ok script
  pub world : WorldState
  pub played : HasPlayed script steps world
