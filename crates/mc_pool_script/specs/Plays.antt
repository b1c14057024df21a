-- A world that plays a pool script. Source: this project's own.
use Rattle.std.specs.Prelude.{◌≡◌, ℕ, List, [], ◌∷◌, map, replicate}
use Rattle.std.specs.List.{range_with_len}
use Rattle.mc_cache.specs.CacheState.{CacheState, opening_cache}
use Rattle.mc_pool_script.specs.PoolScripts.{IsOpeningRing, PoolSeen, losses_of}
use Rattle.mc_pool_script.specs.declared.lines.PoolLine.{PoolLine}
use Rattle.mc_pool_script.specs.declared.lines.PoolLine.TheVariants.{Drain, Event, Join, Learn, ProxyRestart, Restart}
use Rattle.mc_world.specs.Drains.{Drains}
use Rattle.mc_world.specs.Joins.{HasLearnedServer, HasServerJoined}
use Rattle.mc_world.specs.Restarts.{HasServerRestarted}
use Rattle.mc_world.specs.ProxyRestarts.{IsAnew, ProxyDies}
use Rattle.mc_world.specs.Quiet.{IsQuiet}
use Rattle.mc_world.specs.Rounds.{DrainsInRounds}
use Rattle.mc_world.specs.Steps.{GivesAccount, StepsTo}
use Rattle.mc_world.specs.Worlds.{CourseState, WorldState, put_out_of, world_opened}
use Rattle.mc_world.specs.declared.errors.Step.{Step}
use Rattle.mc_world.specs.declared.errors.Step.TheVariants.{Done}

-- the cache with which each server begins
abbrev pub cache_of : PoolSeen → CacheState
cache_of script = opening_cache script.budget script.items 0

-- what a line does to the course of a world, and the answer of its event's step: a server that joins, is learned or restarts
-- always does so, and so does a proxy that restarts; a drain is done in rounds until nothing is left
abbrev pub Plays : CacheState → PoolLine → Step → CourseState → CourseState → Type 0
Plays opening (Event event) step old new = StepsTo event step old new
Plays opening (Join proxy address) step old new = (step ≡ Done) × HasServerJoined proxy address opening old new
Plays opening (Learn proxy address) step old new = (step ≡ Done) × HasLearnedServer proxy address old new
Plays opening (Restart server) step old new = (step ≡ Done) × HasServerRestarted server opening old new
Plays opening (ProxyRestart proxy) step old new = (step ≡ Done) × ProxyDies proxy old new × IsAnew proxy new.pool
Plays opening (Drain moment) step old new = (step ≡ Done) × Drains moment old new × DrainsInRounds moment old new × IsQuiet new

-- what lines do, in sequence
abbrev pub PlaysAll : CacheState → List PoolLine → List Step → CourseState → CourseState → Type 0
PlaysAll opening [] [] old new = new ≡ old
PlaysAll opening (line ∷ lines) (step ∷ steps) old new = (next : CourseState) × Plays opening line step old next × PlaysAll opening lines steps next new
PlaysAll opening lines steps old new = ⊥

-- the world that a script begins with, with its choice for lost commands
pub record IsOpenedFor (script : PoolSeen) (world : WorldState) : Type 0 where
  pub ring : IsOpeningRing script world.opening
  pub is : world ≡ world_opened (losses_of script) world.opening (replicate script.proxies script.clients) script.budget script.items

-- a world has the ring, the choice for lost commands and the bounds with which another was opened
pub record KeepsOpening (old new : WorldState) : Type 0 where
  pub ring : new.opening ≡ old.opening
  pub losses : new.losses ≡ old.losses
  pub budget : new.budget ≡ old.budget
  pub items : new.items ≡ old.items

-- A world has played a script: it was opened as the script says, executed its lines in order, each with this answer, and gives account of all of
-- them.
pub record HasPlayed (script : PoolSeen) (steps : List Step) (world : WorldState) : Type 0 where
  pub first : WorldState
  pub opened : IsOpenedFor script first
  pub keeps : KeepsOpening first world
  pub played : PlaysAll (cache_of script) script.lines steps first.course world.course
  pub account : GivesAccount world

-- the bytes that were emitted to the first clients, in order
abbrev pub outs_of : ℕ → CourseState → List (List ℕ)
outs_of count course = map (λ client. put_out_of course client) (range_with_len 0 count)
