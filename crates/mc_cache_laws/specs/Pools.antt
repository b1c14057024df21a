-- Several servers, each with a cache of its own: together these are one map, split by owner. This project's own.
use Rattle.std.specs.Prelude.{◌≡◌, ℕ, ◌==◌, List, [], ◌∷◌, Some, None, if◌then◌else◌}
use Rattle.std.specs.List.{All}
use Rattle.mc_reply.specs.declared.replies.Reply.{Reply}
use Rattle.mc_cache.specs.CacheState.{CacheState, opening_cache}
use Rattle.mc_cache.specs.Replay.{Command, command_step, replies}
use Rattle.mc_cache.specs.Step.{atom_key}
use Rattle.mc_cache_laws.specs.OneMap.{OneMap, map_step}
use Rattle.mc_cache_laws.specs.MapLaws.{IsPlainStep, IsUnflushed, map_of}

-- a command, and the number of the server that executes it
pub record Executed : Type 0 where
  pub place : ℕ
  pub command : Command

-- the caches of servers, by number
abbrev pub Caches : Type 0
Caches = ℕ → CacheState

-- the caches, one of them replaced
abbrev pub caches_with : ℕ → CacheState → Caches → Caches
caches_with place s caches other = if place == other then s else caches other

-- the caches and the reply after a command
abbrev pub pool_step : Caches → Executed → Caches × Reply (List ℕ)
pool_step caches e =
    (caches_with e.place (command_step (caches e.place) e.command).0 caches, (command_step (caches e.place) e.command).1)

-- the caches after commands, in the order in which they were executed, and what each was answered
abbrev pub pool_after : Caches → List Executed → Caches
pool_after caches [] = caches
pool_after caches (e ∷ es) = pool_after (pool_step caches e).0 es

abbrev pub pool_replies : Caches → List Executed → List (Reply (List ℕ))
pool_replies caches [] = []
pool_replies caches (e ∷ es) = (pool_step caches e).1 ∷ pool_replies (pool_step caches e).0 es

-- the map after commands, whatever server executes them, and what each was answered
abbrev pub map_after : OneMap → List Executed → OneMap
map_after map [] = map
map_after map (e ∷ es) = map_after (map_step map e.command.atom e.command.moment).0 es

abbrev pub map_replies : OneMap → List Executed → List (Reply (List ℕ))
map_replies map [] = []
map_replies map (e ∷ es) =
    (map_step map e.command.atom e.command.moment).1 ∷ map_replies (map_step map e.command.atom e.command.moment).0 es

-- the commands of one server, in order
abbrev pub commands_at : ℕ → List Executed → List Command
commands_at place [] = []
commands_at place (e ∷ es) = if e.place == place then e.command ∷ commands_at place es else commands_at place es

-- the owner of the command's key executes it
abbrev pub IsAtOwner : (List ℕ → ℕ) → Executed → Type 0
IsAtOwner owner e = (key : List ℕ) → atom_key e.command.atom ≡ Some key → e.place ≡ owner key

-- each command of one server is a plain step of its cache
abbrev pub ArePlainSteps : CacheState → List Command → Type 0
ArePlainSteps s [] = Unit {0}
ArePlainSteps s (command ∷ commands) =
    IsPlainStep s command.atom command.moment command.refused × ArePlainSteps (command_step s command).0 commands

-- the commands of each server are plain steps, and the owner of each key executes the commands on it
pub record StepPlainly (owner : List ℕ → ℕ) (caches : Caches) (es : List Executed) : Type 0 where
  pub at_owners : All (IsAtOwner owner) es
  pub plain : (place : ℕ) → ArePlainSteps (caches place) (commands_at place es)

-- the replies to the commands of one server, out of the replies to all
abbrev pub replies_at : ℕ → List Executed → List (Reply (List ℕ)) → List (Reply (List ℕ))
replies_at place [] rs = []
replies_at place (e ∷ es) [] = []
replies_at place (e ∷ es) (r ∷ rs) = if e.place == place then r ∷ replies_at place es rs else replies_at place es rs

-- each key's owner holds under it what the map holds
abbrev pub AreMap : (List ℕ → ℕ) → OneMap → Caches → Type 0
AreMap owner map caches = (key : List ℕ) → map key ≡ map_of (caches (owner key)).items key

abbrev pub AreUnflushed : Caches → Type 0
AreUnflushed caches = (place : ℕ) → IsUnflushed (caches place)

-- empty servers, and the empty map
abbrev pub opening_caches : ℕ → ℕ → ℕ → Caches
opening_caches budget limit counter place = opening_cache budget limit counter

abbrev pub empty_map : OneMap
empty_map key = None

-- each command is answered what the map answers, in the order of all and at each server; and after them each key's owner holds
-- under it what the map holds
pub record ActAsMap (owner : List ℕ → ℕ) (map : OneMap) (caches : Caches) (es : List Executed) : Type 0 where
  pub together : pool_replies caches es ≡ map_replies map es
  pub at_servers : (place : ℕ) → replies (caches place) (commands_at place es) ≡ replies_at place es (map_replies map es)
  pub holds : AreMap owner (map_after map es) (pool_after caches es)
  pub unflushed : AreUnflushed (pool_after caches es)
