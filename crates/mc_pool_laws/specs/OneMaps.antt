-- When all histories of an account are those of one map. All of it is this project's own.
use Rattle.std.specs.Prelude.{ℕ, ◌≡◌, Bool, true, false, List, map}
use Rattle.mc_ring.specs.Rings.{RingState}
use Rattle.mc_route.specs.Routes.{owner_in}
use Rattle.mc_cache.specs.CacheState.{CacheState, opening_cache}
use Rattle.mc_cache_laws.specs.Pools.{ActAsMap, ArePlainSteps, Caches, commands_at, empty_map, map_replies, opening_caches, replies_at}
use Rattle.mc_account.specs.Lookups.{command_at}
use Rattle.mc_account.specs.Orders.{Order}
use Rattle.mc_history.specs.declared.entries.Entry.{Entry}
use Rattle.mc_world.specs.declared.logs.Logged.{Logged}
use Rattle.mc_world.specs.declared.logs.Logged.TheVariants.{Happened, Joined, Restarted}
use Rattle.mc_world.specs.Accounts.{Accounts}
use Rattle.mc_world.specs.Logs.{Log, number_of, restarts}
use Rattle.mc_world.specs.Steps.{GivesAccount}
use Rattle.mc_world.specs.WorldState.{home_of}
use Rattle.mc_world.specs.Worlds.{WorldState, cache_of, history_of, put_out_of, text_of}
use Rattle.mc_pool_laws.specs.Executions.{LookUp, commands_of, executed, reply_texts, sent_at}

-- an entry that lets a server join at a proxy
abbrev pub joins : Logged → Bool
joins (Happened event) = false
joins (Joined proxy server address up) = true
joins (Restarted server) = false

-- A run is plain: no server joined at any proxy, none restarted, and each command of each history is a plain step of its server's cache. So no store
-- was refused, nothing was evicted, and no command was a flush, compared an item's number, or showed it.
pub record IsPlainRun (opening : CacheState) (look : LookUp) (histories : ℕ → List Entry) (log : Log) : Type 0 where
  pub unjoined : number_of joins log ≡ 0
  pub alive : (place : ℕ) → number_of (restarts place) log ≡ 0
  pub plain : (place : ℕ) → ArePlainSteps opening (commands_of look (histories place))

-- All histories together are those of one map. The commands that all servers executed contain each server's commands, in the order of its history.
-- Each is answered what the map answers, in the order of all; and the replies of each history are encoded so.
pub record AreOfOneMap (owner : List ℕ → ℕ) (caches : Caches) (look : LookUp) (histories : ℕ → List Entry) (log : Log) : Type 0 where
  pub all : (place : ℕ) → commands_at place (executed look histories log) ≡ commands_of look (histories place)
  pub act : ActAsMap owner empty_map caches (executed look histories log)
  pub told : (place : ℕ) → map (λ (e : Entry). e.reply) (histories place)
      ≡ reply_texts (commands_of look (histories place)) (replies_at place (executed look histories log) (map_replies empty_map (executed look histories log)))

-- if the run is plain, the histories are those of one map, from empty caches with these bounds
abbrev pub ArePlainlyOfOneMap : RingState → ℕ → ℕ → LookUp → (ℕ → List Entry) → Log → Type 0
ArePlainlyOfOneMap ring budget items look histories log =
    IsPlainRun (opening_cache budget items 0) look histories log → AreOfOneMap (owner_in ring) (opening_caches budget items 0) look histories log

-- A world gives account. If its run is plain, its histories are those of one map. The commands may be looked up in what its clients sent, or in any
-- order by which it gives account.
pub record ActsAsOneMap (w : WorldState) : Type 0 where
  pub account : GivesAccount w
  pub by_texts : ArePlainlyOfOneMap w.opening w.budget w.items (sent_at w.opening (text_of w.course)) (history_of w.course) w.course.log
  pub by_order : (order : Order) → Accounts (home_of w.course.pool) w.losses w.opening (cache_of w) order (text_of w.course) (put_out_of w.course) (history_of w.course) w.course.log
      → ArePlainlyOfOneMap w.opening w.budget w.items (command_at order) (history_of w.course) w.course.log
