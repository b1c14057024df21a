-- The state in which the requests that a proxy took leave a server and the ways to it.
use Rattle.std.specs.Prelude.{ℕ, ◌≡◌, ◌≢◌, ◌+◌, ◌≤◌, true, List, [], ◌∷◌, ◌++◌, length, map, Some, slice_get}
use Rattle.std.specs.List.{list_all}
use Rattle.mc_link.specs.LinkState.{LinkState}
use Rattle.mc_link.specs.declared.turns.Tag.{Tag}
use Rattle.mc_cache.specs.CacheState.{CacheState}
use Rattle.mc_cache_laws.specs.GoodCaches.{IsGoodCache}
use Rattle.mc_server.specs.ServerState.{ConnectionState, ServerState, connection_at}
use Rattle.mc_server.specs.Holds.{ServerHolds}
use Rattle.mc_account.specs.Lanes.{Lane, sent_on, spelled}
use Rattle.mc_account.specs.Orders.{Order, Tagged, commands_to}
use Rattle.mc_history.specs.Generations.{is_good}
use Rattle.mc_history.specs.Made.{AreMade, Each, Made, commands_on, entry_of, taking_of}
use Rattle.mc_history.specs.Named.{AreReplied, IsNamed, tags_made, tags_of, times}
use Rattle.mc_world.specs.Homes.{Homes, of_proxy}
use Rattle.mc_world.specs.WorldState.{SiteState, StaleState, way_by}

-- how often a tag is among the commands of lost generations that were not taken
abbrev pub untaken_times : Tag → List StaleState → ℕ
untaken_times tag [] = 0
untaken_times tag (way ∷ ways) = times tag way.untaken + untaken_times tag ways

-- The living generation of a proxy. Its connection is open. The bytes that left one end arrived at the other, both ways. The server took the first
-- of the commands that were sent, and the proxy took the replies to the first of these. No command was taken, or is to be taken, more
-- often than it was sent, in any life.
pub record IsLiving (home : Homes) (proxy place : ℕ) (order : Order) (lane : Lane) (all made : List Made) (texts sent : ℕ → List ℕ) (site : SiteState) : Type 0 where
  pub end : ConnectionState
  pub is_open : connection_at site.server (way_by site proxy).connection ≡ Some end
  pub out : texts (way_by site proxy).connection ≡ lane.out
  pub came : sent (way_by site proxy).connection ≡ lane.came
  pub others : List Tagged
  pub commands : sent_on place (of_proxy home proxy order) lane ≡ commands_on (way_by site proxy).connection made ++ others
  pub ahead : (way_by site proxy).ahead + length lane.replies ≡ length (commands_on (way_by site proxy).connection made)
  pub once : (tag : Tag) → times tag (tags_made all) + times tag (tags_of others) + untaken_times tag site.lost ≤ times tag (tags_of (commands_to place order))

-- A lost generation: its connection is open; the bytes that arrived and those on their way encode the commands that the server took and
-- those that it has not.
pub record IsLostWay (place : ℕ) (order : Order) (made : List Made) (texts : ℕ → List ℕ) (server : ServerState) (way : StaleState) : Type 0 where
  pub end : ConnectionState
  pub is_open : connection_at server way.connection ≡ Some end
  pub others : List Tagged
  pub put : texts way.connection ++ way.going ≡ spelled (commands_on way.connection made ++ others)
  pub good : list_all is_good (commands_on way.connection made ++ others) ≡ true
  pub untaken : way.untaken ≡ map (λ command. command.1) others
  pub named : Each (IsNamed place order) others

-- The invariant of a server with its ways, from what it made in this life. Its history records what it made in all its lives. Its cache
-- is good, so its replies are ones that commands can have. The lanes and links are those of each proxy to it.
pub record SiteHolds (home : Homes) (place : ℕ) (order : Order) (lanes : ℕ → Lane) (links : ℕ → LinkState) (opening : CacheState) (site : SiteState) : Type 0 where
  pub past : List Made
  pub made : List Made
  pub begun : length past ≡ site.begun
  pub texts : ℕ → List ℕ
  pub sent : ℕ → List ℕ
  pub server : ServerHolds opening texts sent (map taking_of made) site.server
  pub good_cache : IsGoodCache site.server.cache
  pub answers : AreMade opening made
  pub history : site.history ≡ map entry_of (past ++ made)
  pub good : list_all is_good (commands_to place order) ≡ true
  pub named : Each (λ m. IsNamed place order m.command) (past ++ made)
  pub all_named : Each (IsNamed place order) (commands_to place order)
  pub replied : AreReplied place order site.history
  -- each command that was sent was taken, or is still to be taken, at most once
  pub once : (tag : Tag) → times tag (tags_made (past ++ made)) + untaken_times tag site.lost ≤ times tag (tags_of (commands_to place order))
  pub living : (proxy : ℕ) → (links proxy).up ≡ true → IsLiving home proxy place order (lanes proxy) (past ++ made) made texts sent site
  pub lost : (i : ℕ) (way : StaleState) → slice_get site.lost i ≡ Some way → IsLostWay place order made texts site.server way
  -- no two ways share a connection
  pub apart : (i j : ℕ) (v w : StaleState) → slice_get site.lost i ≡ Some v → slice_get site.lost j ≡ Some w → i ≢ j → v.connection ≢ w.connection
  pub apart_living : (proxy : ℕ) → (links proxy).up ≡ true → (i : ℕ) (way : StaleState) → slice_get site.lost i ≡ Some way
      → (way_by site proxy).connection ≢ way.connection
  pub apart_ways : (p q : ℕ) → (links p).up ≡ true → (links q).up ≡ true → p ≢ q → (way_by site p).connection ≢ (way_by site q).connection
