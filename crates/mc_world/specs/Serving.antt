-- The premises of a pool's calls: its servers serve a proxy.
use Rattle.std.specs.Prelude.{ℕ, ◌≡◌, ◌<◌, ◌≤◌, true, List, length, Some, slice_get}
use Rattle.mc_request.specs.declared.parts.Atom.{Atom}
use Rattle.mc_request.specs.declared.parts.Parsed.{Parsed}
use Rattle.mc_request.specs.declared.parts.Parsed.TheVariants.{Whole}
use Rattle.mc_request_reader.specs.Peeks.{IsFirst}
use Rattle.mc_request_reader.specs.Reader.{ReaderState}
use Rattle.mc_reply.specs.declared.replies.Reply.{Reply as AReply}
use Rattle.mc_codec.specs.Spellings.{is_good_atom, request_of}
use Rattle.mc_link.specs.LinkState.{LinkState}
use Rattle.mc_link.specs.Turns.{HasStrange, Takes}
use Rattle.mc_link.specs.declared.turns.Tag.{Tag}
use Rattle.mc_cache_laws.specs.GoodCaches.{IsGoodCache}
use Rattle.mc_server.specs.ServerState.{ConnectionState, ServerState, connection_at}
use Rattle.mc_server.specs.Turns.{waiting_of}
use Rattle.mc_world.specs.WorldState.{PoolState, SiteState, StaleState, WayState, link_of, proxy_at, way_by}

-- a request is a command as a proxy encodes it
abbrev pub IsSpelled : Parsed → Type 0
IsSpelled what = (atom : Atom (List ℕ)) × (what ≡ Whole (request_of atom)) × (is_good_atom atom ≡ true)

-- a server serves a proxy on a connection: the connection is open, the next request on it is a command as a proxy encodes it, and the
-- cache's reply is one that the command can have
pub record ServesProxy (number : ℕ) (server : ServerState) : Type 0 where
  pub end : ConnectionState
  pub is_open : connection_at server number ≡ Some end
  pub spelled : (what : Parsed) (after : ReaderState) → IsFirst end.reader what after → IsSpelled what
  pub good_cache : IsGoodCache server.cache

-- A site serves a proxy, whose link this is, on its living generation. If a whole request has arrived, its tag is known. The server's bytes are no
-- protocol violation, and each reply is to a command that was taken.
pub record WayServes (link : LinkState) (way : WayState) (server : ServerState) : Type 0 where
  pub generation : way.generation ≡ link.generation
  pub living : link.up ≡ true → ServesProxy way.connection server
  pub waits : link.up ≡ true → 0 < length (waiting_of (connection_at server way.connection)) → way.ahead < length link.waiting
  pub never_strange : link.up ≡ true → HasStrange link.waiting link.unread → ⊥
  pub replied : (tag : Tag) (reply : AReply (List ℕ)) (after : LinkState) → link.up ≡ true → Takes link tag reply after → 1 ≤ way.ahead

-- A site, whose proxies have these links, serves on each generation, also on a lost one.
pub record SiteServes (links : ℕ → LinkState) (site : SiteState) : Type 0 where
  pub ways : (proxy : ℕ) → WayServes (links proxy) (way_by site proxy) site.server
  pub lost : (i : ℕ) (way : StaleState) → slice_get site.lost i ≡ Some way → ServesProxy way.connection site.server
  pub untaken : (i : ℕ) (way : StaleState) → slice_get site.lost i ≡ Some way → 0 < length (waiting_of (connection_at site.server way.connection))
      → 0 < length way.untaken

-- each site of a pool serves, and has a way for each proxy; a proxy has no more links than there are sites
pub record PoolServes (pool : PoolState) : Type 0 where
  pub sited : (proxy : ℕ) → length (proxy_at pool proxy).links ≤ length pool.sites
  pub ways : (place : ℕ) (site : SiteState) → slice_get pool.sites place ≡ Some site → length site.ways ≡ length pool.proxies
  pub sites : (place : ℕ) (site : SiteState) → slice_get pool.sites place ≡ Some site → SiteServes (λ proxy. link_of pool proxy place) site
