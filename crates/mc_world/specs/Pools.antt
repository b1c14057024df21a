-- What happens to a pool, as the contracts of its proxy's and servers' calls say, and the state of a pool after them.
use Rattle.std.specs.Prelude.{ℕ, ◌≡◌, ◌+◌, ◌<◌, true, List, [], ◌∷◌, ◌++◌, length, map, take, drop, None, Some, slice_get, slice_set, All}
use Rattle.mc_route.specs.Routes.{route_of_taken}
use Rattle.mc_link.specs.LinkState.{LinkState, can_come_back, up_link}
use Rattle.mc_link.specs.declared.turns.Tag.{Tag}
use Rattle.mc_cache.specs.CacheState.{CacheState}
use Rattle.mc_server.specs.ServerState.{connection_at, output_of}
use Rattle.mc_proxy.specs.Emits.{IsEmit}
use Rattle.mc_proxy.specs.Sending.{at_once}
use Rattle.mc_proxy.specs.SessionState.{with_link}
use Rattle.mc_proxy.specs.SessionTurns.{IsFed, IsTurn}
use Rattle.mc_proxy.specs.declared.session_turns.Emit.TheVariants as emits
use Rattle.mc_proxy.specs.declared.session_turns.SessionTurn.TheVariants as turns
use Rattle.mc_proxy.specs.LinkTurns.{Answers, lost_at}
use Rattle.mc_proxy.specs.ProxyState.{ProxyState, sent_by, without}
use Rattle.mc_proxy.specs.Turns.{Alone, Steps}
use Rattle.mc_account.specs.Lanes.{Lane}
use Rattle.mc_account.specs.Orders.{Order, TakenRequest}
use Rattle.mc_account.specs.Holds.{ProxyHolds, changed}
use Rattle.mc_world.specs.Happens.{Arrives, ArrivesLate, ComesBack, Ends, Enters, EntersLate, returned, taken_one}
use Rattle.mc_world.specs.Sites.{SiteHolds}
use Rattle.mc_world.specs.Homes.{of_proxy, own_of}
use Rattle.mc_world.specs.WorldState.{PoolState, SiteState, home_of, link_of, proxy_at, proxy_of, session_of, way_by, with_proxy}

-- a proxy is in this state now; the others, and which proxy each client has, are as they were
pub record ProxyBecomes (proxy : ℕ) (state : ProxyState) (old new : PoolState) : Type 0 where
  pub proxies : new.proxies ≡ with_proxy proxy state old.proxies
  pub homes : new.homes ≡ old.homes

-- all proxies, and which proxy each client has, are as they were
pub record ProxiesStay (old new : PoolState) : Type 0 where
  pub proxies : new.proxies ≡ old.proxies
  pub homes : new.homes ≡ old.homes

-- a client's bytes are fed to its session; a request of a client is taken; one of its answers is emitted
pub record HearsClient (client : ℕ) (piece : List ℕ) (old new : PoolState) : Type 0 where
  pub now : ProxyState
  pub steps : Steps client (proxy_of old client) now (Alone (IsFed piece))
  pub proxy : ProxyBecomes (home_of old client) now old new
  pub sites : new.sites ≡ old.sites

pub record TakesRequest (client : ℕ) (old new : PoolState) : Type 0 where
  pub now : ProxyState
  pub steps : Steps client (proxy_of old client) now (IsTurn client turns.Took (proxy_of old client).ring (proxy_of old client).losses)
  pub proxy : ProxyBecomes (home_of old client) now old new
  pub sites : new.sites ≡ old.sites

-- the request that was taken, as the order has it
abbrev pub asked_by : {client : ℕ} {old new : PoolState} → TakesRequest client old new → TakenRequest
asked_by {client = client} {old = old} taking = record {
  session = client;
  request = taking.steps.before.taken;
  what = taking.steps.step.0;
  ring = (proxy_of old client).ring;
  losses = (proxy_of old client).losses;
  outcomes = map (at_once (proxy_of old client).links) (route_of_taken (proxy_of old client).ring taking.steps.step.0);
}

pub record PutsAnswer (client : ℕ) (old new : PoolState) : Type 0 where
  pub now : ProxyState
  pub steps : Steps client (proxy_of old client) now (Alone (IsEmit emits.Done))
  pub proxy : ProxyBecomes (home_of old client) now old new
  pub sites : new.sites ≡ old.sites

-- a client takes the first bytes that were emitted to it; a client goes
pub record TakesBytes (client count : ℕ) (old new : PoolState) : Type 0 where
  pub proxy : ProxyBecomes (home_of old client) (sent_by client count (session_of old client) (proxy_of old client)) old new
  pub sites : new.sites ≡ old.sites

pub record ClientGoes (client : ℕ) (old new : PoolState) : Type 0 where
  pub proxy : ProxyBecomes (home_of old client) (record (proxy_of old client) { sessions = without client (proxy_of old client).sessions }) old new
  pub not_open : session_of new client ≡ None
  pub sites : new.sites ≡ old.sites

-- something happens at the site of a place, to which this proxy's link is up: these are the site and the site after it
pub record AtSite (proxy place : ℕ) (old new : PoolState) : Type 0 where
  pub site : SiteState
  pub now : SiteState
  pub at : slice_get old.sites place ≡ Some site
  pub up : (link_of old proxy place).up ≡ true
  pub sites : new.sites ≡ slice_set old.sites place now

-- a proxy whose link to a place is in this state now
abbrev pub relinked : ℕ → LinkState → ProxyState → ProxyState
relinked place link p = record p { links = with_link place link p.links }

-- the first bytes that a link of the proxy of this number has for its server arrive there
pub record ReachesServer (number place count : ℕ) (old new : PoolState) : Type 0 where
  pub there : AtSite number place old new
  pub arrives : Arrives number (take count (link_of old number place).output) there.site there.now
  pub proxy : ProxyBecomes number
      (relinked place (record (link_of old number place) { output = drop count (link_of old number place).output }) (proxy_at old number)) old new

-- a server takes a request of the living generation: the first pending command that it has not taken
pub record ServerTakes (proxy place moment : ℕ) (old new : PoolState) : Type 0 where
  pub there : AtSite proxy place old new
  pub tag : Tag
  pub next : slice_get (map (λ waiting. waiting.1) (link_of old proxy place).waiting) (way_by there.site proxy).ahead ≡ Some tag
  pub enters : Enters proxy moment tag there.site there.now
  pub proxies : ProxiesStay old new

-- the first bytes of its connection's output arrive at the proxy
pub record ReachesProxy (number place count : ℕ) (old new : PoolState) : Type 0 where
  pub there : AtSite number place old new
  pub leaves : there.now ≡ returned number count there.site
  pub proxy : ProxyBecomes number
      (relinked place (record (link_of old number place) {
        unread = (link_of old number place).unread ++ take count (output_of (connection_at there.site.server (way_by there.site number).connection));
      }) (proxy_at old number)) old new

-- the proxy takes a reply
pub record TakesReply (number place : ℕ) (old new : PoolState) : Type 0 where
  pub there : AtSite number place old new
  pub now : ProxyState
  pub answers : Answers place (proxy_at old number) now
  pub counts : there.now ≡ taken_one number there.site
  pub proxy : ProxyBecomes number now old new

-- a site whose link of a proxy is lost: the bytes go on their way, and the tags of the commands that the server has not taken are kept with
-- them
abbrev pub cut_off : ℕ → LinkState → SiteState → SiteState
cut_off proxy link site = record site {
  lost = site.lost ++ (record {
    proxy = proxy;
    generation = (way_by site proxy).generation;
    connection = (way_by site proxy).connection;
    going = link.output;
    untaken = drop (way_by site proxy).ahead (map (λ waiting. waiting.1) link.waiting);
  }) ∷ [];
}

pub record LosesLink (number place : ℕ) (old new : PoolState) : Type 0 where
  pub there : AtSite number place old new
  pub cut : there.now ≡ cut_off number (link_of old number place) there.site
  pub proxy : ProxyBecomes number (lost_at place (proxy_at old number)) old new

-- something happens at the site of a place, and nothing to the proxies
pub record AtSiteAlone (place : ℕ) (old new : PoolState) : Type 0 where
  pub site : SiteState
  pub now : SiteState
  pub at : slice_get old.sites place ≡ Some site
  pub sites : new.sites ≡ slice_set old.sites place now
  pub proxies : ProxiesStay old new

-- bytes of a lost generation arrive at its server; the server takes a request of it; and the server sees its end
pub record LateBytes (place i count : ℕ) (old new : PoolState) : Type 0 where
  pub there : AtSiteAlone place old new
  pub arrives : ArrivesLate i count there.site there.now

pub record LateTurn (place i moment : ℕ) (old new : PoolState) : Type 0 where
  pub there : AtSiteAlone place old new
  pub enters : EntersLate i moment there.site there.now

pub record EndSeen (place i : ℕ) (old new : PoolState) : Type 0 where
  pub there : AtSiteAlone place old new
  pub ends : Ends i there.site there.now

-- a proxy's link comes up: its server has admitted a connection for it
pub record LinkReturns (number place : ℕ) (old new : PoolState) : Type 0 where
  pub site : SiteState
  pub now : SiteState
  pub at : slice_get old.sites place ≡ Some site
  pub inside : place < length (proxy_at old number).links
  pub can : can_come_back (link_of old number place) ≡ true
  pub back : ComesBack number ((link_of old number place).generation + 1) site now
  pub sites : new.sites ≡ slice_set old.sites place now
  pub proxy : ProxyBecomes number (relinked place (up_link ((link_of old number place).generation + 1)) (proxy_at old number)) old new

-- lanes by proxy and place, with another of one link
abbrev pub relaned : ℕ → ℕ → Lane → (ℕ → ℕ → Lane) → ℕ → ℕ → Lane
relaned proxy place lane lanes = changed proxy (changed place lane (lanes proxy)) lanes

-- The invariant of a pool: its proxies, and each of its servers with its ways, agree with an order of requests and the lanes of their links, by proxy
-- and place.
pub record PoolHolds (opening : CacheState) (texts sent : ℕ → List ℕ) (order : Order) (lanes : ℕ → ℕ → Lane) (pool : PoolState) : Type 0 where
  pub proxies : (proxy : ℕ) → ProxyHolds (own_of (home_of pool) proxy texts) (own_of (home_of pool) proxy sent) (of_proxy (home_of pool) proxy order)
      (lanes proxy) (proxy_at pool proxy)
  pub sites : (place : ℕ) (site : SiteState) → slice_get pool.sites place ≡ Some site
      → SiteHolds (home_of pool) place order (λ proxy. lanes proxy place) (λ proxy. link_of pool proxy place) opening site
  pub ways : (place : ℕ) (site : SiteState) → slice_get pool.sites place ≡ Some site → length site.ways ≡ length pool.proxies
  pub bytes : (client : ℕ) → All (λ b. b < 256) (texts client)
