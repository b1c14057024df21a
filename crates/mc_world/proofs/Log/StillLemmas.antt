-- Events of which a log shows nothing, and what they leave of a pool.
use Rattle.std.proofs.Common.{◌≡◌, ◌∙◌, ⊎_elim, ℕ, inl, inr, Bool, false, List, [], ◌∷◌, ◌++◌, length, Option, None, Some, slice_get, slice_set, refl, sym, ap, subst, arith}
use Rattle.std.proofs.lemmas.Bool.{cases_lt}
use Rattle.std.proofs.lemmas.Bool.Decides.{eqb_tells}
use Rattle.std.proofs.lemmas.List.{length-set, set_past}
use Rattle.std.proofs.lemmas.Option.{none-some}
use Rattle.mc_ring.specs.Rings.{RingState}
use Rattle.mc_link.specs.LinkState.{LinkState}
use Rattle.mc_link.specs.declared.turns.Tag.{Tag}
use Rattle.mc_proxy.specs.SessionState.{SessionState, answered, link_at, with_link}
use Rattle.mc_proxy.specs.ProxyState.{ProxyState, sent_by, session_at, without}
use Rattle.mc_account.specs.Answered.{answered_at}
use Rattle.mc_account.specs.Orders.{Order}
use Rattle.mc_account.proofs.CountLemmas.{answered_there}
use Rattle.mc_account.proofs.LaneLemmas.{link_other, link_own}
use Rattle.mc_account.proofs.OpenSessions.{without_other}
use Rattle.mc_world.specs.Homes.{home_in}
use Rattle.mc_world.specs.LogHolds.{LogHolds, ServersHold}
use Rattle.mc_world.specs.Logs.{Log, moment_of, puts, turn_of, up_by}
use Rattle.mc_world.specs.Pools.{ClientGoes, ProxiesStay, ProxyBecomes}
use Rattle.mc_world.specs.WorldState.{PoolState, SiteState, StaleState, histories_of, home_of, link_of, proxy_at, proxy_of, session_of}
use Rattle.mc_world.specs.declared.logs.Logged.{Logged}
use Rattle.mc_world.proofs.PoolEvents.ProxyLemmas.{all_keep, proxies_count, proxy_stays, session_stays}
use Rattle.mc_world.proofs.Log.CommandLemmas.{commands_still}
use Rattle.mc_world.proofs.Log.EntryLemmas.{HasUntaken, HasUntakenAt, got_set, history_still, untaken_still}
use Rattle.mc_world.proofs.Log.HistoryLemmas.{histories_go}
use Rattle.mc_world.proofs.Log.LogLemmas.{IsEvent}
use Rattle.mc_world.proofs.Log.OutcomeLemmas.{goes_same}
use Rattle.mc_world.proofs.Log.RequestLemmas.{WasOpen, answers_go, requests_go}
use Rattle.mc_world.proofs.Log.ServerLemmas.{AreAlike, becomes, servers_stay}

-- an event by which no request is taken or answered, and no server takes one
pub record IsQuiet (x : Logged) : Type 0 where
  pub event : IsEvent x
  pub turns : turn_of x ≡ []
  pub puts : (client : ℕ) → puts client x ≡ false
  pub moments : (place : ℕ) → moment_of place x ≡ []

-- a pool in which no more is open, answered, taken by a server, or kept as untaken
pub record IsStill (old new : PoolState) : Type 0 where
  pub alike : AreAlike old new
  pub open_ones : WasOpen old new
  pub histories : (place : ℕ) → histories_of new.sites place ≡ histories_of old.sites place
  pub untaken : (place : ℕ) (tag : Tag) → HasUntakenAt new.sites place tag → HasUntakenAt old.sites place tag

-- the log leaves the pool so, whatever becomes of its links
pub log_links : (opening : RingState) (order : Order) (outs : ℕ → List ℕ) (log : Log) (x : Logged) (old new : PoolState) → IsQuiet x → IsStill old new
    → ServersHold opening (log ++ x ∷ []) new → LogHolds opening order outs log old → LogHolds opening order outs (log ++ x ∷ []) new
log_links opening order outs log x old new quiet still servers h = record {
  servers = servers;
  requests = requests_go opening order order log x old new still.alike.homes (λ proxy. omega (arith, still.alike.links proxy)) quiet.turns (goes_same order) h.requests;
  answers = answers_go order order outs log x old new quiet.puts (λ client count out k. k) still.open_ones h.answers;
  histories = histories_go order order log x (histories_of old.sites) (histories_of new.sites) quiet.moments (λ tag lost. lost) still.histories h.histories;
  commands = commands_still opening order log x old new still.alike.homes h.requests still.histories still.untaken h.commands;
}

-- links that are up if they were
abbrev pub AreUpAs : PoolState → PoolState → Type 0
AreUpAs old new = (proxy place : ℕ) → (link_of new proxy place).up ≡ (link_of old proxy place).up

-- no link is lost or comes up
pub log_quiet : (opening : RingState) (order : Order) (outs : ℕ → List ℕ) (log : Log) (x : Logged) (old new : PoolState) → IsQuiet x
    → ((proxy place : ℕ) (up : Bool) → up_by proxy place x up ≡ up)
    → IsStill old new → AreUpAs old new → LogHolds opening order outs log old → LogHolds opening order outs (log ++ x ∷ []) new
log_quiet opening order outs log x old new quiet no_link still ups h =
    log_links opening order outs log x old new quiet still (servers_stay opening log x old new quiet.event no_link still.alike ups h.servers) h

-- sessions of a proxy that were open, with as many answers
abbrev pub AreOpenAs : ProxyState → ProxyState → Type 0
AreOpenAs old new =
    (client : ℕ) (session : SessionState) → session_at new client ≡ Some session → (first : SessionState) × (session_at old client ≡ Some first) × (answered session ≡ answered first)

-- each session has as many answers
pub open_as_many : (old new : ProxyState) → ((client : ℕ) → answered_at new client ≡ answered_at old client) → AreOpenAs old new
open_as_many old new same client session at = answered_there (session_at old client) (session_at new client) session (same client) at

-- one proxy is replaced by one whose sessions were open; all proxies stay
pub open_becomes : (proxy : ℕ) (now : ProxyState) (old new : PoolState) → ProxyBecomes proxy now old new → AreOpenAs (proxy_at old proxy) now → WasOpen old new
open_becomes proxy now old new is open_ones client session at =
    becomes (λ (p : ProxyState). session_at p client ≡ Some session → (first : SessionState) × (session_of old client ≡ Some first) × (answered session ≡ answered first))
    proxy now old new is (home_of old client)
    (λ same. subst (λ (n : ℕ). session_at now client ≡ Some session → (first : SessionState) × (session_at (proxy_at old n) client ≡ Some first) × (answered session ≡ answered first)) same
    (open_ones client session))
    (λ k. (session, k, refl))
    (ap (λ (hs : List ℕ). session_at (proxy_at new (home_in hs client)) client) (sym is.homes) ∙ at)

pub open_still : (old new : PoolState) → ProxiesStay old new → WasOpen old new
open_still old new is client session at = (session, sym (session_stays client old new is) ∙ at, refl)

-- a session is gone
pub open_without : (client : ℕ) (old new : PoolState) → ClientGoes client old new → WasOpen old new
open_without client old new goes other session at = ⊎_elim
    (λ same. let none : None ≡ Some session = sym goes.not_open ∙ ap (λ (n : ℕ). session_of new n) same.1 ∙ at in absurd (none-some session none))
    (λ differ. becomes (λ (p : ProxyState). session_at p other ≡ Some session → (first : SessionState) × (session_of old other ≡ Some first) × (answered session ≡ answered first))
    (home_of old client) (record (proxy_of old client) { sessions = without client (proxy_of old client).sessions }) old new goes.proxy (home_of old other)
    (λ same k. (session, ap (λ (n : ℕ). session_at (proxy_at old n) other) (sym same) ∙ sym (without_other client other (proxy_of old client).sessions differ.1) ∙ k, refl))
    (λ k. (session, k, refl))
    (ap (λ (hs : List ℕ). session_at (proxy_at new (home_in hs other)) other) (sym goes.proxy.homes) ∙ at))
    (eqb_tells client other)

-- the links, after that of one place is replaced by another that is up if it was
pub ups_with : (links : List LinkState) (place : ℕ) (link : LinkState) → link.up ≡ (link_at links place).up → (other : ℕ) → (link_at (with_link place link links) other).up ≡ (link_at links other).up
ups_with links place link same other = ⊎_elim
    (λ own. subst (λ (p : ℕ). (link_at (with_link place link links) p).up ≡ (link_at links p).up) own.1
    (⊎_elim (λ inside. ap (λ (l : LinkState). l.up) (link_own place link links inside) ∙ same)
    (λ past. ap (λ (ls : List LinkState). (link_at ls place).up) (set_past links place link past)) (cases_lt place (length links))))
    (λ differ. ap (λ (l : LinkState). l.up) (link_other place other link links differ.1))
    (eqb_tells place other)

-- those of all proxies, after one is replaced by one whose links are up if they were; and if all stay
pub ups_become : (proxy : ℕ) (now : ProxyState) (old new : PoolState) → ProxyBecomes proxy now old new
    → ((place : ℕ) → (link_at now.links place).up ≡ (link_of old proxy place).up) → AreUpAs old new
ups_become proxy now old new is ups other place = all_keep (λ (p : ProxyState). (link_at p.links place).up) proxy now old new is (ups place) other

pub ups_stay : (old new : PoolState) → ProxiesStay old new → AreUpAs old new
ups_stay old new is proxy place = ap (λ (p : ProxyState). (link_at p.links place).up) (proxy_stays old new is proxy)

-- proxies of the same rings, with as many links, whose open sessions were open with as many answers
pub record HaveStayed (old new : PoolState) : Type 0 where
  pub homes : new.homes ≡ old.homes
  pub proxies : length new.proxies ≡ length old.proxies
  pub ring : (proxy : ℕ) → (proxy_at new proxy).ring ≡ (proxy_at old proxy).ring
  pub links : (proxy : ℕ) → length (proxy_at new proxy).links ≡ length (proxy_at old proxy).links
  pub open_ones : WasOpen old new

-- one proxy is replaced; all stay
pub stay_become : (proxy : ℕ) (now : ProxyState) (old new : PoolState) → ProxyBecomes proxy now old new → now.ring ≡ (proxy_at old proxy).ring
    → length now.links ≡ length (proxy_at old proxy).links → WasOpen old new → HaveStayed old new
stay_become proxy now old new is ring links open_ones = record {
  homes = is.homes;
  proxies = proxies_count proxy now old new is;
  ring = all_keep (λ (p : ProxyState). p.ring) proxy now old new is ring;
  links = all_keep (λ (p : ProxyState). length p.links) proxy now old new is links;
  open_ones = open_ones;
}

pub stay_all : (old new : PoolState) → ProxiesStay old new → HaveStayed old new
stay_all old new is = record {
  homes = is.homes;
  proxies = ap (λ (ps : List ProxyState). length ps) is.proxies;
  ring = λ other. ap (λ (p : ProxyState). p.ring) (proxy_stays old new is other);
  links = λ other. ap (λ (p : ProxyState). length p.links) (proxy_stays old new is other);
  open_ones = open_still old new is;
}

-- the sites stay
alike_sites : (old new : PoolState) → HaveStayed old new → new.sites ≡ old.sites → AreAlike old new
alike_sites old new stayed sites = record {
  homes = stayed.homes;
  proxies = stayed.proxies;
  ring = stayed.ring;
  links = stayed.links;
  sites = ap (λ (ss : List SiteState). length ss) sites;
  ways = λ place site at. (site, ap (λ (ss : List SiteState). slice_get ss place) (sym sites) ∙ at, refl);
}

pub still_sites : (old new : PoolState) → HaveStayed old new → new.sites ≡ old.sites → IsStill old new
still_sites old new stayed sites = record {
  alike = alike_sites old new stayed sites;
  open_ones = stayed.open_ones;
  histories = λ place. ap (λ (ss : List SiteState). histories_of ss place) sites;
  untaken = λ place tag has. subst (λ (ss : List SiteState). HasUntakenAt ss place tag) sites has;
}

-- the site of one place is another, with as many ways
pub alike_at : (old new : PoolState) (place : ℕ) (site now : SiteState) → HaveStayed old new → slice_get old.sites place ≡ Some site → new.sites ≡ slice_set old.sites place now
    → length now.ways ≡ length site.ways → AreAlike old new
alike_at old new place site now stayed at sites ways = record {
  homes = stayed.homes;
  proxies = stayed.proxies;
  ring = stayed.ring;
  links = stayed.links;
  sites = ap (λ (ss : List SiteState). length ss) sites ∙ length-set old.sites place now;
  ways = λ other s there. elim (got_set old.sites place now other s (ap (λ (ss : List SiteState). slice_get ss other) (sym sites) ∙ there)) [
    | inl k ↦ (site, ap (λ (n : ℕ). slice_get old.sites n) (sym k.0) ∙ at, ap (λ (x : SiteState). length x.ways) k.1 ∙ ways)
    | inr k ↦ (s, k.1, refl)
  ];
}

-- with that history and no more untaken commands
pub still_at : (old new : PoolState) (place : ℕ) (site now : SiteState) → HaveStayed old new → slice_get old.sites place ≡ Some site → new.sites ≡ slice_set old.sites place now
    → length now.ways ≡ length site.ways → now.history ≡ site.history → ((tag : Tag) → HasUntaken now.lost tag → HasUntaken site.lost tag)
    → IsStill old new
still_at old new place site now stayed at sites ways history untaken = record {
  alike = alike_at old new place site now stayed at sites ways;
  open_ones = stayed.open_ones;
  histories = λ other. ap (λ (ss : List SiteState). histories_of ss other) sites ∙ history_still old.sites place site now at history other;
  untaken = λ other tag has. untaken_still old.sites place site now at untaken other tag (subst (λ (ss : List SiteState). HasUntakenAt ss other tag) sites has);
}

-- the ways stay
pub same_ways : (ways now : List StaleState) → now ≡ ways → (tag : Tag) → HasUntaken now tag → HasUntaken ways tag
same_ways ways now same tag h = subst (λ (ws : List StaleState). HasUntaken ws tag) same h

-- bytes that a session's client takes change nothing else of a proxy
pub sent_ring : (client count : ℕ) (session : Option SessionState) (p : ProxyState) → (sent_by client count session p).ring ≡ p.ring
sent_ring client count None p = refl
sent_ring client count (Some session) p = refl

pub sent_links : (client count : ℕ) (session : Option SessionState) (p : ProxyState) → (sent_by client count session p).links ≡ p.links
sent_links client count None p = refl
sent_links client count (Some session) p = refl
