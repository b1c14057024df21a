-- A log still leaves a pool so after a request was taken, an answer emitted, and a turn of a server: one lemma for each.
use Rattle.std.proofs.Common.{◌≡◌, ◌≢◌, ◌∙◌, ⊎_elim, ℕ, suc, ◌≤◌, inl, inr, true, false, List, [], ◌∷◌, ◌++◌, length, map, Some, slice_get, slice_set, refl, sym, ap, subst, arith}
use Rattle.std.proofs.lemmas.Bool.{cases_Bool}
use Rattle.std.proofs.lemmas.List.{length-set}
use Rattle.mc_ring.specs.Rings.{RingState}
use Rattle.mc_route.specs.Routes.{route_of_taken}
use Rattle.mc_route.specs.declared.outcomes.Outcome.TheVariants.{Lost}
use Rattle.mc_route.specs.declared.routes.Routed.{Routed}
use Rattle.mc_link.specs.LinkState.{LinkState, Waiting}
use Rattle.mc_link.specs.declared.turns.Tag.{Tag}
use Rattle.mc_cache.specs.CacheState.{CacheState}
use Rattle.mc_proxy.specs.Sending.{handed}
use Rattle.mc_proxy.specs.SessionState.{link_at}
use Rattle.mc_proxy.specs.declared.session_turns.SessionTurn.TheVariants as turns
use Rattle.mc_proxy.specs.ProxyState.{ProxyState}
use Rattle.mc_account.specs.Lanes.{Lane}
use Rattle.mc_account.specs.Lookups.{IsBefore, IsRoutedWithin}
use Rattle.mc_account.specs.Orders.{Order, Tagged, commands_from}
use Rattle.mc_account.proofs.CountLemmas.{answered-turn}
use Rattle.mc_account.proofs.HandingLemmas.{handed_at, received, received_down, received_up}
use Rattle.mc_account.proofs.OpenSessions.{other_number, own_number}
use Rattle.mc_account.proofs.StayingLemmas.{answers_push}
use Rattle.mc_history.specs.declared.entries.Entry.{Entry}
use Rattle.mc_history.specs.Histories.{tag_in}
use Rattle.mc_world.specs.Accounts.{up_when_taken}
use Rattle.mc_world.specs.Happens.{entry_of_tag}
use Rattle.mc_world.specs.Homes.{Homes}
use Rattle.mc_world.specs.LogHolds.{AreOrdered, IsPlaced, LogHolds}
use Rattle.mc_world.specs.Logs.{Log}
use Rattle.mc_world.specs.Pools.{LateTurn, PoolHolds, ProxiesStay, PutsAnswer, ServerTakes, TakesRequest, asked_by}
use Rattle.mc_world.specs.Sites.{SiteHolds}
use Rattle.mc_world.specs.WorldState.{PoolState, SiteState, StaleState, histories_of, home_of, link_of, proxy_of, way_by}
use Rattle.mc_world.specs.declared.events.Event.TheVariants.{Emit, ProxyTurn, ServerTurn}
use Rattle.mc_world.specs.declared.logs.Logged.TheVariants.{Happened}
use Rattle.mc_world.proofs.PoolEvents.ProxyLemmas.{session_is_there}
use Rattle.mc_world.proofs.Log.CommandLemmas.{commands_serve, commands_still, outcome_taken}
use Rattle.mc_world.proofs.Log.EntryLemmas.{HasUntaken, HasUntakenAt, history_at, history_other, history_own, untaken_fewer, untaken_still}
use Rattle.mc_world.proofs.Log.HistoryLemmas.{histories_go, histories_serve}
use Rattle.mc_world.proofs.Log.LivingLemmas.{made_before}
use Rattle.mc_world.proofs.Log.OutcomeLemmas.{goes_same, pool_numbered}
use Rattle.mc_world.proofs.Log.RequestLemmas.{answers_go, answers_put, requests_go, requests_take}
use Rattle.mc_world.proofs.Log.ServerLemmas.{AreAlike, alike_becomes, servers_stay}
use Rattle.mc_world.proofs.Log.StillLemmas.{alike_at, open_as_many, open_becomes, open_still, stay_all, ups_become, ups_stay}
use Rattle.mc_world.proofs.Log.TakenLemmas.{commands_take, lost_pushed}
use Rattle.mc_world.proofs.Log.WaitingLemmas.{waits_at}
use Rattle.mc_world.proofs.SiteEvents.SiteLemmas.{same_tag, takes_next, waits_next}

-- Emit
pub log_puts : (ring : RingState) (opening : CacheState) (texts sent : ℕ → List ℕ) (order : Order) (lanes : ℕ → ℕ → Lane) (outs outs' : ℕ → List ℕ) (log : Log) (client : ℕ) (old new : PoolState)
    → (e : PutsAnswer client old new) → PoolHolds opening texts sent order lanes old → PoolHolds opening texts sent order lanes new
    → ((other : ℕ) → client ≢ other → outs' other ≡ outs other) → outs' client ≡ sent client ++ e.steps.after.output → LogHolds ring order outs log old
    → LogHolds ring order outs' (log ++ Happened (Emit client) ∷ []) new
log_puts ring opening texts sent order lanes outs outs' log client old new e was is others out h =
    let home : ℕ = home_of old client in
    let alike : AreAlike old new = alike_becomes home e.now old new e.proxy e.steps.ring (ap (λ (ls : List LinkState). length ls) e.steps.step.0) e.sites in
    let same : (place : ℕ) → histories_of new.sites place ≡ histories_of old.sites place = λ place. ap (λ (ss : List SiteState). histories_of ss place) e.sites in
    record {
      servers = servers_stay ring log (Happened (Emit client)) old new tt (λ proxy place up. refl) alike
          (ups_become home e.now old new e.proxy (λ place. ap (λ (ls : List LinkState). (link_at ls place).up) e.steps.step.0)) h.servers;
      requests = requests_go ring order order log (Happened (Emit client)) old new alike.homes (λ proxy. omega (arith, alike.links proxy)) refl (goes_same order) h.requests;
      answers = answers_put opening texts sent order lanes client outs outs' log (Happened (Emit client)) old new (own_number client) (λ other differ. other_number client other differ) was is e
          others out h.requests.turns h.answers;
      histories = histories_go order order log (Happened (Emit client)) (histories_of old.sites) (histories_of new.sites) (λ place. refl) (λ tag lost. lost) same h.histories;
      commands = commands_still ring order log (Happened (Emit client)) old new alike.homes h.requests same
          (λ place tag has. subst (λ (ss : List SiteState). HasUntakenAt ss place tag) e.sites has) h.commands;
    }

-- links to which commands are handed are up if they were
received_stays : (cs : List Tagged) (link : LinkState) → (received cs link).up ≡ link.up
received_stays cs link =
    ⊎_elim (λ (up : link.up ≡ true). ap (λ (l : LinkState). l.up) (received_up cs link up)) (λ (down : link.up ≡ false). ap (λ (l : LinkState). l.up) (received_down cs link down)) (cases_Bool link.up)

as_many_links : (session request at : ℕ) (routes : List Routed) (links : List LinkState) → length (handed session request at routes links) ≡ length links
as_many_links session request at [] links = refl
as_many_links session request at (c ∷ cs) links = grind (arith, length-set, as_many_links session request (suc at) cs)

-- ProxyTurn
pub log_takes : (opening : RingState) (order : Order) (outs : ℕ → List ℕ) (log : Log) (client : ℕ) (old new : PoolState)
    → (e : TakesRequest client old new) → LogHolds opening order outs log old
    → LogHolds opening (order ++ asked_by e ∷ []) outs (log ++ Happened (ProxyTurn client) ∷ []) new
log_takes opening order outs log client old new e h =
    let home : ℕ = home_of old client in
    let before : ProxyState = proxy_of old client in
    let there = session_is_there client e.steps.before old e.steps.was in
    let links : length e.now.links ≡ length before.links =
    ap (λ (ls : List LinkState). length ls) e.steps.step.1.sent ∙ as_many_links client e.steps.before.taken 0 (route_of_taken before.ring e.steps.step.0) before.links in
    let alike : AreAlike old new = alike_becomes home e.now old new e.proxy e.steps.ring links e.sites in
    let few : length before.ring.servers ≤ length before.links = omega (arith, h.servers.linked home) in
    let routed : IsRoutedWithin (length before.links) (asked_by e) = record { ring = h.servers.is_ring home there; few = few } in
    let same : (place : ℕ) → (link_at e.now.links place).up ≡ (link_at before.links place).up = λ place.
    ap (λ (ls : List LinkState). (link_at ls place).up) e.steps.step.1.sent
    ∙ ap (λ (l : LinkState). l.up) (handed_at place client e.steps.before.taken 0 (route_of_taken before.ring e.steps.step.0) before.links)
    ∙ received_stays (commands_from place client e.steps.before.taken 0 (route_of_taken before.ring e.steps.step.0)) (link_at before.links place) in
    record {
      servers = servers_stay opening log (Happened (ProxyTurn client)) old new tt (λ proxy place up. refl) alike (ups_become home e.now old new e.proxy same) h.servers;
      requests = requests_take opening order (asked_by e) log (Happened (ProxyTurn client)) old new alike (own_number client) refl (h.servers.ring home there) routed h.requests;
      answers = answers_go order (order ++ asked_by e ∷ []) outs log (Happened (ProxyTurn client)) old new (λ c. refl)
          (λ c count out k. answers_push c order (asked_by e) count out [] k)
          (open_becomes home e.now old new e.proxy (open_as_many before e.now (answered-turn client turns.Took before.ring before.losses before e.now e.steps))) h.answers;
      histories = histories_go order (order ++ asked_by e ∷ []) log (Happened (ProxyTurn client)) (histories_of old.sites) (histories_of new.sites) (λ place. refl) (lost_pushed order (asked_by e))
          (λ place. ap (λ (ss : List SiteState). histories_of ss place) e.sites) h.histories;
      commands = commands_take opening order (asked_by e) log (Happened (ProxyTurn client)) old new alike.homes h.requests h.histories (own_number client) refl routed
          (h.servers.links home) e.sites h.commands;
    }

-- what the turn of a server leaves of its history and of those of others
record HasServed (old new : PoolState) (place : ℕ) (entry : Entry) : Type 0 where
  pub own : histories_of new.sites place ≡ histories_of old.sites place ++ entry ∷ []
  pub others : (other : ℕ) → place ≢ other → histories_of new.sites other ≡ histories_of old.sites other

served : (old new : PoolState) (place : ℕ) (site now : SiteState) (entry : Entry) → slice_get old.sites place ≡ Some site → new.sites ≡ slice_set old.sites place now
    → now.history ≡ site.history ++ entry ∷ [] → HasServed old new place entry
served old new place site now entry at is history = grind (arith, history_at, history_other, history_own)

-- a turn of a server, with the proxies as they were
log_serves : (opening : RingState) (order : Order) (outs : ℕ → List ℕ) (log : Log) (proxy place generation : ℕ) (site now : SiteState) (entry : Entry) (old new : PoolState)
    → ProxiesStay old new → slice_get old.sites place ≡ Some site → new.sites ≡ slice_set old.sites place now → length now.ways ≡ length site.ways
    → now.history ≡ site.history ++ entry ∷ [] → ((tag : Tag) → HasUntaken now.lost tag → HasUntaken site.lost tag)
    → IsPlaced order log entry → ((j : ℕ) (d : Entry) → slice_get site.history j ≡ Some d → AreOrdered order d entry)
    → up_when_taken (home_of old entry.client) place (tag_in entry) log → LogHolds opening order outs log old
    → LogHolds opening order outs (log ++ Happened (ServerTurn proxy place generation entry.moment) ∷ []) new
log_serves opening order outs log proxy place generation site now entry old new stay at sites ways history untaken placed ordered up h =
    let has = served old new place site now entry at sites history in
    let alike : AreAlike old new = alike_at old new place site now (stay_all old new stay) at sites ways in
    record {
      servers = servers_stay opening log (Happened (ServerTurn proxy place generation entry.moment)) old new tt (λ p q u. refl) alike (ups_stay old new stay) h.servers;
      requests = requests_go opening order order log (Happened (ServerTurn proxy place generation entry.moment)) old new alike.homes (λ p. omega (arith, alike.links p)) refl (goes_same order) h.requests;
      answers = answers_go order order outs log (Happened (ServerTurn proxy place generation entry.moment)) old new (λ c. refl) (λ c count out k. k) (open_still old new stay) h.answers;
      histories = histories_serve order log proxy place generation entry (histories_of old.sites) (histories_of new.sites) has.own has.others placed
          (λ j d there. ordered j d (ap (λ (es : List Entry). slice_get es j) (sym (history_at old.sites place site at)) ∙ there)) h.histories;
      commands = commands_serve opening order log (Happened (ServerTurn proxy place generation entry.moment)) place entry old new alike.homes h.requests has.own has.others up
          (λ other tag k. untaken_still old.sites place site now at untaken other tag (subst (λ (ss : List SiteState). HasUntakenAt ss other tag) sites k)) h.commands;
    }

-- ServerTurn, of the living generation
pub log_server_takes : (ring : RingState) (opening : CacheState) (texts sent : ℕ → List ℕ) (order : Order) (lanes : ℕ → ℕ → Lane) (outs : ℕ → List ℕ) (log : Log)
    (proxy place generation moment : ℕ) (old new : PoolState)
    → (e : ServerTakes proxy place moment old new) → PoolHolds opening texts sent order lanes old → LogHolds ring order outs log old
    → LogHolds ring order outs (log ++ Happened (ServerTurn proxy place generation moment) ∷ []) new
log_server_takes ring opening texts sent order lanes outs log proxy place generation moment old new e pool h =
    let home : Homes = home_of old in
    let mine : ℕ → Lane = λ p. lanes p place in
    let links : ℕ → LinkState = λ p. link_of old p place in
    let site : SiteState = e.there.site in
    let holds : SiteHolds (home_of old) place order (λ p. lanes p place) (λ p. link_of old p place) opening e.there.site = pool.sites place e.there.site e.there.at in
    let lane = ((pool.proxies proxy).links place).0 e.there.up in
    let next = takes_next home proxy place order mine links opening site e.there.now.server moment e.there.up e.enters.on.steps holds lane in
    let tag_is : e.tag ≡ next.next.command.1 = same_tag (slice_get (map (λ (w : Waiting). w.1) (link_of old proxy place).waiting) (way_by e.there.site proxy).ahead) e.tag next.next.command.1 e.next
    (waits_next home proxy place order mine links opening site e.there.up holds next.next.command next.next.past lane next.next.is) in
    let waits = waits_at ring opening texts sent order lanes outs log old proxy place (way_by e.there.site proxy).ahead e.tag pool h.requests h.answers h.commands e.there.up e.next in
    log_serves ring order outs log proxy place generation e.there.site e.there.now (entry_of_tag e.tag moment e.enters.on.steps.step.1.served.0 e.enters.on.reply) old new e.proxies
    e.there.at e.there.sites (ap (λ (s : SiteState). length s.ways) e.enters.all_else ∙ length-set e.there.site.ways proxy _) e.enters.on.history
    (λ t k. subst (λ (ways : List StaleState). HasUntaken ways t) (ap (λ (s : SiteState). s.lost) e.enters.all_else) k)
    (record { taken = waits.taken; answered = inr waits.unanswered })
    (λ j d at same. inr (inr (subst (λ (t : Tag). IsBefore (tag_in d) t) (sym tag_is)
    (made_before home proxy place order mine links opening site e.there.up holds (pool_numbered opening texts sent order lanes old pool) next.next.command next.next.past next.next.is j d at
    (same ∙ ap (λ (t : Tag). t.session) tag_is)))))
    waits.sent h

-- ServerTurn, of a lost generation
pub log_late_turn : (opening : RingState) (order : Order) (outs : ℕ → List ℕ) (log : Log) (proxy place generation i moment : ℕ) (old new : PoolState)
    → (e : LateTurn place i moment old new) → LogHolds opening order outs log old → LogHolds opening order outs (log ++ Happened (ServerTurn proxy place generation moment) ∷ []) new
log_late_turn opening order outs log proxy place generation i moment old new e h =
    let first : slice_get e.enters.way.untaken 0 ≡ Some e.enters.tag = ap (λ (ts : List Tag). slice_get ts 0) e.enters.untaken in
    let untaken = h.commands.untaken place i 0 e.there.site e.enters.way e.enters.tag e.there.at e.enters.way_at first in
    log_serves opening order outs log proxy place generation e.there.site e.there.now (entry_of_tag e.enters.tag moment e.enters.on.steps.step.1.served.0 e.enters.on.reply) old new e.there.proxies
    e.there.at e.there.sites (ap (λ (s : SiteState). length s.ways) e.enters.all_else) e.enters.on.history
    (λ t k. untaken_fewer e.there.site.lost i e.enters.way (record e.enters.way { untaken = e.enters.tags }) t e.enters.way_at (λ j at. (suc j, ap (λ (ts : List Tag). slice_get ts (suc j)) e.enters.untaken ∙ at))
    (subst (λ (ways : List StaleState). HasUntaken ways t) (ap (λ (s : SiteState). s.lost) e.enters.all_else) k))
    (record { taken = outcome_taken opening order log old e.enters.tag Lost h.requests untaken.lost; answered = inl untaken.lost })
    (λ j d at same. inr (inl untaken.lost))
    untaken.sent h
