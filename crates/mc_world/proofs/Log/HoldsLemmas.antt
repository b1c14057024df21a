-- A log still leaves a pool so after each event of which it shows little: one lemma for each.
use Rattle.std.proofs.Common.{◌≡◌, ◌≢◌, ◌∙◌, ⊎_elim, ℕ, ◌+◌, ◌<◌, ◌≤◌, ◌==◌, ◌&&◌, Bool, true, false, if◌then◌else◌, List, [], ◌∷◌, ◌++◌, length, drop, take, map, slice_set, refl, sym, ap, subst, arith}
use Rattle.std.specs.Prelude.{remove}
use Rattle.std.proofs.lemmas.Bool.{and_from, and_left, and_right}
use Rattle.std.proofs.lemmas.Bool.Decides.{eqb_tells}
use Rattle.std.proofs.lemmas.List.{length-set}
use Rattle.mc_ring.specs.Rings.{RingState}
use Rattle.mc_route.specs.declared.outcomes.Outcome.TheVariants.{Awaited, Lost, Reply}
use Rattle.mc_link.specs.LinkState.{LinkState, Waiting, down_link, up_link}
use Rattle.mc_cache.specs.CacheState.{CacheState}
use Rattle.mc_server.specs.ServerState.{connection_at, output_of}
use Rattle.mc_proxy.specs.LinkTurns.{lost_at}
use Rattle.mc_proxy.specs.SessionState.{link_at, with_link}
use Rattle.mc_proxy.specs.ProxyState.{ProxyState, sent_by, without}
use Rattle.mc_account.specs.Lanes.{Lane}
use Rattle.mc_account.specs.Orders.{Order, note, note_all}
use Rattle.mc_account.proofs.CountLemmas.{answered-fed, answered-lost, answered-replied, answered-sent}
use Rattle.mc_account.proofs.LaneLemmas.{up_is_there}
use Rattle.mc_account.proofs.LookupLemmas.{all_waiting_are_awaited, answered_was_awaited}
use Rattle.mc_account.proofs.OpenSessions.{other_number, own_number}
use Rattle.mc_world.specs.Homes.{of_proxy, own_of}
use Rattle.mc_world.specs.LogHolds.{LogHolds}
use Rattle.mc_world.specs.Logs.{Log, up_by}
use Rattle.mc_world.specs.Pools.{ClientGoes, EndSeen, HearsClient, LateBytes, LinkReturns, LosesLink, PoolHolds, ProxyBecomes, ReachesProxy, ReachesServer, TakesBytes, TakesReply, relinked}
use Rattle.mc_world.specs.WorldState.{PoolState, SiteState, histories_of, home_of, link_of, proxy_at, proxy_of, session_of, way_by}
use Rattle.mc_world.specs.declared.events.Event.TheVariants.{ClientBytes, ClientGone, ClientTakes, LinkBack, LinkLost, ReplyTurn, ServerSeesEnd, ToProxy, ToServer}
use Rattle.mc_world.specs.declared.logs.Logged.{Logged}
use Rattle.mc_world.specs.declared.logs.Logged.TheVariants.{Happened}
use Rattle.mc_world.proofs.Homes.OrderLemmas.{outcome_whole}
use Rattle.mc_world.proofs.PoolEvents.ProxyLemmas.{link_becomes, link_elsewhere, links_other}
use Rattle.mc_world.proofs.Log.CommandLemmas.{commands_reply}
use Rattle.mc_world.proofs.Log.EntryLemmas.{HasUntaken, history_still, untaken_fewer, untaken_removed}
use Rattle.mc_world.proofs.Log.HistoryLemmas.{histories_go}
use Rattle.mc_world.proofs.Log.OutcomeLemmas.{goes_note, goes_note_all, pool_numbered, whole_awaited}
use Rattle.mc_world.proofs.Log.RequestLemmas.{answers_go, requests_go}
use Rattle.mc_world.proofs.Log.ServerLemmas.{servers_go, servers_stay}
use Rattle.mc_world.proofs.Log.StillLemmas.{AreUpAs, HaveStayed, alike_at, log_links, log_quiet, open_as_many, open_becomes, open_without, same_ways, sent_links, sent_ring, stay_all, stay_become, still_at, still_sites, ups_become, ups_stay, ups_with}
use Rattle.mc_world.proofs.Log.WaitingLemmas.{commands_lose, tags_waiting}

-- ClientBytes
pub log_hears : (opening : RingState) (order : Order) (outs : ℕ → List ℕ) (log : Log) (client : ℕ) (piece : List ℕ) (bytes : Unit {0}) (old new : PoolState)
    → HearsClient client piece old new → LogHolds opening order outs log old → LogHolds opening order outs (log ++ Happened (ClientBytes client bytes) ∷ []) new
log_hears opening order outs log client piece bytes old new e h =
    let proxy : ℕ = home_of old client in
    log_quiet opening order outs log (Happened (ClientBytes client bytes)) old new
    (record { event = tt; turns = refl; puts = λ c. refl; moments = λ place. refl }) (λ p place up. refl)
    (still_sites old new
    (stay_become proxy e.now old new e.proxy e.steps.ring (ap (λ (ls : List LinkState). length ls) e.steps.step.0)
    (open_becomes proxy e.now old new e.proxy (open_as_many (proxy_of old client) e.now (answered-fed client piece (proxy_of old client) e.now e.steps)))) e.sites)
    (ups_become proxy e.now old new e.proxy (λ place. ap (λ (ls : List LinkState). (link_at ls place).up) e.steps.step.0)) h

-- ClientTakes
pub log_client_takes : (opening : RingState) (order : Order) (outs : ℕ → List ℕ) (log : Log) (client count moved : ℕ) (old new : PoolState)
    → TakesBytes client moved old new → LogHolds opening order outs log old → LogHolds opening order outs (log ++ Happened (ClientTakes client count) ∷ []) new
log_client_takes opening order outs log client count moved old new e h =
    let proxy : ℕ = home_of old client in
    let now : ProxyState = sent_by client moved (session_of old client) (proxy_of old client) in
    let links = sent_links client moved (session_of old client) (proxy_of old client) in
    log_quiet opening order outs log (Happened (ClientTakes client count)) old new
    (record { event = tt; turns = refl; puts = λ c. refl; moments = λ place. refl }) (λ p place up. refl)
    (still_sites old new
    (stay_become proxy now old new e.proxy (sent_ring client moved (session_of old client) (proxy_of old client)) (ap (λ (ls : List LinkState). length ls) links)
    (open_becomes proxy now old new e.proxy (open_as_many (proxy_of old client) now (answered-sent client moved (proxy_of old client))))) e.sites)
    (ups_become proxy now old new e.proxy (λ place. ap (λ (ls : List LinkState). (link_at ls place).up) links)) h

-- ClientGone
pub log_client_goes : (opening : RingState) (order : Order) (outs : ℕ → List ℕ) (log : Log) (client : ℕ) (old new : PoolState)
    → ClientGoes client old new → LogHolds opening order outs log old → LogHolds opening order outs (log ++ Happened (ClientGone client) ∷ []) new
log_client_goes opening order outs log client old new e h =
    let proxy : ℕ = home_of old client in
    let now : ProxyState = record (proxy_of old client) { sessions = without client (proxy_of old client).sessions } in
    log_quiet opening order outs log (Happened (ClientGone client)) old new
    (record { event = tt; turns = refl; puts = λ c. refl; moments = λ place. refl }) (λ p place up. refl)
    (still_sites old new (stay_become proxy now old new e.proxy refl refl (open_without client old new e)) e.sites)
    (ups_become proxy now old new e.proxy (λ place. refl)) h

-- a proxy of which only the link of one place is replaced, and one by which that link stays up or down
relinked_stays : (proxy place : ℕ) (link : LinkState) (old new : PoolState) → ProxyBecomes proxy (relinked place link (proxy_at old proxy)) old new → HaveStayed old new
relinked_stays proxy place link old new is =
    stay_become proxy (relinked place link (proxy_at old proxy)) old new is refl (length-set (proxy_at old proxy).links place link)
    (open_becomes proxy (relinked place link (proxy_at old proxy)) old new is (open_as_many (proxy_at old proxy) (relinked place link (proxy_at old proxy)) (λ client. refl)))

relinked_up : (proxy place : ℕ) (link : LinkState) (old new : PoolState) → ProxyBecomes proxy (relinked place link (proxy_at old proxy)) old new
    → link.up ≡ (link_of old proxy place).up → AreUpAs old new
relinked_up proxy place link old new is up =
    ups_become proxy (relinked place link (proxy_at old proxy)) old new is (ups_with (proxy_at old proxy).links place link up)

-- ToServer, of the living generation
pub log_reaches_server : (opening : RingState) (order : Order) (outs : ℕ → List ℕ) (log : Log) (proxy place generation count moved : ℕ) (old new : PoolState)
    → ReachesServer proxy place moved old new → LogHolds opening order outs log old → LogHolds opening order outs (log ++ Happened (ToServer proxy place generation count) ∷ []) new
log_reaches_server opening order outs log proxy place generation count moved old new e h =
    let link : LinkState = record (link_of old proxy place) { output = drop moved (link_of old proxy place).output } in
    log_quiet opening order outs log (Happened (ToServer proxy place generation count)) old new
    (record { event = tt; turns = refl; puts = λ c. refl; moments = λ p. refl }) (λ p q up. refl)
    (still_at old new place e.there.site e.there.now (relinked_stays proxy place link old new e.proxy) e.there.at e.there.sites
    (ap (λ (s : SiteState). length s.ways) e.arrives.all_else) (ap (λ (s : SiteState). s.history) e.arrives.all_else)
    (same_ways e.there.site.lost e.there.now.lost (ap (λ (s : SiteState). s.lost) e.arrives.all_else)))
    (relinked_up proxy place link old new e.proxy refl) h

-- ToProxy
pub log_reaches_proxy : (opening : RingState) (order : Order) (outs : ℕ → List ℕ) (log : Log) (proxy place count moved : ℕ) (old new : PoolState)
    → ReachesProxy proxy place moved old new → LogHolds opening order outs log old → LogHolds opening order outs (log ++ Happened (ToProxy proxy place count) ∷ []) new
log_reaches_proxy opening order outs log proxy place count moved old new e h =
    let link : LinkState = record (link_of old proxy place) {
      unread = (link_of old proxy place).unread ++ take moved (output_of (connection_at e.there.site.server (way_by e.there.site proxy).connection));
    } in
    log_quiet opening order outs log (Happened (ToProxy proxy place count)) old new
    (record { event = tt; turns = refl; puts = λ c. refl; moments = λ p. refl }) (λ p q up. refl)
    (still_at old new place e.there.site e.there.now (relinked_stays proxy place link old new e.proxy) e.there.at e.there.sites
    (ap (λ (s : SiteState). length s.ways) e.leaves) (ap (λ (s : SiteState). s.history) e.leaves)
    (same_ways e.there.site.lost e.there.now.lost (ap (λ (s : SiteState). s.lost) e.leaves)))
    (relinked_up proxy place link old new e.proxy refl) h

-- ToServer, of a lost generation
pub log_late_bytes : (opening : RingState) (order : Order) (outs : ℕ → List ℕ) (log : Log) (proxy place generation count i moved : ℕ) (old new : PoolState)
    → LateBytes place i moved old new → LogHolds opening order outs log old → LogHolds opening order outs (log ++ Happened (ToServer proxy place generation count) ∷ []) new
log_late_bytes opening order outs log proxy place generation count i moved old new e h =
    log_quiet opening order outs log (Happened (ToServer proxy place generation count)) old new
    (record { event = tt; turns = refl; puts = λ c. refl; moments = λ p. refl }) (λ p q up. refl)
    (still_at old new place e.there.site e.there.now (stay_all old new e.there.proxies) e.there.at e.there.sites
    (ap (λ (s : SiteState). length s.ways) e.arrives.all_else) (ap (λ (s : SiteState). s.history) e.arrives.all_else)
    (λ tag has. untaken_fewer e.there.site.lost i e.arrives.way (record e.arrives.way { going = drop moved e.arrives.way.going }) tag e.arrives.way_at (λ j at. (j, at))
    (subst (λ (s : SiteState). HasUntaken s.lost tag) e.arrives.all_else has)))
    (ups_stay old new e.there.proxies) h

-- ServerSeesEnd
pub log_end_seen : (opening : RingState) (order : Order) (outs : ℕ → List ℕ) (log : Log) (proxy place generation i : ℕ) (old new : PoolState)
    → EndSeen place i old new → LogHolds opening order outs log old → LogHolds opening order outs (log ++ Happened (ServerSeesEnd proxy place generation) ∷ []) new
log_end_seen opening order outs log proxy place generation i old new e h =
    log_quiet opening order outs log (Happened (ServerSeesEnd proxy place generation)) old new
    (record { event = tt; turns = refl; puts = λ c. refl; moments = λ p. refl }) (λ p q up. refl)
    (still_at old new place e.there.site (record e.there.site { server = e.there.now.server; lost = remove e.there.site.lost i }) (stay_all old new e.there.proxies) e.there.at
    (e.there.sites ∙ ap (λ (s : SiteState). slice_set old.sites place s) e.ends.all_else)
    refl refl (λ tag has. untaken_removed e.there.site.lost i tag has))
    (ups_stay old new e.there.proxies) h

-- two pairs of numbers, the same and not
own_pair : (a b : ℕ) → ((a == a) && (b == b)) ≡ true
own_pair a b = and_from (a == a) (b == b) (own_number a) (own_number b)

other_pair : (a b x y : ℕ) → (a ≡ x → b ≢ y) → ((a == x) && (b == y)) ≡ false
other_pair a b x y differ = ⊎_elim
    (λ same. and_right (a == x) (b == y) (other_number b y (differ same.1)))
    (λ apart. and_left (a == x) (b == y) apart.0)
    (eqb_tells a x)

-- a link of a proxy is replaced, as an event says; all others stay
ups_changed : (proxy place : ℕ) (link : LinkState) (now : ProxyState) (old new : PoolState) (x : Logged) → ProxyBecomes proxy now old new
    → now.links ≡ with_link place link (proxy_at old proxy).links → place < length (proxy_at old proxy).links → up_by proxy place x (link_of old proxy place).up ≡ link.up
    → ((p q : ℕ) (up : Bool) → (proxy ≡ p → place ≢ q) → up_by p q x up ≡ up)
    → (p q : ℕ) → (link_of new p q).up ≡ up_by p q x (link_of old p q).up
ups_changed proxy place link now old new x is links inside own none p q = ⊎_elim
    (λ here. ⊎_elim
    (λ same. subst (λ (n : ℕ). (link_of new n q).up ≡ up_by n q x (link_of old n q).up) here.1
    (subst (λ (n : ℕ). (link_of new proxy n).up ≡ up_by proxy n x (link_of old proxy n).up) same.1
    (ap (λ (l : LinkState). l.up) (link_becomes proxy place link now old new is links inside) ∙ sym own)))
    (λ differ. ap (λ (l : LinkState). l.up) (link_elsewhere proxy place link now old new is links p q differ.1) ∙ sym (none p q (link_of old p q).up (λ e. differ.1)))
    (eqb_tells place q))
    (λ apart. ap (λ (l : LinkState). l.up) (links_other proxy p now old new is apart.1 q) ∙ sym (none p q (link_of old p q).up (λ e. absurd (apart.1 e))))
    (eqb_tells proxy p)

-- a place without a link is not one that has a link
no_such_link : (proxy place p q : ℕ) (pool : PoolState) → place < length (proxy_at pool proxy).links → length (proxy_at pool p).links ≤ q → proxy ≡ p → place ≢ q
no_such_link proxy place p q pool inside past here same =
    let there : place < length (proxy_at pool p).links = subst (λ (n : ℕ). place < length (proxy_at pool n).links) here inside in
    omega (arith, there, past, same)

-- LinkBack
pub log_returns : (opening : RingState) (order : Order) (outs : ℕ → List ℕ) (log : Log) (proxy place : ℕ) (old new : PoolState)
    → LinkReturns proxy place old new → LogHolds opening order outs log old → LogHolds opening order outs (log ++ Happened (LinkBack proxy place) ∷ []) new
log_returns opening order outs log proxy place old new e h =
    let x : Logged = Happened (LinkBack proxy place) in
    let link : LinkState = up_link ((link_of old proxy place).generation + 1) in
    let others : (p q : ℕ) (up : Bool) → (proxy ≡ p → place ≢ q) → up_by p q (Happened (LinkBack proxy place)) up ≡ up =
    λ p q up differ. ap (λ (v : Bool). if v then true else up) (other_pair proxy place p q differ) in
    let still = still_at old new place e.site e.now (relinked_stays proxy place link old new e.proxy) e.at e.sites
    (ap (λ (s : SiteState). length s.ways) e.back.all_else ∙ length-set e.site.ways proxy _) (ap (λ (s : SiteState). s.history) e.back.all_else)
    (λ tag has. subst (λ (s : SiteState). HasUntaken s.lost tag) e.back.all_else has) in
    log_links opening order outs log x old new
    (record { event = tt; turns = refl; puts = λ c. refl; moments = λ p. refl }) still
    (servers_go opening log x old new tt still.alike
    (λ p q inside. ups_changed proxy place link (relinked place link (proxy_at old proxy)) old new x e.proxy refl e.inside
    (ap (λ (v : Bool). if v then true else (link_of old proxy place).up) (own_pair proxy place)) others p q)
    (λ p q past. others p q true (no_such_link proxy place p q old e.inside past)) h.servers)
    h

-- LinkLost
pub log_loses : (opening : RingState) (cache : CacheState) (texts sent : ℕ → List ℕ) (order : Order) (lanes : ℕ → ℕ → Lane) (outs : ℕ → List ℕ) (log : Log) (proxy place : ℕ) (old new : PoolState)
    → LosesLink proxy place old new → PoolHolds cache texts sent order lanes old → LogHolds opening order outs log old
    → LogHolds opening (note_all (map (λ (w : Waiting). w.1) (link_of old proxy place).waiting) Lost order) outs (log ++ Happened (LinkLost proxy place) ∷ []) new
log_loses opening cache texts sent order lanes outs log proxy place old new e holds h =
    let x : Logged = Happened (LinkLost proxy place) in
    let now : ProxyState = lost_at place (proxy_at old proxy) in
    let link : LinkState = down_link (link_of old proxy place).generation in
    let after : Order = note_all (tags_waiting (proxy_at old proxy) place) Lost order in
    let awaited = all_waiting_are_awaited (own_of (home_of old) proxy texts) (own_of (home_of old) proxy sent) (of_proxy (home_of old) proxy order) (lanes proxy) (proxy_at old proxy)
    (holds.proxies proxy) place e.there.up Lost refl in
    let goes = goes_note_all (tags_waiting (proxy_at old proxy) place) Lost order (pool_numbered cache texts sent order lanes old holds)
    (whole_awaited (home_of old) proxy (tags_waiting (proxy_at old proxy) place) Lost order awaited) in
    let stayed = stay_become proxy now old new e.proxy refl (length-set (proxy_at old proxy).links place link)
    (open_becomes proxy now old new e.proxy (open_as_many (proxy_at old proxy) now (answered-lost place (proxy_at old proxy)))) in
    let alike = alike_at old new place e.there.site e.there.now stayed e.there.at e.there.sites (ap (λ (s : SiteState). length s.ways) e.cut) in
    let others : (p q : ℕ) (up : Bool) → (proxy ≡ p → place ≢ q) → up_by p q (Happened (LinkLost proxy place)) up ≡ up =
    λ p q up differ. ap (λ (v : Bool). if v then false else up) (other_pair proxy place p q differ) in
    let linked = up_is_there place (proxy_at old proxy).links e.there.up in
    record {
      servers = servers_go opening log x old new tt alike
          (λ p q inside. ups_changed proxy place link now old new x e.proxy refl linked
          (ap (λ (v : Bool). if v then false else (link_of old proxy place).up) (own_pair proxy place)) others p q)
          (λ p q past. others p q true (no_such_link proxy place p q old linked past)) h.servers;
      requests = requests_go opening order after log x old new stayed.homes (λ p. omega (arith, stayed.links p)) refl goes h.requests;
      answers = answers_go order after outs log x old new (λ c. refl) goes.answers stayed.open_ones h.answers;
      histories = histories_go order after log x (histories_of old.sites) (histories_of new.sites) (λ p. refl) goes.lost
          (λ other. ap (λ (ss : List SiteState). histories_of ss other) e.there.sites
          ∙ history_still old.sites place e.there.site e.there.now e.there.at (ap (λ (s : SiteState). s.history) e.cut) other) h.histories;
      commands = commands_lose opening cache texts sent order lanes outs log proxy place old new e holds h.requests h.answers h.commands;
    }

-- ReplyTurn
pub log_takes_reply : (opening : RingState) (cache : CacheState) (texts sent : ℕ → List ℕ) (order : Order) (lanes : ℕ → ℕ → Lane) (outs : ℕ → List ℕ) (log : Log) (proxy place : ℕ) (old new : PoolState)
    → (e : TakesReply proxy place old new) → PoolHolds cache texts sent order lanes old → LogHolds opening order outs log old
    → LogHolds opening (note e.answers.tag (Reply e.answers.reply) order) outs (log ++ Happened (ReplyTurn proxy place) ∷ []) new
log_takes_reply opening cache texts sent order lanes outs log proxy place old new e holds h =
    let x : Logged = Happened (ReplyTurn proxy place) in
    let after : Order = note e.answers.tag (Reply e.answers.reply) order in
    let numbered = pool_numbered cache texts sent order lanes old holds in
    let awaited = answered_was_awaited (own_of (home_of old) proxy texts) (own_of (home_of old) proxy sent) (of_proxy (home_of old) proxy order) (lanes proxy) place (proxy_at old proxy) e.now
    (holds.proxies proxy) e.there.up e.answers in
    let goes = goes_note e.answers.tag (Reply e.answers.reply) order numbered (outcome_whole (home_of old) proxy order e.answers.tag Awaited awaited) in
    let stayed = stay_become proxy e.now old new e.proxy e.answers.ring
    (ap (λ (ls : List LinkState). length ls) e.answers.links ∙ length-set (proxy_at old proxy).links place e.answers.link)
    (open_becomes proxy e.now old new e.proxy (open_as_many (proxy_at old proxy) e.now (answered-replied place (proxy_at old proxy) e.now e.answers))) in
    let still = still_at old new place e.there.site e.there.now stayed e.there.at e.there.sites
    (ap (λ (s : SiteState). length s.ways) e.counts ∙ length-set e.there.site.ways proxy _) (ap (λ (s : SiteState). s.history) e.counts)
    (same_ways e.there.site.lost e.there.now.lost (ap (λ (s : SiteState). s.lost) e.counts)) in
    record {
      servers = servers_stay opening log x old new tt (λ p q up. refl) still.alike
          (ups_become proxy e.now old new e.proxy (λ other. ap (λ (ls : List LinkState). (link_at ls other).up) e.answers.links
          ∙ ups_with (proxy_at old proxy).links place e.answers.link (ap (λ (l : LinkState). l.up) e.answers.takes.others) other)) h.servers;
      requests = requests_go opening order after log x old new stayed.homes (λ p. omega (arith, stayed.links p)) refl goes h.requests;
      answers = answers_go order after outs log x old new (λ c. refl) goes.answers stayed.open_ones h.answers;
      histories = histories_go order after log x (histories_of old.sites) (histories_of new.sites) (λ p. refl) goes.lost still.histories h.histories;
      commands = commands_reply opening order log x e.answers.tag e.answers.reply old new still.alike.homes h.requests numbered goes.lost still.histories still.untaken h.commands;
    }
