-- Each event of a drain leaves less to do.
use Rattle.std.proofs.Common.{◌≡◌, ◌≢◌, ◌∙◌, ⊎_elim, ℕ, zero, suc, ◌+◌, ◌-◌, ◌*◌, ◌<◌, ◌≤◌, true, List, [], ◌∷◌, ◌++◌, length, map, take, drop, remove, Option, Some, None, slice_get, slice_set, refl, sym, ap, subst, arith}
use Rattle.std.proofs.lemmas.Bool.Decides.{eqb_tells}
use Rattle.std.proofs.lemmas.List.{get_or-set_other, get_or-set_same, length-append, length-map, set-get_or}
use Rattle.mc_request_reader.specs.Reader.{rest_of}
use Rattle.mc_route.specs.Kept.{kept_of}
use Rattle.mc_route.specs.Routes.{route_of_taken}
use Rattle.mc_route.specs.declared.outcomes.Outcome.TheVariants.{Reply}
use Rattle.mc_link.specs.LinkState.{LinkState, Waiting}
use Rattle.mc_link.specs.declared.turns.Tag.{Tag}
use Rattle.mc_cache.specs.CacheState.{CacheState}
use Rattle.mc_server.specs.ServerState.{ConnectionState, Connections, ServerState, closed, connection_at, connection_in, output_of, sent_by}
use Rattle.mc_server.specs.Turns.{Feeds, Steps}
use Rattle.mc_server.proofs.ConnectionLemmas.{closed_other, updated_other, updated_own}
use Rattle.mc_proxy.specs.Sending.{at_once, handed}
use Rattle.mc_proxy.specs.SessionState.{SessionState, Unanswered, with_link}
use Rattle.mc_proxy.specs.Noting.{noted}
use Rattle.mc_proxy.specs.ProxyState.{output_of as output_at, sent_by as taken_by, updated}
use Rattle.mc_account.proofs.LaneLemmas.{up_is_there}
use Rattle.mc_world.specs.Happens.{returned, taken_one}
use Rattle.mc_world.specs.Pools.{EndSeen, LateTurn, PutsAnswer, ReachesProxy, ReachesServer, ServerTakes, TakesBytes, TakesReply, TakesRequest, relinked}
use Rattle.mc_world.specs.Serving.{PoolServes}
use Rattle.mc_world.specs.WorkLeft.{moves_of, work_left, work_of_link, work_of_links, work_of_requests, work_of_sessions, work_on}
use Rattle.mc_world.specs.WorldState.{PoolState, SiteState, WayState, home_of, link_of, no_proxy, no_way, proxy_at, proxy_of, session_of, way_by, with_way}
use Rattle.mc_world.proofs.Log.EntryLemmas.{got_inside}
use Rattle.mc_world.proofs.Drain.WorkLemmas.{left_moved, left_own, left_stayed, link_least, links_changed, links_handed, links_stayed, moves_all, moves_most, moves_some, one_as, put_less}
use Rattle.mc_world.proofs.Drain.WorkLemmas.{session_inside, sessions_noted, sessions_updated, up_inside, up_work, ways_changed, ways_removed, work_of_one}

-- a request was taken
pub took_less : (client : ℕ) (old new : PoolState) → TakesRequest client old new → work_left new < work_left old
took_less client old new h =
    let proxy = home_of old client in
    let was = proxy_of old client in
    let ring = was.ring in
    let before = h.steps.before in
    let after = h.steps.after in
    let takes = h.steps.step.1 in
    let commands = route_of_taken ring h.steps.step.0 in
    let most = left_own proxy h.now old new (session_inside old client before h.steps.was) h.proxy.proxies h.sites in
    let now : work_of_one proxy h.now old.sites ≡ work_of_sessions ring (updated client after was.sessions) + work_of_links proxy (handed client before.taken 0 commands was.links) old.sites =
    one_as proxy h.now old.sites ring (updated client after was.sessions) (handed client before.taken 0 commands was.links) h.steps.ring h.steps.is takes.sent in
    let first : work_of_requests ring (rest_of before.reader []) ≡ 3 + 4 * length commands + work_of_requests ring (rest_of after.reader []) =
    ap (work_of_requests ring) (takes.first.rest []) in
    let longer : length after.unanswered ≡ length before.unanswered + 1 =
    ap (λ (us : List Unanswered). length us) takes.unanswered
    ∙ length-append before.unanswered (record { what = kept_of h.steps.step.0; losses = was.losses; outcomes = map (at_once was.links) commands } ∷ []) in
    let output : moves_of after.output ≡ moves_of before.output = ap moves_of takes.output in
    omega (
      arith,
      most,
      now,
      first,
      longer,
      output,
      sessions_updated ring client before after was.sessions h.steps.was,
      links_handed proxy client before.taken 0 commands was.links old.sites,
    )

-- an answer was emitted
pub put_out_less : (client : ℕ) (old new : PoolState) → PutsAnswer client old new → work_left new < work_left old
put_out_less client old new h =
    let proxy = home_of old client in
    let was = proxy_of old client in
    let most = left_own proxy h.now old new (session_inside old client h.steps.before h.steps.was) h.proxy.proxies h.sites in
    let now : work_of_one proxy h.now old.sites ≡ work_of_sessions was.ring (updated client h.steps.after was.sessions) + work_of_links proxy was.links old.sites =
    one_as proxy h.now old.sites was.ring (updated client h.steps.after was.sessions) was.links h.steps.ring h.steps.is h.steps.step.0 in
    omega (
      arith,
      most,
      now,
      sessions_updated was.ring client h.steps.before h.steps.after was.sessions h.steps.was,
      put_less was.ring h.steps.before h.steps.after h.steps.step.1,
    )

-- all that was emitted was taken
pub taken_less : (client count : ℕ) (old new : PoolState) (session : SessionState) → session_of old client ≡ Some session → count ≡ length (output_at (session_of old client))
    → 0 < count → TakesBytes client count old new → work_left new < work_left old
taken_less client count old new session at all some h =
    let proxy = home_of old client in
    let was = proxy_of old client in
    let state = taken_by client count (session_of old client) was in
    let after : SessionState = record session { output = drop count session.output } in
    let size : count ≡ length session.output = all ∙ ap (λ (o : Option SessionState). length (output_at o)) at in
    let most = left_own proxy state old new (session_inside old client session at) h.proxy.proxies h.sites in
    let now : work_of_one proxy state old.sites ≡ work_of_sessions was.ring (updated client after was.sessions) + work_of_links proxy was.links old.sites =
    ap (λ (o : Option SessionState). work_of_one proxy (taken_by client count o was) old.sites) at in
    let none : moves_of (drop count session.output) ≡ 0 = ap (λ (n : ℕ). moves_of (drop n session.output)) size ∙ moves_all session.output in
    let one : moves_of session.output ≡ 1 = moves_some session.output (omega (arith, size, some)) in
    omega (arith, most, now, none, one, sessions_updated was.ring client session after was.sessions at)

-- a connection after its step, and any other
stepped_own : (number : ℕ) (old new : ServerState) (Step : CacheState → CacheState → ConnectionState → ConnectionState → Type 0) → (steps : Steps number old new Step)
    → connection_at new number ≡ Some steps.after
stepped_own number old new Step steps =
    ap (λ (cs : Connections). connection_in cs number) steps.is ∙ updated_own number steps.before steps.after old.connections steps.was

stepped_other : (number other : ℕ) (old new : ServerState) (Step : CacheState → CacheState → ConnectionState → ConnectionState → Type 0) → (steps : Steps number old new Step) → number ≢ other
    → connection_at new other ≡ connection_at old other
stepped_other number other old new Step steps differ =
    ap (λ (cs : Connections). connection_in cs other) steps.is ∙ updated_other number other steps.after old.connections differ

-- a connection was fed: each output is as it was
fed_moves : (number other : ℕ) (piece : List ℕ) (old new : ServerState) → Steps number old new (Feeds piece)
    → moves_of (output_of (connection_at new other)) ≡ moves_of (output_of (connection_at old other))
fed_moves number other piece old new steps =
    let own : output_of (connection_at new number) ≡ output_of (connection_at old number) =
    ap output_of (stepped_own number old new (Feeds piece) steps) ∙ steps.step.1.output ∙ sym (ap output_of steps.was) in
    ⊎_elim
    (λ e. subst (λ (n : ℕ). moves_of (output_of (connection_at new n)) ≡ moves_of (output_of (connection_at old n))) e.1 (ap moves_of own))
    (λ e. ap (λ (o : Option ConnectionState). moves_of (output_of o)) (stepped_other number other old new (Feeds piece) steps e.1))
    (eqb_tells number other)

-- all bytes of a link for its server have arrived
pub reached_less : (proxy place count : ℕ) (old new : PoolState) → count ≡ length (link_of old proxy place).output → 0 < count
    → ReachesServer proxy place count old new → work_left new < work_left old
reached_less proxy place count old new all some h =
    let site = h.there.site in
    let there : SiteState = record site { server = h.there.now.server } in
    let was = proxy_at old proxy in
    let link = link_of old proxy place in
    let after : LinkState = record link { output = drop count link.output } in
    let fed : (q : ℕ) → moves_of (output_of (connection_at there.server (way_by site q).connection)) ≡ moves_of (output_of (connection_at site.server (way_by site q).connection)) =
    λ q. fed_moves (way_by site proxy).connection (way_by site q).connection (take count link.output) site.server h.there.now.server h.arrives.steps in
    let most = left_moved proxy place (relinked place after was) site there old new (up_inside old proxy place h.there.up) h.there.at h.proxy.proxies
    (h.there.sites ∙ ap (λ (s : SiteState). slice_set old.sites place s) h.arrives.all_else)
    (λ q differ. link_least (link_of old q place) (way_by site q) site.server there.server (λ up. let same = fed q in omega (arith, same))) in
    let was_on : work_of_link link (way_by site proxy) site.server ≡ work_on link (way_by site proxy) site.server = up_work link (way_by site proxy) site.server h.there.up in
    let is_on : work_of_link after (way_by there proxy) there.server ≡ work_on after (way_by there proxy) there.server = up_work after (way_by there proxy) there.server h.there.up in
    let back = fed proxy in
    let none : moves_of (drop count link.output) ≡ 0 = ap (λ (n : ℕ). moves_of (drop n link.output)) all ∙ moves_all link.output in
    let one : moves_of link.output ≡ 1 = moves_some link.output (omega (arith, all, some)) in
    omega (arith, most, was_on, is_on, back, none, one, links_changed proxy was.links old.sites place after site there h.there.at (up_is_there place was.links h.there.up))

-- a server took a request of the living generation, whose connection is that of no other link that is up
pub served_less : (proxy place moment : ℕ) (old new : PoolState) → (h : ServerTakes proxy place moment old new) → proxy < length h.there.site.ways
    → ((q : ℕ) → q ≢ proxy → (link_of old q place).up ≡ true → (way_by h.there.site proxy).connection ≢ (way_by h.there.site q).connection) → work_left new < work_left old
served_less proxy place moment old new h sized apart =
    let site = h.there.site in
    let way = way_by site proxy in
    let passed : WayState = record way { ahead = way.ahead + 1 } in
    let there : SiteState = record site { server = h.there.now.server; history = h.there.now.history; ways = with_way proxy passed site.ways } in
    let was = proxy_at old proxy in
    let link = link_of old proxy place in
    let own : way_by there proxy ≡ passed = get_or-set_same site.ways proxy passed no_way sized in
    let most = left_moved proxy place was site there old new (up_inside old proxy place h.there.up) h.there.at (h.proxies.proxies ∙ sym (set-get_or old.proxies proxy no_proxy))
    (h.there.sites ∙ ap (λ (s : SiteState). slice_set old.sites place s) h.enters.all_else)
    (λ q differ. subst (λ (w : WayState). work_of_link (link_of old q place) w there.server ≤ work_of_link (link_of old q place) (way_by site q) site.server)
    (sym (get_or-set_other site.ways proxy q passed no_way differ))
    (link_least (link_of old q place) (way_by site q) site.server there.server
    (λ up. let same : moves_of (output_of (connection_at there.server (way_by site q).connection)) ≡ moves_of (output_of (connection_at site.server (way_by site q).connection)) =
    ap (λ (o : Option ConnectionState). moves_of (output_of o)) (stepped_other way.connection (way_by site q).connection site.server there.server _ h.enters.on.steps (apart q differ up)) in
    omega (arith, same)))) in
    let was_on : work_of_link link way site.server ≡ work_on link way site.server = up_work link way site.server h.there.up in
    let is_on : work_of_link link (way_by there proxy) there.server ≡ work_on link passed there.server =
    ap (λ (w : WayState). work_of_link link w there.server) own ∙ up_work link passed there.server h.there.up in
    let tagged : length (map (λ (w : Waiting). w.1) link.waiting) ≡ length link.waiting = length-map link.waiting (λ (w : Waiting). w.1) in
    let below : way.ahead < length (map (λ (w : Waiting). w.1) link.waiting) = got_inside (map (λ (w : Waiting). w.1) link.waiting) way.ahead h.tag h.next in
    omega (
      arith,
      most,
      was_on,
      is_on,
      tagged,
      below,
      moves_most (output_of (connection_at there.server passed.connection)),
      links_stayed proxy was.links old.sites place site there h.there.at (up_is_there place was.links h.there.up),
    )

-- bytes were sent from a server: no output has more
nothing_dropped : (n : ℕ) → ◌≡◌ {A = List ℕ} [] (drop n [])
nothing_dropped zero = refl
nothing_dropped (suc n) = refl

sent_output : (number count : ℕ) (server : ServerState) → output_of (connection_at (sent_by number count (connection_at server number) server) number) ≡ drop count (output_of (connection_at server number))
sent_output number count server =
    (elim (connection_at server number) as (λ o. connection_at server number ≡ o → output_of (connection_at (sent_by number count o server) number) ≡ drop count (output_of o)) [
      | None ↦ λ e. ap output_of e ∙ nothing_dropped count
      | Some end ↦ λ e. ap output_of (updated_own number end (record end { output = drop count end.output }) server.connections e)
    ]) refl

sent_other : (number other count : ℕ) (server : ServerState) (end : Option ConnectionState) → number ≢ other → connection_at (sent_by number count end server) other ≡ connection_at server other
sent_other number other count server None differ = refl
sent_other number other count server (Some end) differ = updated_other number other (record end { output = drop count end.output }) server.connections differ

moves_dropped : (n : ℕ) (xs : List ℕ) → moves_of (drop n xs) ≤ moves_of xs
moves_dropped n [] = let none : moves_of (drop n []) ≡ 0 = ap moves_of (sym (nothing_dropped n)) in omega (arith, none)
moves_dropped n (x ∷ xs) = moves_most (drop n (x ∷ xs))

sent_moves : (number other count : ℕ) (server : ServerState)
    → moves_of (output_of (connection_at (sent_by number count (connection_at server number) server) other)) ≤ moves_of (output_of (connection_at server other))
sent_moves number other count server =
    let own : moves_of (output_of (connection_at (sent_by number count (connection_at server number) server) number)) ≤ moves_of (output_of (connection_at server number)) =
    subst (λ (xs : List ℕ). moves_of xs ≤ moves_of (output_of (connection_at server number))) (sym (sent_output number count server)) (moves_dropped count (output_of (connection_at server number))) in
    ⊎_elim
    (λ e. subst (λ (n : ℕ). moves_of (output_of (connection_at (sent_by number count (connection_at server number) server) n)) ≤ moves_of (output_of (connection_at server n))) e.1 own)
    (λ e. let same : moves_of (output_of (connection_at (sent_by number count (connection_at server number) server) other)) ≡ moves_of (output_of (connection_at server other)) =
    ap (λ (o : Option ConnectionState). moves_of (output_of o)) (sent_other number other count server (connection_at server number) e.1) in
    omega (arith, same))
    (eqb_tells number other)

-- all of them have arrived at the proxy
pub returned_less : (proxy place count : ℕ) (old new : PoolState)
    → ((site : SiteState) → slice_get old.sites place ≡ Some site → count ≡ length (output_of (connection_at site.server (way_by site proxy).connection))) → 0 < count
    → ReachesProxy proxy place count old new → work_left new < work_left old
returned_less proxy place count old new all some h =
    let site = h.there.site in
    let way = way_by site proxy in
    let there = returned proxy count site in
    let was = proxy_at old proxy in
    let link = link_of old proxy place in
    let bytes = output_of (connection_at site.server way.connection) in
    let size : count ≡ length bytes = all site h.there.at in
    let after : LinkState = record link { unread = link.unread ++ take count bytes } in
    let most = left_moved proxy place (relinked place after was) site there old new (up_inside old proxy place h.there.up) h.there.at h.proxy.proxies
    (h.there.sites ∙ ap (λ (s : SiteState). slice_set old.sites place s) h.leaves)
    (λ q differ. link_least (link_of old q place) (way_by site q) site.server there.server (λ up. sent_moves way.connection (way_by site q).connection count site.server)) in
    let was_on : work_of_link link way site.server ≡ work_on link way site.server = up_work link way site.server h.there.up in
    let is_on : work_of_link after way there.server ≡ work_on after way there.server = up_work after way there.server h.there.up in
    let back : moves_of (output_of (connection_at there.server way.connection)) ≡ moves_of (drop count bytes) = ap moves_of (sent_output way.connection count site.server) in
    let none : moves_of (drop count bytes) ≡ 0 = ap (λ (n : ℕ). moves_of (drop n bytes)) size ∙ moves_all bytes in
    let one : moves_of bytes ≡ 1 = moves_some bytes (omega (arith, size, some)) in
    omega (arith, most, was_on, is_on, back, none, one, links_changed proxy was.links old.sites place after site there h.there.at (up_is_there place was.links h.there.up))

-- a reply was taken
pub replied_less : (proxy place : ℕ) (old new : PoolState) → PoolServes old → TakesReply proxy place old new → work_left new < work_left old
replied_less proxy place old new serves h =
    let site = h.there.site in
    let way = way_by site proxy in
    let passed : WayState = record way { ahead = way.ahead - 1 } in
    let there = taken_one proxy site in
    let was = proxy_at old proxy in
    let link = link_of old proxy place in
    let after = h.answers.link in
    let takes = h.answers.takes in
    let inside = up_inside old proxy place h.there.up in
    let ways = serves.ways place site h.there.at in
    let own : way_by there proxy ≡ passed = get_or-set_same site.ways proxy passed no_way (omega (arith, inside, ways)) in
    let most = left_moved proxy place h.now site there old new inside h.there.at h.proxy.proxies (h.there.sites ∙ ap (λ (s : SiteState). slice_set old.sites place s) h.counts)
    (λ q differ. let same : work_of_link (link_of old q place) (way_by there q) site.server ≡ work_of_link (link_of old q place) (way_by site q) site.server =
    ap (λ (w : WayState). work_of_link (link_of old q place) w site.server) (get_or-set_other site.ways proxy q passed no_way differ) in
    omega (arith, same)) in
    let now : work_of_one proxy h.now (slice_set old.sites place there)
    ≡ work_of_sessions was.ring (noted h.answers.tag (Reply h.answers.reply) was.sessions) + work_of_links proxy (with_link place after was.links) (slice_set old.sites place there) =
    one_as proxy h.now (slice_set old.sites place there) was.ring (noted h.answers.tag (Reply h.answers.reply) was.sessions) (with_link place after was.links)
    h.answers.ring h.answers.sessions h.answers.links in
    let up : after.up ≡ true = ap (λ (l : LinkState). l.up) takes.others ∙ h.there.up in
    let was_on : work_of_link link way site.server ≡ work_on link way site.server = up_work link way site.server h.there.up in
    let is_on : work_of_link after (way_by there proxy) there.server ≡ work_on after passed site.server =
    ap (λ (w : WayState). work_of_link after w site.server) own ∙ up_work after passed site.server up in
    let waits : length link.waiting ≡ suc (length after.waiting) = ap (λ (ws : List Waiting). length ws) takes.oldest in
    let output : moves_of after.output ≡ moves_of link.output = ap (λ (l : LinkState). moves_of l.output) takes.others in
    let some : 1 ≤ way.ahead = ((serves.sites place site h.there.at).ways proxy).replied h.answers.tag h.answers.reply after h.there.up takes in
    omega (
      arith,
      most,
      now,
      was_on,
      is_on,
      waits,
      output,
      some,
      sessions_noted was.ring h.answers.tag (Reply h.answers.reply) was.sessions,
      links_changed proxy was.links old.sites place after site there h.there.at (up_is_there place was.links h.there.up),
    )

-- a connection was closed: its own output is gone, and any other is as it was
closed_moves : (closing number : ℕ) (old new : ServerState) → new ≡ record old { connections = closed closing old.connections } → connection_at new closing ≡ None
    → moves_of (output_of (connection_at new number)) ≤ moves_of (output_of (connection_at old number))
closed_moves closing number old new closes not_open =
    ⊎_elim
    (λ e. let none : moves_of (output_of (connection_at new number)) ≡ 0 = ap (λ (n : ℕ). moves_of (output_of (connection_at new n))) (sym e.1) ∙ ap (λ (o : Option ConnectionState). moves_of (output_of o)) not_open in
    omega (arith, none))
    (λ e. let same : moves_of (output_of (connection_at new number)) ≡ moves_of (output_of (connection_at old number)) =
    ap (λ (s : ServerState). moves_of (output_of (connection_at s number))) closes ∙ ap (λ (o : Option ConnectionState). moves_of (output_of o)) (closed_other closing number old.connections e.1) in
    omega (arith, same))
    (eqb_tells closing number)

-- the end of a lost generation was seen
pub ended_less : (place i : ℕ) (old new : PoolState) → EndSeen place i old new → work_left new < work_left old
ended_less place i old new h =
    let site = h.there.site in
    let there : SiteState = record site { server = h.there.now.server; lost = remove site.lost i } in
    let most = left_stayed place site there old new h.there.at h.there.proxies.proxies (h.there.sites ∙ ap (λ (s : SiteState). slice_set old.sites place s) h.ends.all_else)
    (λ q. link_least (link_of old q place) (way_by site q) site.server there.server
    (λ up. closed_moves h.ends.way.connection (way_by site q).connection site.server h.there.now.server h.ends.closes h.ends.not_open)) in
    omega (arith, most, ways_removed site.lost i h.ends.way h.ends.way_at)

-- a server took a request of a lost generation, whose connection is that of no link that is up
pub late_less : (place i moment : ℕ) (old new : PoolState) → (h : LateTurn place i moment old new)
    → ((q : ℕ) → (link_of old q place).up ≡ true → (way_by h.there.site q).connection ≢ h.enters.way.connection) → work_left new < work_left old
late_less place i moment old new h apart =
    let site = h.there.site in
    let way = h.enters.way in
    let there : SiteState = record site { server = h.there.now.server; history = h.there.now.history; lost = slice_set site.lost i (record way { untaken = h.enters.tags }) } in
    let one : length way.untaken ≡ suc (length h.enters.tags) = ap (λ (ts : List Tag). length ts) h.enters.untaken in
    let most = left_stayed place site there old new h.there.at h.there.proxies.proxies (h.there.sites ∙ ap (λ (s : SiteState). slice_set old.sites place s) h.enters.all_else)
    (λ q. link_least (link_of old q place) (way_by site q) site.server there.server
    (λ up. let same : moves_of (output_of (connection_at there.server (way_by site q).connection)) ≡ moves_of (output_of (connection_at site.server (way_by site q).connection)) =
    ap (λ (o : Option ConnectionState). moves_of (output_of o)) (stepped_other way.connection (way_by site q).connection site.server there.server _ h.enters.on.steps (λ e. apart q up (sym e))) in
    omega (arith, same))) in
    omega (arith, most, one, ways_changed site.lost i way (record way { untaken = h.enters.tags }) h.enters.way_at)
