-- When events apply to a pool, and what was done if they did.
use Rattle.std.proofs.Common.{◌≡◌, ◌≢◌, ◌∙◌, ℕ, zero, suc, ◌+◌, ◌-◌, ◌^◌, ◌<◌, ◌==◌, ◌&&◌, Bool, true, false, not, min, List, [], ◌∷◌, ◌++◌, length, drop, take, Option, Some, None, Result, Ok, Err, slice_get, slice_set, refl, sym, ap, subst, arith}
use Rattle.std.specs.Prelude.{OnErr, IsErrOf, IsOkUnless, IsTrue, nat_lt, slice_index_or}
use Rattle.std.specs.Result.{IsOk}
use Rattle.std.proofs.lemmas.Bool.{and_from, and_parts, eqb-true, lt-ltb, ltb-true}
use Rattle.std.proofs.lemmas.List.{drop_min, take_min}
use Rattle.std.proofs.lemmas.List.Quantifiers.{position-Some}
use Rattle.std.proofs.lemmas.Option.{none-some, same_Some, slice_get-get_or}
use Rattle.mc_request.specs.declared.parts.Parsed.{Parsed}
use Rattle.mc_request_reader.specs.Reader.{ReaderState, rest_from, rest_of}
use Rattle.mc_reply.specs.declared.replies.Reply.{Reply as AReply}
use Rattle.mc_codec.proofs.HeadLemmas.{begun_is_not_whole}
use Rattle.mc_route.specs.Routes.{route_of_taken}
use Rattle.mc_link.specs.LinkState.{LinkState, Waiting, can_come_back, up_link}
use Rattle.mc_link.specs.Turns.{HasStrange, IsIdle, Takes}
use Rattle.mc_link.specs.declared.turns.Tag.{Tag}
use Rattle.mc_server.specs.ServerState.{ConnectionState, ServerState, connection_at, output_of, sent_by}
use Rattle.mc_proxy.specs.Looks.{IsReady}
use Rattle.mc_proxy.specs.Sending.{is_marked}
use Rattle.mc_proxy.specs.SessionState.{SessionState, link_at}
use Rattle.mc_proxy.specs.SessionTurns.{IsTurn}
use Rattle.mc_proxy.specs.declared.session_turns.SessionTurn.{SessionTurn}
use Rattle.mc_proxy.specs.declared.session_turns.SessionTurn.TheVariants as turns
use Rattle.mc_proxy.specs.LinkTurns.{IsLinkTurn}
use Rattle.mc_proxy.specs.ProxyState.{ProxyState, session_at}
use Rattle.mc_proxy.specs.Turns.{Steps}
use Rattle.mc_proxy.specs.declared.turns.LinkStep.{LinkStep}
use Rattle.mc_proxy.specs.declared.turns.LinkStep.TheVariants as replies
use Rattle.mc_account.proofs.LaneLemmas.{up_is_there}
use Rattle.mc_account.proofs.OpenSessions.{own_number}
use Rattle.mc_server.specs.Turns.{waiting_of}
use Rattle.mc_server.specs.declared.turns.ServerError.{ServerError}
use Rattle.mc_server.specs.declared.turns.ServerError.TheVariants as reasons
use Rattle.mc_world.specs.Applies.{CanServe, CanServeLate, CanTakeRequest, IsUp, Lives, is_way, lost_way}
use Rattle.mc_world.specs.Happens.{Arrives, ArrivesLate, ComesBack, Ends, EntersLate, returned}
use Rattle.mc_world.specs.Pools.{EndSeen, LateBytes, LateTurn, LinkReturns, ReachesProxy, ReachesServer, relinked}
use Rattle.mc_world.specs.Serving.{PoolServes}
use Rattle.mc_world.specs.WorldState.{PoolState, SiteState, StaleState, histories_of, proxy_at, proxy_in, proxy_of, way_by, with_proxy}
use Rattle.mc_world.specs.declared.errors.Step.TheVariants.{Done, Nothing}

abbrev pub pool_of : List ℕ → List ProxyState → List SiteState → PoolState
pool_of homes proxies sites = record { homes = homes; proxies = proxies; sites = sites }

-- an event was done, and applies; nothing was done, and it does not
pub it_applies : {P : Type 0} → P → (Done ≡ Done → P) × (P → Done ≡ Done)
it_applies p = (λ _. p, λ _. refl)

pub it_does_not : {P : Type 0} → (P → ⊥) → (Nothing ≡ Done → P) × (P → Nothing ≡ Done)
it_does_not never = (λ is. absurd cc, λ p. absurd (never p))

-- what holds, holds at an error
pub at_error : {T E : Type 0} (P : Type 0) (r : Result T E) → P → OnErr r P
at_error P (Ok value) is = tt
at_error P (Err e) is = is

-- a generation of a proxy's link lives
pub lives_by : (proxy place generation own : ℕ) (pool : PoolState) (site : SiteState) → slice_get pool.sites place ≡ Some site → IsUp proxy place pool
    → own ≡ (way_by site proxy).generation
    → (IsTrue (own == generation) → Lives proxy place generation pool) × (Lives proxy place generation pool → IsTrue (own == generation))
lives_by proxy place generation own pool site at up own_is = (
  λ same. record { site = site; at = at; is = sym own_is ∙ eqb-true own generation same; up = up },
  λ h.
      let same : site ≡ h.site = same_Some site h.site (sym at ∙ h.at) in
      let is : own ≡ generation = own_is ∙ ap (λ (s : SiteState). (way_by s proxy).generation) same ∙ h.is in
      ap (λ (n : ℕ). own == n) (sym is) ∙ own_number own,
)

pub lives_nowhere : (proxy place generation : ℕ) (pool : PoolState) → slice_get pool.sites place ≡ None
    → (IsTrue false → Lives proxy place generation pool) × (Lives proxy place generation pool → IsTrue false)
lives_nowhere proxy place generation pool none = (λ never. absurd cc, λ h. absurd (none-some h.site (sym none ∙ h.at)))

-- a turn of a session that takes nothing finds no request that is ready
nothing_closed : (s : ReaderState) → s.closed ≡ true → rest_of s [] ≡ []
nothing_closed s closed = ap (λ (v : Bool). rest_from v s.dropping (s.unread ++ [])) closed

pub not_ready : (number : ℕ) (turn : SessionTurn) (old new : ProxyState) → turn ≢ turns.Took → Steps number old new (IsTurn number turn old.ring old.losses)
    → (session : SessionState) → session_at old number ≡ Some session → IsReady old.ring old.links session → ⊥
not_ready number turns.Took old new differ h session at ready = differ refl
not_ready number turns.Idle old new differ h session at ready =
    let same : h.before ≡ session = same_Some h.before session (sym h.was ∙ at) in
    let none : [] ≡ ready.what ∷ ready.others = sym (ap (λ (s : SessionState). rest_of s.reader []) (sym same) ∙ h.step.0.none) ∙ ready.first in
    absurd cc
not_ready number turns.Waiting old new differ h session at ready =
    let same : h.before ≡ session = same_Some h.before session (sym h.was ∙ at) in
    let both : h.step.0.what ∷ h.step.0.others ≡ ready.what ∷ ready.others = sym h.step.0.first ∙ ap (λ (s : SessionState). rest_of s.reader []) same ∙ ready.first in
    let what : h.step.0.what ≡ ready.what = cc in
    let clash : true ≡ false =
    sym h.step.0.marked ∙ ap (λ (s : SessionState). is_marked s old.links (route_of_taken old.ring h.step.0.what)) same
    ∙ ap (λ (w : Parsed). is_marked session old.links (route_of_taken old.ring w)) what ∙ ready.unmarked in
    absurd cc
not_ready number turns.Closing old new differ h session at ready =
    let same : h.before ≡ session = same_Some h.before session (sym h.was ∙ at) in
    let none : [] ≡ ready.what ∷ ready.others = sym (ap (λ (s : SessionState). rest_of s.reader []) (sym same) ∙ nothing_closed h.before.reader h.step.0) ∙ ready.first in
    absurd cc

-- a turn that takes a request finds one that is ready
pub was_ready : (client : ℕ) (pool : PoolState) (now : ProxyState)
    → Steps client (proxy_of pool client) now (IsTurn client turns.Took (proxy_of pool client).ring (proxy_of pool client).losses) → CanTakeRequest client pool
was_ready client pool now h = (
  h.before,
  h.was,
  record { what = h.step.0; others = rest_of h.after.reader []; first = h.step.1.first.rest []; unmarked = h.step.1.unmarked },
)

-- a link that is up has a site
pub site_there : (proxy place : ℕ) (pool : PoolState) → PoolServes pool → IsUp proxy place pool → place < length pool.sites
site_there proxy place pool serves up = omega (arith, up_is_there place (proxy_at pool proxy).links up, serves.sited proxy)

-- bytes arrive at a server
pub reached_server : (proxy place count : ℕ) (homes : List ℕ) (proxies proxies' : List ProxyState) (sites : List SiteState) (site now : SiteState)
    → slice_get sites place ≡ Some site → (link_at (proxy_in proxies proxy).links place).up ≡ true
    → Arrives proxy (take (min count (length (link_at (proxy_in proxies proxy).links place).output)) (link_at (proxy_in proxies proxy).links place).output) site now
    → proxies' ≡ with_proxy proxy (relinked place (record (link_at (proxy_in proxies proxy).links place) {
      output = drop (min count (length (link_at (proxy_in proxies proxy).links place).output)) (link_at (proxy_in proxies proxy).links place).output;
    }) (proxy_in proxies proxy)) proxies
    → ReachesServer proxy place count (pool_of homes proxies sites) (pool_of homes proxies' (slice_set sites place now))
reached_server proxy place count homes proxies proxies' sites site now at up arrives is =
    let p : ProxyState = proxy_in proxies proxy in
    let link : LinkState = link_at p.links place in
    record {
      there = record { site = site; now = now; at = at; up = up; sites = refl };
      arrives = subst (λ (piece : List ℕ). Arrives proxy piece site now) (take_min count link.output) arrives;
      proxy = record {
        proxies = is ∙ ap (λ (bytes : List ℕ). with_proxy proxy (relinked place (record link { output = bytes }) p) proxies) (drop_min count link.output);
        homes = refl;
      };
    }

-- bytes arrive at the proxy
sent_min : (number count : ℕ) (end : Option ConnectionState) (server : ServerState) → sent_by number (min count (length (output_of end))) end server ≡ sent_by number count end server
sent_min number count None server = refl
sent_min number count (Some end) server = ap (λ (bytes : List ℕ). sent_by number 0 (Some (record end { output = bytes })) server) (drop_min count end.output)

pub reached_proxy : (proxy place count : ℕ) (homes : List ℕ) (proxies proxies' : List ProxyState) (sites : List SiteState) (site now : SiteState)
    → slice_get sites place ≡ Some site → (link_at (proxy_in proxies proxy).links place).up ≡ true
    → now ≡ returned proxy (min count (length (output_of (connection_at site.server (way_by site proxy).connection)))) site
    → proxies' ≡ with_proxy proxy (relinked place (record (link_at (proxy_in proxies proxy).links place) {
      unread = (link_at (proxy_in proxies proxy).links place).unread
          ++ take (min count (length (output_of (connection_at site.server (way_by site proxy).connection)))) (output_of (connection_at site.server (way_by site proxy).connection));
    }) (proxy_in proxies proxy)) proxies
    → ReachesProxy proxy place count (pool_of homes proxies sites) (pool_of homes proxies' (slice_set sites place now))
reached_proxy proxy place count homes proxies proxies' sites site now at up leaves is =
    let p : ProxyState = proxy_in proxies proxy in
    let link : LinkState = link_at p.links place in
    let number : ℕ = (way_by site proxy).connection in
    record {
      there = record { site = site; now = now; at = at; up = up; sites = refl };
      leaves = leaves ∙ ap (λ (s : ServerState). record site { server = s }) (sent_min number count (connection_at site.server number) site.server);
      proxy = record {
        proxies = is ∙ ap (λ (bytes : List ℕ). with_proxy proxy (relinked place (record link { unread = link.unread ++ bytes }) p) proxies)
            (take_min count (output_of (connection_at site.server number)));
        homes = refl;
      };
    }

-- a link that is idle has no whole reply
idle_by : (head : _) (tag : Tag) (waiting waits : List Waiting) (unread : List ℕ) → waits ≡ (head, tag) ∷ waiting → IsIdle waits unread → IsIdle ((head, tag) ∷ waiting) unread
idle_by head tag waiting waits unread is idle = subst (λ (ws : List Waiting). IsIdle ws unread) is idle

pub not_whole : (link : LinkState) (tag : Tag) (reply : AReply (List ℕ)) (after : LinkState) → IsIdle link.waiting link.unread → Takes link tag reply after → ⊥
not_whole link tag reply after idle takes =
    begun_is_not_whole takes.head link.unread (idle_by takes.head tag after.waiting link.waiting link.unread takes.oldest idle)
    (record { reply = reply; can = takes.can; rest = after.unread; spelled = takes.spelled })

-- a turn of a link that takes nothing, if nothing unread is a protocol violation
pub record RestsIdle (place : ℕ) (old new : ProxyState) : Type 0 where
  pub idle : IsIdle (link_at old.links place).waiting (link_at old.links place).unread
  pub same : new ≡ old

pub rests : (place : ℕ) (turn : LinkStep) (old new : ProxyState) → turn ≢ replies.Took → (HasStrange (link_at old.links place).waiting (link_at old.links place).unread → ⊥)
    → IsLinkTurn place turn old new → RestsIdle place old new
rests place replies.Took old new differ never h = absurd (differ refl)
rests place replies.Idle old new differ never h = record { idle = h.0; same = h.1 }
rests place replies.Strange old new differ never h = absurd (never h.0)

-- a link that is up cannot come up again, nor one without a generation left
pub up_stays : (link : LinkState) → link.up ≡ true → can_come_back link ≡ true → ⊥
up_stays link up can =
    let clash : (not true && nat_lt link.generation (2 ^ 64 - 1)) ≡ true = subst (λ (v : Bool). (not v && nat_lt link.generation (2 ^ 64 - 1)) ≡ true) up can in
    absurd cc

pub none_left : (link : LinkState) → link.generation ≡ 2 ^ 64 - 1 → can_come_back link ≡ true → ⊥
none_left link last can =
    let below : link.generation < 2 ^ 64 - 1 = ltb-true link.generation (2 ^ 64 - 1) (and_parts (not link.up) (nat_lt link.generation (2 ^ 64 - 1)) can).1 in
    omega (arith, below, last)

pub can_return : (link : LinkState) → link.up ≡ false → link.generation < 2 ^ 64 - 1 → can_come_back link ≡ true
can_return link down below = and_from (not link.up) (nat_lt link.generation (2 ^ 64 - 1)) (ap not down) (lt-ltb link.generation (2 ^ 64 - 1) below)

-- the way of a generation of a proxy
pub record FoundWay (proxy generation : ℕ) (ways : List StaleState) (i : ℕ) : Type 0 where
  pub way : StaleState
  pub at : slice_get ways i ≡ Some way
  pub is : is_way proxy generation way ≡ true
  pub inside : i < length ways

abbrev some_way : StaleState
some_way = record { proxy = 0; generation = 0; connection = 0; going = []; untaken = [] }

pub found_way : (proxy generation : ℕ) (ways : List StaleState) (i : ℕ) → lost_way proxy generation ways ≡ Some i → FoundWay proxy generation ways i
found_way proxy generation ways i found =
    let facts = position-Some (is_way proxy generation) ways i some_way found in
    record {
      way = slice_index_or ways i some_way;
      at = slice_get-get_or ways i some_way facts.0;
      is = facts.1;
      inside = facts.0;
    }

-- the history of the server of a place
pub history_here : (sites : List SiteState) (place : ℕ) (site : SiteState) → slice_get sites place ≡ Some site → histories_of sites place ≡ site.history
history_here [] zero site at = absurd (none-some site at)
history_here [] (suc place) site at = absurd (none-some site at)
history_here (s ∷ ss) zero site at = ap (λ (x : SiteState). x.history) (same_Some s site at)
history_here (s ∷ ss) (suc place) site at = history_here ss place site at

pub history_nowhere : (sites : List SiteState) (place : ℕ) → slice_get sites place ≡ None → histories_of sites place ≡ []
history_nowhere [] place none = refl
history_nowhere (s ∷ ss) zero none = absurd (none-some s (sym none))
history_nowhere (s ∷ ss) (suc place) none = history_nowhere ss place none

-- a link came up again
pub came_back : (proxy place : ℕ) (homes : List ℕ) (proxies proxies' : List ProxyState) (sites : List SiteState) (site now : SiteState)
    → slice_get sites place ≡ Some site → place < length (proxy_in proxies proxy).links
    → (way_by site proxy).generation ≡ (link_at (proxy_in proxies proxy).links place).generation
    → can_come_back (link_at (proxy_in proxies proxy).links place) ≡ true → ComesBack proxy ((way_by site proxy).generation + 1) site now
    → proxies' ≡ with_proxy proxy (relinked place (up_link ((link_at (proxy_in proxies proxy).links place).generation + 1)) (proxy_in proxies proxy)) proxies
    → LinkReturns proxy place (pool_of homes proxies sites) (pool_of homes proxies' (slice_set sites place now))
came_back proxy place homes proxies proxies' sites site now at inside generation can back is = record {
  site = site;
  now = now;
  at = at;
  inside = inside;
  can = can;
  back = subst (λ (n : ℕ). ComesBack proxy (n + 1) site now) generation back;
  sites = refl;
  proxy = record { proxies = is; homes = refl };
}

-- a server that can serve has a request of a pending command
pub serves_if : (proxy place : ℕ) (pool : PoolState) (site : SiteState) → slice_get pool.sites place ≡ Some site → CanServe proxy place pool
    → 0 < length (waiting_of (connection_at site.server (way_by site proxy).connection))
serves_if proxy place pool site at can =
    subst (λ (s : SiteState). 0 < length (waiting_of (connection_at s.server (way_by s proxy).connection))) (same_Some can.site site (sym can.at ∙ at)) can.waits

-- the way at an index is one
pub same_way : (proxy generation i : ℕ) (ways : List StaleState) (found : FoundWay proxy generation ways i) (way : StaleState) → slice_get ways i ≡ Some way
    → way ≡ found.way
same_way proxy generation i ways found way at = same_Some way found.way (sym at ∙ found.at)

is_found : (proxy generation i : ℕ) (ways : List StaleState) (found : FoundWay proxy generation ways i) (way : StaleState) → slice_get ways i ≡ Some way
    → is_way proxy generation way ≡ true
is_found proxy generation i ways found way at = ap (λ (w : StaleState). is_way proxy generation w) (same_way proxy generation i ways found way at) ∙ found.is

-- bytes of a lost generation arrived
pub reached_late : (proxy place i count generation : ℕ) (homes : List ℕ) (proxies : List ProxyState) (sites : List SiteState) (site now : SiteState)
    → slice_get sites place ≡ Some site → FoundWay proxy generation site.lost i → ArrivesLate i count site now
    → (j : ℕ) × (h : LateBytes place j count (pool_of homes proxies sites) (pool_of homes proxies (slice_set sites place now))) × (is_way proxy generation h.arrives.way ≡ true)
reached_late proxy place i count generation homes proxies sites site now at found h = (
  i,
  record { there = record { site = site; now = now; at = at; sites = refl; proxies = record { proxies = refl; homes = refl } }; arrives = h },
  is_found proxy generation i site.lost found h.way h.way_at,
)

-- a server took a request of it
pub served_late : (proxy place i moment generation : ℕ) (homes : List ℕ) (proxies : List ProxyState) (sites : List SiteState) (site now : SiteState)
    → slice_get sites place ≡ Some site → FoundWay proxy generation site.lost i → EntersLate i moment site now
    → (j : ℕ) × (h : LateTurn place j moment (pool_of homes proxies sites) (pool_of homes proxies (slice_set sites place now))) × (is_way proxy generation h.enters.way ≡ true)
served_late proxy place i moment generation homes proxies sites site now at found h = (
  i,
  record { there = record { site = site; now = now; at = at; sites = refl; proxies = record { proxies = refl; homes = refl } }; enters = h },
  is_found proxy generation i site.lost found h.way h.way_at,
)

pub late_serves_if : (proxy place generation i : ℕ) (pool : PoolState) (site : SiteState) (way : StaleState) → slice_get pool.sites place ≡ Some site
    → lost_way proxy generation site.lost ≡ Some i → slice_get site.lost i ≡ Some way → CanServeLate proxy place generation pool
    → 0 < length (waiting_of (connection_at site.server way.connection))
late_serves_if proxy place generation i pool site way at first way_at can =
    let same : can.there.site ≡ site = same_Some can.there.site site (sym can.there.at ∙ at) in
    let place_is : can.there.i ≡ i = same_Some can.there.i i (sym can.there.first ∙ ap (λ (s : SiteState). lost_way proxy generation s.lost) same ∙ first) in
    let way_is : can.there.way ≡ way = same_Some can.there.way way
    (sym can.there.way_at ∙ ap (λ (s : SiteState). slice_get s.lost can.there.i) same ∙ ap (λ (n : ℕ). slice_get site.lost n) place_is ∙ way_at) in
    subst (λ (w : StaleState). 0 < length (waiting_of (connection_at site.server w.connection))) way_is
    (subst (λ (s : SiteState). 0 < length (waiting_of (connection_at s.server can.there.way.connection))) same can.waits)

-- its end was seen
pub saw_end : (proxy place i generation : ℕ) (homes : List ℕ) (proxies : List ProxyState) (sites : List SiteState) (site now : SiteState)
    → slice_get sites place ≡ Some site → FoundWay proxy generation site.lost i → Ends i site now
    → (j : ℕ) × (h : EndSeen place j (pool_of homes proxies sites) (pool_of homes proxies (slice_set sites place now))) × (is_way proxy generation h.ends.way ≡ true)
saw_end proxy place i generation homes proxies sites site now at found h = (
  i,
  record { there = record { site = site; now = now; at = at; sites = refl; proxies = record { proxies = refl; homes = refl } }; ends = h },
  is_found proxy generation i site.lost found h.way h.way_at,
)

-- a connection that is open can be closed
pub closes : (r : Result (Unit {0}) ServerError) (end : ConnectionState) (at : Option ConnectionState) → at ≡ Some end → (IsErrOf r reasons.NoConnection → at ≡ None)
    → IsOkUnless r reasons.NoConnection → IsOk r
closes (Ok x) end at is gone only = refl
closes (Err e) end at is gone only = absurd (none-some end (sym (gone (ap (λ (x : ServerError). Err x) only)) ∙ is))
