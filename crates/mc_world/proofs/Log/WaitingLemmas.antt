-- What a log shows of the pending commands on a link, and their outcomes when it is lost.
use Rattle.std.proofs.Common.{◌≡◌, ◌∙◌, ℕ, ◌+◌, ◌==◌, ◌&&◌, ◌⊎◌, inl, inr, true, List, [], ◌∷◌, ◌++◌, map, drop, Some, slice_get, refl, sym, ap, subst, arith}
use Rattle.std.proofs.lemmas.Bool.{and_from}
use Rattle.std.proofs.lemmas.Option.{same_Some}
use Rattle.mc_request.specs.declared.parts.Atom.{Atom}
use Rattle.mc_ring.specs.Rings.{RingState}
use Rattle.mc_route.specs.Routes.{to_place}
use Rattle.mc_route.specs.declared.outcomes.Outcome.{Outcome}
use Rattle.mc_route.specs.declared.outcomes.Outcome.TheVariants.{Awaited, Lost}
use Rattle.mc_route.specs.declared.routes.Routed.{Routed}
use Rattle.mc_link.specs.LinkState.{LinkState, Waiting}
use Rattle.mc_link.specs.declared.turns.Tag.{Tag}
use Rattle.mc_cache.specs.CacheState.{CacheState}
use Rattle.mc_proxy.specs.Emits.{is_noted}
use Rattle.mc_proxy.specs.SessionState.{link_at}
use Rattle.mc_proxy.specs.ProxyState.{ProxyState}
use Rattle.mc_account.specs.Lanes.{Lane}
use Rattle.mc_account.specs.Lookups.{AreAwaited, command_at, outcome_at}
use Rattle.mc_account.specs.Orders.{AreInOrder, Order, entries_of, note_all}
use Rattle.mc_account.proofs.LookupLemmas.{all_waiting_are_awaited, waiting_is_awaited}
use Rattle.mc_account.proofs.OpenSessions.{own_number}
use Rattle.mc_account.proofs.StayingLemmas.{awaited_not_answered}
use Rattle.mc_history.specs.declared.entries.Entry.{Entry}
use Rattle.mc_world.specs.Accounts.{NotAnswered, WasLost, WasTaken, up_when_taken}
use Rattle.mc_world.specs.Homes.{Homes, of_proxy, own_of}
use Rattle.mc_world.specs.LogHolds.{AnswersHold, CommandsHold, HasOutcome, IsUntaken, RequestsHold}
use Rattle.mc_world.specs.Logs.{Log, loses, number_of, puts}
use Rattle.mc_world.specs.Pools.{LosesLink, PoolHolds, cut_off}
use Rattle.mc_world.specs.WorldState.{PoolState, SiteState, StaleState, histories_of, home_of, link_of, proxy_at, way_by}
use Rattle.mc_world.specs.declared.events.Event.TheVariants.{LinkLost}
use Rattle.mc_world.specs.declared.logs.Logged.TheVariants.{Happened}
use Rattle.mc_world.proofs.Homes.OrderLemmas.{command_is_own, command_whole, outcome_whole}
use Rattle.mc_world.proofs.Log.CommandLemmas.{News, command_taken, commands_go, none_still, up_stays}
use Rattle.mc_world.proofs.Log.EntryLemmas.{HasUntaken, HasUntakenAt, got_mapped, got_pushed, history_still, untaken_set}
use Rattle.mc_world.proofs.Log.LogLemmas.{before-last, number-one}
use Rattle.mc_world.proofs.Log.OutcomeLemmas.{all_back, all_lost, goes_note_all, pool_numbered, whole_awaited}
use Rattle.mc_world.proofs.SiteEvents.SiteLemmas.{get_past}

-- the tags of the pending commands on the link of a place
abbrev pub tags_waiting : ProxyState → ℕ → List Tag
tags_waiting proxy place = map (λ (w : Waiting). w.1) (link_at proxy.links place).waiting

-- A pending command of a client of this proxy: its reply is awaited, so it was sent, and its request was taken and is not answered.
pub record Waits (home : Homes) (proxy place : ℕ) (order : Order) (log : Log) (tag : Tag) : Type 0 where
  pub whose : home tag.session ≡ proxy
  pub atom : Atom (List ℕ)
  pub command : command_at order tag ≡ Some (to_place place atom)
  pub awaited : outcome_at order tag ≡ Some Awaited
  pub sent : up_when_taken (home tag.session) place tag log
  pub taken : WasTaken tag log
  pub unanswered : NotAnswered tag log

pub waits_at : (ring : RingState) (opening : CacheState) (texts sent : ℕ → List ℕ) (order : Order) (lanes : ℕ → ℕ → Lane) (outs : ℕ → List ℕ) (log : Log) (old : PoolState)
    (proxy place index : ℕ) (tag : Tag)
    → PoolHolds opening texts sent order lanes old → RequestsHold ring order log old → AnswersHold order outs log old → CommandsHold (home_of old) order log old.sites
    → (link_of old proxy place).up ≡ true → slice_get (tags_waiting (proxy_at old proxy) place) index ≡ Some tag → Waits (home_of old) proxy place order log tag
waits_at ring opening texts sent order lanes outs log old proxy place index tag pool requests answers commands up at =
    let w = got_mapped (λ (x : Waiting). x.1) (link_of old proxy place).waiting index tag at in
    let a = waiting_is_awaited (own_of (home_of old) proxy texts) (own_of (home_of old) proxy sent) (of_proxy (home_of old) proxy order) (lanes proxy) (proxy_at old proxy) (pool.proxies proxy)
    place up index w.0 w.1 in
    let own_command : command_at (of_proxy (home_of old) proxy order) tag ≡ Some (to_place place a.atom) =
    ap (λ (t : Tag). command_at (of_proxy (home_of old) proxy order) t) (sym w.2) ∙ a.command in
    let own_awaited : outcome_at (of_proxy (home_of old) proxy order) tag ≡ Some Awaited = ap (λ (t : Tag). outcome_at (of_proxy (home_of old) proxy order) t) (sym w.2) ∙ a.outcome in
    let command = command_whole (home_of old) proxy order tag (to_place place a.atom) own_command in
    let awaited = outcome_whole (home_of old) proxy order tag Awaited own_awaited in
    record {
      whose = command_is_own (home_of old) proxy order tag (to_place place a.atom) own_command;
      atom = a.atom;
      command = command;
      awaited = awaited;
      sent = commands.told tag place a.atom Awaited command awaited;
      taken = command_taken ring order log old tag (to_place place a.atom) requests command;
      unanswered = awaited_not_answered tag.session order (number_of (puts tag.session) log) (outs tag.session) [] tag (answers.put tag.session) awaited refl;
    }

-- each of them is awaited when it is its turn to be noted
waiting_awaited : (opening : CacheState) (texts sent : ℕ → List ℕ) (order : Order) (lanes : ℕ → ℕ → Lane) (old : PoolState) (proxy place : ℕ) (outcome : Outcome)
    → PoolHolds opening texts sent order lanes old → (link_of old proxy place).up ≡ true → is_noted outcome ≡ true → AreAwaited (tags_waiting (proxy_at old proxy) place) outcome order
waiting_awaited opening texts sent order lanes old proxy place outcome pool up noted =
    whole_awaited (home_of old) proxy (tags_waiting (proxy_at old proxy) place) outcome order
    (all_waiting_are_awaited (own_of (home_of old) proxy texts) (own_of (home_of old) proxy sent) (of_proxy (home_of old) proxy order) (lanes proxy) (proxy_at old proxy) (pool.proxies proxy)
    place up outcome noted)

-- an event of a link
own_link : (proxy place : ℕ) → ((proxy == proxy) && (place == place)) ≡ true
own_link proxy place = and_from (proxy == proxy) (place == place) (own_number proxy) (own_number place)

-- when the link is lost, the log shows it
lost_now : (home : Homes) (proxy place : ℕ) (order : Order) (log : Log) (tag : Tag) → Waits home proxy place order log tag
    → WasLost (home tag.session) place tag (log ++ Happened (LinkLost proxy place) ∷ [])
lost_now home proxy place order log tag w =
    let last = sym (before-last (loses proxy place) log (Happened (LinkLost proxy place)) (own_link proxy place)) in
    subst (λ (p : ℕ). WasLost p place tag (log ++ Happened (LinkLost proxy place) ∷ [])) (sym w.whose) (
      number_of (loses proxy place) log,
      omega (arith, number-one (loses proxy place) log (Happened (LinkLost proxy place)) (own_link proxy place)),
      subst (λ (l : Log). WasTaken tag l) last w.taken,
      subst (λ (l : Log). NotAnswered tag l) last w.unanswered,
    )

-- the outcome of each command that is known
news_lost : (order : Order) (log : Log) (old : PoolState) (proxy place : ℕ) (histories : ℕ → List Entry) → ((number : ℕ) → AreInOrder (entries_of number order))
    → AreAwaited (tags_waiting (proxy_at old proxy) place) Lost order
    → ((index : ℕ) (tag : Tag) → slice_get (tags_waiting (proxy_at old proxy) place) index ≡ Some tag → Waits (home_of old) proxy place order log tag)
    → News (home_of old) order (note_all (tags_waiting (proxy_at old proxy) place) Lost order) histories (log ++ Happened (LinkLost proxy place) ∷ [])
news_lost order log old proxy place histories numbered all waits tag p atom outcome command known =
    let was : command_at order tag ≡ Some (to_place p atom) = sym ((goes_note_all (tags_waiting (proxy_at old proxy) place) Lost order numbered all).commands tag) ∙ command in
    elim (all_back (tags_waiting (proxy_at old proxy) place) order tag outcome numbered all known) [
      | inl k ↦ inl (was, k)
      | inr k ↦ (
          let w = waits k.index tag k.at in
          let same : place ≡ p = ap (λ (r : Routed). r.server) (same_Some (to_place place w.atom) (to_place p atom) (sym w.command ∙ was)) in
          inr (subst (λ (o : Outcome). HasOutcome (home_of old) p tag (histories p) (log ++ Happened (LinkLost proxy place) ∷ []) o) (sym k.now)
          (inr (
            subst (λ (q : ℕ). up_when_taken (home_of old tag.session) q tag (log ++ Happened (LinkLost proxy place) ∷ [])) same
                (up_stays (home_of old tag.session) place tag log (Happened (LinkLost proxy place)) w.taken w.sent),
            subst (λ (q : ℕ). WasLost (home_of old tag.session) q tag (log ++ Happened (LinkLost proxy place) ∷ [])) same (lost_now (home_of old) proxy place order log tag w),
          ))))
    ]

-- the commands that the lost generation keeps as untaken
untaken_lost : (home : Homes) (proxy place : ℕ) (order : Order) (log : Log) (link : LinkState) (site : SiteState) (tag : Tag)
    → ((index : ℕ) → slice_get (map (λ (w : Waiting). w.1) link.waiting) index ≡ Some tag → IsUntaken home place order log tag)
    → HasUntaken (cut_off proxy link site).lost tag → (HasUntaken site.lost tag) ⊎ (IsUntaken home place order log tag)
untaken_lost home proxy place order log link site tag waits h =
    let ahead : ℕ = (way_by site proxy).ahead in
    let way : StaleState = record {
      proxy = proxy;
      generation = (way_by site proxy).generation;
      connection = (way_by site proxy).connection;
      going = link.output;
      untaken = drop (way_by site proxy).ahead (map (λ (w : Waiting). w.1) link.waiting);
    } in
    elim (got_pushed site.lost way h.i h.way h.way_at) [
      | inl k ↦ inl (record { i = h.i; j = h.j; way = h.way; way_at = k; tag_at = h.tag_at })
      | inr k ↦ (
          let there : slice_get (drop ahead (map (λ (w : Waiting). w.1) link.waiting)) h.j ≡ Some tag = ap (λ (x : StaleState). slice_get x.untaken h.j) (sym k.1) ∙ h.tag_at in
          inr (waits (h.j + ahead) (sym (get_past (map (λ (w : Waiting). w.1) link.waiting) ahead h.j) ∙ there)))
    ]

pub commands_lose : (ring : RingState) (opening : CacheState) (texts sent : ℕ → List ℕ) (order : Order) (lanes : ℕ → ℕ → Lane) (outs : ℕ → List ℕ) (log : Log) (proxy place : ℕ) (old new : PoolState)
    → LosesLink proxy place old new → PoolHolds opening texts sent order lanes old → RequestsHold ring order log old → AnswersHold order outs log old
    → CommandsHold (home_of old) order log old.sites
    → CommandsHold (home_of new) (note_all (tags_waiting (proxy_at old proxy) place) Lost order) (log ++ Happened (LinkLost proxy place) ∷ []) new.sites
commands_lose ring opening texts sent order lanes outs log proxy place old new e pool requests answers commands =
    let up = e.there.up in
    let numbered = pool_numbered opening texts sent order lanes old pool in
    let all = waiting_awaited opening texts sent order lanes old proxy place Lost pool up refl in
    let waits = λ (index : ℕ) (tag : Tag) (at : slice_get (tags_waiting (proxy_at old proxy) place) index ≡ Some tag).
    waits_at ring opening texts sent order lanes outs log old proxy place index tag pool requests answers commands up at in
    let same : (q : ℕ) → histories_of new.sites q ≡ histories_of old.sites q = λ q.
    ap (λ (ss : List SiteState). histories_of ss q) e.there.sites
    ∙ history_still old.sites place e.there.site e.there.now e.there.at (ap (λ (s : SiteState). s.history) e.cut) q in
    let untaken : (index : ℕ) (tag : Tag) → slice_get (tags_waiting (proxy_at old proxy) place) index ≡ Some tag
    → IsUntaken (home_of old) place (note_all (tags_waiting (proxy_at old proxy) place) Lost order) (log ++ Happened (LinkLost proxy place) ∷ []) tag = λ index tag at.
    let w = waits index tag at in
    record {
      lost = all_lost (tags_waiting (proxy_at old proxy) place) order index tag numbered all at;
      sent = up_stays (home_of old tag.session) place tag log (Happened (LinkLost proxy place)) w.taken w.sent;
    } in
    commands_go ring order (note_all (tags_waiting (proxy_at old proxy) place) Lost order) log (Happened (LinkLost proxy place)) old new e.proxy.homes requests
    (goes_note_all (tags_waiting (proxy_at old proxy) place) Lost order numbered all).lost
    (news_lost order log old proxy place (histories_of new.sites) numbered all waits)
    (none_still (home_of old) log (histories_of old.sites) (histories_of new.sites) same)
    (λ q tag has. elim (untaken_set old.sites place e.there.now q tag (subst (λ (ss : List SiteState). HasUntakenAt ss q tag) e.there.sites has)) [
      | inl k ↦ (elim (untaken_lost (home_of old) proxy place (note_all (tags_waiting (proxy_at old proxy) place) Lost order) (log ++ Happened (LinkLost proxy place) ∷ []) (link_of old proxy place) e.there.site tag
          (λ index at. untaken index tag at) (subst (λ (s : SiteState). HasUntaken s.lost tag) e.cut k.1)) [
            | inl l ↦ inl (subst (λ (p : ℕ). HasUntakenAt old.sites p tag) k.0 (record { site = e.there.site; at = e.there.at; has = l }))
            | inr l ↦ inr (subst (λ (p : ℕ). IsUntaken (home_of old) p (note_all (tags_waiting (proxy_at old proxy) place) Lost order) (log ++ Happened (LinkLost proxy place) ∷ []) tag) k.0 l)
          ])
      | inr k ↦ inl k
    ])
    commands
