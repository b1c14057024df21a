-- Before a link came up that was never down, nothing was sent to its server: after each event that is done, and after a server joins, is learned or restarts.
use Rattle.std.proofs.Common.{◌≡◌, ◌∙◌, ⊎_elim, ℕ, suc, ◌<◌, ◌≤◌, ◌⊎◌, inl, inr, Bool, true, if◌then◌else◌, List, [], ◌∷◌, ◌++◌, length, take, refl, sym, ap, subst, arith}
use Rattle.std.specs.Prelude.{All}
use Rattle.std.proofs.lemmas.Bool.{cases_lt}
use Rattle.std.proofs.lemmas.Bool.Decides.{eqb_tells}
use Rattle.std.proofs.lemmas.List.{take-append-le, take-map, take_all}
use Rattle.std.proofs.lemmas.List.Elements.{All-head, All-nil, All-tail, All-take}
use Rattle.mc_request.specs.declared.parts.Parsed.{Parsed}
use Rattle.mc_request.specs.declared.parts.Parsed.TheVariants.{Faulty, Whole}
use Rattle.mc_ring.specs.Rings.{IsRing, RingState}
use Rattle.mc_route.specs.Routes.{route_of_taken}
use Rattle.mc_route.specs.declared.outcomes.Outcome.{Outcome}
use Rattle.mc_route.specs.declared.routes.Routed.{Routed}
use Rattle.mc_route.proofs.RouteLemmas.{route_inside}
use Rattle.mc_cache.specs.CacheState.{CacheState}
use Rattle.mc_link.specs.LinkState.{LinkState, can_come_back}
use Rattle.mc_link.specs.declared.turns.Tag.{Tag}
use Rattle.mc_proxy.specs.Sending.{tag_of}
use Rattle.mc_proxy.specs.ProxyState.{ProxyState}
use Rattle.mc_account.specs.Lanes.{Lane, fresh_lane}
use Rattle.mc_account.specs.Lookups.{IsRoutedWithin}
use Rattle.mc_account.specs.Orders.{Order, Tagged, commands_from, commands_to, note, note_all, note_in}
use Rattle.mc_account.specs.Holds.{changed}
use Rattle.mc_account.proofs.HoldsLemmas.{changed-other, changed-own}
use Rattle.mc_account.proofs.OpenSessions.{other_number}
use Rattle.mc_account.proofs.OrderLemmas.{commands-note}
use Rattle.mc_account.proofs.WithinLemmas.{within-more}
use Rattle.mc_world.specs.declared.events.Event.TheVariants.{LinkBack, ProxyTurn}
use Rattle.mc_world.specs.CourseHolds.{CourseHolds, HaveNothingBefore}
use Rattle.mc_world.specs.Homes.{Homes, home_in, of_proxy}
use Rattle.mc_world.specs.LogHolds.{LogHolds}
use Rattle.mc_world.specs.Logs.{Log, drops, number_of}
use Rattle.mc_world.specs.Pools.{LinkReturns, TakesRequest, asked_by, relaned}
use Rattle.mc_world.specs.WorldState.{PoolState, home_of, link_of, proxy_at}
use Rattle.mc_world.specs.Worlds.{CourseState}
use Rattle.mc_world.specs.declared.logs.Logged.{Logged}
use Rattle.mc_world.specs.declared.logs.Logged.TheVariants.{Happened}
use Rattle.mc_world.proofs.Homes.OrderLemmas.{of_proxy-append, of_proxy-note}
use Rattle.mc_world.proofs.Log.LogLemmas.{number-push, stays_up}
use Rattle.mc_world.proofs.PoolEvents.ProxyLemmas.{all_keep, lanes_elsewhere, lanes_here}

-- no command to one of the first servers goes to a later one
none_from : (few place session request at : ℕ) (commands : List Routed) → few ≤ place → All (λ (routed : Routed). routed.server < few) commands
    → commands_from place session request at commands ≡ []
none_from few place session request at [] le h = refl
none_from few place session request at (command ∷ commands) le h =
    let first = All-head (λ (routed : Routed). routed.server < few) command commands h in
    ap (λ (v : Bool). if v then (command.atom, tag_of session request at) ∷ commands_from place session request (suc at) commands else commands_from place session request (suc at) commands)
    (other_number command.server place (λ same. omega (arith, first, le, same)))
    ∙ none_from few place session request (suc at) commands le (All-tail (λ (routed : Routed). routed.server < few) command commands h)

taken_inside : (ring : RingState) (what : Parsed) → IsRing ring → All (λ (routed : Routed). routed.server < length ring.servers) (route_of_taken ring what)
taken_inside ring (Whole request) good = route_inside ring request good
taken_inside ring (Faulty fault) good = All-nil (λ (routed : Routed). routed.server < length ring.servers)

pub none_to : (place : ℕ) (order : Order) → All (IsRoutedWithin place) order → commands_to place order ≡ []
none_to place [] h = refl
none_to place (e ∷ es) h =
    let first = All-head (IsRoutedWithin place) e es h in
    ap (λ (commands : List Tagged). commands ++ commands_to place es)
    (none_from (length e.ring.servers) place e.session e.request 0 (route_of_taken e.ring e.what) first.few (taken_inside e.ring e.what first.ring))
    ∙ none_to place es (All-tail (IsRoutedWithin place) e es h)

-- the lanes after the one of a link is replaced: that of this link, or one as it was
pub relaned_or : (proxy place : ℕ) (lane : Lane) (lanes : ℕ → ℕ → Lane) (p q : ℕ)
    → ((proxy ≡ p) × (place ≡ q) × (relaned proxy place lane lanes p q ≡ lane)) ⊎ (relaned proxy place lane lanes p q ≡ lanes p q)
relaned_or proxy place lane lanes p q =
    ⊎_elim
    (λ here.
    let at : relaned proxy place lane lanes p q ≡ changed proxy lane (λ r. lanes r place) p =
    ap (λ (n : ℕ). relaned proxy place lane lanes p n) (sym here.1) ∙ lanes_here proxy place lane lanes p in
    ⊎_elim
    (λ own. inl (own.1, here.1, at ∙ ap (λ (n : ℕ). changed proxy lane (λ r. lanes r place) n) (sym own.1) ∙ changed-own proxy lane (λ r. lanes r place)))
    (λ other. inr (at ∙ changed-other proxy p lane (λ r. lanes r place) other.1 ∙ ap (λ (n : ℕ). lanes p n) here.1))
    (eqb_tells proxy p))
    (λ elsewhere. inr (lanes_elsewhere proxy place lane lanes p q elsewhere.1))
    (eqb_tells place q)

-- a lane that came up when the one before did
pub since_stays : (proxy place : ℕ) (lane : Lane) (lanes : ℕ → ℕ → Lane) → lane.since ≡ (lanes proxy place).since → (p q : ℕ) → (relaned proxy place lane lanes p q).since ≡ (lanes p q).since
since_stays proxy place lane lanes same p q = elim (relaned_or proxy place lane lanes p q) [
  | inl own ↦ ap (λ (l : Lane). l.since) own.2 ∙ same ∙ ap (λ (n : ℕ). (lanes n place).since) own.0 ∙ ap (λ (n : ℕ). (lanes p n).since) own.1
  | inr other ↦ ap (λ (l : Lane). l.since) other
]

-- a link that was never down was not before the last entry
never_before : (proxy place : ℕ) (log log' : Log) (x : Logged) → log' ≡ log ++ x ∷ [] → number_of (drops proxy place) log' ≡ 0 → number_of (drops proxy place) log ≡ 0
never_before proxy place log log' x is never =
    let now : number_of (drops proxy place) (log ++ x ∷ []) ≡ 0 = ap (λ (l : Log). number_of (drops proxy place) l) (sym is) ∙ never in
    omega (arith, now, number-push (drops proxy place) log x)

-- the proxies of clients stay, and nothing was sent before as the log has it now
nothing_now : (old new : PoolState) (order : Order) (lanes : ℕ → ℕ → Lane) (log log' : Log) (x : Logged) → new.homes ≡ old.homes → log' ≡ log ++ x ∷ []
    → ((proxy place : ℕ) → number_of (drops proxy place) log ≡ 0 → commands_to place (take (lanes proxy place).since (of_proxy (home_of old) proxy order)) ≡ [])
    → HaveNothingBefore (home_of new) order lanes log'
nothing_now old new order lanes log log' x homes is none =
    subst (λ (hs : List ℕ). HaveNothingBefore (home_in hs) order lanes log') (sym homes) (λ proxy place never. none proxy place (never_before proxy place log log' x is never))

-- the requests stay, and when each link came up
pub nothing_as : (old new : PoolState) (order : Order) (lanes lanes' : ℕ → ℕ → Lane) (log log' : Log) (x : Logged) → new.homes ≡ old.homes → log' ≡ log ++ x ∷ []
    → ((proxy place : ℕ) → (lanes' proxy place).since ≡ (lanes proxy place).since) → HaveNothingBefore (home_of old) order lanes log
    → HaveNothingBefore (home_of new) order lanes' log'
nothing_as old new order lanes lanes' log log' x homes is since h =
    nothing_now old new order lanes' log log' x homes is
    (λ proxy place none. ap (λ (n : ℕ). commands_to place (take n (of_proxy (home_of old) proxy order))) (since proxy place) ∙ h proxy place none)

-- outcomes are noted
first_noted : (home : Homes) (proxy place n : ℕ) (tag : Tag) (outcome : Outcome) (order : Order)
    → commands_to place (take n (of_proxy home proxy (note tag outcome order))) ≡ commands_to place (take n (of_proxy home proxy order))
first_noted home proxy place n tag outcome order =
    ap (λ (es : Order). commands_to place (take n es)) (of_proxy-note home proxy tag outcome order)
    ∙ ap (λ (es : Order). commands_to place es) (take-map (note_in tag outcome) n (of_proxy home proxy order))
    ∙ commands-note place tag outcome (take n (of_proxy home proxy order))

first_all_noted : (home : Homes) (proxy place n : ℕ) (tags : List Tag) (outcome : Outcome) (order : Order)
    → commands_to place (take n (of_proxy home proxy (note_all tags outcome order))) ≡ commands_to place (take n (of_proxy home proxy order))
first_all_noted home proxy place n [] outcome order = refl
first_all_noted home proxy place n (t ∷ ts) outcome order = first_all_noted home proxy place n ts outcome (note t outcome order) ∙ first_noted home proxy place n t outcome order

pub nothing_noted : (tags : List Tag) (outcome : Outcome) (order : Order) (lanes : ℕ → ℕ → Lane) (home : Homes) (log : Log)
    → HaveNothingBefore home order lanes log → HaveNothingBefore home (note_all tags outcome order) lanes log
nothing_noted tags outcome order lanes home log h proxy place never = first_all_noted home proxy place (lanes proxy place).since tags outcome order ∙ h proxy place never

-- a request is taken: a link that was never down came up before
pub nothing_takes : (ring : RingState) (opening : CacheState) (old : CourseState) (new : PoolState) (client : ℕ) (outs : ℕ → List ℕ) (log' : Log) (h : CourseHolds ring opening old)
    → (e : TakesRequest client old.pool new) → log' ≡ old.log ++ Happened (ProxyTurn client) ∷ [] → LogHolds ring (h.order ++ asked_by e ∷ []) outs log' new
    → HaveNothingBefore (home_of new) (h.order ++ asked_by e ∷ []) h.lanes log'
nothing_takes ring opening old new client outs log' h e is logs =
    let order : Order = h.order ++ asked_by e ∷ [] in
    nothing_now old.pool new order h.lanes old.log log' (Happened (ProxyTurn client)) e.proxy.homes is
    (λ proxy place none.
    let many : length (proxy_at new proxy).links ≡ length (proxy_at old.pool proxy).links =
    logs.servers.linked proxy
    ∙ all_keep (λ (p : ProxyState). length p.ring.servers) (home_of old.pool client) e.now old.pool new e.proxy (ap (λ (r : RingState). length r.servers) e.steps.ring) proxy
    ∙ sym (h.log.servers.linked proxy) in
    ⊎_elim
    (λ (inside : place < length (proxy_at old.pool proxy).links).
    let up : (link_of old.pool proxy place).up ≡ true = sym (h.log.servers.links proxy place inside) ∙ stays_up proxy place old.log none in
    let since = (((h.pool.proxies proxy).links place).0 up).since in
    ap (λ (es : Order). commands_to place (take (h.lanes proxy place).since es)) (of_proxy-append (home_of old.pool) proxy h.order (asked_by e ∷ []))
    ∙ ap (λ (es : Order). commands_to place es)
    (take-append-le (h.lanes proxy place).since (of_proxy (home_of old.pool) proxy h.order) (of_proxy (home_of old.pool) proxy (asked_by e ∷ [])) since)
    ∙ h.nothing_before proxy place none)
    (λ (past : length (proxy_at old.pool proxy).links ≤ place).
    let within : All (IsRoutedWithin (length (proxy_at new proxy).links)) (of_proxy (home_of old.pool) proxy order) =
    subst (λ (hs : List ℕ). All (IsRoutedWithin (length (proxy_at new proxy).links)) (of_proxy (home_in hs) proxy order)) e.proxy.homes (logs.requests.inside proxy) in
    none_to place (take (h.lanes proxy place).since (of_proxy (home_of old.pool) proxy order))
    (All-take (IsRoutedWithin place) (h.lanes proxy place).since (of_proxy (home_of old.pool) proxy order)
    (within-more (length (proxy_at new proxy).links) place (of_proxy (home_of old.pool) proxy order) (omega (arith, many, past)) within)))
    (cases_lt place (length (proxy_at old.pool proxy).links)))

-- a link that can come up is not up
down_now : (link : LinkState) → can_come_back link ≡ true → link.up ≡ true → ⊥
down_now link can up = grind arith

-- a link that comes up again was down
pub nothing_back : (ring : RingState) (opening : CacheState) (old : CourseState) (new : PoolState) (proxy place : ℕ) (log' : Log) (h : CourseHolds ring opening old)
    → LinkReturns proxy place old.pool new → log' ≡ old.log ++ Happened (LinkBack proxy place) ∷ []
    → HaveNothingBefore (home_of new) h.order (relaned proxy place (fresh_lane (length (of_proxy (home_of old.pool) proxy h.order))) h.lanes) log'
nothing_back ring opening old new proxy place log' h e is =
    let lane : Lane = fresh_lane (length (of_proxy (home_of old.pool) proxy h.order)) in
    nothing_now old.pool new h.order (relaned proxy place lane h.lanes) old.log log' (Happened (LinkBack proxy place)) e.proxy.homes is
    (λ p q none. elim (relaned_or proxy place lane h.lanes p q) [
      | inl own ↦ (
          let never : number_of (drops proxy place) old.log ≡ 0 =
          ap (λ (n : ℕ). number_of (drops n place) old.log) own.0 ∙ ap (λ (n : ℕ). number_of (drops p n) old.log) own.1 ∙ none in
          absurd (down_now (link_of old.pool proxy place) e.can (sym (h.log.servers.links proxy place e.inside) ∙ stays_up proxy place old.log never)))
      | inr other ↦ ap (λ (l : Lane). commands_to q (take l.since (of_proxy (home_of old.pool) p h.order))) other ∙ h.nothing_before p q none
    ])

-- a proxy's ring has one more server: nothing was sent to it
pub nothing_joins : (old new : PoolState) (order : Order) (lanes : ℕ → ℕ → Lane) (proxy place : ℕ) (log log' : Log) (x : Logged) → new.homes ≡ old.homes → log' ≡ log ++ x ∷ []
    → All (IsRoutedWithin place) (of_proxy (home_of old) proxy order) → HaveNothingBefore (home_of old) order lanes log
    → HaveNothingBefore (home_of new) order (relaned proxy place (fresh_lane (length (of_proxy (home_of old) proxy order))) lanes) log'
nothing_joins old new order lanes proxy place log log' x homes is within h =
    let lane : Lane = fresh_lane (length (of_proxy (home_of old) proxy order)) in
    let whole : commands_to place (take (length (of_proxy (home_of old) proxy order)) (of_proxy (home_of old) proxy order)) ≡ [] =
    ap (λ (es : Order). commands_to place es) (take_all (length (of_proxy (home_of old) proxy order)) (of_proxy (home_of old) proxy order) (omega arith))
    ∙ none_to place (of_proxy (home_of old) proxy order) within in
    nothing_now old new order (relaned proxy place lane lanes) log log' x homes is
    (λ p q none. elim (relaned_or proxy place lane lanes p q) [
      | inl own ↦
          ap (λ (l : Lane). commands_to q (take l.since (of_proxy (home_of old) p order))) own.2
          ∙ ap (λ (n : ℕ). commands_to n (take lane.since (of_proxy (home_of old) p order))) (sym own.1)
          ∙ ap (λ (n : ℕ). commands_to place (take lane.since (of_proxy (home_of old) n order))) (sym own.0) ∙ whole
      | inr other ↦ ap (λ (l : Lane). commands_to q (take l.since (of_proxy (home_of old) p order))) other ∙ h p q none
    ])
