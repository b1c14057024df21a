-- A course holds after each event that is done.
use Rattle.std.proofs.Common.{◌≡◌, ◌≢◌, ◌∙◌, ⊎_elim, ℕ, ◌<◌, ◌≤◌, inl, inr, List, [], ◌∷◌, ◌++◌, length, map, take, drop, Option, Some, None, refl, sym, ap, subst, append_assoc, append-nil, arith}
use Rattle.std.specs.Prelude.{All}
use Rattle.std.proofs.lemmas.Bool.{cases_lt}
use Rattle.std.proofs.lemmas.Bool.Decides.{eqb_tells}
use Rattle.std.proofs.lemmas.List.{set-set, take-append-drop, take_all}
use Rattle.std.proofs.lemmas.List.Elements.{All-append}
use Rattle.std.proofs.lemmas.Option.{none-some}
use Rattle.mc_ring.specs.Rings.{RingState}
use Rattle.mc_cache.specs.CacheState.{CacheState}
use Rattle.mc_link.specs.LinkState.{Waiting}
use Rattle.mc_link.specs.declared.turns.Tag.{Tag}
use Rattle.mc_route.specs.declared.outcomes.Outcome.TheVariants.{Lost, Reply}
use Rattle.mc_server.specs.ServerState.{connection_at, output_of as connection_output}
use Rattle.mc_proxy.specs.Emits.{IsEmit}
use Rattle.mc_proxy.specs.SessionState.{SessionState}
use Rattle.mc_proxy.specs.SessionTurns.{IsFed, IsTurn}
use Rattle.mc_proxy.specs.declared.session_turns.Emit.TheVariants as emits
use Rattle.mc_proxy.specs.declared.session_turns.SessionTurn.TheVariants as turns
use Rattle.mc_proxy.specs.LinkTurns.{lost_at}
use Rattle.mc_proxy.specs.ProxyState.{ProxyState, Sessions, output_of, sent_by, without}
use Rattle.mc_proxy.specs.Turns.{Alone}
use Rattle.mc_account.specs.Lanes.{Lane, fresh_lane}
use Rattle.mc_account.specs.Orders.{Order, note, note_all}
use Rattle.mc_account.specs.Holds.{changed, grown}
use Rattle.mc_account.proofs.HoldsLemmas.{changed-other, changed-own}
use Rattle.mc_history.proofs.NamedLemmas.{keeps_note, keeps_note_all, keeps_push}
use Rattle.mc_world.specs.CourseHolds.{CourseHolds, HaveNothingBefore, HaveOneGeneration, LivesHold}
use Rattle.mc_world.specs.Homes.{of_proxy}
use Rattle.mc_world.specs.LogHolds.{LogHolds}
use Rattle.mc_world.specs.Logs.{Log}
use Rattle.mc_world.specs.Courses.{IsDone}
use Rattle.mc_world.specs.Pools.{ClientGoes, PoolHolds, ProxiesStay, ProxyBecomes, asked_by, relaned}
use Rattle.mc_world.specs.WorldState.{PoolState, home_of, link_of, proxy_at, proxy_of, session_of, way_by, with_proxy}
use Rattle.mc_world.specs.declared.events.Event.{Event}
use Rattle.mc_world.specs.declared.events.Event.TheVariants.{ClientBytes, ClientGone, ClientTakes, Emit, LinkBack, LinkLost, ProxyTurn, ReplyTurn, ServerSeesEnd, ServerTurn, ToProxy, ToServer}
use Rattle.mc_world.specs.declared.logs.Logged.TheVariants.{Happened}
use Rattle.mc_world.specs.Worlds.{ClientState, CourseState, client_at, put_out_of, taken_by, text_of, with_client}
use Rattle.mc_world.proofs.Course.CourseLemmas.{read_changed, with_client-length}
use Rattle.mc_world.proofs.Course.GenerationStayLemmas.{generations_stay}
use Rattle.mc_world.proofs.Course.NothingBeforeLemmas.{nothing_as, nothing_back, nothing_noted, nothing_takes, since_stays}
use Rattle.mc_world.proofs.Log.LifeLemmas.{lives_stay}
use Rattle.mc_world.proofs.Log.HoldsLemmas.{log_client_goes, log_client_takes, log_end_seen, log_hears, log_late_bytes, log_loses, log_reaches_proxy, log_reaches_server, log_returns, log_takes_reply}
use Rattle.mc_world.proofs.Log.TurnLemmas.{log_late_turn, log_puts, log_server_takes, log_takes}
use Rattle.mc_world.proofs.Course.OutputLemmas.{out_stays, out_still, sent_admitted, unsent, unsent_gone, unsent_kept, unsent_lost, unsent_noted, unsent_other, unsent_own, unsent_sent, unsent_sent_other, without_updated}
use Rattle.mc_world.proofs.PoolEvents.PoolLemmas.{pool_client_goes, pool_client_takes, pool_end_seen, pool_hears, pool_late_bytes, pool_late_turn, pool_loses, pool_puts, pool_reaches_proxy, pool_reaches_server, pool_returns, pool_server_takes, pool_takes, pool_takes_reply}
use Rattle.mc_world.proofs.PoolEvents.ProxyLemmas.{all_keep, proxy_stays, session_is_there, session_own, set_own}

-- each proxy has given numbers to clients that exist
abbrev AreNumbered : CourseState → Type 0
AreNumbered c = (proxy : ℕ) → (proxy_at c.pool proxy).admitted ≤ length c.clients

-- each proxy has given as many numbers as before
abbrev SameNumbers : PoolState → PoolState → Type 0
SameNumbers old new = (proxy : ℕ) → (proxy_at new proxy).admitted ≡ (proxy_at old proxy).admitted

one_numbers : (proxy : ℕ) (now : ProxyState) (old new : PoolState) → ProxyBecomes proxy now old new → now.admitted ≡ (proxy_at old proxy).admitted → SameNumbers old new
one_numbers proxy now old new becomes same = all_keep (λ (p : ProxyState). p.admitted) proxy now old new becomes same

pub all_numbers : (old new : PoolState) → ProxiesStay old new → SameNumbers old new
all_numbers old new stay proxy = ap (λ (p : ProxyState). p.admitted) (proxy_stays old new stay proxy)

-- a course holds by functions that are equal at each number
pub stood_as : (ring : RingState) (opening : CacheState) (order : Order) (lanes : ℕ → ℕ → Lane) (new : CourseState) (texts sent outs : ℕ → List ℕ)
    → ((n : ℕ) → texts n ≡ text_of new n) → ((n : ℕ) → sent n ≡ taken_by new n) → ((n : ℕ) → outs n ≡ put_out_of new n)
    → PoolHolds opening texts sent order lanes new.pool → LogHolds ring order outs new.log new.pool → ((proxy : ℕ) → (proxy_at new.pool proxy).admitted ≤ length new.clients)
    → HaveOneGeneration new.pool → HaveNothingBefore (home_of new.pool) order lanes new.log → LivesHold opening order new.log new.pool.sites → CourseHolds ring opening new
stood_as ring opening order lanes new texts sent outs text_is sent_is out_is pool log numbered generations nothing lives =
    let text_same : texts ≡ text_of new = λ i n. text_is n i in
    let sent_same : sent ≡ taken_by new = λ i n. sent_is n i in
    let out_same : outs ≡ put_out_of new = λ i n. out_is n i in
    record {
      order = order;
      lanes = lanes;
      pool = subst (λ (t : ℕ → List ℕ). PoolHolds opening t (taken_by new) order lanes new.pool) text_same
          (subst (λ (s : ℕ → List ℕ). PoolHolds opening texts s order lanes new.pool) sent_same pool);
      log = subst (λ (o : ℕ → List ℕ). LogHolds ring order o new.log new.pool) out_same log;
      numbered = numbered;
      generations = generations;
      nothing_before = nothing;
      lives = lives;
    }

-- the clients stay, and for each the same bytes are emitted and not taken
pub same_clients : (ring : RingState) (opening : CacheState) (order : Order) (lanes : ℕ → ℕ → Lane) (old new : CourseState)
    → new.clients ≡ old.clients → ((n : ℕ) → output_of (session_of new.pool n) ≡ output_of (session_of old.pool n))
    → ((proxy : ℕ) → (proxy_at new.pool proxy).admitted ≡ (proxy_at old.pool proxy).admitted) → ((proxy : ℕ) → (proxy_at old.pool proxy).admitted ≤ length old.clients)
    → PoolHolds opening (text_of old) (taken_by old) order lanes new.pool → LogHolds ring order (put_out_of old) new.log new.pool
    → HaveOneGeneration new.pool → HaveNothingBefore (home_of new.pool) order lanes new.log → LivesHold opening order new.log new.pool.sites → CourseHolds ring opening new
same_clients ring opening order lanes old new same outputs admitted numbered pool log generations nothing lives =
    stood_as ring opening order lanes new (text_of old) (taken_by old) (put_out_of old)
    (λ n. ap (λ (cs : List ClientState). (client_at cs n).text) (sym same))
    (λ n. ap (λ (cs : List ClientState). (client_at cs n).taken) (sym same))
    (λ n. ap (λ (cs : List ClientState). (client_at cs n).taken ++ output_of (session_of old.pool n)) (sym same)
    ∙ ap (λ (bytes : List ℕ). taken_by new n ++ bytes) (sym (outputs n)))
    pool log
    (λ proxy. let now = admitted proxy in let was = numbered proxy in let many = ap (λ (cs : List ClientState). length cs) same in omega (arith, now, was, many))
    generations nothing lives

-- a client with an open session exists
pub is_there : (ring : RingState) (opening : CacheState) (c : CourseState) (client : ℕ) (session : SessionState) → CourseHolds ring opening c
    → session_of c.pool client ≡ Some session → client < length c.clients
is_there ring opening c client session h at =
    ⊎_elim
    (λ (inside : client < length c.clients). inside)
    (λ (past : length c.clients ≤ client).
    let few = h.numbered (home_of c.pool client) in
    absurd (none-some session (sym ((h.pool.proxies (home_of c.pool client)).unused client (omega (arith, few, past))).not_open ∙ at)))
    (cases_lt client (length c.clients))

-- a function that is changed to its own value stays
changed-same : (f : ℕ → List ℕ) (k n : ℕ) → changed k (f k) f n ≡ f n
changed-same f k n = grind (arith, eqb_tells, changed-other, changed-own)

-- a client has sent more bytes
heard : (ring : RingState) (opening : CacheState) (order : Order) (lanes : ℕ → ℕ → Lane) (old new : CourseState) (client : ℕ) (bytes : List ℕ)
    → client < length old.clients
    → new.clients ≡ with_client client (record (client_at old.clients client) { text = (client_at old.clients client).text ++ bytes }) old.clients
    → ((n : ℕ) → output_of (session_of new.pool n) ≡ output_of (session_of old.pool n)) → SameNumbers old.pool new.pool → AreNumbered old
    → PoolHolds opening (grown client bytes (text_of old)) (taken_by old) order lanes new.pool → LogHolds ring order (put_out_of old) new.log new.pool
    → HaveOneGeneration new.pool → HaveNothingBefore (home_of new.pool) order lanes new.log → LivesHold opening order new.log new.pool.sites → CourseHolds ring opening new
heard ring opening order lanes old new client bytes inside is outputs admitted numbered pool log generations nothing lives =
    let taken_is : (n : ℕ) → taken_by old n ≡ taken_by new n = λ n.
    sym (ap (λ (cs : List ClientState). (client_at cs n).taken) is
    ∙ read_changed (λ (c : ClientState). c.taken) client (record (client_at old.clients client) { text = (client_at old.clients client).text ++ bytes }) old.clients inside n
    ∙ changed-same (taken_by old) client n) in
    let many : length new.clients ≡ length old.clients = ap (λ (cs : List ClientState). length cs) is
    ∙ with_client-length client (record (client_at old.clients client) { text = (client_at old.clients client).text ++ bytes }) old.clients in
    stood_as ring opening order lanes new (grown client bytes (text_of old)) (taken_by old) (put_out_of old)
    (λ n. sym (ap (λ (cs : List ClientState). (client_at cs n).text) is
    ∙ read_changed (λ (c : ClientState). c.text) client (record (client_at old.clients client) { text = (client_at old.clients client).text ++ bytes }) old.clients inside n))
    taken_is
    (λ n. ap (λ (t : List ℕ). t ++ output_of (session_of old.pool n)) (taken_is n) ∙ ap (λ (b : List ℕ). taken_by new n ++ b) (sym (outputs n)))
    pool log (λ proxy. let now = admitted proxy in let was = numbered proxy in omega (arith, now, was, many)) generations nothing lives

-- a client has taken bytes: those that were emitted to it stay
took : (ring : RingState) (opening : CacheState) (order : Order) (lanes : ℕ → ℕ → Lane) (old new : CourseState) (client : ℕ) (bytes : List ℕ)
    → client < length old.clients
    → new.clients ≡ with_client client (record (client_at old.clients client) { taken = (client_at old.clients client).taken ++ bytes }) old.clients
    → bytes ++ output_of (session_of new.pool client) ≡ output_of (session_of old.pool client)
    → ((n : ℕ) → client ≢ n → output_of (session_of new.pool n) ≡ output_of (session_of old.pool n)) → SameNumbers old.pool new.pool → AreNumbered old
    → PoolHolds opening (text_of old) (grown client bytes (taken_by old)) order lanes new.pool → LogHolds ring order (put_out_of old) new.log new.pool
    → HaveOneGeneration new.pool → HaveNothingBefore (home_of new.pool) order lanes new.log → LivesHold opening order new.log new.pool.sites → CourseHolds ring opening new
took ring opening order lanes old new client bytes inside is own others admitted numbered pool log generations nothing lives =
    let text_is : (n : ℕ) → text_of old n ≡ text_of new n = λ n.
    sym (ap (λ (cs : List ClientState). (client_at cs n).text) is
    ∙ read_changed (λ (c : ClientState). c.text) client (record (client_at old.clients client) { taken = (client_at old.clients client).taken ++ bytes }) old.clients inside n
    ∙ changed-same (text_of old) client n) in
    let taken_is : (n : ℕ) → grown client bytes (taken_by old) n ≡ taken_by new n = λ n.
    sym (ap (λ (cs : List ClientState). (client_at cs n).taken) is
    ∙ read_changed (λ (c : ClientState). c.taken) client (record (client_at old.clients client) { taken = (client_at old.clients client).taken ++ bytes }) old.clients inside n) in
    let many : length new.clients ≡ length old.clients = ap (λ (cs : List ClientState). length cs) is
    ∙ with_client-length client (record (client_at old.clients client) { taken = (client_at old.clients client).taken ++ bytes }) old.clients in
    stood_as ring opening order lanes new (text_of old) (grown client bytes (taken_by old)) (put_out_of old) text_is taken_is
    (λ n. ⊎_elim
    (λ e. subst (λ (m : ℕ). put_out_of old m ≡ put_out_of new m) e.1
    (ap (λ (b : List ℕ). taken_by old client ++ b) (sym own)
    ∙ sym (append_assoc (taken_by old client) bytes (output_of (session_of new.pool client)))
    ∙ ap (λ (t : List ℕ). t ++ output_of (session_of new.pool client)) (sym (changed-own client (taken_by old client ++ bytes) (taken_by old)) ∙ taken_is client)))
    (λ e. ap (λ (t : List ℕ). t ++ output_of (session_of old.pool n)) (sym (changed-other client n (taken_by old client ++ bytes) (taken_by old) e.1) ∙ taken_is n)
    ∙ ap (λ (b : List ℕ). taken_by new n ++ b) (sym (others n e.1)))
    (eqb_tells client n))
    pool log (λ proxy. let now = admitted proxy in let was = numbered proxy in omega (arith, now, was, many)) generations nothing lives

-- the log has the event
logged : (ring : RingState) (order : Order) (outs : ℕ → List ℕ) (pool : PoolState) (log log' : Log) → log' ≡ log → LogHolds ring order outs log pool → LogHolds ring order outs log' pool
logged ring order outs pool log log' is h = subst (λ (l : Log). LogHolds ring order outs l pool) (sym is) h

-- a pool whose client has taken all that was emitted to it
abbrev emptied : ℕ → PoolState → PoolState
emptied client pool = record pool {
  proxies = with_proxy (home_of pool client) (sent_by client (length (output_of (session_of pool client))) (session_of pool client) (proxy_of pool client)) pool.proxies;
}

left_by : (client count : ℕ) (s : Option SessionState) (p : ProxyState)
    → record (sent_by client count s p) { sessions = without client (sent_by client count s p).sessions } ≡ record p { sessions = without client p.sessions }
left_by client count None p = refl
left_by client count (Some s) p = ap (λ (ss : Sessions). record p { sessions = ss }) (without_updated client (record s { output = drop count s.output }) p.sessions)

-- a client that goes takes all that was emitted first, and then goes
gone_as : (client : ℕ) (session : SessionState) (old new : PoolState) → session_of old client ≡ Some session → ClientGoes client old new → ClientGoes client (emptied client old) new
gone_as client session old new at e =
    let home : ℕ = home_of old client in
    let count : ℕ = length (output_of (session_of old client)) in
    let after : ProxyState = sent_by client (length (output_of (session_of old client))) (session_of old client) (proxy_of old client) in
    let left : ProxyState = record (proxy_of old client) { sessions = without client (proxy_of old client).sessions } in
    let own : proxy_at (emptied client old) (home_of old client) ≡ after = set_own home after old.proxies (session_is_there client session old at) in
    record {
      proxy = record {
        proxies = e.proxy.proxies ∙ sym (ap (λ (q : ProxyState). with_proxy home (record q { sessions = without client q.sessions }) (with_proxy home after old.proxies)) own
            ∙ ap (λ (q : ProxyState). with_proxy home q (with_proxy home after old.proxies)) (left_by client count (session_of old client) (proxy_of old client))
            ∙ set-set old.proxies home after left);
        homes = e.proxy.homes;
      };
      not_open = e.not_open;
      sites = e.sites;
    }

-- each event that is done
pub course_done : (ring : RingState) (opening : CacheState) (event : Event (List ℕ)) (old new : CourseState) → CourseHolds ring opening old → IsDone event old new → CourseHolds ring opening new
course_done ring opening (ClientBytes client bytes) old new h e =
    let hears = e.pool.1 in
    let home : ℕ = home_of old.pool client in
    let inside = is_there ring opening old client hears.steps.before h hears.steps.was in
    let all : (n : ℕ) → All (λ b. b < 256) (grown client bytes (text_of old) n) = λ n. ⊎_elim
    (λ k. subst (λ (m : ℕ). All (λ b. b < 256) (grown client bytes (text_of old) m)) k.1
    (subst (λ (t : List ℕ). All (λ b. b < 256) t) (sym (changed-own client (text_of old client ++ bytes) (text_of old)))
    (All-append (λ (b : ℕ). b < 256) (text_of old client) bytes (h.pool.bytes client) e.pool.0)))
    (λ k. subst (λ (t : List ℕ). All (λ b. b < 256) t) (sym (changed-other client n (text_of old client ++ bytes) (text_of old) k.1)) (h.pool.bytes n))
    (eqb_tells client n) in
    heard ring opening h.order h.lanes old new client bytes inside e.clients
    (λ n. out_stays home hears.now old.pool new.pool hears.proxy n
    (unsent_kept client (proxy_of old.pool client) hears.now (Alone (IsFed bytes)) hears.steps (ap (λ (s : SessionState). s.output) hears.steps.step.1.all_else) n))
    (one_numbers home hears.now old.pool new.pool hears.proxy hears.steps.admitted) h.numbered
    (pool_hears opening (text_of old) (taken_by old) h.order h.lanes client bytes old.pool new.pool all hears h.pool)
    (logged ring h.order (put_out_of old) new.pool (old.log ++ Happened (ClientBytes client tt) ∷ []) new.log e.log
    (log_hears ring h.order (put_out_of old) old.log client bytes tt old.pool new.pool hears h.log))
    (generations_stay (ClientBytes client bytes) old.pool new.pool e.pool h.generations)
    (nothing_as old.pool new.pool h.order h.lanes h.lanes old.log new.log (Happened (ClientBytes client tt)) hears.proxy.homes e.log (λ p q. refl) h.nothing_before)
    (lives_stay ring opening (ClientBytes client bytes) h.order old new h (λ _ _ k. k) e)
course_done ring opening (ClientGone client) old new h e =
    let goes = e.pool.1 in
    let home : ℕ = home_of old.pool client in
    let out : List ℕ = output_of (session_of old.pool client) in
    let left : ProxyState = record (proxy_of old.pool client) { sessions = without client (proxy_of old.pool client).sessions } in
    let inside = is_there ring opening old client e.pool.0.0 h e.pool.0.1 in
    let whole : take (length out) out ≡ out = take_all (length out) out (omega arith) in
    let taken = pool_client_takes opening (text_of old) (taken_by old) h.order h.lanes client (length out) old.pool (emptied client old.pool)
    (record { proxy = record { proxies = refl; homes = refl }; sites = refl }) h.pool in
    let gone = pool_client_goes opening (text_of old) (grown client (take (length out) out) (taken_by old)) h.order h.lanes client (emptied client old.pool) new.pool
    (gone_as client e.pool.0.0 old.pool new.pool e.pool.0.1 goes) taken in
    took ring opening h.order h.lanes old new client (output_of (session_of old.pool client)) inside e.clients
    (ap (λ (o : Option SessionState). output_of (session_of old.pool client) ++ output_of o) goes.not_open ∙ append-nil (output_of (session_of old.pool client)))
    (λ n differ. out_stays home left old.pool new.pool goes.proxy n (unsent_gone client (proxy_of old.pool client).sessions n differ))
    (one_numbers home left old.pool new.pool goes.proxy refl) h.numbered
    (subst (λ (bytes : List ℕ). PoolHolds opening (text_of old) (grown client bytes (taken_by old)) h.order h.lanes new.pool) whole gone)
    (logged ring h.order (put_out_of old) new.pool (old.log ++ Happened (ClientGone client) ∷ []) new.log e.log
    (log_client_goes ring h.order (put_out_of old) old.log client old.pool new.pool goes h.log))
    (generations_stay (ClientGone client) old.pool new.pool e.pool h.generations)
    (nothing_as old.pool new.pool h.order h.lanes h.lanes old.log new.log (Happened (ClientGone client)) goes.proxy.homes e.log (λ p q. refl) h.nothing_before)
    (lives_stay ring opening (ClientGone client) h.order old new h (λ _ _ k. k) e)
course_done ring opening (ProxyTurn client) old new h e =
    let home : ℕ = home_of old.pool client in
    let logs = logged ring (h.order ++ asked_by e.pool ∷ []) (put_out_of old) new.pool (old.log ++ Happened (ProxyTurn client) ∷ []) new.log e.log
    (log_takes ring h.order (put_out_of old) old.log client old.pool new.pool e.pool h.log) in
    same_clients ring opening (h.order ++ asked_by e.pool ∷ []) h.lanes old new e.clients
    (λ n. out_stays home e.pool.now old.pool new.pool e.pool.proxy n
    (unsent_kept client (proxy_of old.pool client) e.pool.now (IsTurn client turns.Took (proxy_of old.pool client).ring (proxy_of old.pool client).losses) e.pool.steps
    e.pool.steps.step.1.output n))
    (one_numbers home e.pool.now old.pool new.pool e.pool.proxy e.pool.steps.admitted) h.numbered
    (pool_takes opening (text_of old) (taken_by old) h.order h.lanes client old.pool new.pool e.pool h.pool)
    logs (generations_stay (ProxyTurn client) old.pool new.pool e.pool h.generations)
    (nothing_takes ring opening old new.pool client (put_out_of old) new.log h e.pool e.log logs)
    (lives_stay ring opening (ProxyTurn client) (h.order ++ asked_by e.pool ∷ []) old new h (keeps_push h.order (asked_by e.pool)) e)
course_done ring opening (ToServer proxy server generation count) old new h e = elim e.pool [
  | inl here ↦ (
      let lane : Lane = record (h.lanes proxy server) { out = (h.lanes proxy server).out ++ take count (link_of old.pool proxy server).output } in
      same_clients ring opening h.order (relaned proxy server lane h.lanes) old new e.clients
      (λ n. out_stays proxy _ old.pool new.pool here.0.proxy n refl) (one_numbers proxy _ old.pool new.pool here.0.proxy refl) h.numbered
      (pool_reaches_server opening (text_of old) (taken_by old) h.order h.lanes proxy server count old.pool new.pool here.0 h.pool)
      (logged ring h.order (put_out_of old) new.pool (old.log ++ Happened (ToServer proxy server generation count) ∷ []) new.log e.log
      (log_reaches_server ring h.order (put_out_of old) old.log proxy server generation count count old.pool new.pool here.0 h.log))
      (generations_stay (ToServer proxy server generation count) old.pool new.pool e.pool h.generations)
      (nothing_as old.pool new.pool h.order h.lanes (relaned proxy server lane h.lanes) old.log new.log (Happened (ToServer proxy server generation count)) here.0.proxy.homes e.log
      (since_stays proxy server lane h.lanes refl) h.nothing_before)
      (lives_stay ring opening (ToServer proxy server generation count) h.order old new h (λ _ _ k. k) e))
  | inr late ↦
      same_clients ring opening h.order h.lanes old new e.clients
      (out_still old.pool new.pool late.1.there.proxies) (all_numbers old.pool new.pool late.1.there.proxies) h.numbered
      (pool_late_bytes opening (text_of old) (taken_by old) h.order h.lanes server late.0 count old.pool new.pool late.1 h.pool)
      (logged ring h.order (put_out_of old) new.pool (old.log ++ Happened (ToServer proxy server generation count) ∷ []) new.log e.log
      (log_late_bytes ring h.order (put_out_of old) old.log proxy server generation count late.0 count old.pool new.pool late.1 h.log))
      (generations_stay (ToServer proxy server generation count) old.pool new.pool e.pool h.generations)
      (nothing_as old.pool new.pool h.order h.lanes h.lanes old.log new.log (Happened (ToServer proxy server generation count)) late.1.there.proxies.homes e.log (λ p q. refl) h.nothing_before)
      (lives_stay ring opening (ToServer proxy server generation count) h.order old new h (λ _ _ k. k) e)
]
course_done ring opening (ServerTurn proxy server generation moment) old new h e = elim e.pool.1 [
  | inl here ↦
      same_clients ring opening h.order h.lanes old new e.clients
      (out_still old.pool new.pool here.0.proxies) (all_numbers old.pool new.pool here.0.proxies) h.numbered
      (pool_server_takes opening (text_of old) (taken_by old) h.order h.lanes proxy server moment old.pool new.pool here.0 e.pool.0 h.pool)
      (logged ring h.order (put_out_of old) new.pool (old.log ++ Happened (ServerTurn proxy server generation moment) ∷ []) new.log e.log
      (log_server_takes ring opening (text_of old) (taken_by old) h.order h.lanes (put_out_of old) old.log proxy server generation moment old.pool new.pool here.0 h.pool h.log))
      (generations_stay (ServerTurn proxy server generation moment) old.pool new.pool e.pool h.generations)
      (nothing_as old.pool new.pool h.order h.lanes h.lanes old.log new.log (Happened (ServerTurn proxy server generation moment)) here.0.proxies.homes e.log (λ p q. refl) h.nothing_before)
      (lives_stay ring opening (ServerTurn proxy server generation moment) h.order old new h (λ _ _ k. k) e)
  | inr late ↦
      same_clients ring opening h.order h.lanes old new e.clients
      (out_still old.pool new.pool late.1.there.proxies) (all_numbers old.pool new.pool late.1.there.proxies) h.numbered
      (pool_late_turn opening (text_of old) (taken_by old) h.order h.lanes server late.0 moment old.pool new.pool late.1 e.pool.0 h.pool)
      (logged ring h.order (put_out_of old) new.pool (old.log ++ Happened (ServerTurn proxy server generation moment) ∷ []) new.log e.log
      (log_late_turn ring h.order (put_out_of old) old.log proxy server generation late.0 moment old.pool new.pool late.1 h.log))
      (generations_stay (ServerTurn proxy server generation moment) old.pool new.pool e.pool h.generations)
      (nothing_as old.pool new.pool h.order h.lanes h.lanes old.log new.log (Happened (ServerTurn proxy server generation moment)) late.1.there.proxies.homes e.log (λ p q. refl)
      h.nothing_before)
      (lives_stay ring opening (ServerTurn proxy server generation moment) h.order old new h (λ _ _ k. k) e)
]
course_done ring opening (ToProxy proxy server count) old new h e =
    let lane : Lane = record (h.lanes proxy server) {
      came = (h.lanes proxy server).came ++ take count (connection_output (connection_at e.pool.there.site.server (way_by e.pool.there.site proxy).connection));
    } in
    same_clients ring opening h.order (relaned proxy server lane h.lanes) old new e.clients
    (λ n. out_stays proxy _ old.pool new.pool e.pool.proxy n refl) (one_numbers proxy _ old.pool new.pool e.pool.proxy refl) h.numbered
    (pool_reaches_proxy opening (text_of old) (taken_by old) h.order h.lanes proxy server count old.pool new.pool e.pool h.pool)
    (logged ring h.order (put_out_of old) new.pool (old.log ++ Happened (ToProxy proxy server count) ∷ []) new.log e.log
    (log_reaches_proxy ring h.order (put_out_of old) old.log proxy server count count old.pool new.pool e.pool h.log))
    (generations_stay (ToProxy proxy server count) old.pool new.pool e.pool h.generations)
    (nothing_as old.pool new.pool h.order h.lanes (relaned proxy server lane h.lanes) old.log new.log (Happened (ToProxy proxy server count)) e.pool.proxy.homes e.log
    (since_stays proxy server lane h.lanes refl) h.nothing_before)
    (lives_stay ring opening (ToProxy proxy server count) h.order old new h (λ _ _ k. k) e)
course_done ring opening (ReplyTurn proxy server) old new h e =
    let answers = e.pool.answers in
    let lane : Lane = record (h.lanes proxy server) { replies = (h.lanes proxy server).replies ++ e.pool.answers.reply ∷ [] } in
    same_clients ring opening (note answers.tag (Reply answers.reply) h.order) (relaned proxy server lane h.lanes) old new e.clients
    (λ n. out_stays proxy e.pool.now old.pool new.pool e.pool.proxy n
    (ap (λ (ss : Sessions). unsent ss n) answers.sessions ∙ unsent_noted answers.tag (Reply answers.reply) (proxy_at old.pool proxy).sessions n))
    (one_numbers proxy e.pool.now old.pool new.pool e.pool.proxy answers.admitted) h.numbered
    (pool_takes_reply opening (text_of old) (taken_by old) h.order h.lanes proxy server old.pool new.pool e.pool h.pool)
    (logged ring (note answers.tag (Reply answers.reply) h.order) (put_out_of old) new.pool (old.log ++ Happened (ReplyTurn proxy server) ∷ []) new.log e.log
    (log_takes_reply ring opening (text_of old) (taken_by old) h.order h.lanes (put_out_of old) old.log proxy server old.pool new.pool e.pool h.pool h.log))
    (generations_stay (ReplyTurn proxy server) old.pool new.pool e.pool h.generations)
    (nothing_as old.pool new.pool (note answers.tag (Reply answers.reply) h.order) h.lanes (relaned proxy server lane h.lanes) old.log new.log (Happened (ReplyTurn proxy server))
    e.pool.proxy.homes e.log (since_stays proxy server lane h.lanes refl)
    (nothing_noted (answers.tag ∷ []) (Reply answers.reply) h.order h.lanes (home_of old.pool) old.log h.nothing_before))
    (lives_stay ring opening (ReplyTurn proxy server) (note answers.tag (Reply answers.reply) h.order) old new h (keeps_note answers.tag (Reply answers.reply) h.order) e)
course_done ring opening (Emit client) old new h e =
    let home : ℕ = home_of old.pool client in
    let holds = pool_puts opening (text_of old) (taken_by old) h.order h.lanes client old.pool new.pool e.pool h.pool in
    let numbers = one_numbers home e.pool.now old.pool new.pool e.pool.proxy e.pool.steps.admitted in
    stood_as ring opening h.order h.lanes new (text_of old) (taken_by old) (put_out_of new)
    (λ n. ap (λ (cs : List ClientState). (client_at cs n).text) (sym e.clients))
    (λ n. ap (λ (cs : List ClientState). (client_at cs n).taken) (sym e.clients))
    (λ n. refl) holds
    (logged ring h.order (put_out_of new) new.pool (old.log ++ Happened (Emit client) ∷ []) new.log e.log
    (log_puts ring opening (text_of old) (taken_by old) h.order h.lanes (put_out_of old) (put_out_of new) old.log client old.pool new.pool e.pool h.pool holds
    (λ other differ. ap (λ (cs : List ClientState). (client_at cs other).taken ++ output_of (session_of new.pool other)) e.clients
    ∙ ap (λ (bytes : List ℕ). taken_by old other ++ bytes) (out_stays home e.pool.now old.pool new.pool e.pool.proxy other
    (unsent_other client (proxy_of old.pool client) e.pool.now (Alone (IsEmit emits.Done)) e.pool.steps other differ)))
    (ap (λ (cs : List ClientState). (client_at cs client).taken ++ output_of (session_of new.pool client)) e.clients
    ∙ ap (λ (o : Option SessionState). taken_by old client ++ output_of o)
    (session_own client e.pool.now old.pool new.pool e.pool.proxy (session_is_there client e.pool.steps.before old.pool e.pool.steps.was)
    ∙ unsent_own client (proxy_of old.pool client) e.pool.now (Alone (IsEmit emits.Done)) e.pool.steps))
    h.log))
    (λ proxy. let now = numbers proxy in let was = h.numbered proxy in let many = ap (λ (cs : List ClientState). length cs) e.clients in omega (arith, now, was, many))
    (generations_stay (Emit client) old.pool new.pool e.pool h.generations)
    (nothing_as old.pool new.pool h.order h.lanes h.lanes old.log new.log (Happened (Emit client)) e.pool.proxy.homes e.log (λ p q. refl) h.nothing_before)
    (lives_stay ring opening (Emit client) h.order old new h (λ _ _ k. k) e)
course_done ring opening (ClientTakes client count) old new h e =
    let takes = e.pool.1 in
    let home : ℕ = home_of old.pool client in
    let after : ProxyState = sent_by client count (session_of old.pool client) (proxy_of old.pool client) in
    let inside = is_there ring opening old client e.pool.0.0 h e.pool.0.1 in
    took ring opening h.order h.lanes old new client (take count (output_of (session_of old.pool client))) inside e.clients
    (ap (λ (o : Option SessionState). take count (output_of (session_of old.pool client)) ++ output_of o)
    (session_own client after old.pool new.pool takes.proxy (session_is_there client e.pool.0.0 old.pool e.pool.0.1))
    ∙ ap (λ (bytes : List ℕ). take count (output_of (session_of old.pool client)) ++ bytes) (unsent_sent client count (proxy_of old.pool client))
    ∙ take-append-drop count (output_of (session_of old.pool client)))
    (λ n differ. out_stays home after old.pool new.pool takes.proxy n (unsent_sent_other client count (proxy_of old.pool client) n differ))
    (one_numbers home after old.pool new.pool takes.proxy (sent_admitted client count (proxy_of old.pool client))) h.numbered
    (pool_client_takes opening (text_of old) (taken_by old) h.order h.lanes client count old.pool new.pool takes h.pool)
    (logged ring h.order (put_out_of old) new.pool (old.log ++ Happened (ClientTakes client count) ∷ []) new.log e.log
    (log_client_takes ring h.order (put_out_of old) old.log client count count old.pool new.pool takes h.log))
    (generations_stay (ClientTakes client count) old.pool new.pool e.pool h.generations)
    (nothing_as old.pool new.pool h.order h.lanes h.lanes old.log new.log (Happened (ClientTakes client count)) takes.proxy.homes e.log (λ p q. refl) h.nothing_before)
    (lives_stay ring opening (ClientTakes client count) h.order old new h (λ _ _ k. k) e)
course_done ring opening (LinkLost proxy server) old new h e =
    let tags : List Tag = map (λ (w : Waiting). w.1) (link_of old.pool proxy server).waiting in
    let after : ProxyState = lost_at server (proxy_at old.pool proxy) in
    same_clients ring opening (note_all tags Lost h.order) h.lanes old new e.clients
    (λ n. out_stays proxy after old.pool new.pool e.pool.proxy n (unsent_lost (link_of old.pool proxy server).waiting (proxy_at old.pool proxy).sessions n))
    (one_numbers proxy after old.pool new.pool e.pool.proxy refl) h.numbered
    (pool_loses opening (text_of old) (taken_by old) h.order h.lanes proxy server old.pool new.pool e.pool h.pool)
    (logged ring (note_all tags Lost h.order) (put_out_of old) new.pool (old.log ++ Happened (LinkLost proxy server) ∷ []) new.log e.log
    (log_loses ring opening (text_of old) (taken_by old) h.order h.lanes (put_out_of old) old.log proxy server old.pool new.pool e.pool h.pool h.log))
    (generations_stay (LinkLost proxy server) old.pool new.pool e.pool h.generations)
    (nothing_as old.pool new.pool (note_all tags Lost h.order) h.lanes h.lanes old.log new.log (Happened (LinkLost proxy server)) e.pool.proxy.homes e.log (λ p q. refl)
    (nothing_noted tags Lost h.order h.lanes (home_of old.pool) old.log h.nothing_before))
    (lives_stay ring opening (LinkLost proxy server) (note_all tags Lost h.order) old new h (keeps_note_all tags Lost h.order) e)
course_done ring opening (LinkBack proxy server) old new h e =
    let lane : Lane = fresh_lane (length (of_proxy (home_of old.pool) proxy h.order)) in
    same_clients ring opening h.order (relaned proxy server lane h.lanes) old new e.clients
    (λ n. out_stays proxy _ old.pool new.pool e.pool.proxy n refl) (one_numbers proxy _ old.pool new.pool e.pool.proxy refl) h.numbered
    (pool_returns opening (text_of old) (taken_by old) h.order h.lanes proxy server old.pool new.pool e.pool h.pool)
    (logged ring h.order (put_out_of old) new.pool (old.log ++ Happened (LinkBack proxy server) ∷ []) new.log e.log
    (log_returns ring h.order (put_out_of old) old.log proxy server old.pool new.pool e.pool h.log))
    (generations_stay (LinkBack proxy server) old.pool new.pool e.pool h.generations)
    (nothing_back ring opening old new.pool proxy server new.log h e.pool e.log)
    (lives_stay ring opening (LinkBack proxy server) h.order old new h (λ _ _ k. k) e)
course_done ring opening (ServerSeesEnd proxy server generation) old new h e =
    let ends = e.pool.1 in
    same_clients ring opening h.order h.lanes old new e.clients
    (out_still old.pool new.pool ends.there.proxies) (all_numbers old.pool new.pool ends.there.proxies) h.numbered
    (pool_end_seen opening (text_of old) (taken_by old) h.order h.lanes server e.pool.0 old.pool new.pool ends h.pool)
    (logged ring h.order (put_out_of old) new.pool (old.log ++ Happened (ServerSeesEnd proxy server generation) ∷ []) new.log e.log
    (log_end_seen ring h.order (put_out_of old) old.log proxy server generation e.pool.0 old.pool new.pool ends h.log))
    (generations_stay (ServerSeesEnd proxy server generation) old.pool new.pool e.pool h.generations)
    (nothing_as old.pool new.pool h.order h.lanes h.lanes old.log new.log (Happened (ServerSeesEnd proxy server generation)) ends.there.proxies.homes e.log (λ p q. refl) h.nothing_before)
    (lives_stay ring opening (ServerSeesEnd proxy server generation) h.order old new h (λ _ _ k. k) e)
