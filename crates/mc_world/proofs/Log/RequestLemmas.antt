-- The requests that were taken and the answers that were emitted after an event that is logged.
use Rattle.std.proofs.Common.{◌≡◌, ◌≢◌, ◌∙◌, ⊎_elim, ℕ, ◌<◌, ◌≤◌, inl, inr, true, false, List, [], ◌∷◌, ◌++◌, length, map, take, Some, refl, sym, ap, subst, append-nil, arith}
use Rattle.std.specs.Prelude.{All}
use Rattle.std.specs.List.{list_all}
use Rattle.std.proofs.lemmas.Bool.{cases_lt}
use Rattle.std.proofs.lemmas.Bool.Decides.{eqb_tells}
use Rattle.std.proofs.lemmas.List.{map-append}
use Rattle.std.proofs.lemmas.List.Elements.{All-push}
use Rattle.std.proofs.lemmas.Option.{same_Some}
use Rattle.mc_ring.specs.Rings.{RingState}
use Rattle.mc_proxy.specs.SessionState.{SessionState, answered}
use Rattle.mc_proxy.specs.ProxyState.{ProxyState, session_at, updated}
use Rattle.mc_cache.specs.CacheState.{CacheState}
use Rattle.mc_account.specs.Answered.{AreAnswers}
use Rattle.mc_account.specs.Lanes.{Lane}
use Rattle.mc_account.specs.Lookups.{IsRoutedWithin, asked_at}
use Rattle.mc_account.specs.Orders.{Order, TakenRequest, answers_of, entries_of, is_complete}
use Rattle.mc_account.proofs.AnsweredLemmas.{open_answered}
use Rattle.mc_account.proofs.CountLemmas.{answered-emitted, steps_other, steps_own}
use Rattle.mc_account.proofs.WithinLemmas.{within-more}
use Rattle.mc_world.specs.Homes.{Homes, home_in, of_proxy, own_of}
use Rattle.mc_world.specs.LogHolds.{AnswersHold, RequestsHold}
use Rattle.mc_world.specs.Logs.{IsRingAfter, Log, before, number_of, puts, takes, turn_of, turns_of}
use Rattle.mc_world.specs.Pools.{PoolHolds, ProxyBecomes, PutsAnswer}
use Rattle.mc_world.specs.WorldState.{PoolState, home_of, proxy_at, proxy_of, session_of}
use Rattle.mc_world.specs.declared.logs.Logged.{Logged}
use Rattle.mc_world.proofs.Homes.OrderLemmas.{entries_own, of_proxy_push_other, of_proxy_push_own}
use Rattle.mc_world.proofs.Homes.OwnLemmas.{own_bytes}
use Rattle.mc_world.proofs.PoolEvents.ProxyLemmas.{session_is_there, session_own}
use Rattle.mc_world.proofs.Log.EntryLemmas.{asked_pushed, got_inside}
use Rattle.mc_world.proofs.Log.LogLemmas.{before-last, before-stays, number-none, number-one}
use Rattle.mc_world.proofs.Log.OrderLemmas.{turns-none, turns-push, turns-taken}
use Rattle.mc_world.proofs.Log.OutcomeLemmas.{Goes}
use Rattle.mc_world.proofs.Log.ServerLemmas.{AreAlike, becomes}

-- the ring of a request that was taken is that of its moment
ring_stays : (opening : RingState) (order : Order) (log : Log) (e : Logged) (old : PoolState) (client request : ℕ) (d : TakenRequest) → RequestsHold opening order log old
    → asked_at order client request ≡ Some d → IsRingAfter (home_of old client) opening (before (takes client) request (log ++ e ∷ [])) d.ring
ring_stays opening order log e old client request d h at =
    let early : request < number_of (takes client) log = omega (arith, got_inside (entries_of client order) request d at, turns-taken order log h.turns client) in
    subst (λ (l : Log). IsRingAfter (home_of old client) opening l d.ring) (sym (before-stays (takes client) request log e early)) (h.rings client request d at)

-- the proxy of a client stays
ring_home : (opening : RingState) (log : Log) (ring : RingState) (old new : PoolState) (client : ℕ) → new.homes ≡ old.homes → IsRingAfter (home_of old client) opening log ring
    → IsRingAfter (home_of new client) opening log ring
ring_home opening log ring old new client homes h = subst (λ (hs : List ℕ). IsRingAfter (home_in hs client) opening log ring) (sym homes) h

-- no request is taken
pub requests_go : (opening : RingState) (order order' : Order) (log : Log) (e : Logged) (old new : PoolState) → new.homes ≡ old.homes
    → ((proxy : ℕ) → length (proxy_at old proxy).links ≤ length (proxy_at new proxy).links) → turn_of e ≡ [] → Goes order order'
    → RequestsHold opening order log old → RequestsHold opening order' (log ++ e ∷ []) new
requests_go opening order order' log e old new homes more none goes h = record {
  turns = goes.sessions ∙ h.turns ∙ sym (turns-none log e none);
  rings = λ client request d at.
      let was = goes.rings client request d at in
      ring_home opening (before (takes client) request (log ++ e ∷ [])) d.ring old new client homes
      (subst (λ (r : RingState). IsRingAfter (home_of old client) opening (before (takes client) request (log ++ e ∷ [])) r) (sym was.2)
      (ring_stays opening order log e old client request was.0 h was.1));
  inside = λ proxy.
      within-more (length (proxy_at old proxy).links) (length (proxy_at new proxy).links) (of_proxy (home_of new) proxy order') (more proxy)
      (goes.inside (home_of new) proxy (length (proxy_at old proxy).links)
      (subst (λ (hs : List ℕ). All (IsRoutedWithin (length (proxy_at old proxy).links)) (of_proxy (home_in hs) proxy order)) (sym homes) (h.inside proxy)));
}

-- a request is taken, by the proxy of its client
pub requests_take : (opening : RingState) (order : Order) (asked : TakenRequest) (log : Log) (e : Logged) (old new : PoolState) → AreAlike old new
    → takes asked.session e ≡ true → turn_of e ≡ asked.session ∷ [] → IsRingAfter (home_of old asked.session) opening log asked.ring
    → IsRoutedWithin (length (proxy_of old asked.session).links) asked
    → RequestsHold opening order log old → RequestsHold opening (order ++ asked ∷ []) (log ++ e ∷ []) new
requests_take opening order asked log e old new alike own turn ring routed h = record {
  turns = map-append (λ (x : TakenRequest). x.session) order (asked ∷ []) ∙ ap (λ (cs : List ℕ). cs ++ asked.session ∷ []) h.turns
      ∙ ap (λ (cs : List ℕ). turns_of log ++ cs) (sym turn) ∙ sym (turns-push log e);
  rings = λ client request d at. ring_home opening (before (takes client) request (log ++ e ∷ [])) d.ring old new client alike.homes (elim (asked_pushed order asked client request d at) [
    | inl k ↦ ring_stays opening order log e old client request d h k
    | inr k ↦ (
        let last : before (takes client) request (log ++ e ∷ []) ≡ log =
        ap (λ (n : ℕ). before (takes client) n (log ++ e ∷ [])) (k.1 ∙ turns-taken order log h.turns client)
        ∙ before-last (takes client) log e (subst (λ (n : ℕ). takes n e ≡ true) k.0 own) in
        subst (λ (r : RingState). IsRingAfter (home_of old client) opening (before (takes client) request (log ++ e ∷ [])) r) (ap (λ (x : TakenRequest). x.ring) (sym k.2))
        (subst (λ (l : Log). IsRingAfter (home_of old client) opening l asked.ring) (sym last)
        (subst (λ (n : ℕ). IsRingAfter (home_of old n) opening log asked.ring) k.0 ring)))
  ]);
  inside = λ proxy.
      subst (λ (n : ℕ). All (IsRoutedWithin n) (of_proxy (home_of new) proxy (order ++ asked ∷ []))) (sym (alike.links proxy))
      (subst (λ (hs : List ℕ). All (IsRoutedWithin (length (proxy_at old proxy).links)) (of_proxy (home_in hs) proxy (order ++ asked ∷ []))) (sym alike.homes)
      (⊎_elim
      (λ mine. subst (λ (es : Order). All (IsRoutedWithin (length (proxy_at old proxy).links)) es) (sym (of_proxy_push_own (home_of old) proxy order asked mine.1))
      (All-push (IsRoutedWithin (length (proxy_at old proxy).links)) (of_proxy (home_of old) proxy order) asked (h.inside proxy)
      (subst (λ (p : ℕ). IsRoutedWithin (length (proxy_at old p).links) asked) mine.1 routed)))
      (λ other. subst (λ (es : Order). All (IsRoutedWithin (length (proxy_at old proxy).links)) es) (sym (of_proxy_push_other (home_of old) proxy order asked other.1)) (h.inside proxy))
      (eqb_tells (home_of old asked.session) proxy)));
}

-- an open session that was open, with as many answers
abbrev pub WasOpen : PoolState → PoolState → Type 0
WasOpen old new =
    (client : ℕ) (session : SessionState) → session_of new client ≡ Some session → (first : SessionState) × (session_of old client ≡ Some first) × (answered session ≡ answered first)

-- a request that was taken before it was answered
after_stays : (client request : ℕ) (log : Log) (e : Logged) → request < number_of (puts client) log → request < number_of (takes client) (before (puts client) request log)
    → request < number_of (takes client) (before (puts client) request (log ++ e ∷ []))
after_stays client request log e early h = subst (λ (l : Log). request < number_of (takes client) l) (sym (before-stays (puts client) request log e early)) h

-- no answer is emitted
pub answers_go : (order order' : Order) (outs : ℕ → List ℕ) (log : Log) (e : Logged) (old new : PoolState) → ((client : ℕ) → puts client e ≡ false)
    → ((client count : ℕ) (out : List ℕ) → AreAnswers client order count out [] → AreAnswers client order' count out []) → WasOpen old new
    → AnswersHold order outs log old → AnswersHold order' outs (log ++ e ∷ []) new
answers_go order order' outs log e old new none kept open_ones h = record {
  put = λ client.
      subst (λ (n : ℕ). AreAnswers client order' n (outs client) []) (sym (number-none (puts client) log e (none client)))
      (kept client (number_of (puts client) log) (outs client) (h.put client));
  unanswered = λ client session at.
      let first = open_ones client session at in
      first.2 ∙ h.unanswered client first.0 first.1 ∙ sym (number-none (puts client) log e (none client));
  after = λ client request early.
      let same = number-none (puts client) log e (none client) in
      after_stays client request log e (omega (arith, early, same)) (h.after client request (omega (arith, early, same)));
}

-- the last request that was answered
after_last : (client : ℕ) (log : Log) (e : Logged) (request : ℕ) → puts client e ≡ true → request < number_of (puts client) (log ++ e ∷ []) → number_of (puts client) log ≤ request
    → number_of (puts client) log < number_of (takes client) log → request < number_of (takes client) (before (puts client) request (log ++ e ∷ []))
after_last client log e request own early last few =
    let one = number-one (puts client) log e own in
    let same : request ≡ number_of (puts client) log = omega (arith, one, early, last) in
    let place : before (puts client) request (log ++ e ∷ []) ≡ log = ap (λ (n : ℕ). before (puts client) n (log ++ e ∷ [])) same ∙ before-last (puts client) log e own in
    subst (λ (l : Log). request < number_of (takes client) l) (sym place) (omega (arith, same, few))

-- the answers of the session of a client, by the order of all proxies
answers_whole : (home : Homes) (proxy client : ℕ) (order : Order) (count : ℕ) (sent unsent : List ℕ) → home client ≡ proxy → AreAnswers client (of_proxy home proxy order) count sent unsent
    → AreAnswers client order count sent unsent
answers_whole home proxy client order count sent unsent own h =
    let same = entries_own home proxy client order own in
    record {
      within = subst (λ (es : Order). count ≤ length es) same h.within;
      complete = subst (λ (es : Order). list_all is_complete (take count es) ≡ true) same h.complete;
      answers = subst (λ (es : Order). sent ++ unsent ≡ answers_of (take count es)) same h.answers;
    }

-- the sessions of others
others_stay : (client : ℕ) (now : ProxyState) (after : SessionState) (old new : PoolState) → ProxyBecomes (home_of old client) now old new
    → now.sessions ≡ updated client after (proxy_of old client).sessions → (other : ℕ) → client ≢ other → session_of new other ≡ session_of old other
others_stay client now after old new becomes_so is other differ =
    ap (λ (hs : List ℕ). session_at (proxy_at new (home_in hs other)) other) becomes_so.homes
    ∙ becomes (λ (p : ProxyState). session_at p other ≡ session_of old other) (home_of old client) now old new becomes_so (home_of old other)
    (λ same. steps_other client other (proxy_of old client) now after is differ ∙ ap (λ (p : ℕ). session_at (proxy_at old p) other) same)
    refl

-- an answer is emitted
pub answers_put : (opening : CacheState) (texts sent : ℕ → List ℕ) (order : Order) (lanes : ℕ → ℕ → Lane) (client : ℕ) (outs outs' : ℕ → List ℕ) (log : Log) (e : Logged) (old new : PoolState)
    → puts client e ≡ true → ((other : ℕ) → client ≢ other → puts other e ≡ false) → PoolHolds opening texts sent order lanes old → PoolHolds opening texts sent order lanes new
    → (put : PutsAnswer client old new) → ((other : ℕ) → client ≢ other → outs' other ≡ outs other) → outs' client ≡ sent client ++ put.steps.after.output
    → map (λ (x : TakenRequest). x.session) order ≡ turns_of log → AnswersHold order outs log old → AnswersHold order outs' (log ++ e ∷ []) new
answers_put opening texts sent order lanes client outs outs' log e old new own none was is put others out turns h =
    let home : ℕ = home_of old client in
    let steps = put.steps in
    let now_at : session_of new client ≡ Some steps.after =
    session_own client put.now old new put.proxy (session_is_there client steps.before old steps.was)
    ∙ steps_own client (proxy_of old client) put.now steps.before steps.after steps.was steps.is in
    let one = number-one (puts client) log e own in
    let count : answered steps.after ≡ number_of (puts client) (log ++ e ∷ []) =
    omega (
      arith,
      one,
      answered-emitted (own_of (home_of old) home texts) (own_of (home_of old) home sent) (of_proxy (home_of old) home order) (lanes home) client (proxy_of old client) put.now
          (was.proxies home) steps,
      h.unanswered client steps.before steps.was,
    ) in
    let whose : own_of (home_of new) (home_of new client) sent client ≡ sent client = own_bytes (home_of new) (home_of new client) sent client refl in
    let all : AreAnswers client order (answered steps.after) (sent client) steps.after.output =
    answers_whole (home_of new) (home_of new client) client order (answered steps.after) (sent client) steps.after.output refl
    (subst (λ (bytes : List ℕ). AreAnswers client (of_proxy (home_of new) (home_of new client) order) (answered steps.after) bytes steps.after.output) whose
    (open_answered (own_of (home_of new) (home_of new client) texts) (own_of (home_of new) (home_of new client) sent) (of_proxy (home_of new) (home_of new client) order) (lanes (home_of new client))
    (proxy_of new client) (is.proxies (home_of new client)) client steps.after now_at)) in
    let mine : AreAnswers client order (answered steps.after) (outs' client) [] = record {
      within = all.within;
      complete = all.complete;
      answers = append-nil (outs' client) ∙ out ∙ all.answers;
    } in
    record {
      put = λ n. ⊎_elim
          (λ same. subst (λ (m : ℕ). AreAnswers m order (number_of (puts m) (log ++ e ∷ [])) (outs' m) []) same.1
          (subst (λ (c : ℕ). AreAnswers client order c (outs' client) []) count mine))
          (λ differ. subst (λ (c : ℕ). AreAnswers n order c (outs' n) []) (sym (number-none (puts n) log e (none n differ.1)))
          (subst (λ (bytes : List ℕ). AreAnswers n order (number_of (puts n) log) bytes []) (sym (others n differ.1)) (h.put n)))
          (eqb_tells client n);
      unanswered = λ n session at. ⊎_elim
          (λ same. let whole : session_of new client ≡ Some session = ap (λ (m : ℕ). session_of new m) same.1 ∙ at in
          let after_is : steps.after ≡ session = same_Some steps.after session (sym now_at ∙ whole) in
          ap (λ (s : SessionState). answered s) (sym after_is) ∙ count ∙ ap (λ (m : ℕ). number_of (puts m) (log ++ e ∷ [])) same.1)
          (λ differ. let whole : session_of old n ≡ Some session = sym (others_stay client put.now steps.after old new put.proxy steps.is n differ.1) ∙ at in
          h.unanswered n session whole ∙ sym (number-none (puts n) log e (none n differ.1)))
          (eqb_tells client n);
      after = λ n request early. ⊎_elim
          (λ old_one. after_stays n request log e old_one (h.after n request old_one))
          (λ last. ⊎_elim
          (λ same. after_last n log e request (subst (λ (m : ℕ). puts m e ≡ true) same.1 own) early last
          (let few : number_of (puts client) log < number_of (takes client) log = omega (arith, one, count, all.within, turns-taken order log turns client) in
          subst (λ (m : ℕ). number_of (puts m) log < number_of (takes m) log) same.1 few))
          (λ differ. let as_many = number-none (puts n) log e (none n differ.1) in absurd (omega (arith, early, last, as_many)))
          (eqb_tells client n))
          (cases_lt request (number_of (puts n) log));
    }
