-- A course holds after a server has restarted.
use Rattle.std.proofs.Common.{◌≡◌, ◌≢◌, ◌∙◌, ⊎_elim, ℕ, zero, suc, ◌<◌, ◌≤◌, inl, inr, true, List, [], ◌∷◌, ◌++◌, length, take, drop, Some, slice_get, refl, sym, ap, ap₂, subst, append-nil, arith}
use Rattle.std.proofs.lemmas.Bool.{cases_lt}
use Rattle.std.proofs.lemmas.Bool.Decides.{eqb_tells}
use Rattle.std.proofs.lemmas.List.{length-map, length-set, take_all}
use Rattle.std.proofs.lemmas.Option.{none-some}
use Rattle.mc_ring.specs.Rings.{IsRing, RingState}
use Rattle.mc_cache.specs.CacheState.{CacheState}
use Rattle.mc_cache_laws.specs.GoodCaches.{IsGoodCache}
use Rattle.mc_proxy.specs.SessionState.{link_at}
use Rattle.mc_proxy.specs.ProxyState.{ProxyState}
use Rattle.mc_account.specs.Orders.{Order}
use Rattle.mc_account.proofs.OpenSessions.{other_number, own_number}
use Rattle.mc_history.specs.Histories.{IsLegal}
use Rattle.mc_history.specs.declared.entries.Entry.{Entry}
use Rattle.mc_world.specs.declared.events.Event.TheVariants.{LinkLost}
use Rattle.mc_world.specs.CourseHolds.{CourseHolds, LivesHold}
use Rattle.mc_world.specs.LogHolds.{LogHolds, ServersHold}
use Rattle.mc_world.specs.Logs.{IsRingAfter, Log, in_life, is_up, number_of, restarts, serves, taken_before}
use Rattle.mc_world.specs.Restarts.{AreCut, HasServerRestarted, ServerRestarts, restarted}
use Rattle.mc_world.specs.WorldState.{PoolState, SiteState, WayState, begun_of, histories_of, proxy_at, proxy_in}
use Rattle.mc_world.specs.Worlds.{CourseState, put_out_of, taken_by, text_of}
use Rattle.mc_world.specs.declared.logs.Logged.{Logged}
use Rattle.mc_world.specs.declared.logs.Logged.TheVariants.{Restarted}
use Rattle.mc_world.proofs.PoolEvents.CommandLemmas.{commands_accounted}
use Rattle.mc_world.proofs.Course.DoneLemmas.{all_numbers, course_done, same_clients}
use Rattle.mc_world.proofs.Course.GenerationStayLemmas.{generations_restart}
use Rattle.mc_world.proofs.Course.NothingBeforeLemmas.{nothing_as}
use Rattle.mc_world.proofs.Course.OutputLemmas.{out_still}
use Rattle.mc_world.proofs.Log.LifeLemmas.{life_stays, sizes_of, taken_stays}
use Rattle.mc_world.proofs.Log.CommandLemmas.{commands_still}
use Rattle.mc_world.proofs.Log.EntryLemmas.{HasUntakenAt, begun_other, begun_own, history_at, history_still, untaken_still}
use Rattle.mc_world.proofs.Log.HistoryLemmas.{histories_go}
use Rattle.mc_world.proofs.Log.LogLemmas.{before-last, number-none, number-one, ring-restart, up-push}
use Rattle.mc_world.proofs.Log.OutcomeLemmas.{goes_same}
use Rattle.mc_world.proofs.Log.RequestLemmas.{answers_go, requests_go}
use Rattle.mc_world.proofs.Log.StillLemmas.{open_still}
use Rattle.mc_world.proofs.PoolEvents.PoolLemmas.{pool_restarts, set_site}
use Rattle.mc_world.proofs.SiteEvents.SiteLemmas.{get_none}

-- as many sites, with the same histories, and as many ways
as_many_sites : (place : ℕ) (opening : CacheState) (old new : PoolState) → ServerRestarts place opening old new → length new.sites ≡ length old.sites
as_many_sites place opening old new e = ap (λ (ss : List SiteState). length ss) e.sites ∙ length-set old.sites place (restarted opening e.site)

same_histories : (place : ℕ) (opening : CacheState) (old new : PoolState) → ServerRestarts place opening old new → (other : ℕ) → histories_of new.sites other ≡ histories_of old.sites other
same_histories place opening old new e other =
    ap (λ (ss : List SiteState). histories_of ss other) e.sites ∙ history_still old.sites place e.site (restarted opening e.site) e.at refl other

as_many_ways : (place : ℕ) (opening : CacheState) (old new : PoolState) → ServerRestarts place opening old new
    → ((other : ℕ) (site : SiteState) → slice_get old.sites other ≡ Some site → length site.ways ≡ length old.proxies)
    → (other : ℕ) (site : SiteState) → slice_get new.sites other ≡ Some site → length site.ways ≡ length new.proxies
as_many_ways place opening old new e h other site at =
    let many : length old.proxies ≡ length new.proxies = ap (λ (ps : List ProxyState). length ps) (sym e.proxies.proxies) in
    ⊎_elim
    (λ own. ap (λ (s : SiteState). length s.ways) own.1 ∙ length-map e.site.ways (λ (way : WayState). record way { ahead = 0 }) ∙ h place e.site e.at ∙ many)
    (λ elsewhere. h other site elsewhere.1 ∙ many)
    (set_site old.sites place (restarted opening e.site) other site (ap (λ (ss : List SiteState). slice_get ss other) (sym e.sites) ∙ at))

-- the rings and the links
servers_restart : (ring : RingState) (log : Log) (place : ℕ) (opening : CacheState) (old new : PoolState) → ServerRestarts place opening old new → ServersHold ring log old
    → ServersHold ring (log ++ Restarted place ∷ []) new
servers_restart ring log place opening old new e h =
    let proxies = sym e.proxies.proxies in
    let sites = as_many_sites place opening old new e in
    record {
      ring = subst (λ (ps : List ProxyState). (p : ℕ) → p < length ps → IsRingAfter p ring (log ++ Restarted place ∷ []) (proxy_in ps p).ring) proxies
          (λ p inside. ring-restart p ring (proxy_at old p).ring log place (h.ring p inside));
      is_ring = subst (λ (ps : List ProxyState). (p : ℕ) → p < length ps → IsRing (proxy_in ps p).ring) proxies h.is_ring;
      linked = subst (λ (ps : List ProxyState). (p : ℕ) → length (proxy_in ps p).links ≡ length (proxy_in ps p).ring.servers) proxies h.linked;
      sited = subst (λ (ps : List ProxyState). (p : ℕ) → length (proxy_in ps p).links ≤ length new.sites) proxies (λ p. let few = h.sited p in omega (arith, few, sites));
      ways = as_many_ways place opening old new e h.ways;
      links = subst (λ (ps : List ProxyState). (p q : ℕ) → q < length (proxy_in ps p).links → is_up p q (log ++ Restarted place ∷ []) ≡ (link_at (proxy_in ps p).links q).up) proxies
          (λ p q inside. up-push p q true log (Restarted place) ∙ h.links p q inside);
      no_links = subst (λ (ps : List ProxyState). (p q : ℕ) → length (proxy_in ps p).links ≤ q → is_up p q (log ++ Restarted place ∷ []) ≡ true) proxies
          (λ p q past. up-push p q true log (Restarted place) ∙ h.no_links p q past);
    }

-- the log leaves the pool so
log_restarts : (ring : RingState) (order : Order) (outs : ℕ → List ℕ) (log : Log) (place : ℕ) (opening : CacheState) (old new : PoolState)
    → ServerRestarts place opening old new → LogHolds ring order outs log old → LogHolds ring order outs (log ++ Restarted place ∷ []) new
log_restarts ring order outs log place opening old new e h =
    let same = same_histories place opening old new e in
    record {
      servers = servers_restart ring log place opening old new e h.servers;
      requests = requests_go ring order order log (Restarted place) old new e.proxies.homes
          (λ p. let many = ap (λ (ps : List ProxyState). length (proxy_in ps p).links) e.proxies.proxies in omega (arith, many)) refl (goes_same order) h.requests;
      answers = answers_go order order outs log (Restarted place) old new (λ c. refl) (λ client count out k. k) (open_still old new e.proxies) h.answers;
      histories = histories_go order order log (Restarted place) (histories_of old.sites) (histories_of new.sites) (λ p. refl) (λ tag lost. lost) same h.histories;
      commands = commands_still ring order log (Restarted place) old new e.proxies.homes h.requests same
          (λ p tag has. untaken_still old.sites place e.site (restarted opening e.site) e.at (λ t u. absurd (none-some u.way (sym (get_none u.i) ∙ u.way_at))) p tag
          (subst (λ (ss : List SiteState). HasUntakenAt ss p tag) e.sites has)) h.commands;
    }

-- a life that had ended before
ended_before : (opening : CacheState) (order : Order) (log : Log) (x : Logged) (sites : List SiteState) (place life : ℕ)
    → length (histories_of sites place) ≡ number_of (serves place) log → LivesHold opening order log sites → life < number_of (restarts place) log
    → IsLegal order place opening (in_life place life (log ++ x ∷ []) (histories_of sites place))
ended_before opening order log x sites place life size h early =
    subst (λ (es : List Entry). IsLegal order place opening es)
    (sym (ap (λ (es : List Entry). in_life place life (log ++ x ∷ []) es) (sym (append-nil (histories_of sites place)))
    ∙ life_stays place life log x (histories_of sites place) [] early size)) (h.ended place life early)

-- the life that has ended now
ended_now : (place : ℕ) (log : Log) (es : List Entry) (begun life : ℕ) → length es ≡ number_of (serves place) log → begun ≡ taken_before place (number_of (restarts place) log) log
    → life ≡ number_of (restarts place) log → in_life place life (log ++ Restarted place ∷ []) es ≡ drop begun es
ended_now place log es begun life size is now =
    let last : taken_before place (suc (number_of (restarts place) log)) (log ++ Restarted place ∷ []) ≡ number_of (serves place) log =
    ap (λ (l : Log). number_of (serves place) l) (before-last (restarts place) log (Restarted place) (own_number place)) in
    ap (λ (n : ℕ). in_life place n (log ++ Restarted place ∷ []) es) now
    ∙ ap₂ (λ (n m : ℕ). drop n (take m es)) (taken_stays place (number_of (restarts place) log) log (Restarted place) (omega arith) ∙ sym is) (last ∙ sym size)
    ∙ ap (λ (fs : List Entry). drop begun fs) (take_all (length es) es (omega arith))

-- the entries of each server in each of its lives
lives_restart : (ring : RingState) (opening : CacheState) (place : ℕ) (old : CourseState) (new : PoolState) (h : CourseHolds ring opening old)
    → ServerRestarts place opening old.pool new → LivesHold opening h.order (old.log ++ Restarted place ∷ []) new.sites
lives_restart ring opening place old new h e =
    let size = sizes_of ring h.order (put_out_of old) old.log old.pool h.log in
    let same = same_histories place opening old.pool new e in
    let one = number-one (restarts place) old.log (Restarted place) (own_number place) in
    let still : (other : ℕ) → place ≢ other → number_of (restarts other) (old.log ++ Restarted place ∷ []) ≡ number_of (restarts other) old.log =
    λ other differ. number-none (restarts other) old.log (Restarted place) (other_number place other differ) in
    let kept : (other : ℕ) → place ≢ other → begun_of new.sites other ≡ begun_of old.pool.sites other =
    λ other differ. ap (λ (ss : List SiteState). begun_of ss other) e.sites ∙ begun_other old.pool.sites place (restarted opening e.site) other differ in
    let next : number_of (restarts place) (old.log ++ Restarted place ∷ []) ≡ suc (number_of (restarts place) old.log) = omega (arith, one) in
    let begins : begun_of new.sites place ≡ taken_before place (number_of (restarts place) (old.log ++ Restarted place ∷ [])) (old.log ++ Restarted place ∷ []) =
    ap (λ (ss : List SiteState). begun_of ss place) e.sites ∙ begun_own old.pool.sites place e.site (restarted opening e.site) e.at
    ∙ ap (λ (es : List Entry). length es) (sym (history_at old.pool.sites place e.site e.at)) ∙ size place
    ∙ sym (ap (λ (n : ℕ). taken_before place n (old.log ++ Restarted place ∷ [])) next
    ∙ ap (λ (l : Log). number_of (serves place) l) (before-last (restarts place) old.log (Restarted place) (own_number place))) in
    let legal = commands_accounted opening (text_of old) (taken_by old) h.order h.lanes old.pool h.pool in
    let ends : (life : ℕ) → life < number_of (restarts place) (old.log ++ Restarted place ∷ [])
    → IsLegal h.order place opening (in_life place life (old.log ++ Restarted place ∷ []) (histories_of old.pool.sites place)) =
    λ life early. ⊎_elim
    (λ was. ended_before opening h.order old.log (Restarted place) old.pool.sites place life (size place) h.lives was)
    (λ late. let now : life ≡ number_of (restarts place) old.log = omega (arith, late, early, next) in
    subst (λ (es : List Entry). IsLegal h.order place opening es)
    (sym (ended_now place old.log (histories_of old.pool.sites place) (begun_of old.pool.sites place) life (size place) (h.lives.begun place) now)) (legal.legal place))
    (cases_lt life (number_of (restarts place) old.log)) in
    record {
      begun = λ other. ⊎_elim
          (λ own. subst (λ (p : ℕ). begun_of new.sites p ≡ taken_before p (number_of (restarts p) (old.log ++ Restarted place ∷ [])) (old.log ++ Restarted place ∷ [])) own.1 begins)
          (λ differ. kept other differ.1 ∙ h.lives.begun other
          ∙ sym (ap (λ (n : ℕ). taken_before other n (old.log ++ Restarted place ∷ [])) (still other differ.1)
          ∙ taken_stays other (number_of (restarts other) old.log) old.log (Restarted place) (omega arith)))
          (eqb_tells place other);
      ended = λ other life early.
          subst (λ (es : List Entry). IsLegal h.order other opening (in_life other life (old.log ++ Restarted place ∷ []) es)) (sym (same other))
          (⊎_elim
          (λ own. subst (λ (p : ℕ). IsLegal h.order p opening (in_life p life (old.log ++ Restarted place ∷ []) (histories_of old.pool.sites p))) own.1
          (ends life (subst (λ (p : ℕ). life < number_of (restarts p) (old.log ++ Restarted place ∷ [])) (sym own.1) early)))
          (λ differ. let as_before = still other differ.1 in
          ended_before opening h.order old.log (Restarted place) old.pool.sites other life (size other) h.lives (omega (arith, early, as_before)))
          (eqb_tells place other));
    }

-- the course holds, if no link was up
down_restarts : (ring : RingState) (opening : CacheState) (place : ℕ) (old new : CourseState) → IsGoodCache opening → CourseHolds ring opening old
    → ServerRestarts place opening old.pool new.pool → new.clients ≡ old.clients → new.log ≡ old.log ++ Restarted place ∷ [] → CourseHolds ring opening new
down_restarts ring opening place old new good h e clients log =
    same_clients ring opening h.order h.lanes old new clients (out_still old.pool new.pool e.proxies) (all_numbers old.pool new.pool e.proxies) h.numbered
    (pool_restarts opening (text_of old) (taken_by old) h.order h.lanes place old.pool new.pool good e h.pool)
    (subst (λ (l : Log). LogHolds ring h.order (put_out_of old) l new.pool) (sym log)
    (log_restarts ring h.order (put_out_of old) old.log place opening old.pool new.pool e h.log))
    (generations_restart place opening old.pool new.pool e h.generations)
    (nothing_as old.pool new.pool h.order h.lanes h.lanes old.log new.log (Restarted place) e.proxies.homes log (λ p q. refl) h.nothing_before)
    (subst (λ (l : Log). LivesHold opening h.order l new.pool.sites) (sym log) (lives_restart ring opening place old new.pool h e))

-- it holds after the links to the server are lost
cut_holds : (ring : RingState) (opening : CacheState) (proxies place : ℕ) (old new : CourseState) → CourseHolds ring opening old → AreCut proxies place old new → CourseHolds ring opening new
cut_holds ring opening zero place old new h cut = subst (λ (c : CourseState). CourseHolds ring opening c) (sym cut) h
cut_holds ring opening (suc proxy) place old new h cut =
    let mid = cut_holds ring opening proxy place old cut.0 h cut.1 in
    elim cut.2 [
      | inl lost ↦ course_done ring opening (LinkLost proxy place) cut.0 new mid lost.1
      | inr still ↦ subst (λ (c : CourseState). CourseHolds ring opening c) (sym still.1) mid
    ]

-- the course holds
pub course_restarts : (ring : RingState) (opening : CacheState) (place : ℕ) (old new : CourseState) → IsGoodCache opening → CourseHolds ring opening old
    → HasServerRestarted place opening old new → CourseHolds ring opening new
course_restarts ring opening place old new good h e =
    down_restarts ring opening place e.cut new good (cut_holds ring opening (length old.pool.proxies) place old e.cut h e.loses) e.pool e.clients e.log
