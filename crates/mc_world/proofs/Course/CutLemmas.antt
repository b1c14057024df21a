-- A server that dies: the links of all proxies to it are lost one after another, and then it restarts.
use Rattle.std.proofs.Common.{◌≡◌, ◌∙◌, ℕ, zero, suc, ◌+◌, ◌<◌, Bool, true, false, if◌then◌else◌, List, [], ◌∷◌, ◌++◌, ⊎_elim, inl, inr, length, map, drop, Some, slice_get, slice_set, refl, sym, ap, subst, append_assoc, append-nil, arith}
use Rattle.std.proofs.lemmas.Bool.{cases_Bool, false≢true}
use Rattle.std.proofs.lemmas.List.{length-append}
use Rattle.std.proofs.lemmas.Option.{none-some}
use Rattle.mc_cache.specs.CacheState.{CacheState}
use Rattle.mc_link.specs.LinkState.{LinkState, down_link}
use Rattle.mc_proxy.specs.LinkTurns.{lost_at}
use Rattle.mc_proxy.specs.ProxyState.{ProxyState}
use Rattle.mc_proxy.specs.SessionState.{link_at}
use Rattle.mc_account.proofs.LaneLemmas.{link_own, up_is_there}
use Rattle.mc_world.specs.declared.events.Event.TheVariants.{LinkLost}
use Rattle.mc_world.specs.declared.logs.Logged.TheVariants.{Happened, Restarted}
use Rattle.mc_world.specs.Applies.{IsUp}
use Rattle.mc_world.specs.Logs.{Log}
use Rattle.mc_world.specs.Pools.{cut_off}
use Rattle.mc_world.specs.Restarts.{AreCut, HasServerRestarted, IsCut, ServerDies, loss_of, losses_of, restarted, without_link}
use Rattle.mc_world.specs.WorldState.{PoolState, SiteState, link_of, proxy_in, with_proxy}
use Rattle.mc_world.specs.Worlds.{ClientState, CourseState}

-- a course of these parts
abbrev course_with : List ℕ → List ProxyState → List SiteState → List ClientState → Log → CourseState
course_with homes proxies sites clients log = record { pool = record { homes = homes; proxies = proxies; sites = sites }; clients = clients; log = log }

-- the proxy after some others, and the list with another in its place
in_mid : (front : List ProxyState) (p : ProxyState) (back : List ProxyState) → proxy_in (front ++ p ∷ back) (length front) ≡ p
in_mid [] p back = refl
in_mid (f ∷ fs) p back = in_mid fs p back

set_mid : (front : List ProxyState) (p now : ProxyState) (back : List ProxyState) → with_proxy (length front) now (front ++ p ∷ back) ≡ front ++ now ∷ back
set_mid [] p now back = refl
set_mid (f ∷ fs) p now back = ap (λ (ps : List ProxyState). f ∷ ps) (set_mid fs p now back)

-- the site of a place, after it was replaced, replaced again, and replaced by itself
set_there : (sites : List SiteState) (place : ℕ) (site now : SiteState) → slice_get sites place ≡ Some site → slice_get (slice_set sites place now) place ≡ Some now
set_there [] zero site now at = absurd (none-some site at)
set_there [] (suc place) site now at = absurd (none-some site at)
set_there (s ∷ ss) zero site now at = refl
set_there (s ∷ ss) (suc place) site now at = set_there ss place site now at

set_twice : (sites : List SiteState) (place : ℕ) (one other : SiteState) → slice_set (slice_set sites place one) place other ≡ slice_set sites place other
set_twice [] zero one other = refl
set_twice [] (suc place) one other = refl
set_twice (s ∷ ss) zero one other = refl
set_twice (s ∷ ss) (suc place) one other = ap (λ (xs : List SiteState). s ∷ xs) (set_twice ss place one other)

set_itself : (sites : List SiteState) (place : ℕ) (site : SiteState) → slice_get sites place ≡ Some site → slice_set sites place site ≡ sites
set_itself [] zero site at = refl
set_itself [] (suc place) site at = refl
set_itself (s ∷ ss) zero site at = let same : Some s ≡ Some site = at in let is : s ≡ site = cc in ap (λ (x : SiteState). x ∷ ss) (sym is)
set_itself (s ∷ ss) (suc place) site at = ap (λ (xs : List SiteState). s ∷ xs) (set_itself ss place site at)

-- a course after the links of all proxies to a place were cut, from one in which those of the first were: the site there restarts as this one would
record IsCutOff (number place : ℕ) (opening : CacheState) (homes : List ℕ) (front back : List ProxyState) (sites : List SiteState) (site : SiteState) (clients : List ClientState) (log : Log) (start : CourseState) : Type 0 where
  pub cut : CourseState
  pub are : AreCut (number + length back) place start cut
  pub homes_are : cut.pool.homes ≡ homes
  pub proxies : cut.pool.proxies ≡ front ++ map (without_link place) back
  pub now : SiteState
  pub sites_are : cut.pool.sites ≡ slice_set sites place now
  pub same : restarted opening now ≡ restarted opening site
  pub at : slice_get cut.pool.sites place ≡ Some now
  pub clients_are : cut.clients ≡ clients
  pub log_is : cut.log ≡ log ++ losses_of place number back

-- one more is cut: it was up, or it was down
cut_up : (number place : ℕ) (homes : List ℕ) (front : List ProxyState) (p : ProxyState) (back : List ProxyState) (sites : List SiteState) (site : SiteState) (clients : List ClientState) (log : Log)
    → number ≡ length front → slice_get sites place ≡ Some site → (link_at p.links place).up ≡ true
    → IsCut number place (course_with homes (front ++ p ∷ back) sites clients log)
    (course_with homes (front ++ lost_at place p ∷ back) (slice_set sites place (cut_off number (link_at p.links place) site)) clients (log ++ Happened (LinkLost number place) ∷ []))
cut_up number place homes front p back sites site clients log is at up =
    let here : proxy_in (front ++ p ∷ back) number ≡ p = ap (λ (n : ℕ). proxy_in (front ++ p ∷ back) n) is ∙ in_mid front p back in
    let link : link_at (proxy_in (front ++ p ∷ back) number).links place ≡ link_at p.links place = ap (λ (x : ProxyState). link_at x.links place) here in
    inl (
      ap (λ (l : LinkState). l.up) link ∙ up,
      record {
        pool = record {
          there = record { site = site; now = cut_off number (link_at p.links place) site; at = at; up = ap (λ (l : LinkState). l.up) link ∙ up; sites = refl };
          cut = ap (λ (l : LinkState). cut_off number l site) (sym link);
          proxy = record {
            proxies = sym (set_mid front p (lost_at place p) back) ∙ ap (λ (n : ℕ). with_proxy n (lost_at place p) (front ++ p ∷ back)) (sym is)
                ∙ ap (λ (x : ProxyState). with_proxy number (lost_at place x) (front ++ p ∷ back)) (sym here);
            homes = refl;
          };
        };
        clients = refl;
        log = refl;
      },
    )

cut_down : (number place : ℕ) (homes : List ℕ) (front : List ProxyState) (p : ProxyState) (back : List ProxyState) (sites : List SiteState) (clients : List ClientState) (log : Log)
    → number ≡ length front → (link_at p.links place).up ≡ false
    → IsCut number place (course_with homes (front ++ p ∷ back) sites clients log) (course_with homes (front ++ p ∷ back) sites clients log)
cut_down number place homes front p back sites clients log is down =
    let here : proxy_in (front ++ p ∷ back) number ≡ p = ap (λ (n : ℕ). proxy_in (front ++ p ∷ back) n) is ∙ in_mid front p back in
    inr (λ up. absurd (false≢true (sym down ∙ ap (λ (x : ProxyState). (link_at x.links place).up) (sym here) ∙ up)), refl)

-- what the parts of a course after the first are, if they begin one proxy later
later : (number place : ℕ) (opening : CacheState) (homes : List ℕ) (front : List ProxyState) (p q : ProxyState) (back : List ProxyState) (sites sites' : List SiteState) (site site' : SiteState)
    (clients : List ClientState) (log log' : Log) (start : CourseState) → without_link place p ≡ q → ((now : SiteState) → slice_set sites' place now ≡ slice_set sites place now)
    → restarted opening site' ≡ restarted opening site → log' ≡ log ++ loss_of place number p
    → IsCutOff (suc number) place opening homes (front ++ q ∷ []) back sites' site' clients log' start → IsCutOff number place opening homes front (p ∷ back) sites site clients log start
later number place opening homes front p q back sites sites' site site' clients log log' start is set same logged h =
    let count : suc number + length back ≡ number + suc (length back) = omega arith in
    record {
      cut = h.cut;
      are = subst (λ (n : ℕ). AreCut n place start h.cut) count h.are;
      homes_are = h.homes_are;
      proxies = h.proxies ∙ append_assoc front (q ∷ []) (map (without_link place) back) ∙ ap (λ (x : ProxyState). front ++ x ∷ map (without_link place) back) (sym is);
      now = h.now;
      sites_are = h.sites_are ∙ set h.now;
      same = h.same ∙ same;
      at = h.at;
      clients_are = h.clients_are;
      log_is = h.log_is ∙ ap (λ (l : Log). l ++ losses_of place (suc number) back) logged ∙ append_assoc log (loss_of place number p) (losses_of place (suc number) back);
    }

-- one more is cut, and then all that are left, which are cut so
cut_by : (up : Bool) (number place : ℕ) (opening : CacheState) (homes : List ℕ) (front : List ProxyState) (p : ProxyState) (back : List ProxyState) (sites : List SiteState) (site : SiteState)
    (clients : List ClientState) (log : Log) (start : CourseState)
    → ((front : List ProxyState) (sites : List SiteState) (site : SiteState) (log : Log) → suc number ≡ length front → slice_get sites place ≡ Some site
    → AreCut (suc number) place start (course_with homes (front ++ back) sites clients log) → IsCutOff (suc number) place opening homes front back sites site clients log start)
    → (link_at p.links place).up ≡ up → number ≡ length front → slice_get sites place ≡ Some site
    → AreCut number place start (course_with homes (front ++ p ∷ back) sites clients log) → IsCutOff number place opening homes front (p ∷ back) sites site clients log start
cut_by true number place opening homes front p back sites site clients log start again up is at are =
    let now : SiteState = cut_off number (link_at p.links place) site in
    let more : length (front ++ lost_at place p ∷ []) ≡ length front + 1 = length-append front (lost_at place p ∷ []) in
    let one : AreCut (suc number) place start (course_with homes (front ++ lost_at place p ∷ back) (slice_set sites place now) clients (log ++ Happened (LinkLost number place) ∷ [])) =
    (course_with homes (front ++ p ∷ back) sites clients log, are, cut_up number place homes front p back sites site clients log is at up) in
    later number place opening homes front p (lost_at place p) back sites (slice_set sites place now) site now clients log (log ++ Happened (LinkLost number place) ∷ []) start
    (ap (λ (v : Bool). if v then lost_at place p else p) up) (λ x. set_twice sites place now x) refl
    (ap (λ (v : Bool). log ++ (if v then Happened (LinkLost number place) ∷ [] else [])) (sym up))
    (again (front ++ lost_at place p ∷ []) (slice_set sites place now) now (log ++ Happened (LinkLost number place) ∷ []) (omega (arith, is, more)) (set_there sites place site now at)
    (subst (λ (ps : List ProxyState). AreCut (suc number) place start (course_with homes ps (slice_set sites place now) clients (log ++ Happened (LinkLost number place) ∷ [])))
    (sym (append_assoc front (lost_at place p ∷ []) back)) one))
cut_by false number place opening homes front p back sites site clients log start again down is at are =
    let more : length (front ++ p ∷ []) ≡ length front + 1 = length-append front (p ∷ []) in
    let one : AreCut (suc number) place start (course_with homes (front ++ p ∷ back) sites clients log) =
    (course_with homes (front ++ p ∷ back) sites clients log, are, cut_down number place homes front p back sites clients log is down) in
    later number place opening homes front p p back sites sites site site clients log log start
    (ap (λ (v : Bool). if v then lost_at place p else p) down) (λ x. refl) refl
    (sym (append-nil log) ∙ ap (λ (v : Bool). log ++ (if v then Happened (LinkLost number place) ∷ [] else [])) (sym down))
    (again (front ++ p ∷ []) sites site log (omega (arith, is, more)) at
    (subst (λ (ps : List ProxyState). AreCut (suc number) place start (course_with homes ps sites clients log)) (sym (append_assoc front (p ∷ []) back)) one))

-- all that are left are cut
cut_all : (number place : ℕ) (opening : CacheState) (homes : List ℕ) (front back : List ProxyState) (sites : List SiteState) (site : SiteState) (clients : List ClientState) (log : Log) (start : CourseState)
    → number ≡ length front → slice_get sites place ≡ Some site → AreCut number place start (course_with homes (front ++ back) sites clients log)
    → IsCutOff number place opening homes front back sites site clients log start
cut_all number place opening homes front [] sites site clients log start is at are =
    let count : number ≡ number + 0 = omega arith in
    record {
      cut = course_with homes (front ++ []) sites clients log;
      are = subst (λ (n : ℕ). AreCut n place start (course_with homes (front ++ []) sites clients log)) count are;
      homes_are = refl;
      proxies = refl;
      now = site;
      sites_are = sym (set_itself sites place site at);
      same = refl;
      at = at;
      clients_are = refl;
      log_is = sym (append-nil log);
    }
cut_all number place opening homes front (p ∷ back) sites site clients log start is at are =
    cut_by (link_at p.links place).up number place opening homes front p back sites site clients log start
    (λ front' sites' site' log' is' at' are'. cut_all (suc number) place opening homes front' back sites' site' clients log' start is' at' are') refl is at are

-- a link that was lost is down
off_by : (up : Bool) (place : ℕ) (p : ProxyState) → (link_at p.links place).up ≡ up → (link_at (without_link place p).links place).up ≡ false
off_by true place p up =
    ap (λ (v : Bool). (link_at (if v then lost_at place p else p).links place).up) up
    ∙ ap (λ (l : LinkState). l.up) (link_own place (down_link (link_at p.links place).generation) p.links (up_is_there place p.links up))
off_by false place p down = ap (λ (v : Bool). (link_at (if v then lost_at place p else p).links place).up) down ∙ down

-- a proxy that is missing has no link
none_up : (place proxy : ℕ) → (link_at (proxy_in [] proxy).links place).up ≡ false
none_up zero zero = refl
none_up (suc place) zero = refl
none_up zero (suc proxy) = refl
none_up (suc place) (suc proxy) = refl

-- no proxy's link to the place is up
all_off : (place proxy : ℕ) (proxies : List ProxyState) → (link_at (proxy_in (map (without_link place) proxies) proxy).links place).up ≡ true → ⊥
all_off place proxy [] up = absurd (false≢true (sym (none_up place proxy) ∙ up))
all_off place zero (p ∷ ps) up = absurd (false≢true (sym (off_by (link_at p.links place).up place p refl) ∙ up))
all_off place (suc proxy) (p ∷ ps) up = all_off place proxy ps up

-- a server that dies has restarted, after the links of all proxies to it were cut
pub died : (place : ℕ) (opening : CacheState) (clients clients' : List ClientState) (log log' : Log) (old new : PoolState) → ServerDies place opening old new → clients' ≡ clients
    → log' ≡ (log ++ losses_of place 0 old.proxies) ++ Restarted place ∷ []
    → HasServerRestarted place opening (record { pool = old; clients = clients; log = log }) (record { pool = new; clients = clients'; log = log' })
died place opening clients clients' log log' old new h same logged =
    let count : 0 + length old.proxies ≡ length old.proxies = omega arith in
    let all = cut_all 0 place opening old.homes [] old.proxies old.sites h.site clients log (record { pool = old; clients = clients; log = log }) refl h.at refl in
    record {
      cut = all.cut;
      loses = subst (λ (n : ℕ). AreCut n place (record { pool = old; clients = clients; log = log }) all.cut) count all.are;
      pool = record {
        site = all.now;
        at = all.at;
        down = λ proxy up. all_off place proxy old.proxies (subst (λ (ps : List ProxyState). (link_at (proxy_in ps proxy).links place).up ≡ true) all.proxies up);
        sites = h.sites ∙ ap (λ (s : SiteState). slice_set old.sites place s) (sym all.same)
            ∙ sym (set_twice old.sites place all.now (restarted opening all.now))
            ∙ ap (λ (ss : List SiteState). slice_set ss place (restarted opening all.now)) (sym all.sites_are);
        proxies = record { proxies = h.proxies ∙ sym all.proxies; homes = h.homes ∙ sym all.homes_are };
      };
      clients = same ∙ sym all.clients_are;
      log = logged ∙ ap (λ (l : Log). l ++ Restarted place ∷ []) (sym all.log_is);
    }

-- what is still to be logged of the proxies from one on: that of this one, and of those after it
losses-next : (place from : ℕ) (k : ℕ) (proxies : List ProxyState) → k < length proxies
    → losses_of place (from + k) (drop k proxies) ≡ loss_of place (from + k) (proxy_in proxies k) ++ losses_of place (suc (from + k)) (drop (suc k) proxies)
losses-next place from k [] inside = absurd (omega (arith, inside))
losses-next place from zero (p ∷ ps) inside = refl
losses-next place from (suc k) (p ∷ ps) inside =
    let same : from + suc k ≡ suc from + k = omega arith in
    subst (λ (n : ℕ). losses_of place n (drop (suc k) (p ∷ ps)) ≡ loss_of place n (proxy_in (p ∷ ps) (suc k)) ++ losses_of place (suc n) (drop (suc (suc k)) (p ∷ ps))) (sym same)
    (losses-next place (suc from) k ps (omega (arith, inside)))

losses_after : (place k : ℕ) (proxies : List ProxyState) → k < length proxies
    → losses_of place k (drop k proxies) ≡ loss_of place k (proxy_in proxies k) ++ losses_of place (suc k) (drop (suc k) proxies)
losses_after place k proxies inside =
    let same : 0 + k ≡ k = omega arith in
    subst (λ (n : ℕ). losses_of place n (drop k proxies) ≡ loss_of place n (proxy_in proxies k) ++ losses_of place (suc n) (drop (suc k) proxies)) same
    (losses-next place 0 k proxies inside)

-- what a log has and what is still to be logged stay the same, whether the link of the next proxy is up or down
pub logs_up : (place k next : ℕ) (pool : PoolState) (log all : Log) → k < length pool.proxies → next ≡ k + 1 → IsUp k place pool → log ++ losses_of place k (drop k pool.proxies) ≡ all
    → (log ++ Happened (LinkLost k place) ∷ []) ++ losses_of place next (drop next pool.proxies) ≡ all
logs_up place k next pool log all inside is up h =
    let same : suc k ≡ next = omega (arith, is) in
    let one : losses_of place k (drop k pool.proxies) ≡ Happened (LinkLost k place) ∷ losses_of place (suc k) (drop (suc k) pool.proxies) =
    losses_after place k pool.proxies inside ∙ ap (λ (v : Bool). (if v then Happened (LinkLost k place) ∷ [] else []) ++ losses_of place (suc k) (drop (suc k) pool.proxies)) up in
    subst (λ (n : ℕ). (log ++ Happened (LinkLost k place) ∷ []) ++ losses_of place n (drop n pool.proxies) ≡ all) same
    (append_assoc log (Happened (LinkLost k place) ∷ []) (losses_of place (suc k) (drop (suc k) pool.proxies)) ∙ ap (λ (l : Log). log ++ l) (sym one) ∙ h)

pub logs_down : (place k next : ℕ) (pool : PoolState) (log all : Log) → k < length pool.proxies → next ≡ k + 1 → (IsUp k place pool → ⊥) → log ++ losses_of place k (drop k pool.proxies) ≡ all
    → log ++ losses_of place next (drop next pool.proxies) ≡ all
logs_down place k next pool log all inside is down h =
    let same : suc k ≡ next = omega (arith, is) in
    let off : (link_of pool k place).up ≡ false = ⊎_elim (λ up. absurd (down up)) (λ d. d) (cases_Bool (link_of pool k place).up) in
    let one : losses_of place k (drop k pool.proxies) ≡ losses_of place (suc k) (drop (suc k) pool.proxies) =
    losses_after place k pool.proxies inside ∙ ap (λ (v : Bool). (if v then Happened (LinkLost k place) ∷ [] else []) ++ losses_of place (suc k) (drop (suc k) pool.proxies)) off in
    subst (λ (n : ℕ). log ++ losses_of place n (drop n pool.proxies) ≡ all) same (ap (λ (l : Log). log ++ l) (sym one) ∙ h)
