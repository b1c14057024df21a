-- The entries of each server in each of its lives are legal, after each event that is done; so the account
-- has it.
use Rattle.std.proofs.Common.{◌≡◌, ◌∙◌, ⊎_elim, ℕ, zero, suc, ◌+◌, ◌-◌, ◌<◌, ◌≤◌, false, List, [], ◌∷◌, ◌++◌, length, take, drop, slice_get, refl, sym, ap, ap₂, subst, arith}
use Rattle.std.proofs.lemmas.Bool.{cases_lt}
use Rattle.std.proofs.lemmas.List.{drop_all, take-append-le, take_all}
use Rattle.mc_ring.specs.Rings.{RingState}
use Rattle.mc_cache.specs.CacheState.{CacheState}
use Rattle.mc_cache.specs.Step.{step_of}
use Rattle.mc_route.specs.Routes.{to_place}
use Rattle.mc_account.specs.Orders.{Order}
use Rattle.mc_history.specs.Histories.{IsLegal, tag_in}
use Rattle.mc_history.specs.declared.entries.Entry.{Entry}
use Rattle.mc_history.proofs.NamedLemmas.{Keeps}
use Rattle.mc_world.specs.Bare.{bare}
use Rattle.mc_world.specs.declared.events.Event.{Event}
use Rattle.mc_world.specs.Courses.{IsDone}
use Rattle.mc_world.specs.CourseHolds.{CourseHolds, LivesHold}
use Rattle.mc_world.specs.LogHolds.{LogHolds}
use Rattle.mc_world.specs.Logs.{Log, in_life, number_of, restarts, serves, taken_before}
use Rattle.mc_world.specs.WorldState.{PoolState, SiteState, begun_of, histories_of}
use Rattle.mc_world.specs.Worlds.{CourseState, put_out_of}
use Rattle.mc_world.specs.declared.logs.Logged.{Logged}
use Rattle.mc_world.specs.declared.logs.Logged.TheVariants.{Happened}
use Rattle.mc_world.proofs.Log.GoingLemmas.{GoOn, lives_go}
use Rattle.mc_world.proofs.Log.HistoryLemmas.{as_many}
use Rattle.mc_world.proofs.SiteEvents.SiteLemmas.{get_past}
use Rattle.mc_world.proofs.Log.LogLemmas.{before-past, before-stays, number-before, number-none}

-- entries that are legal by an order are legal by one that goes on from it
pub legal_kept : (order longer : Order) (place : ℕ) (s : CacheState) (es : List Entry) → Keeps order longer → IsLegal order place s es → IsLegal longer place s es
legal_kept order longer place s [] keeps h = tt
legal_kept order longer place s (e ∷ es) keeps h = (
  h.0,
  keeps (tag_in e) (to_place place h.0) h.1,
  h.2,
  legal_kept order longer place (step_of s h.0 e.moment e.refused).0 es keeps h.3,
)

-- how many requests were taken before a life that existed, after something more is logged
pub taken_stays : (place life : ℕ) (log : Log) (x : Logged) → life ≤ number_of (restarts place) log → taken_before place life (log ++ x ∷ []) ≡ taken_before place life log
taken_stays place zero log x early = refl
taken_stays place (suc life) log x early = ap (λ (l : Log). number_of (serves place) l) (before-stays (restarts place) life log x (omega (arith, early)))

-- no more requests were taken before a life than in all; and before a life past the last, all
pub taken_most : (place life : ℕ) (log : Log) → taken_before place life log ≤ number_of (serves place) log
taken_most place zero log = omega arith
taken_most place (suc life) log = number-before (serves place) (restarts place) life log

pub taken_past : (place life : ℕ) (log : Log) → number_of (restarts place) log ≤ life → taken_before place (suc life) log ≡ number_of (serves place) log
taken_past place life log past = ap (λ (l : Log). number_of (serves place) l) (before-past (restarts place) life log past)

-- the entries of a life that has ended stay when the history grows
pub life_stays : (place life : ℕ) (log : Log) (x : Logged) (es more : List Entry) → life < number_of (restarts place) log → length es ≡ number_of (serves place) log
    → in_life place life (log ++ x ∷ []) (es ++ more) ≡ in_life place life log es
life_stays place life log x es more early size =
    let few = taken_most place (suc life) log in
    ap₂ (λ (n m : ℕ). drop n (take m (es ++ more))) (taken_stays place life log x (omega (arith, early))) (taken_stays place (suc life) log x (omega (arith, early)))
    ∙ ap (λ (fs : List Entry). drop (taken_before place life log) fs) (take-append-le (taken_before place (suc life) log) es more (omega (arith, few, size)))

-- a history has an entry for each request that its server took
pub sizes_of : (ring : RingState) (order : Order) (outs : ℕ → List ℕ) (log : Log) (pool : PoolState) → LogHolds ring order outs log pool
    → (place : ℕ) → length (histories_of pool.sites place) ≡ number_of (serves place) log
sizes_of ring order outs log pool h place = as_many order log (histories_of pool.sites) place h.histories

-- something is logged that is no restart, and each server goes on
pub lives_on : (opening : CacheState) (order longer : Order) (log : Log) (x : Logged) (old new : List SiteState) → Keeps order longer → GoOn old new
    → ((place : ℕ) → restarts place x ≡ false) → ((place : ℕ) → length (histories_of old place) ≡ number_of (serves place) log)
    → LivesHold opening order log old → LivesHold opening longer (log ++ x ∷ []) new
lives_on opening order longer log x old new keeps go other sizes h = record {
  begun = λ place.
      go.begun place ∙ h.begun place
      ∙ sym (ap (λ (n : ℕ). taken_before place n (log ++ x ∷ [])) (number-none (restarts place) log x (other place))
      ∙ taken_stays place (number_of (restarts place) log) log x (omega arith));
  ended = λ place life early.
      let was = number-none (restarts place) log x (other place) in
      let before_now : life < number_of (restarts place) log = omega (arith, early, was) in
      let goes = go.more place in
      subst (λ (es : List Entry). IsLegal longer place opening es)
      (sym (ap (λ (es : List Entry). in_life place life (log ++ x ∷ []) es) goes.1
      ∙ life_stays place life log x (histories_of old place) goes.0 before_now (sizes place)))
      (legal_kept order longer place opening (in_life place life log (histories_of old place)) keeps (h.ended place life before_now));
}

-- each event that is done
pub lives_stay : (ring : RingState) (opening : CacheState) (event : Event (List ℕ)) (longer : Order) (old new : CourseState) (h : CourseHolds ring opening old) → Keeps h.order longer
    → IsDone event old new → LivesHold opening longer new.log new.pool.sites
lives_stay ring opening event longer old new h keeps e =
    subst (λ (l : Log). LivesHold opening longer l new.pool.sites) (sym e.log)
    (lives_on opening h.order longer old.log (Happened (bare event)) old.pool.sites new.pool.sites keeps (lives_go event old.pool new.pool e.pool) (λ place. refl)
    (sizes_of ring h.order (put_out_of old) old.log old.pool h.log) h.lives)

-- the present life, and one that has not begun
present_life : (place life : ℕ) (log : Log) (es : List Entry) (begun : ℕ) → length es ≡ number_of (serves place) log → begun ≡ taken_before place (number_of (restarts place) log) log
    → life ≡ number_of (restarts place) log → in_life place life log es ≡ drop begun es
present_life place life log es begun size is now =
    ap₂ (λ (n m : ℕ). drop n (take m es)) (ap (λ (n : ℕ). taken_before place n log) now ∙ sym is) (taken_past place life log (omega (arith, now)) ∙ sym size)
    ∙ ap (λ (fs : List Entry). drop begun fs) (take_all (length es) es (omega arith))

no_life : (place life : ℕ) (log : Log) (es : List Entry) → length es ≡ number_of (serves place) log → number_of (restarts place) log < life → in_life place life log es ≡ []
no_life place zero log es size past = absurd (omega (arith, past))
no_life place (suc life) log es size past =
    ap₂ (λ (n m : ℕ). drop n (take m es)) (taken_past place life log (omega (arith, past)) ∙ sym size) (taken_past place (suc life) log (omega (arith, past)) ∙ sym size)
    ∙ ap (λ (fs : List Entry). drop (length es) fs) (take_all (length es) es (omega arith))
    ∙ drop_all (length es) es (omega arith)

-- the entries of a server in each of its lives are legal, if those in the present one are
pub lives_legal : (ring : RingState) (opening : CacheState) (order : Order) (outs : ℕ → List ℕ) (log : Log) (pool : PoolState) → LogHolds ring order outs log pool
    → ((place : ℕ) → IsLegal order place opening (drop (begun_of pool.sites place) (histories_of pool.sites place))) → LivesHold opening order log pool.sites
    → (place life : ℕ) → IsLegal order place opening (in_life place life log (histories_of pool.sites place))
lives_legal ring opening order outs log pool logs present h place life =
    let size = sizes_of ring order outs log pool logs place in
    ⊎_elim
    (λ early. h.ended place life early)
    (λ late. ⊎_elim
    (λ past. subst (λ (es : List Entry). IsLegal order place opening es) (sym (no_life place life log (histories_of pool.sites place) size past)) tt)
    (λ last. let now : life ≡ number_of (restarts place) log = omega (arith, late, last) in
    subst (λ (es : List Entry). IsLegal order place opening es)
    (sym (present_life place life log (histories_of pool.sites place) (begun_of pool.sites place) size (h.begun place) now)) (present place))
    (cases_lt (number_of (restarts place) log) life))
    (cases_lt life (number_of (restarts place) log))

-- if a server never restarted, its first life is its whole history
pub whole_life : (place : ℕ) (log : Log) (es : List Entry) → number_of (restarts place) log ≡ 0 → length es ≡ number_of (serves place) log → in_life place 0 log es ≡ es
whole_life place log es none size =
    ap (λ (n : ℕ). take n es) (taken_past place 0 log (omega (arith, none)) ∙ sym size) ∙ take_all (length es) es (omega arith)

-- the entries in each life are legal if the history is
legal_take : (order : Order) (place n : ℕ) (s : CacheState) (es : List Entry) → IsLegal order place s es → IsLegal order place s (take n es)
legal_take order place zero s [] h = tt
legal_take order place zero s (e ∷ es) h = tt
legal_take order place (suc n) s [] h = tt
legal_take order place (suc n) s (e ∷ es) h = (h.0, h.1, h.2, legal_take order place n (step_of s h.0 e.moment e.refused).0 es h.3)

drop_taken : {X : Type 0} (n : ℕ) (xs : List X) → drop n (take n xs) ≡ []
drop_taken zero [] = refl
drop_taken zero (x ∷ xs) = refl
drop_taken (suc n) [] = refl
drop_taken (suc n) (x ∷ xs) = drop_taken n xs

pub legal_unrestarted : (order : Order) (place : ℕ) (s : CacheState) (log : Log) (es : List Entry) → number_of (restarts place) log ≡ 0 → IsLegal order place s es
    → (life : ℕ) → IsLegal order place s (in_life place life log es)
legal_unrestarted order place s log es none h zero = legal_take order place (taken_before place 1 log) s es h
legal_unrestarted order place s log es none h (suc life) =
    let same : taken_before place (suc life) log ≡ taken_before place (suc (suc life)) log =
    taken_past place life log (omega (arith, none)) ∙ sym (taken_past place (suc life) log (omega (arith, none))) in
    let nothing : in_life place (suc life) log es ≡ [] =
    ap (λ (n : ℕ). drop (taken_before place (suc life) log) (take n es)) (sym same)
    ∙ drop_taken (taken_before place (suc life) log) es in
    subst (λ (fs : List Entry). IsLegal order place s fs) (sym nothing) tt

-- the life in which a request was taken
pub record IsOfLife (place k : ℕ) (log : Log) : Type 0 where
  pub life : ℕ
  pub from : taken_before place life log ≤ k
  pub to : k < taken_before place (suc life) log

life_from : (place k life : ℕ) (log : Log) → k < taken_before place (suc life) log → IsOfLife place k log
life_from place k zero log to = record { life = 0; from = omega arith; to = to }
life_from place k (suc life) log to =
    ⊎_elim
    (λ earlier. life_from place k life log earlier)
    (λ here. record { life = suc life; from = here; to = to })
    (cases_lt k (taken_before place (suc life) log))

pub life_of : (place k : ℕ) (log : Log) → k < number_of (serves place) log → IsOfLife place k log
life_of place k log inside =
    let all = taken_past place (number_of (restarts place) log) log (omega arith) in
    life_from place k (number_of (restarts place) log) log (omega (arith, inside, all))

got_first : {X : Type 0} (xs : List X) (n k : ℕ) → k < n → slice_get (take n xs) k ≡ slice_get xs k
got_first xs zero k inside = absurd (omega (arith, inside))
got_first [] (suc n) k inside = refl
got_first (x ∷ xs) (suc n) zero inside = refl
got_first (x ∷ xs) (suc n) (suc k) inside = got_first xs n k (omega (arith, inside))

pub got_in_life : (place k : ℕ) (log : Log) (es : List Entry) → (of : IsOfLife place k log)
    → slice_get (in_life place of.life log es) (k - taken_before place of.life log) ≡ slice_get es k
got_in_life place k log es of =
    let from = of.from in
    let whole : (k - taken_before place of.life log) + taken_before place of.life log ≡ k = omega (arith, from) in
    get_past (take (taken_before place (suc of.life) log) es) (taken_before place of.life log) (k - taken_before place of.life log)
    ∙ ap (λ (n : ℕ). slice_get (take (taken_before place (suc of.life) log) es) n) whole
    ∙ got_first es (taken_before place (suc of.life) log) k of.to
