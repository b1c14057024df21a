-- Events that are tried in sequence.
use Rattle.std.proofs.Common.{◌≡◌, ◌∙◌, ◌↔◌, ◌+◌, ◌<◌, inl, inr, ℕ, zero, suc, true, false, List, [], ◌∷◌, ◌++◌, length, take, get_or, Result, Ok, Err, IfOk, OnOk, OnErr, MatchResult, is_ok, refl, sym, ap, subst, arith}
use Rattle.std.specs.Result.{is_err}
use Rattle.mc_ring.specs.Rings.{IsRing, RingState}
use Rattle.mc_route.specs.declared.losses.Losses.{Losses}
use Rattle.mc_cache.specs.CacheState.{CacheState, IsWithinBounds, opening_cache}
use Rattle.mc_cache_laws.proofs.GoodStepLemmas.{opening_is_good}
use Rattle.mc_world.specs.Accounts.{Account}
use Rattle.mc_world.specs.Courses.{Applies, CourseServes, IsDone}
use Rattle.mc_world.specs.CourseHolds.{CourseHolds, WorldHolds}
use Rattle.mc_world.specs.Happens.{Does}
use Rattle.mc_world.specs.Homes.{home_in}
use Rattle.mc_world.specs.Joins.{HasLearnedServer, HasServerJoined}
use Rattle.mc_world.specs.Restarts.{HasServerRestarted}
use Rattle.mc_world.specs.Steps.{GivesAccount, IsTried, RunsTo, StepsTo}
use Rattle.mc_world.specs.WorldState.{home_of}
use Rattle.mc_world.specs.Worlds.{CourseState, WorldState, cache_of, history_of, homes_from, put_out_of, text_of, world_opened}
use Rattle.mc_world.specs.declared.errors.Step.{Step}
use Rattle.mc_world.specs.declared.errors.Step.TheVariants.{Done, Nothing}
use Rattle.mc_world.specs.declared.errors.WorldError.{WorldError}
use Rattle.mc_world.specs.declared.events.Event.{Event}
use Rattle.mc_world.proofs.Course.DoneLemmas.{course_done, is_there}
use Rattle.mc_world.proofs.Course.HomeLemmas.{runs_homes}
use Rattle.mc_world.proofs.Course.JoinLemmas.{course_joins}
use Rattle.mc_world.proofs.Course.LearnLemmas.{course_learns}
use Rattle.mc_world.proofs.Course.RestartLemmas.{course_restarts}
use Rattle.mc_world.proofs.Course.RunLemmas.{course_accounts}
use Rattle.mc_world.proofs.SiteEvents.ServingLemmas.{pool_serves}
use Rattle.mc_world.proofs.Course.WorldOpeningLemmas.{course_opens, opening_losses}

-- one more event was tried
pub runs-more : (events : List (Event (List ℕ))) (event : Event (List ℕ)) (old mid new : CourseState) (n m : ℕ) → RunsTo events old mid n → IsTried event mid new m
    → RunsTo (events ++ event ∷ []) old new (n + m)
runs-more [] event old mid new n m runs tried =
    let none = runs.1 in
    (new, m, 0, subst (λ (c : CourseState). IsTried event c new m) runs.0 tried, (refl, refl), omega (arith, none))
runs-more (e ∷ es) event old mid new n m runs tried =
    let sum = runs.5 in
    (runs.0, runs.1, runs.2 + m, runs.3, runs-more es event runs.0 mid new runs.2 m runs.4 tried, omega (arith, sum))

-- a course that holds serves
pub course_serves : (ring : RingState) (opening : CacheState) (c : CourseState) → CourseHolds ring opening c → CourseServes c
course_serves ring opening c h = record {
  pool = pool_serves ring opening c h;
  clients = λ client session at. is_there ring opening c client session h at;
}

-- a step that was done, or changed nothing, keeps the invariant of a course
pub course_steps : (ring : RingState) (opening : CacheState) (event : Event (List ℕ)) (step : Step) (old new : CourseState) → CourseHolds ring opening old
    → Does step (IsDone event old new) (new ≡ old) → CourseHolds ring opening new
course_steps ring opening event Done old new h does = course_done ring opening event old new h does
course_steps ring opening event Nothing old new h does = subst (λ (c : CourseState). CourseHolds ring opening c) (sym does) h

-- a world that was just opened holds, and each that holds gives account
pub world_opens : (losses : Losses) (ring : RingState) (clients : List ℕ) (budget items : ℕ) → IsRing ring → IsWithinBounds budget items
    → WorldHolds (world_opened losses ring clients budget items)
world_opens losses ring clients budget items is_ring bounds = record {
  bounds = bounds;
  losses = opening_losses losses (opening_cache budget items 0) ring clients;
  course = course_opens losses ring clients budget items is_ring bounds.some_items;
}

pub world_accounts : (w : WorldState) → WorldHolds w → GivesAccount w
world_accounts w h = course_accounts w.losses w.opening (cache_of w) w.course h.course h.losses

-- the account of a world that was run since its opening has what it was opened with, and each client's proxy as its number gives it
pub run_accounts : (losses : Losses) (ring : RingState) (clients : List ℕ) (budget items : ℕ) (events : List (Event (List ℕ))) (old new : WorldState) (refusals : ℕ)
    → old ≡ world_opened losses ring clients budget items → RunsTo events old.course new.course refusals
    → (new.opening ≡ old.opening) × (new.budget ≡ old.budget) × (new.items ≡ old.items) × (new.losses ≡ old.losses) → GivesAccount new
    → Account (home_in (homes_from 0 clients)) losses ring (opening_cache budget items 0) (text_of new.course) (put_out_of new.course) (history_of new.course) new.course.log
run_accounts losses ring clients budget items events old new refusals opened runs same account =
    let course = new.course in
    let homes_are : new.course.pool.homes ≡ homes_from 0 clients =
    runs_homes events old.course new.course refusals runs ∙ ap (λ (w : WorldState). w.course.pool.homes) opened in
    let ring_is : new.opening ≡ ring = same.0 ∙ ap (λ (w : WorldState). w.opening) opened in
    let budget_is : new.budget ≡ budget = same.1 ∙ ap (λ (w : WorldState). w.budget) opened in
    let items_is : new.items ≡ items = same.2 ∙ ap (λ (w : WorldState). w.items) opened in
    let losses_are : new.losses ≡ losses = same.3 ∙ ap (λ (w : WorldState). w.losses) opened in
    subst (λ (homes : List ℕ). Account (home_in homes) losses ring (opening_cache budget items 0) (text_of course) (put_out_of course) (history_of course) course.log) homes_are
    (subst (λ (l : Losses). Account (home_of course.pool) l ring (opening_cache budget items 0) (text_of course) (put_out_of course) (history_of course) course.log) losses_are
    (subst (λ (r : RingState). Account (home_of course.pool) new.losses r (opening_cache budget items 0) (text_of course) (put_out_of course) (history_of course) course.log) ring_is
    (subst (λ (n : ℕ). Account (home_of course.pool) new.losses new.opening (opening_cache n items 0) (text_of course) (put_out_of course) (history_of course) course.log) budget_is
    (subst (λ (n : ℕ). Account (home_of course.pool) new.losses new.opening (opening_cache new.budget n 0) (text_of course) (put_out_of course) (history_of course) course.log) items_is
    account))))

-- after a step that may have been refused
pub course_stepped : (ring : RingState) (opening : CacheState) (event : Event (List ℕ)) (r : Result Step WorldError) (old new : CourseState) → CourseHolds ring opening old
    → IfOk r (λ step. Does step (IsDone event old new) (new ≡ old)) → OnErr r (new ≡ old) → CourseHolds ring opening new
course_stepped ring opening event (Ok step) old new h done refused = course_steps ring opening event step old new h done
course_stepped ring opening event (Err e) old new h done refused = subst (λ (c : CourseState). CourseHolds ring opening c) (sym refused) h

pub stepped : (event : Event (List ℕ)) (r : Result Step WorldError) (old new : CourseState) → IfOk r (λ step. Does step (IsDone event old new) (new ≡ old))
    → IfOk r (λ step. (step ≡ Done) ↔ Applies event old.pool) → IfOk r (λ step. StepsTo event step old new)
stepped event (Ok step) old new done applies = record { does = done; applies = applies }
stepped event (Err e) old new done applies = done

-- an answer whose error is mapped is the same answer
pub answer_mapped : (P : Step → Type 0) (Bad : WorldError → Type 0) (r mapped : Result Step WorldError) → MatchResult r (λ step. mapped ≡ Ok step) Bad → is_ok mapped ≡ is_ok r
    → IfOk r P → IfOk mapped P
answer_mapped P Bad (Ok step) mapped cases same told = subst (λ (m : Result Step WorldError). IfOk m P) (sym cases) told
answer_mapped P Bad (Err e) (Ok step) cases same told = absurd cc
answer_mapped P Bad (Err e) (Err other) cases same told = tt

-- after a join that may have been refused
pub course_joined : {T E : Type 0} (ring : RingState) (budget items proxy : ℕ) (address : List ℕ) (cache : CacheState) (r : Result T E) (old new : CourseState) → IsWithinBounds budget items
    → cache ≡ opening_cache budget items 0 → CourseHolds ring (opening_cache budget items 0) old → OnOk r (HasServerJoined proxy address cache old new) → OnErr r (new ≡ old)
    → CourseHolds ring (opening_cache budget items 0) new
course_joined ring budget items proxy address cache (Ok value) old new bounds opens h joined refused =
    course_joins ring (opening_cache budget items 0) proxy address old new (opening_is_good budget items 0 bounds.some_items (omega arith)) h
    (subst (λ (s : CacheState). HasServerJoined proxy address s old new) opens joined)
course_joined ring budget items proxy address cache (Err e) old new bounds opens h joined refused =
    subst (λ (c : CourseState). CourseHolds ring (opening_cache budget items 0) c) (sym refused) h

-- after a proxy has learned a server, or was refused
pub course_learned : {T E : Type 0} (ring : RingState) (opening : CacheState) (proxy : ℕ) (address : List ℕ) (r : Result T E) (old new : CourseState)
    → CourseHolds ring opening old → OnOk r (HasLearnedServer proxy address old new) → OnErr r (new ≡ old) → CourseHolds ring opening new
course_learned ring opening proxy address (Ok value) old new h learned refused = course_learns ring opening proxy address old new h learned
course_learned ring opening proxy address (Err e) old new h learned refused = subst (λ (c : CourseState). CourseHolds ring opening c) (sym refused) h

-- after a restart that may have been refused
pub course_restarted : {T E : Type 0} (ring : RingState) (budget items place : ℕ) (cache : CacheState) (r : Result T E) (old new : CourseState) → IsWithinBounds budget items
    → cache ≡ opening_cache budget items 0 → CourseHolds ring (opening_cache budget items 0) old → OnOk r (HasServerRestarted place cache old new) → OnErr r (new ≡ old)
    → CourseHolds ring (opening_cache budget items 0) new
course_restarted ring budget items place cache (Ok value) old new bounds opens h restarted refused =
    course_restarts ring (opening_cache budget items 0) place old new (opening_is_good budget items 0 bounds.some_items (omega arith)) h
    (subst (λ (s : CacheState). HasServerRestarted place s old new) opens restarted)
course_restarted ring budget items place cache (Err e) old new bounds opens h restarted refused =
    subst (λ (c : CourseState). CourseHolds ring (opening_cache budget items 0) c) (sym refused) h

-- what a step that was refused, and one that was not, count for
pub tried_in_vain : (event : Event (List ℕ)) (r : Result Step WorldError) (old new : WorldState) → is_err r ≡ true → OnErr r (new ≡ old) → IsTried event old.course new.course 1
tried_in_vain event (Ok step) old new refused same = absurd cc
tried_in_vain event (Err e) old new refused same = inr (ap (λ (w : WorldState). w.course) same, refl)

pub tried : (event : Event (List ℕ)) (r : Result Step WorldError) (old new : CourseState) → is_err r ≡ false → IfOk r (λ step. StepsTo event step old new) → IsTried event old new 0
tried event (Ok step) old new answered steps = inl (step, steps, refl)
tried event (Err e) old new answered steps = absurd cc

-- the first events and the next one
take-suc : (events : List (Event (List ℕ))) (i : ℕ) (event : Event (List ℕ)) → i < length events → event ≡ get_or events i event → take (suc i) events ≡ take i events ++ event ∷ []
take-suc [] i event inside is = absurd (omega (arith, inside))
take-suc (e ∷ es) zero event inside is = ap (λ (x : Event (List ℕ)). x ∷ []) (sym is)
take-suc (e ∷ es) (suc i) event inside is = ap (λ (xs : List (Event (List ℕ))). e ∷ xs) (take-suc es i event (omega (arith, inside)) is)

pub take-next : (events : List (Event (List ℕ))) (i : ℕ) (event : Event (List ℕ)) → i < length events → event ≡ get_or events i event → take (i + 1) events ≡ take i events ++ event ∷ []
take-next events i event inside is =
    let one : i + 1 ≡ suc i = omega arith in
    ap (λ (n : ℕ). take n events) one ∙ take-suc events i event inside is
