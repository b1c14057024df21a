-- By which way the bytes and the turns of a generation go, and what holds of it.
use Rattle.std.proofs.Common.{◌≡◌, ◌∙◌, ◌↔◌, ⊎_elim, ℕ, ◌^◌, ◌<◌, inl, inr, true, List, Result, Ok, Err, IfOk, Some, slice_get, refl, sym, ap}
use Rattle.std.proofs.lemmas.Option.{same_Some}
use Rattle.mc_world.specs.Applies.{Lives, is_way}
use Rattle.mc_world.specs.Courses.{ByWay, Happens, HappensTo, clients_after}
use Rattle.mc_world.specs.Happens.{Does}
use Rattle.mc_world.specs.Logs.{Log}
use Rattle.mc_world.specs.Pools.{LateBytes, LateTurn, ReachesServer, ServerTakes}
use Rattle.mc_world.specs.WorldState.{PoolState, SiteState, way_by}
use Rattle.mc_world.specs.Worlds.{ClientState, CourseState}
use Rattle.mc_world.specs.declared.errors.Step.{Step}
use Rattle.mc_world.specs.declared.errors.Step.TheVariants.{Done, Nothing}
use Rattle.mc_world.specs.declared.errors.WorldError.{WorldError}
use Rattle.mc_world.specs.declared.events.Event.{Event}
use Rattle.mc_world.specs.declared.events.Event.TheVariants.{ServerTurn, ToServer}

abbrev pub course_of : PoolState → List ClientState → Log → CourseState
course_of pool clients log = record { pool = pool; clients = clients; log = log }

-- what a step or an answer promises, if each of its cases promises something else
pub done_as : (step : Step) (A B C D : Type 0) → (A → B) → (C → D) → Does step A C → Does step B D
done_as Done A B C D done rests told = done told
done_as Nothing A B C D done rests told = rests told

pub told_as : (r : Result Step WorldError) (A B C D : Type 0) → (A → B) → (C → D) → IfOk r (λ step. Does step A C) → IfOk r (λ step. Does step B D)
told_as (Ok Done) A B C D done rests told = done told
told_as (Ok Nothing) A B C D done rests told = rests told
told_as (Err e) A B C D done rests told = told

pub applies_as : (r : Result Step WorldError) (A B : Type 0) → (A → B) → (B → A) → IfOk r (λ step. (step ≡ Done) ↔ A) → IfOk r (λ step. (step ≡ Done) ↔ B)
applies_as (Ok step) A B to from told = (λ is. to (told.0 is), λ b. told.1 (from b))
applies_as (Err e) A B to from told = told

pub by_late : (proxy place generation : ℕ) (pool : PoolState) (living late : Type 0) → (Lives proxy place generation pool → ⊥) → ByWay proxy place generation pool living late → late
by_late proxy place generation pool living late dead way = ⊎_elim (λ own. absurd (dead own.0)) (λ lost. lost.1) way

own_generation : (proxy place generation : ℕ) (pool : PoolState) (site : SiteState) → Lives proxy place generation pool → slice_get pool.sites place ≡ Some site
    → (way_by site proxy).generation ≡ generation
own_generation proxy place generation pool site lives at = ap (λ (s : SiteState). (way_by s proxy).generation) (same_Some site lives.site (sym at ∙ lives.at)) ∙ lives.is

-- bytes of a living generation arrive at its server, or those of a lost one
pub living_bytes : (proxy server generation count : ℕ) (clients : List ClientState) (log : Log) (old new : PoolState) → Lives proxy server generation old → ReachesServer proxy server count old new
    → HappensTo (ToServer proxy server generation count) (course_of old clients log) (course_of new clients log)
living_bytes proxy server generation count clients log old new lives h =
    record { pool = inl (h, own_generation proxy server generation old h.there.site lives h.there.at); clients = refl; log = refl }

pub lost_bytes : (proxy server generation count : ℕ) (clients : List ClientState) (log : Log) (old new : PoolState) → (Lives proxy server generation old → ⊥)
    → ((i : ℕ) × (h : LateBytes server i count old new) × (is_way proxy generation h.arrives.way ≡ true))
    → HappensTo (ToServer proxy server generation count) (course_of old clients log) (course_of new clients log)
lost_bytes proxy server generation count clients log old new dead h = record { pool = inr (h.0, h.1, h.2, dead); clients = refl; log = refl }

-- likewise for a request that its server takes
pub living_turn : (proxy server generation moment : ℕ) (clients : List ClientState) (log : Log) (old new : PoolState) → moment < 2 ^ 63 → Lives proxy server generation old
    → ServerTakes proxy server moment old new → HappensTo (ServerTurn proxy server generation moment) (course_of old clients log) (course_of new clients log)
living_turn proxy server generation moment clients log old new fits lives h =
    record { pool = (fits, inl (h, own_generation proxy server generation old h.there.site lives h.there.at)); clients = refl; log = refl }

pub lost_turn : (proxy server generation moment : ℕ) (clients : List ClientState) (log : Log) (old new : PoolState) → moment < 2 ^ 63
    → (Lives proxy server generation old → ⊥) → ((i : ℕ) × (h : LateTurn server i moment old new) × (is_way proxy generation h.enters.way ≡ true))
    → HappensTo (ServerTurn proxy server generation moment) (course_of old clients log) (course_of new clients log)
lost_turn proxy server generation moment clients log old new fits dead h = record { pool = (fits, inr (h.0, h.1, h.2, dead)); clients = refl; log = refl }

-- what happens to the pool alone
pub happened : (event : Event (List ℕ)) (clients : List ClientState) (log : Log) (old new : PoolState) → clients_after event old clients ≡ clients → Happens event old new
    → HappensTo event (course_of old clients log) (course_of new clients log)
happened event clients log old new same happens = record { pool = happens; clients = sym same; log = refl }

pub rested : (clients : List ClientState) (log : Log) (old new : PoolState) → new ≡ old → course_of new clients log ≡ course_of old clients log
rested clients log old new same = ap (λ (p : PoolState). course_of p clients log) same
