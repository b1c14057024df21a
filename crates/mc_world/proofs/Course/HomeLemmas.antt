-- The proxy of each client stays, whatever is done.
use Rattle.std.proofs.Common.{◌≡◌, ◌∙◌, ℕ, zero, suc, inl, inr, List, [], ◌∷◌, ap}
use Rattle.mc_cache.specs.CacheState.{CacheState}
use Rattle.mc_world.specs.declared.events.Event.{Event}
use Rattle.mc_world.specs.declared.events.Event.TheVariants.{ClientBytes, ClientGone, ClientTakes, Emit, LinkBack, LinkLost, ProxyTurn, ReplyTurn, ServerSeesEnd, ServerTurn, ToProxy, ToServer}
use Rattle.mc_world.specs.declared.errors.Step.{Step as AStep}
use Rattle.mc_world.specs.declared.errors.Step.TheVariants.{Done, Nothing}
use Rattle.mc_world.specs.Courses.{Happens, IsDone}
use Rattle.mc_world.specs.Happens.{Does}
use Rattle.mc_world.specs.Restarts.{AreCut}
use Rattle.mc_world.specs.Runs.{Call, Calls, Join, Learn, Restart, Step}
use Rattle.mc_world.specs.Steps.{IsTried, RunsTo}
use Rattle.mc_world.specs.WorldState.{PoolState}
use Rattle.mc_world.specs.Worlds.{CourseState}

-- each event keeps the clients' proxies
happened_homes : (event : Event (List ℕ)) (old new : PoolState) → Happens event old new → new.homes ≡ old.homes
happened_homes (ClientBytes client bytes) old new h = h.1.proxy.homes
happened_homes (ClientGone client) old new h = h.1.proxy.homes
happened_homes (ProxyTurn client) old new h = h.proxy.homes
happened_homes (ToServer proxy server generation count) old new h = elim h [
  | inl here ↦ here.0.proxy.homes
  | inr late ↦ late.1.there.proxies.homes
]
happened_homes (ServerTurn proxy server generation moment) old new h = elim h.1 [
  | inl here ↦ here.0.proxies.homes
  | inr late ↦ late.1.there.proxies.homes
]
happened_homes (ToProxy proxy server count) old new h = h.proxy.homes
happened_homes (ReplyTurn proxy server) old new h = h.proxy.homes
happened_homes (Emit client) old new h = h.proxy.homes
happened_homes (ClientTakes client count) old new h = h.1.proxy.homes
happened_homes (LinkLost proxy server) old new h = h.proxy.homes
happened_homes (LinkBack proxy server) old new h = h.proxy.homes
happened_homes (ServerSeesEnd proxy server generation) old new h = h.1.there.proxies.homes

same_homes : (old new : CourseState) → new ≡ old → new.pool.homes ≡ old.pool.homes
same_homes old new same = ap (λ (c : CourseState). c.pool.homes) same

-- links that are lost before a restart keep them
cut_homes : (count place : ℕ) (old new : CourseState) → AreCut count place old new → new.pool.homes ≡ old.pool.homes
cut_homes zero place old new h = same_homes old new h
cut_homes (suc proxy) place old new h =
    (elim h.2 [
      | inl lost ↦ happened_homes (LinkLost proxy place) h.0.pool new.pool lost.1.pool
      | inr still ↦ same_homes h.0 new still.1
    ]) ∙ cut_homes proxy place old h.0 h.1

-- any list of calls keeps them
pub calls_homes : (opening : CacheState) (calls : List Call) (old new : CourseState) → Calls opening calls old new → new.pool.homes ≡ old.pool.homes
calls_homes opening [] old new run = same_homes old new run
calls_homes opening (Step event ∷ calls) old new run =
    calls_homes opening calls run.0 new run.2 ∙ (elim run.1 [
      | inl done ↦ happened_homes event old.pool run.0.pool done.pool
      | inr same ↦ same_homes old run.0 same
    ])
calls_homes opening (Join proxy address ∷ calls) old new run =
    calls_homes opening calls run.0 new run.2 ∙ (elim run.1 [
      | inl joined ↦ joined.pool.proxies.homes
      | inr same ↦ same_homes old run.0 same
    ])
calls_homes opening (Learn proxy address ∷ calls) old new run =
    calls_homes opening calls run.0 new run.2 ∙ (elim run.1 [
      | inl learned ↦ learned.pool.proxies.homes
      | inr same ↦ same_homes old run.0 same
    ])
calls_homes opening (Restart place ∷ calls) old new run =
    calls_homes opening calls run.0 new run.2 ∙ (elim run.1 [
      | inl restarted ↦ restarted.pool.proxies.homes ∙ cut_homes _ place old restarted.cut restarted.loses
      | inr same ↦ same_homes old run.0 same
    ])

-- events that are tried in sequence keep them
step_homes : (event : Event (List ℕ)) (step : AStep) (old new : CourseState) → Does step (IsDone event old new) (new ≡ old) → new.pool.homes ≡ old.pool.homes
step_homes event Done old new does = happened_homes event old.pool new.pool does.pool
step_homes event Nothing old new does = same_homes old new does

tried_homes : (event : Event (List ℕ)) (old new : CourseState) (refusals : ℕ) → IsTried event old new refusals → new.pool.homes ≡ old.pool.homes
tried_homes event old new refusals h = elim h [
  | inl answered ↦ step_homes event answered.0 old new answered.1.does
  | inr refused ↦ same_homes old new refused.0
]

pub runs_homes : (events : List (Event (List ℕ))) (old new : CourseState) (refusals : ℕ) → RunsTo events old new refusals → new.pool.homes ≡ old.pool.homes
runs_homes [] old new refusals run = same_homes old new run.0
runs_homes (event ∷ events) old new refusals run = runs_homes events run.0 new run.2 run.4 ∙ tried_homes event old run.0 run.1 run.3
