-- The choice for lost commands stays, and the answers follow it.
use Rattle.std.proofs.Common.{◌≡◌, ◌∙◌, ℕ, zero, suc, ◌<◌, ◌==◌, inl, inr, Bool, true, false, if◌then◌else◌, List, [], ◌∷◌, ◌++◌, length, take, None, Some, Result, Ok, Err, IfOk, OnOk, OnErr, refl, ap, ap₂, arith}
use Rattle.std.specs.Prelude.{All}
use Rattle.std.proofs.lemmas.List.Elements.{All-cons, All-head, All-nil, All-tail}
use Rattle.mc_route.specs.declared.losses.Losses.{Losses}
use Rattle.mc_cache.specs.CacheState.{CacheState}
use Rattle.mc_proxy.specs.Emits.{answer_by}
use Rattle.mc_proxy.specs.ProxyState.{ProxyState, sent_by, session_at}
use Rattle.mc_account.specs.Orders.{HasChoice, Order, TakenRequest, answers_of, entries_of}
use Rattle.mc_world.specs.declared.events.Event.{Event}
use Rattle.mc_world.specs.declared.events.Event.TheVariants.{ClientBytes, ClientGone, ClientTakes, Emit, LinkBack, LinkLost, ProxyTurn, ReplyTurn, ServerSeesEnd, ServerTurn, ToProxy, ToServer}
use Rattle.mc_world.specs.Accounts.{answers_by}
use Rattle.mc_world.specs.Courses.{Happens, IsDone}
use Rattle.mc_world.specs.Happens.{Does}
use Rattle.mc_world.specs.Joins.{HasLearnedServer, HasServerJoined}
use Rattle.mc_world.specs.Pools.{ProxiesStay, ProxyBecomes}
use Rattle.mc_world.specs.Restarts.{AreCut, HasServerRestarted}
use Rattle.mc_world.specs.Runs.{Call, Calls, Join, Learn, Restart, Step}
use Rattle.mc_world.specs.WorldState.{PoolState, home_of, proxy_at, proxy_of}
use Rattle.mc_world.specs.Worlds.{CourseState}
use Rattle.mc_world.specs.declared.errors.Step.{Step as AStep}
use Rattle.mc_world.specs.declared.errors.Step.TheVariants.{Done, Nothing}
use Rattle.mc_world.specs.declared.errors.WorldError.{WorldError}
use Rattle.mc_world.proofs.PoolEvents.ProxyLemmas.{all_keep, proxies_count, proxy_stays}

-- bytes that a client takes
sent_losses : (client count : ℕ) (p : ProxyState) → (sent_by client count (session_at p client) p).losses ≡ p.losses
sent_losses client count p =
    elim (session_at p client) as (λ o. (sent_by client count o p).losses ≡ p.losses) [
      | None ↦ refl
      | Some s ↦ refl
    ]

-- as many proxies, each with the choice that it had
pub record KeepLosses (old new : PoolState) : Type 0 where
  pub proxies : length new.proxies ≡ length old.proxies
  pub losses : (proxy : ℕ) → (proxy_at new proxy).losses ≡ (proxy_at old proxy).losses

-- all have one choice, and so they still have it
abbrev pub HaveChoice : Losses → PoolState → Type 0
HaveChoice losses pool = (proxy : ℕ) → proxy < length pool.proxies → (proxy_at pool proxy).losses ≡ losses

pub choice_kept : (losses : Losses) (old new : PoolState) → KeepLosses old new → HaveChoice losses old → HaveChoice losses new
choice_kept losses old new kept one proxy inside = kept.losses proxy ∙ one proxy (omega (arith, inside, kept.proxies))

one_becomes : (proxy : ℕ) (now : ProxyState) (old new : PoolState) → ProxyBecomes proxy now old new → now.losses ≡ (proxy_at old proxy).losses → KeepLosses old new
one_becomes proxy now old new is same = record {
  proxies = proxies_count proxy now old new is;
  losses = all_keep (λ (p : ProxyState). p.losses) proxy now old new is same;
}

all_stay : (old new : PoolState) → ProxiesStay old new → KeepLosses old new
all_stay old new is = record {
  proxies = ap (λ (ps : List ProxyState). length ps) is.proxies;
  losses = λ other. ap (λ (p : ProxyState). p.losses) (proxy_stays old new is other);
}

pub losses_same : (old new : CourseState) → new ≡ old → KeepLosses old.pool new.pool
losses_same old new same = record {
  proxies = ap (λ (c : CourseState). length c.pool.proxies) same;
  losses = λ proxy. ap (λ (c : CourseState). (proxy_at c.pool proxy).losses) same;
}

pub losses_then : (old mid new : PoolState) → KeepLosses old mid → KeepLosses mid new → KeepLosses old new
losses_then old mid new f g = record { proxies = g.proxies ∙ f.proxies; losses = λ proxy. g.losses proxy ∙ f.losses proxy }

-- each event keeps the choices
pub happened_losses : (event : Event (List ℕ)) (old new : PoolState) → Happens event old new → KeepLosses old new
happened_losses (ClientBytes client bytes) old new h = one_becomes (home_of old client) h.1.now old new h.1.proxy h.1.steps.losses
happened_losses (ClientGone client) old new h = one_becomes (home_of old client) _ old new h.1.proxy refl
happened_losses (ProxyTurn client) old new h = one_becomes (home_of old client) h.now old new h.proxy h.steps.losses
happened_losses (ToServer proxy server generation count) old new h = elim h [
  | inl here ↦ one_becomes proxy _ old new here.0.proxy refl
  | inr late ↦ all_stay old new late.1.there.proxies
]
happened_losses (ServerTurn proxy server generation moment) old new h = elim h.1 [
  | inl here ↦ all_stay old new here.0.proxies
  | inr late ↦ all_stay old new late.1.there.proxies
]
happened_losses (ToProxy proxy server count) old new h = one_becomes proxy _ old new h.proxy refl
happened_losses (ReplyTurn proxy server) old new h = one_becomes proxy h.now old new h.proxy h.answers.losses
happened_losses (Emit client) old new h = one_becomes (home_of old client) h.now old new h.proxy h.steps.losses
happened_losses (ClientTakes client count) old new h = one_becomes (home_of old client) _ old new h.1.proxy (sent_losses client count (proxy_of old client))
happened_losses (LinkLost proxy server) old new h = one_becomes proxy _ old new h.proxy refl
happened_losses (LinkBack proxy server) old new h = one_becomes proxy _ old new h.proxy refl
happened_losses (ServerSeesEnd proxy server generation) old new h = all_stay old new h.1.there.proxies

-- a restart keeps them, and so do a join and a proxy that learns a server
cut_losses : (count place : ℕ) (old new : CourseState) → AreCut count place old new → KeepLosses old.pool new.pool
cut_losses zero place old new h = losses_same old new h
cut_losses (suc proxy) place old new h =
    losses_then old.pool h.0.pool new.pool (cut_losses proxy place old h.0 h.1) (elim h.2 [
      | inl lost ↦ happened_losses (LinkLost proxy place) h.0.pool new.pool lost.1.pool
      | inr still ↦ losses_same h.0 new still.1
    ])

restart_losses : (place : ℕ) (cache : CacheState) (old new : CourseState) → HasServerRestarted place cache old new → KeepLosses old.pool new.pool
restart_losses place cache old new h =
    losses_then old.pool h.cut.pool new.pool (cut_losses (length old.pool.proxies) place old h.cut h.loses) (all_stay h.cut.pool new.pool h.pool.proxies)

join_losses : (proxy : ℕ) (address : List ℕ) (cache : CacheState) (old new : CourseState) → HasServerJoined proxy address cache old new → KeepLosses old.pool new.pool
join_losses proxy address cache old new h = one_becomes proxy h.pool.now old.pool new.pool h.pool.proxies h.pool.joins.losses

learn_losses : (proxy : ℕ) (address : List ℕ) (old new : CourseState) → HasLearnedServer proxy address old new → KeepLosses old.pool new.pool
learn_losses proxy address old new h = one_becomes proxy h.pool.now old.pool new.pool h.pool.proxies h.pool.joins.losses

-- any list of calls keeps them, and so the choice of all
calls_keep : (opening : CacheState) (calls : List Call) (old new : CourseState) → Calls opening calls old new → KeepLosses old.pool new.pool
calls_keep opening [] old new run = losses_same old new run
calls_keep opening (Step event ∷ calls) old new run =
    losses_then old.pool run.0.pool new.pool (elim run.1 [
      | inl done ↦ happened_losses event old.pool run.0.pool done.pool
      | inr same ↦ losses_same old run.0 same
    ]) (calls_keep opening calls run.0 new run.2)
calls_keep opening (Join proxy address ∷ calls) old new run =
    losses_then old.pool run.0.pool new.pool (elim run.1 [
      | inl joined ↦ join_losses proxy address opening old run.0 joined
      | inr same ↦ losses_same old run.0 same
    ]) (calls_keep opening calls run.0 new run.2)
calls_keep opening (Learn proxy address ∷ calls) old new run =
    losses_then old.pool run.0.pool new.pool (elim run.1 [
      | inl learned ↦ learn_losses proxy address old run.0 learned
      | inr same ↦ losses_same old run.0 same
    ]) (calls_keep opening calls run.0 new run.2)
calls_keep opening (Restart place ∷ calls) old new run =
    losses_then old.pool run.0.pool new.pool (elim run.1 [
      | inl restarted ↦ restart_losses place opening old run.0 restarted
      | inr same ↦ losses_same old run.0 same
    ]) (calls_keep opening calls run.0 new run.2)

pub called_losses : (losses : Losses) (opening : CacheState) (calls : List Call) (old new : CourseState) → HaveChoice losses old.pool → Calls opening calls old new
    → HaveChoice losses new.pool
called_losses losses opening calls old new one run = choice_kept losses old.pool new.pool (calls_keep opening calls old new run) one

-- a step, a join, a proxy that learns a server, and a restart, which may have been refused, keep them
pub stepped_losses : (event : Event (List ℕ)) (r : Result AStep WorldError) (old new : CourseState) → IfOk r (λ step. Does step (IsDone event old new) (new ≡ old))
    → OnErr r (new ≡ old) → KeepLosses old.pool new.pool
stepped_losses event (Ok Done) old new done refused = happened_losses event old.pool new.pool done.pool
stepped_losses event (Ok Nothing) old new done refused = losses_same old new done
stepped_losses event (Err e) old new done refused = losses_same old new refused

pub joined_losses : {T E : Type 0} (proxy : ℕ) (address : List ℕ) (cache : CacheState) (r : Result T E) (old new : CourseState) → OnOk r (HasServerJoined proxy address cache old new)
    → OnErr r (new ≡ old) → KeepLosses old.pool new.pool
joined_losses proxy address cache (Ok value) old new joined refused = join_losses proxy address cache old new joined
joined_losses proxy address cache (Err e) old new joined refused = losses_same old new refused

pub learned_losses : {T E : Type 0} (proxy : ℕ) (address : List ℕ) (r : Result T E) (old new : CourseState) → OnOk r (HasLearnedServer proxy address old new)
    → OnErr r (new ≡ old) → KeepLosses old.pool new.pool
learned_losses proxy address (Ok value) old new learned refused = learn_losses proxy address old new learned
learned_losses proxy address (Err e) old new learned refused = losses_same old new refused

pub restarted_losses : {T E : Type 0} (place : ℕ) (cache : CacheState) (r : Result T E) (old new : CourseState) → OnOk r (HasServerRestarted place cache old new)
    → OnErr r (new ≡ old) → KeepLosses old.pool new.pool
restarted_losses place cache (Ok value) old new restarted refused = restart_losses place cache old new restarted
restarted_losses place cache (Err e) old new restarted refused = losses_same old new refused

-- the first requests of a client
own_chosen : (losses : Losses) (v : Bool) (e : TakenRequest) (mine : Order) → HasChoice losses e → All (HasChoice losses) mine → All (HasChoice losses) (if v then e ∷ mine else mine)
own_chosen losses true e mine own all = All-cons (HasChoice losses) e mine own all
own_chosen losses false e mine own all = all

mine_chosen : (losses : Losses) (client : ℕ) (order : Order) → All (HasChoice losses) order → All (HasChoice losses) (entries_of client order)
mine_chosen losses client [] all = All-nil (HasChoice losses)
mine_chosen losses client (e ∷ es) all =
    own_chosen losses (e.session == client) e (entries_of client es) (All-head (HasChoice losses) e es all)
    (mine_chosen losses client es (All-tail (HasChoice losses) e es all))

first_chosen : (losses : Losses) (n : ℕ) (es : Order) → All (HasChoice losses) es → All (HasChoice losses) (take n es)
first_chosen losses zero [] all = All-nil (HasChoice losses)
first_chosen losses zero (e ∷ es) all = All-nil (HasChoice losses)
first_chosen losses (suc n) [] all = All-nil (HasChoice losses)
first_chosen losses (suc n) (e ∷ es) all =
    All-cons (HasChoice losses) e (take n es) (All-head (HasChoice losses) e es all) (first_chosen losses n es (All-tail (HasChoice losses) e es all))

-- their answers
chosen_answers : (losses : Losses) (es : Order) → All (HasChoice losses) es → answers_of es ≡ answers_by losses es
chosen_answers losses [] all = refl
chosen_answers losses (e ∷ es) all =
    ap₂ (λ (one more : List ℕ). one ++ more) (ap (λ (l : Losses). answer_by l e.what e.outcomes) (All-head (HasChoice losses) e es all))
    (chosen_answers losses es (All-tail (HasChoice losses) e es all))

pub answers_chosen : (losses : Losses) (client n : ℕ) (order : Order) → All (HasChoice losses) order
    → answers_of (take n (entries_of client order)) ≡ answers_by losses (take n (entries_of client order))
answers_chosen losses client n order all =
    chosen_answers losses (take n (entries_of client order)) (first_chosen losses n (entries_of client order) (mine_chosen losses client order all))
