-- Calls of a proxy that change nothing.
use Rattle.std.proofs.Common.{◌≡◌, ◌≢◌, ◌∙◌, ℕ, ◌==◌, true, false, if◌then◌else◌, List, [], ◌∷◌, Some, refl, sym, ap}
use Rattle.mc_link.specs.LinkState.{LinkState}
use Rattle.mc_proxy.specs.Emits.{IsEmit}
use Rattle.mc_proxy.specs.SessionState.{SessionState}
use Rattle.mc_proxy.specs.SessionTurns.{IsTurn}
use Rattle.mc_proxy.specs.declared.session_turns.Emit.{Emit}
use Rattle.mc_proxy.specs.declared.session_turns.Emit.TheVariants as emits
use Rattle.mc_proxy.specs.declared.session_turns.SessionTurn.{SessionTurn}
use Rattle.mc_proxy.specs.declared.session_turns.SessionTurn.TheVariants as turns
use Rattle.mc_proxy.specs.ProxyState.{ProxyState, Sessions, session_in, updated}
use Rattle.mc_proxy.specs.Turns.{Alone, Steps}
use Rattle.mc_proxy.proofs.NotingLemmas.{same_proxy}
use Rattle.mc_world.specs.WorldState.{SiteState, proxy_in, with_proxy}
use Rattle.mc_world.proofs.PoolEvents.AppliesLemmas.{pool_of}
use Rattle.mc_world.proofs.PoolEvents.ProxyLemmas.{set_same}

-- a session that stays what it was
updated-same : (number : ℕ) (s : SessionState) (sessions : Sessions) → session_in sessions number ≡ Some s → updated number s sessions ≡ sessions
updated-same number s [] was = absurd cc
updated-same number s (x ∷ xs) was =
    let again = updated-same number s xs in
    (elim (x.0 == number) as (λ v. (if v then Some x.1 else session_in xs number) ≡ Some s → (if v then (x.0, s) ∷ xs else x ∷ updated number s xs) ≡ x ∷ xs) [
      | true ↦ λ e. let same : x.1 ≡ s = cc in rw (sym same) refl
      | false ↦ λ e. ap (λ (others : Sessions). x ∷ others) (again e)
    ]) was

-- a step that changes nothing
steps_still : (number : ℕ) (old new : ProxyState) (Step : List LinkState → List LinkState → SessionState → SessionState → Type 0) (h : Steps number old new Step)
    → h.after ≡ h.before → new.links ≡ old.links → new ≡ old
steps_still number old new Step h same links =
    same_proxy new old h.losses h.ring
    (h.is ∙ ap (λ (s : SessionState). updated number s old.sessions) same ∙ updated-same number h.before old.sessions h.was)
    h.admitted links

pub turn_still : (number : ℕ) (turn : SessionTurn) (old new : ProxyState) → turn ≢ turns.Took → Steps number old new (IsTurn number turn old.ring old.losses) → new ≡ old
turn_still number turns.Took old new differ h = absurd (differ refl)
turn_still number turns.Idle old new differ h = steps_still number old new (IsTurn number turns.Idle old.ring old.losses) h h.step.1.1 h.step.1.0
turn_still number turns.Waiting old new differ h = steps_still number old new (IsTurn number turns.Waiting old.ring old.losses) h h.step.1.1 h.step.1.0
turn_still number turns.Closing old new differ h = steps_still number old new (IsTurn number turns.Closing old.ring old.losses) h h.step.1.1 h.step.1.0

pub emit_still : (number : ℕ) (emit : Emit) (old new : ProxyState) → emit ≢ emits.Done → Steps number old new (Alone (IsEmit emit)) → new ≡ old
emit_still number emits.Done old new differ h = absurd (differ refl)
emit_still number emits.Idle old new differ h = steps_still number old new (Alone (IsEmit emits.Idle)) h h.step.1.1 h.step.0

pub same_pool : (proxy : ℕ) (homes : List ℕ) (proxies proxies' : List ProxyState) (sites : List SiteState) (now : ProxyState) → proxies' ≡ with_proxy proxy now proxies
    → now ≡ proxy_in proxies proxy → pool_of homes proxies' sites ≡ pool_of homes proxies sites
same_pool proxy homes proxies proxies' sites now is same =
    ap (λ (ps : List ProxyState). pool_of homes ps sites) (is ∙ ap (λ (p : ProxyState). with_proxy proxy p proxies) same ∙ set_same proxy proxies)
