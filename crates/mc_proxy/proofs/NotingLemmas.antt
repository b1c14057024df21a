-- Outcomes of commands, recorded.
use Rattle.std.proofs.Common.{◌≡◌, ◌==◌, true, false, if◌then◌else◌, List, [], ◌∷◌, length, None, Some, refl, ap, arith}
use Rattle.mc_route.specs.declared.outcomes.Outcome.{Outcome}
use Rattle.mc_link.specs.LinkState.{Waiting}
use Rattle.mc_link.specs.declared.turns.Tag.{Tag}
use Rattle.mc_proxy.specs.SessionState.{SessionState}
use Rattle.mc_proxy.specs.SessionNoting.{set_outcome_in_session}
use Rattle.mc_proxy.specs.ProxyState.{ProxyState, Sessions, session_in, updated}
use Rattle.mc_proxy.specs.Noting.{noted, all_lost}

-- the session of a command is updated
pub noted_open : (tag : Tag) (outcome : Outcome) (before : SessionState) (cs : Sessions) → session_in cs tag.session ≡ Some before
    → noted tag outcome cs ≡ updated tag.session (set_outcome_in_session tag outcome before) cs
noted_open tag outcome before [] was = absurd cc
noted_open tag outcome before (c ∷ cs) was =
    let again = noted_open tag outcome before cs in
    (elim (c.0 == tag.session) as (λ v. (if v then Some c.1 else session_in cs tag.session) ≡ Some before
    → (if v then (c.0, set_outcome_in_session tag outcome c.1) ∷ cs else c ∷ noted tag outcome cs)
    ≡ (if v then (c.0, set_outcome_in_session tag outcome before) ∷ cs else c ∷ updated tag.session (set_outcome_in_session tag outcome before) cs)) [
      | true ↦ λ e. let own : c.1 ≡ before = cc in ap (λ (s : SessionState). (c.0, set_outcome_in_session tag outcome s) ∷ cs) own
      | false ↦ λ e. ap (λ (others : Sessions). c ∷ others) (again e)
    ]) was

-- the session of a command is gone
pub noted_gone : (tag : Tag) (outcome : Outcome) (cs : Sessions) → session_in cs tag.session ≡ None → noted tag outcome cs ≡ cs
noted_gone tag outcome [] none = refl
noted_gone tag outcome (c ∷ cs) none =
    let again = noted_gone tag outcome cs in
    (elim (c.0 == tag.session) as (λ v. (if v then Some c.1 else session_in cs tag.session) ≡ None
    → (if v then (c.0, set_outcome_in_session tag outcome c.1) ∷ cs else c ∷ noted tag outcome cs) ≡ c ∷ cs) [
      | true ↦ λ e. absurd cc
      | false ↦ λ e. ap (λ (others : Sessions). c ∷ others) (again e)
    ]) none

-- nothing is left to lose
pub all_lost-none : (waiting : List Waiting) (cs : Sessions) → length waiting ≡ 0 → all_lost waiting cs ≡ cs
all_lost-none [] cs none = refl
all_lost-none (first ∷ others) cs none = absurd (omega (arith, none))

-- two proxies are the same if each part is
pub same_proxy : (p q : ProxyState) → p.losses ≡ q.losses → p.ring ≡ q.ring → p.sessions ≡ q.sessions → p.admitted ≡ q.admitted → p.links ≡ q.links → p ≡ q
same_proxy p q losses ring sessions admitted links = λ i. record { losses = losses i; ring = ring i; sessions = sessions i; admitted = admitted i; links = links i }
