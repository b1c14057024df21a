-- The bytes that were emitted to clients and not taken, when a pool goes on.
use Rattle.std.proofs.Common.{◌≡◌, ◌≢◌, ◌∙◌, ⊎_elim, ℕ, zero, suc, ◌-◌, ◌==◌, true, false, if◌then◌else◌, List, [], ◌∷◌, drop, Option, Some, None, refl, sym, ap, subst}
use Rattle.std.specs.Prelude.{nat_lt}
use Rattle.std.specs.Option.{option_map}
use Rattle.std.proofs.lemmas.Bool.Decides.{eqb_tells}
use Rattle.mc_route.specs.declared.outcomes.Outcome.{Outcome}
use Rattle.mc_route.specs.declared.outcomes.Outcome.TheVariants.{Lost}
use Rattle.mc_link.specs.LinkState.{LinkState, Waiting}
use Rattle.mc_link.specs.declared.turns.Tag.{Tag}
use Rattle.mc_proxy.specs.SessionNoting.{set_outcome_in_session, set_outcome_of_request}
use Rattle.mc_proxy.specs.SessionState.{SessionState, answered}
use Rattle.mc_proxy.specs.Noting.{all_lost, noted}
use Rattle.mc_proxy.specs.ProxyState.{ProxyState, Sessions, output_of, sent_by, session_at, session_in, updated, without}
use Rattle.mc_proxy.specs.Turns.{Steps}
use Rattle.mc_account.proofs.OpenSessions.{noted_other, noted_own, updated_other, updated_own, without_other}
use Rattle.mc_world.specs.Pools.{ProxiesStay, ProxyBecomes}
use Rattle.mc_world.specs.WorldState.{PoolState, home_of, proxy_at, session_of}
use Rattle.mc_world.proofs.PoolEvents.ProxyLemmas.{all_keep, home_becomes, session_stays}

-- the output of the session of a number
abbrev pub unsent : Sessions → ℕ → List ℕ
unsent sessions n = output_of (session_in sessions n)

-- a session that takes a step
pub unsent_own : (number : ℕ) (old new : ProxyState) (Step : List LinkState → List LinkState → SessionState → SessionState → Type 0) (h : Steps number old new Step)
    → session_at new number ≡ Some h.after
unsent_own number old new Step h = ap (λ (sessions : Sessions). session_in sessions number) h.is ∙ updated_own number h.before h.after old.sessions h.was

pub unsent_other : (number : ℕ) (old new : ProxyState) (Step : List LinkState → List LinkState → SessionState → SessionState → Type 0) (h : Steps number old new Step)
    → (n : ℕ) → number ≢ n → unsent new.sessions n ≡ unsent old.sessions n
unsent_other number old new Step h n differ =
    ap output_of (ap (λ (sessions : Sessions). session_in sessions n) h.is ∙ updated_other number n h.after old.sessions differ)

-- a step of a session that emits nothing
pub unsent_kept : (number : ℕ) (old new : ProxyState) (Step : List LinkState → List LinkState → SessionState → SessionState → Type 0) (h : Steps number old new Step)
    → h.after.output ≡ h.before.output → (n : ℕ) → unsent new.sessions n ≡ unsent old.sessions n
unsent_kept number old new Step h same n =
    ⊎_elim
    (λ e. subst (λ (m : ℕ). unsent new.sessions m ≡ unsent old.sessions m) e.1
    (ap output_of (unsent_own number old new Step h) ∙ same ∙ sym (ap output_of h.was)))
    (λ e. unsent_other number old new Step h n e.1)
    (eqb_tells number n)

-- a session in which an outcome is noted
noted-output : (tag : Tag) (outcome : Outcome) (s : Option SessionState) → output_of (option_map (set_outcome_in_session tag outcome) s) ≡ output_of s
noted-output tag outcome None = refl
noted-output tag outcome (Some s) =
    elim (nat_lt tag.request (answered s)) as (λ v.
    (if v then s else record s { unanswered = set_outcome_of_request (tag.request - answered s) tag.atom outcome s.unanswered }).output ≡ s.output) [
      | true ↦ refl
      | false ↦ refl
    ]

pub unsent_noted : (tag : Tag) (outcome : Outcome) (sessions : Sessions) (n : ℕ) → unsent (noted tag outcome sessions) n ≡ unsent sessions n
unsent_noted tag outcome sessions n =
    ⊎_elim
    (λ e. subst (λ (m : ℕ). unsent (noted tag outcome sessions) m ≡ unsent sessions m) e.1
    (ap output_of (noted_own tag outcome sessions) ∙ noted-output tag outcome (session_in sessions tag.session)))
    (λ e. ap output_of (noted_other tag outcome n sessions e.1))
    (eqb_tells tag.session n)

pub unsent_lost : (waiting : List Waiting) (sessions : Sessions) (n : ℕ) → unsent (all_lost waiting sessions) n ≡ unsent sessions n
unsent_lost [] sessions n = refl
unsent_lost (w ∷ ws) sessions n = unsent_lost ws (noted w.1 Lost sessions) n ∙ unsent_noted w.1 Lost sessions n

drop_none : (k : ℕ) → drop {A = ℕ} k [] ≡ []
drop_none zero = refl
drop_none (suc k) = refl

-- a client that takes bytes
pub unsent_sent : (client count : ℕ) (p : ProxyState) → unsent (sent_by client count (session_at p client) p).sessions client ≡ drop count (output_of (session_at p client))
unsent_sent client count p =
    (elim (session_at p client) as (λ o. session_at p client ≡ o → unsent (sent_by client count o p).sessions client ≡ drop count (output_of o)) [
      | None ↦ λ is. ap output_of is ∙ sym (drop_none count)
      | Some s ↦ λ is. ap output_of (updated_own client s (record s { output = drop count s.output }) p.sessions is)
    ]) refl

pub unsent_sent_other : (client count : ℕ) (p : ProxyState) (n : ℕ) → client ≢ n → unsent (sent_by client count (session_at p client) p).sessions n ≡ unsent p.sessions n
unsent_sent_other client count p n differ =
    elim (session_at p client) as (λ o. unsent (sent_by client count o p).sessions n ≡ unsent p.sessions n) [
      | None ↦ refl
      | Some s ↦ ap output_of (updated_other client n (record s { output = drop count s.output }) p.sessions differ)
    ]

-- a client that is gone
pub unsent_gone : (client : ℕ) (sessions : Sessions) (n : ℕ) → client ≢ n → unsent (without client sessions) n ≡ unsent sessions n
unsent_gone client sessions n differ = ap output_of (without_other client n sessions differ)

-- a client's output, if its proxy's stays when it is the one that changed; and if the proxies stay
pub out_stays : (proxy : ℕ) (now : ProxyState) (old new : PoolState) → ProxyBecomes proxy now old new → (n : ℕ) → unsent now.sessions n ≡ unsent (proxy_at old proxy).sessions n
    → output_of (session_of new n) ≡ output_of (session_of old n)
out_stays proxy now old new becomes n same =
    ap (λ (p : ℕ). output_of (session_at (proxy_at new p) n)) (home_becomes proxy now old new becomes n)
    ∙ all_keep (λ (p : ProxyState). output_of (session_at p n)) proxy now old new becomes same (home_of old n)

pub out_still : (old new : PoolState) → ProxiesStay old new → (n : ℕ) → output_of (session_of new n) ≡ output_of (session_of old n)
out_still old new stay n = ap output_of (session_stays n old new stay)

-- a client that takes all that was emitted, and then goes
pub without_updated : (client : ℕ) (after : SessionState) (sessions : Sessions) → without client (updated client after sessions) ≡ without client sessions
without_updated client after [] = refl
without_updated client after (x ∷ xs) =
    let again = without_updated client after xs in
    (elim (x.0 == client) as (λ v. x.0 == client ≡ v
    → without client (if v then (x.0, after) ∷ xs else x ∷ updated client after xs) ≡ (if v then xs else x ∷ without client xs)) [
      | true ↦ λ is. rw is refl
      | false ↦ λ is. rw is (ap (λ (others : Sessions). x ∷ others) again)
    ]) refl

pub sent_admitted : (client count : ℕ) (p : ProxyState) → (sent_by client count (session_at p client) p).admitted ≡ p.admitted
sent_admitted client count p =
    elim (session_at p client) as (λ o. (sent_by client count o p).admitted ≡ p.admitted) [
      | None ↦ refl
      | Some s ↦ refl
    ]
