-- Open sessions by their numbers, after the calls of a proxy.
use Rattle.std.proofs.Common.{◌≡◌, ◌≢◌, ◌∙◌, ℕ, ◌==◌, true, false, if◌then◌else◌, [], ◌∷◌, Option, Some, ⊎_elim, refl, sym, ap, subst, arith}
use Rattle.std.specs.Option.{option_map}
use Rattle.std.proofs.lemmas.Bool.Decides.{eqb_tells, nat_tests}
pub use Rattle.mc_table.proofs.NumberedEntryLemmas.{fresh_other, fresh_own, other_number, own_number, updated_other, updated_own, without_other}
use Rattle.mc_route.specs.declared.outcomes.Outcome.{Outcome}
use Rattle.mc_link.specs.declared.turns.Tag.{Tag}
use Rattle.mc_proxy.specs.SessionState.{SessionState}
use Rattle.mc_proxy.specs.SessionNoting.{set_outcome_in_session}
use Rattle.mc_proxy.specs.ProxyState.{Sessions, session_in, updated}
use Rattle.mc_proxy.specs.Noting.{noted}

-- the session in which an outcome is noted
pub noted_own : (tag : Tag) (outcome : Outcome) (open_ones : Sessions)
    → session_in (noted tag outcome open_ones) tag.session ≡ option_map (set_outcome_in_session tag outcome) (session_in open_ones tag.session)
noted_own tag outcome [] = refl
noted_own tag outcome (s ∷ others) =
    let again = noted_own tag outcome others in
    (elim (s.0 == tag.session) as (λ v. s.0 == tag.session ≡ v
    → session_in (if v then (s.0, set_outcome_in_session tag outcome s.1) ∷ others else s ∷ noted tag outcome others) tag.session
    ≡ option_map (set_outcome_in_session tag outcome) (if v then Some s.1 else session_in others tag.session)) [
      | true ↦ λ is. rw is refl
      | false ↦ λ is. rw is again
    ]) refl

-- the other sessions are as they were
pub noted_other : (tag : Tag) (outcome : Outcome) (other : ℕ) (open_ones : Sessions) → tag.session ≢ other
    → session_in (noted tag outcome open_ones) other ≡ session_in open_ones other
noted_other tag outcome other [] differ = refl
noted_other tag outcome other (s ∷ others) differ =
    let again = noted_other tag outcome other others differ in
    (elim (s.0 == tag.session) as (λ v. s.0 == tag.session ≡ v
    → session_in (if v then (s.0, set_outcome_in_session tag outcome s.1) ∷ others else s ∷ noted tag outcome others) other ≡ session_in (s ∷ others) other) [
      | true ↦ λ is. let another : (s.0 == other) ≡ false = grind (arith, nat_tests, differ, is) in rw another refl
      | false ↦ λ is. ap (λ (o : Option SessionState). if s.0 == other then Some s.1 else o) again
    ]) refl

-- a property of the session that took a step and of all others is one of each
pub at_each : (number : ℕ) (before after : SessionState) (old new : Sessions) → session_in old number ≡ Some before → new ≡ updated number after old
    → (P : ℕ → Option SessionState → Type 0) → P number (Some after) → ((other : ℕ) → number ≢ other → P other (session_in old other))
    → (m : ℕ) → P m (session_in new m)
at_each number before after old new was is P own others m =
    let now : session_in new number ≡ Some after = ap (λ (open_ones : Sessions). session_in open_ones number) is ∙ updated_own number before after old was in
    ⊎_elim (λ e. subst (λ (n : ℕ). P n (session_in new n)) e.1 (subst (λ (s : Option SessionState). P number s) (sym now) own))
    (λ e. let same : session_in new m ≡ session_in old m = ap (λ (open_ones : Sessions). session_in open_ones m) is ∙ updated_other number m after old e.1 in
    subst (λ (s : Option SessionState). P m s) (sym same) (others m e.1))
    (eqb_tells number m)
