-- Steps of a session: the state after them, and those that change nothing.
use Rattle.std.proofs.Common.{◌≡◌, ◌∙◌, ℕ, List, drop, Option, Some, ap}
use Rattle.mc_table.proofs.NumberedEntryLemmas.{updated_own, updated_same}
use Rattle.mc_link.specs.LinkState.{LinkState}
use Rattle.mc_proxy.specs.SessionState.{SessionState}
use Rattle.mc_proxy.specs.ProxyState.{ProxyState, Sessions, sent_by, session_at, session_in, updated}
use Rattle.mc_proxy.specs.Turns.{Steps}
use Rattle.mc_proxy.proofs.NotingLemmas.{same_proxy}

-- the session after a step
pub steps_at : (number : ℕ) (old new : ProxyState) (Step : List LinkState → List LinkState → SessionState → SessionState → Type 0) (h : Steps number old new Step)
    → session_at new number ≡ Some h.after
steps_at number old new Step h = ap (λ (sessions : Sessions). session_in sessions number) h.is ∙ updated_own number h.before h.after old.sessions h.was

-- a step that changes nothing
pub steps_still : (number : ℕ) (old new : ProxyState) (Step : List LinkState → List LinkState → SessionState → SessionState → Type 0) (h : Steps number old new Step)
    → h.after ≡ h.before → new.links ≡ old.links → new ≡ old
steps_still number old new Step h same links =
    same_proxy new old h.losses h.ring
    (h.is ∙ ap (λ (s : SessionState). updated number s old.sessions) same ∙ updated_same number h.before old.sessions h.was)
    h.admitted links

-- a session that has sent some of its output
pub sent_at : (number count : ℕ) (s : SessionState) (old new : ProxyState) → session_at old number ≡ Some s → new ≡ sent_by number count (session_at old number) old
    → session_at new number ≡ Some (record s { output = drop count s.output })
sent_at number count s old new was is =
    ap (λ (p : ProxyState). session_at p number) is
    ∙ ap (λ (o : Option SessionState). session_at (sent_by number count o old) number) was
    ∙ updated_own number s (record s { output = drop count s.output }) old.sessions was
