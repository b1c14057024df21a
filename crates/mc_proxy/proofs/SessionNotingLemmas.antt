-- An outcome is recorded at a place.
use Rattle.std.proofs.Common.{◌≡◌, ℕ, zero, suc, ◌-◌, ◌<◌, ◌≤◌, false, nat_lt, [], ◌∷◌, List, length, get_or, set, refl, arith}
use Rattle.std.proofs.lemmas.Bool.Decides.{nat_tests}
use Rattle.mc_link.specs.declared.turns.Tag.{Tag}
use Rattle.mc_route.specs.declared.outcomes.Outcome.{Outcome}
use Rattle.mc_proxy.specs.SessionState.{Unanswered, SessionState, answered}
use Rattle.mc_proxy.specs.SessionNoting.{set_outcome, set_outcome_in_session, set_outcome_of_request}

-- if there is no request at the place nothing changes
pub noted_outside : (place atom : ℕ) (outcome : Outcome) (all : List Unanswered) → length all ≤ place → set_outcome_of_request place atom outcome all ≡ all
noted_outside place atom outcome [] outside = refl
noted_outside zero atom outcome (open_one ∷ others) outside = absurd (omega arith)
noted_outside (suc place) atom outcome (open_one ∷ others) outside = rw (noted_outside place atom outcome others (omega arith)) refl

-- if there is one, only that changes
pub noted_inside : (place atom : ℕ) (outcome : Outcome) (all : List Unanswered) (own now : Unanswered) → place < length all
    → own ≡ get_or all place own → now ≡ record own { outcomes = set_outcome atom outcome own.outcomes }
    → set all place now ≡ set_outcome_of_request place atom outcome all
noted_inside place atom outcome [] own now inside is noted = absurd (omega arith)
noted_inside zero atom outcome (open_one ∷ others) own now inside is noted = rw (noted, is) refl
noted_inside (suc place) atom outcome (open_one ∷ others) own now inside is noted = rw (noted_inside place atom outcome others own now (omega arith) is noted) refl

-- in a session, by whether the request of the tag's number is answered, and whether it was taken
noted_from : (tag : Tag) (outcome : Outcome) (place : ℕ) (s : SessionState) (all : List Unanswered) → answered s ≤ tag.request → place ≡ tag.request - answered s
    → all ≡ set_outcome_of_request place tag.atom outcome s.unanswered → record s { unanswered = all } ≡ set_outcome_in_session tag outcome s
noted_from tag outcome place s all late at noted =
    let unanswered : nat_lt tag.request (answered s) ≡ false = grind (arith, nat_tests, late) in
    rw (unanswered, noted, at) refl

-- the request is at the place
pub noted_there : (tag : Tag) (outcome : Outcome) (place : ℕ) (s : SessionState) (own now : Unanswered) → answered s ≤ tag.request → place ≡ tag.request - answered s
    → place < length s.unanswered → own ≡ get_or s.unanswered place own → now ≡ record own { outcomes = set_outcome tag.atom outcome own.outcomes }
    → record s { unanswered = set s.unanswered place now } ≡ set_outcome_in_session tag outcome s
noted_there tag outcome place s own now late at inside is noted =
    noted_from tag outcome place s (set s.unanswered place now) late at (noted_inside place tag.atom outcome s.unanswered own now inside is noted)

-- no request is there
pub noted_nowhere : (tag : Tag) (outcome : Outcome) (place : ℕ) (s : SessionState) → answered s ≤ tag.request → place ≡ tag.request - answered s
    → length s.unanswered ≤ place → s ≡ set_outcome_in_session tag outcome s
noted_nowhere tag outcome place s late at outside =
    noted_from tag outcome place s s.unanswered late at (rw (noted_outside place tag.atom outcome s.unanswered outside) refl)
