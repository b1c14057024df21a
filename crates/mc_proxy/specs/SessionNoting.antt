-- The outcome of a command is recorded under its tag.
use Rattle.std.specs.Prelude.{ℕ, ◌-◌, nat_lt, List, [], ◌∷◌, zero, suc, if◌then◌else◌}
use Rattle.mc_route.specs.declared.outcomes.Outcome.{Outcome}
use Rattle.mc_link.specs.declared.turns.Tag.{Tag}
use Rattle.mc_proxy.specs.SessionState.{Unanswered, SessionState, answered}

-- the outcomes, with this one for the command of a number, if there is such a command
abbrev pub set_outcome : ℕ → Outcome → List Outcome → List Outcome
set_outcome at outcome [] = []
set_outcome zero outcome (slot ∷ slots) = outcome ∷ slots
set_outcome (suc at) outcome (slot ∷ slots) = slot ∷ set_outcome at outcome slots

-- likewise in the unanswered request at a place
abbrev pub set_outcome_of_request : ℕ → ℕ → Outcome → List Unanswered → List Unanswered
set_outcome_of_request place atom outcome [] = []
set_outcome_of_request zero atom outcome (open_one ∷ others) = record open_one { outcomes = set_outcome atom outcome open_one.outcomes } ∷ others
set_outcome_of_request (suc place) atom outcome (open_one ∷ others) = open_one ∷ set_outcome_of_request place atom outcome others

-- likewise in a session; a request that is answered is no longer there
abbrev pub set_outcome_in_session : Tag → Outcome → SessionState → SessionState
set_outcome_in_session tag outcome session =
    if nat_lt tag.request (answered session) then session
    else record session { unanswered = set_outcome_of_request (tag.request - answered session) tag.atom outcome session.unanswered }
