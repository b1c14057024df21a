-- How an answer is emitted.
use Rattle.std.specs.Prelude.{ℕ, ◌+◌, ◌≡◌, Bool, true, false, List, [], ◌∷◌, ◌++◌, Option, Some, None, if◌then◌else◌}
use Rattle.std.specs.List.{list_all}
use Rattle.mc_request.specs.Faults.{fault_line}
use Rattle.mc_request.specs.declared.parts.Parsed.{Parsed}
use Rattle.mc_request.specs.declared.parts.Parsed.TheVariants.{Whole, Faulty}
use Rattle.mc_route.specs.Losses.{hides_loss, joined_with}
use Rattle.mc_route.specs.declared.losses.Losses.{Losses}
use Rattle.mc_route.specs.declared.outcomes.Outcome.{Outcome}
use Rattle.mc_route.specs.declared.outcomes.Outcome.TheVariants.{Awaited, Reply, Lost}
use Rattle.mc_proxy.specs.SessionState.{Unanswered, SessionState}
use Rattle.mc_proxy.specs.declared.session_turns.Emit.{Emit}
use Rattle.mc_proxy.specs.declared.session_turns.Emit.TheVariants.{Done, Idle}

-- whether the outcome of a command is known
abbrev pub is_noted : Outcome → Bool
is_noted Awaited = false
is_noted (Reply reply) = true
is_noted Lost = true

-- how many replies are pending
abbrev pub count_awaited : Outcome → ℕ
count_awaited outcome = if is_noted outcome then 0 else 1

abbrev pub awaited_in : List Outcome → ℕ
awaited_in [] = 0
awaited_in (outcome ∷ outcomes) = count_awaited outcome + awaited_in outcomes

-- the answer to what was taken, by the choice for lost commands and the outcomes of its commands
abbrev pub answer_by : Losses → Parsed → List Outcome → List ℕ
answer_by losses (Whole request) outcomes = joined_with losses request outcomes
answer_by losses (Faulty fault) outcomes = fault_line fault

-- whether the outcome of each of its commands is known
abbrev pub is_known : Unanswered → Bool
is_known open_one = list_all is_noted open_one.outcomes

-- the answer to a request that was taken
abbrev pub answer_of_one : Unanswered → List ℕ
answer_of_one open_one = answer_by open_one.losses open_one.what open_one.outcomes

-- whether a command of what was taken was lost, and its answer does not say so
abbrev pub hides_loss_by : Losses → Parsed → List Outcome → Bool
hides_loss_by losses (Whole request) outcomes = hides_loss losses request outcomes
hides_loss_by losses (Faulty fault) outcomes = false

abbrev pub hides_loss_of : Unanswered → Bool
hides_loss_of open_one = hides_loss_by open_one.losses open_one.what open_one.outcomes

-- whether a command of the oldest unanswered request was lost, and its answer does not say so
abbrev pub hides_loss_first : List Unanswered → Bool
hides_loss_first [] = false
hides_loss_first (open_one ∷ others) = hides_loss_of open_one

-- the session after its oldest unanswered request is answered, if it can be
abbrev pub emitted_from : SessionState → List Unanswered → Option SessionState
emitted_from session [] = None
emitted_from session (open_one ∷ others) =
    if is_known open_one then Some (record session { output = session.output ++ answer_of_one open_one; unanswered = others }) else None

abbrev pub emitted : SessionState → Option SessionState
emitted session = emitted_from session session.unanswered

-- what emitting one answer does to a session
abbrev pub IsEmit : Emit → SessionState → SessionState → Type 0
IsEmit Done before after = emitted before ≡ Some after
IsEmit Idle before after = (emitted before ≡ None) × (after ≡ before)
