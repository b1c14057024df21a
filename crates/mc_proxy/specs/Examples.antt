-- Abbreviations of the worked examples.
use Rattle.std.specs.Prelude.{ℕ, List, [], ◌∷◌, ◌++◌, codes, None}
use Rattle.mc_text.specs.Words.{words}
use Rattle.mc_request.specs.Meanings.{meaning}
use Rattle.mc_reply.specs.Examples.{taken_with}
use Rattle.mc_reply.specs.declared.replies.Reply.TheVariants.{Hit}
use Rattle.mc_route.specs.declared.losses.Losses.{Losses}
use Rattle.mc_route.specs.declared.outcomes.Outcome.{Outcome}
use Rattle.mc_route.specs.declared.outcomes.Outcome.TheVariants.{Lost, Reply}
use Rattle.mc_proxy.specs.Emits.{answer_of_one}
use Rattle.mc_proxy.specs.SessionState.{Unanswered}

-- a line that was taken, with this choice for its lost commands and these outcomes
abbrev pub asked : Losses → List ℕ → List Outcome → Unanswered
asked losses line outcomes = record { what = taken_with (meaning (words line)); losses = losses; outcomes = outcomes }

-- a store with `noreply` that was lost, and a get whose server replied
abbrev pub store_and_get : Losses → List Unanswered
store_and_get losses =
    asked losses (codes "set a 0 0 1 noreply") (Lost ∷ [])
    ∷ asked losses (codes "get b") (Reply (Hit 1 None (codes "x")) ∷ [])
    ∷ []

-- answers to requests, in their order
abbrev pub answers_in : List Unanswered → List ℕ
answers_in [] = []
answers_in (open_one ∷ others) = answer_of_one open_one ++ answers_in others
