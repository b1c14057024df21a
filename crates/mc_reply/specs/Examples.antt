-- What worked examples are written with.
use Rattle.std.specs.Prelude.{ℕ, List, [], ◌∷◌, codes, Some, None}
use Rattle.mc_text.specs.Words.{words}
use Rattle.mc_request.specs.Meanings.{Meaning, Alone, Stores, Refuses, meaning}
use Rattle.mc_request.specs.Requests.{stored}
use Rattle.mc_request.specs.declared.parts.Parsed.{Parsed}
use Rattle.mc_request.specs.declared.parts.Parsed.TheVariants.{Whole, Faulty}
use Rattle.mc_reply.specs.declared.replies.Marks.{Marks}
use Rattle.mc_reply.specs.declared.replies.Reply.{Reply}
use Rattle.mc_reply.specs.declared.replies.Reply.TheVariants.{Meta}
use Rattle.mc_reply.specs.Replies.{nothing_shown}
use Rattle.mc_reply.specs.Spelling.{answer}

-- what a line is taken as, with a data block of `x` if one follows
abbrev pub taken_with : Meaning → Parsed
taken_with (Alone taken) = taken
taken_with (Stores storing len) = Whole (stored storing (codes "x"))
taken_with (Refuses fault len) = Faulty fault

-- the answer to a line by the reply to its command
abbrev pub answer_to : List ℕ → Reply (List ℕ) → List ℕ
answer_to line reply = answer (taken_with (meaning (words line))) (reply ∷ [])

-- a meta command was done, and shows nothing
abbrev pub done : Reply (List ℕ)
done = Meta nothing_shown None

-- a meta command was done, and shows these marks
abbrev pub marked : Marks → Reply (List ℕ)
marked marks = Meta (record nothing_shown { marks = marks }) None

-- a meta command was done, and shows the number of its item and these marks
abbrev pub numbered : ℕ → Marks → Reply (List ℕ)
numbered cas marks = Meta (record nothing_shown { cas = Some cas; marks = marks }) None

-- the value `x` is shown, with these marks
abbrev pub shows_x : Marks → Reply (List ℕ)
shows_x marks = Meta (record nothing_shown { marks = marks }) (Some (codes "x"))
