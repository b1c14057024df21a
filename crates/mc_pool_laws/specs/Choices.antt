-- What an answer shows by the choice for lost commands. All of it is this project's own.
use Rattle.std.specs.Prelude.{ℕ, ◌≡◌, ◌⊎◌, suc, List, [], ◌∷◌, ◌++◌, Option}
use Rattle.mc_reply.specs.Spelling.{key_part, spelling_of}
use Rattle.mc_reply.specs.declared.replies.Reply.{Reply}
use Rattle.mc_reply.specs.declared.replies.Reply.TheVariants.{Hit}
use Rattle.mc_route.specs.declared.routes.Routed.{Routed}
use Rattle.mc_link.specs.declared.turns.Tag.{Tag}
use Rattle.mc_proxy.specs.Sending.{tag_of}
use Rattle.mc_history.specs.declared.entries.Entry.{Entry}
use Rattle.mc_history.specs.Histories.{HasReply}

-- an item that is shown for a key is the one in its server's reply, as its history has it
pub record ShowsReply (histories : ℕ → List Entry) (tag : Tag) (command : Routed) (key block : List ℕ) : Type 0 where
  pub flags : ℕ
  pub cas : Option ℕ
  pub value : List ℕ
  pub shown : block ≡ key_part key (Hit flags cas value)
  pub replied : HasReply (histories command.server) tag (spelling_of command.atom (Hit flags cas value))

-- for each key of a retrieval nothing is shown, or such an item; the first key has the command of this
-- number
abbrev pub ShowReplies : (ℕ → List Entry) → ℕ → ℕ → ℕ → List Routed → List (List ℕ) → List ℕ → Type 0
ShowReplies histories client request at [] keys shown = shown ≡ []
ShowReplies histories client request at (command ∷ commands) [] shown = shown ≡ []
ShowReplies histories client request at (command ∷ commands) (key ∷ keys) shown =
    (block : List ℕ) × (others : List ℕ) × (shown ≡ block ++ others)
    × ((block ≡ []) ⊎ ShowsReply histories (tag_of client request at) command key block)
    × ShowReplies histories client request (suc at) commands keys others

-- each of these commands has a reply, as its server's history has it; the first of them has this number
abbrev pub HaveReplies : (ℕ → List Entry) → ℕ → ℕ → ℕ → List Routed → List (Reply (List ℕ)) → Type 0
HaveReplies histories client request at [] [] = Unit {0}
HaveReplies histories client request at [] (reply ∷ replies) = ⊥
HaveReplies histories client request at (command ∷ commands) [] = ⊥
HaveReplies histories client request at (command ∷ commands) (reply ∷ replies) =
    HasReply (histories command.server) (tag_of client request at) (spelling_of command.atom reply)
    × HaveReplies histories client request (suc at) commands replies
