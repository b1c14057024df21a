-- An answer by parts: what each reply adds to it.
use Rattle.std.specs.Prelude.{ℕ, ◌+◌, ◌==◌, if◌then◌else◌, List, [], ◌∷◌, ◌++◌, length, slice_index_or, Option, Some, None}
use Rattle.mc_request.specs.Hides.{hides_of}
use Rattle.mc_request.specs.declared.parts.Request.{Request}
use Rattle.mc_request.specs.declared.parts.Request.TheVariants.{Get, Update, Meta}
use Rattle.mc_reply.specs.declared.replies.Reply.{Reply}
use Rattle.mc_reply.specs.Spelling.{end_line, key_part, shown_line, shown_meta, meta_key, answer_of}

-- the end is after the part of the last key
abbrev pub end_after : List (List ℕ) → ℕ → List ℕ
end_after keys at = if at + 1 == length keys then end_line else []

-- what the reply to the command of this number adds to a request's answer; without a reply, the answer that the
-- request gets without replies
abbrev pub part_of : Request → ℕ → Option (Reply (List ℕ)) → List ℕ
part_of request at None = answer_of request []
part_of (Get keys exptime with_cas) at (Some reply) = key_part (slice_index_or keys at []) reply ++ end_after keys at
part_of (Update update noreply) at (Some reply) = shown_line (hides_of (Update update noreply)) reply
part_of (Meta command form) at (Some reply) = shown_meta (hides_of (Meta command form)) form (meta_key command) reply
part_of request at (Some reply) = []

-- the parts of the replies to the commands from this number on, joined in order
abbrev pub parts_from : Request → ℕ → List (Reply (List ℕ)) → List ℕ
parts_from request at [] = []
parts_from request at (reply ∷ replies) = part_of request at (Some reply) ++ parts_from request (at + 1) replies

-- all parts that the replies to a request's commands add
abbrev pub parts_of : Request → List (Reply (List ℕ)) → List ℕ
parts_of request [] = part_of request 0 None
parts_of request (reply ∷ replies) = parts_from request 0 (reply ∷ replies)
