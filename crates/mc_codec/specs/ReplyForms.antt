-- The forms of the replies to classic commands.
use Rattle.std.specs.Prelude.{ℕ, Bool, List, Option, codes}
use Rattle.std.specs.Option.{is_some}
use Rattle.mc_text.specs.declared.blocks.TheConstants.{VALUE_LIMIT}
use Rattle.mc_text.specs.Forms.{Form, Done, Text, Number, Block, Or, or_if, number_if}
use Rattle.mc_request.specs.declared.faults.Fault.TheVariants.{NonNumeric, TooLarge, CasUsedUp, OutOfMemory}
use Rattle.mc_request.specs.declared.parts.Update.{Update}
use Rattle.mc_request.specs.declared.parts.Update.TheVariants as updates
use Rattle.mc_reply.specs.declared.replies.Reply.{Reply}
use Rattle.mc_reply.specs.declared.replies.Reply.TheVariants as replies
use Rattle.mc_reply.specs.CanHave.{is_conditional}
use Rattle.mc_reply.specs.Spelling.{end_line, reply_line}
use Rattle.mc_codec.specs.declared.limits.TheConstants.{FLAGS_LIMIT, NUMBER_LIMIT}

-- a reply with the bytes of its value
abbrev pub Answer : Type 0
Answer = Reply (List ℕ)

-- a line that is the same whatever is stored
abbrev pub line : List ℕ → Answer → Form Answer
line text reply = Text text (Done reply)

-- the line of a reply by itself: source protocol.txt, each command's section
abbrev pub update_line : Answer → Form Answer
update_line reply = line (reply_line reply) reply

-- why a store is refused: source protocol.txt, "Error strings"; the lines are this project's own
abbrev pub store_faults : Form Answer
store_faults = Or (update_line (replies.Fault TooLarge)) (Or (update_line (replies.Fault CasUsedUp)) (update_line (replies.Fault OutOfMemory)))

-- why a count is refused
abbrev pub count_faults : Form Answer
count_faults = Or (update_line (replies.Fault NonNumeric)) store_faults

-- the replies to a store that stores nothing because of the number that it compares, or because of an error
abbrev pub compared_form : Bool → Form Answer
compared_form compares = or_if compares (Or (update_line replies.Exists) (update_line replies.NotFound)) store_faults

-- the replies to a store: source protocol.txt, "Storage commands"
abbrev pub store_form : Bool → Bool → Form Answer
store_form conditional compares =
    Or (update_line replies.Stored) (or_if conditional (update_line replies.NotStored) (compared_form compares))

-- a number and the end of its line: source protocol.txt, "Increment/Decrement"
abbrev pub number_end : ℕ → Form Answer
number_end n = Text (codes "\r\n") (Done (replies.Number n))

abbrev pub number_line : Form Answer
number_line = Number NUMBER_LIMIT number_end

-- the replies to a count
abbrev pub count_form : Form Answer
count_form = Or number_line (Or (update_line replies.NotFound) count_faults)

-- the replies to a classic update: source protocol.txt, each command's section
abbrev pub update_form : {K B : Type 0} → Update K B → Form Answer
update_form (updates.Store mode compare key flags exptime block) = store_form (is_conditional mode) (is_some compare)
update_form (updates.Touch key exptime) = Or (update_line replies.Touched) (update_line replies.NotFound)
update_form (updates.Delete key compare invalidate) = Or (update_line replies.Deleted) (update_line replies.NotFound)
update_form (updates.Count key counting) = count_form
update_form (updates.FlushAll delay) = update_line replies.Flushed

-- the value of a hit, and the end of the answer
abbrev pub hit_value : ℕ → ℕ → Option ℕ → Form Answer
hit_value flags size cas = Text (codes "\r\n") (Block size (λ value. Text (codes "\r\nEND\r\n") (Done (replies.Hit flags cas value))))

-- the size of a hit's value, the item's number if it is asked for, and the value
abbrev pub hit_size : Bool → ℕ → Form Answer
hit_size with_cas flags = Text (codes " ") (Number VALUE_LIMIT (λ size. number_if with_cas (codes " ") NUMBER_LIMIT (hit_value flags size)))

-- a hit under a key: source protocol.txt, "Retrieval command"
abbrev pub hit : List ℕ → Bool → Form Answer
hit key with_cas = Text (codes "VALUE ") (Text key (Text (codes " ") (Number FLAGS_LIMIT (hit_size with_cas))))

-- the replies to a retrieval command on one key
abbrev pub get_form : List ℕ → Bool → Form Answer
get_form key with_cas = Or (hit key with_cas) (line end_line replies.Miss)
