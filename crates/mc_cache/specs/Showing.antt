-- What a meta command shows of an item.
use Rattle.std.specs.Prelude.{ℕ, ◌||◌, nat_lt, Bool, true, false, List, length, Option, Some, None, if◌then◌else◌}
use Rattle.std.specs.Bool.{then_some}
use Rattle.mc_item.specs.declared.bodies.Body.{Body}
use Rattle.mc_item.specs.Deadlines.{left_of}
use Rattle.mc_request.specs.declared.meta.Show.{Show}
use Rattle.mc_reply.specs.declared.replies.Marks.{Marks}
use Rattle.mc_reply.specs.declared.replies.Marks.TheVariants.{Plain, Won, WonStale, StaleSent, Sent}
use Rattle.mc_reply.specs.declared.replies.Shown.{Shown}
use Rattle.mc_reply.specs.declared.replies.Reply.{Reply}
use Rattle.mc_reply.specs.declared.replies.Reply.TheVariants.{Stored, Number, Deleted, Meta}
use Rattle.mc_reply.specs.Replies.{nothing_shown}

-- whether the seconds left are below a command's, if it names any; what never expires has more than any
-- source: protocol.txt, "Meta Get", flag R
abbrev pub is_low : Option ℕ → Option ℕ → Bool
is_low None left = false
is_low (Some recache) None = false
is_low (Some recache) (Some left) = nat_lt left recache

-- whether an item is to be filled anew: its value is stale, or it expires soon
-- source: protocol.txt, "Meta Get", flag R, and "Meta Delete", flag I
abbrev pub needs_filling : Option ℕ → ℕ → Body → Bool
needs_filling recache moment body = body.stale || is_low recache (left_of body.expiry moment)

-- the marks of an item, by whether it is stale, whether a client was told to fill it, and whether it is to be filled:
-- the first client that is told so has won, and later ones are told that another was sent
-- source: protocol.txt, "Meta Get", W, X and Z; which of them occur together is this project's own
abbrev pub marks_by : Bool → Bool → Bool → Marks
marks_by false won needs = if won then Sent else if needs then Won else Plain
marks_by true won needs = if won then StaleSent else if needs then WonStale else Plain

abbrev pub marks_of : Option ℕ → ℕ → Body → Marks
marks_of recache moment body = marks_by body.stale body.won (needs_filling recache moment body)

-- what is shown of an item at a moment, with these marks, each part if it is asked for: source protocol.txt, "Meta Get", flags c, f, s and t
abbrev pub shown_of : Show → ℕ → Marks → Body → Shown
shown_of show moment marks body = record {
  cas = then_some show.cas body.cas;
  flags = then_some show.flags body.flags;
  size = then_some show.size (length body.value);
  left = then_some show.left (left_of body.expiry moment);
  marks = marks;
}

-- a reply that shows what is stored: source protocol.txt, "Meta Get", flag v
abbrev pub item_shown : Show → ℕ → Marks → Option Body → Reply (List ℕ)
item_shown show moment marks None = Meta nothing_shown None
item_shown show moment marks (Some body) = Meta (shown_of show moment marks body) (then_some show.value body.value)

-- the reply to an update as the reply to a meta command: what was stored is shown, and nothing of what was deleted; any
-- other reply is the same for a meta command
-- source: protocol.txt, "Meta Set", "Meta Delete", "Meta Arithmetic"
abbrev pub meta_reply_of : Show → ℕ → Marks → Option Body → Reply (List ℕ) → Reply (List ℕ)
meta_reply_of show moment marks held Stored = item_shown show moment marks held
meta_reply_of show moment marks held (Number number) = item_shown show moment marks held
meta_reply_of show moment marks held Deleted = Meta nothing_shown None
meta_reply_of show moment marks held reply = reply
