-- Commands by their tags, in an order and in a history.
use Rattle.std.specs.Prelude.{ℕ, ◌≡◌, ◌+◌, ◌==◌, ◌&&◌, Bool, List, [], ◌∷◌, map, Some, if◌then◌else◌}
use Rattle.mc_request.specs.declared.parts.Atom.{Atom}
use Rattle.mc_reply.specs.Spelling.{spelling_of}
use Rattle.mc_reply.specs.declared.replies.Reply.{Reply as AReply}
use Rattle.mc_route.specs.Routes.{to_place}
use Rattle.mc_route.specs.declared.outcomes.Outcome.TheVariants.{Reply}
use Rattle.mc_link.specs.declared.turns.Tag.{Tag}
use Rattle.mc_account.specs.Lookups.{command_at, outcome_at}
use Rattle.mc_account.specs.Orders.{Order, Tagged}
use Rattle.mc_history.specs.declared.entries.Entry.{Entry}
use Rattle.mc_history.specs.Histories.{HasReply}
use Rattle.mc_history.specs.Made.{Made}

-- a command is one that the order has for the server at a place
abbrev pub IsNamed : ℕ → Order → Tagged → Type 0
IsNamed place order command = command_at order command.1 ≡ Some (to_place place command.0)

-- a known reply to a command to this place is that of its entry
abbrev pub AreReplied : ℕ → Order → List Entry → Type 0
AreReplied place order history = (tag : Tag) (atom : Atom (List ℕ)) (reply : AReply (List ℕ)) → command_at order tag ≡ Some (to_place place atom)
    → outcome_at order tag ≡ Some (Reply reply) → HasReply history tag (spelling_of atom reply)

-- whether two tags are the same, and how often a tag is among tags
abbrev pub is_tag : Tag → Tag → Bool
is_tag tag other = ((other.session == tag.session) && (other.request == tag.request)) && (other.atom == tag.atom)

abbrev pub times : Tag → List Tag → ℕ
times tag [] = 0
times tag (t ∷ ts) = (if is_tag tag t then 1 else 0) + times tag ts

-- the tags of commands, and of what was made
abbrev pub tags_of : List Tagged → List Tag
tags_of commands = map (λ command. command.1) commands

abbrev pub tags_made : List Made → List Tag
tags_made made = map (λ m. m.command.1) made
