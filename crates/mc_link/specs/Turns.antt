-- What a turn of a link does.
use Rattle.std.specs.Prelude.{ℕ, ◌≡◌, ◌<◌, true, List, [], ◌∷◌, ◌++◌, length}
use Rattle.mc_request.specs.declared.parts.Atom.{Atom}
use Rattle.mc_reply.specs.declared.replies.Reply.{Reply}
use Rattle.mc_reply.specs.CanHave.{can_have}
use Rattle.mc_reply.specs.Spelling.{spelling_of}
use Rattle.mc_codec.specs.NextReply.{IsBegun, IsStrange}
use Rattle.mc_link.specs.declared.turns.Tag.{Tag}
use Rattle.mc_link.specs.declared.turns.LinkTurn.{LinkTurn}
use Rattle.mc_link.specs.declared.turns.LinkTurn.TheVariants.{Took, Idle, Strange}
use Rattle.mc_link.specs.LinkState.{LinkState, Waiting}

-- the reply to the oldest pending command is taken off the front of the unread bytes, and all else stays
pub record Takes (old : LinkState) (tag : Tag) (reply : Reply (List ℕ)) (new : LinkState) : Type 0 where
  pub head : Atom (Unit {0})
  pub oldest : old.waiting ≡ (head, tag) ∷ new.waiting
  pub can : can_have head reply ≡ true
  pub spelled : old.unread ≡ spelling_of head reply ++ new.unread
  pub others : new ≡ record old { waiting = new.waiting; unread = new.unread }

-- a whole reply to the oldest pending command is next: a turn can take it
pub record HasReply (link : LinkState) : Type 0 where
  pub tag : Tag
  pub reply : Reply (List ℕ)
  pub after : LinkState
  pub takes : Takes link tag reply after

-- no reply can be taken until more bytes arrive
abbrev pub IsIdle : List Waiting → List ℕ → Type 0
IsIdle [] unread = unread ≡ []
IsIdle (oldest ∷ others) unread = IsBegun oldest.0 unread

-- bytes have arrived that are neither a reply to the oldest pending command nor the beginning of one
abbrev pub HasStrange : List Waiting → List ℕ → Type 0
HasStrange [] unread = 0 < length unread
HasStrange (oldest ∷ others) unread = IsStrange oldest.0 unread

-- what a turn does, by what it returns
abbrev pub IsLinkTurn : LinkState → LinkTurn → LinkState → Type 0
IsLinkTurn old (Took tag reply) new = Takes old tag reply new
IsLinkTurn old Idle new = IsIdle old.waiting old.unread × (new ≡ old)
IsLinkTurn old Strange new = HasStrange old.waiting old.unread × (new ≡ old)
