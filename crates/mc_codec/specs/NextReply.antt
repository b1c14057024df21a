-- What a reader of replies returns: a whole reply, that more bytes are needed, or that the bytes are a violation.
use Rattle.std.specs.Prelude.{ℕ, ◌≡◌, ◌≢◌, ◌<◌, true, List, [], ◌++◌, length}
use Rattle.mc_request.specs.declared.parts.Atom.{Atom}
use Rattle.mc_reply.specs.declared.replies.Reply.{Reply}
use Rattle.mc_reply.specs.CanHave.{can_have}
use Rattle.mc_reply.specs.Spelling.{spelling_of}
use Rattle.mc_codec.specs.declared.next_replies.NextReply.{NextReply}
use Rattle.mc_codec.specs.declared.next_replies.NextReply.TheVariants as nexts

-- a reader, as contracts see it
pub record ReplyReaderState : Type 0 where
  -- the bytes that have arrived and belong to no returned reply
  pub unread : List ℕ
  -- how many bytes are kept: those, and those of returned replies that are not freed yet
  pub held : ℕ

-- a reader to which no byte has arrived
abbrev pub fresh_reply_reader : ReplyReaderState
fresh_reply_reader = record { unread = []; held = 0 }

-- a whole reply that the command can have is next
pub record HasReply (head : Atom (Unit {0})) (unread : List ℕ) : Type 0 where
  pub reply : Reply (List ℕ)
  pub can : can_have head reply ≡ true
  pub rest : List ℕ
  pub spelled : unread ≡ spelling_of head reply ++ rest

-- a proper beginning of the spelling of a reply that a command can have
pub record IsBegun (head : Atom (Unit {0})) (unread : List ℕ) : Type 0 where
  pub reply : Reply (List ℕ)
  pub can : can_have head reply ≡ true
  pub more : List ℕ
  pub missing : 0 < length more
  pub spelled : unread ++ more ≡ spelling_of head reply

-- whatever follows, these bytes and the next ones are such a beginning while they are fewer than `wanted` in all
pub record IsShortOf (head : Atom (Unit {0})) (wanted : ℕ) (unread : List ℕ) : Type 0 where
  pub short : length unread < wanted
  pub begun : (more : List ℕ) → length (unread ++ more) < wanted → IsBegun head (unread ++ more)

-- the bytes begin with no spelling of a reply that the command can have, and are the beginning of none
abbrev pub IsStrange : Atom (Unit {0}) → List ℕ → Type 0
IsStrange head unread = (reply : Reply (List ℕ)) (more others : List ℕ)
    → can_have head reply ≡ true → unread ++ more ≢ spelling_of head reply ++ others

-- what the unread bytes give for a command, and the reader that is left
abbrev pub Gives : Atom (Unit {0}) → ReplyReaderState → NextReply → ReplyReaderState → Type 0
Gives head old (nexts.Reply reply) new = (can_have head reply ≡ true) × (old.unread ≡ spelling_of head reply ++ new.unread)
Gives head old (nexts.More wanted) new = IsShortOf head wanted old.unread × (new ≡ old)
Gives head old nexts.Strange new = IsStrange head old.unread × (new ≡ old)
