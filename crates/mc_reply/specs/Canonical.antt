-- Meta commands whose answer is a canonical spelling.
use Rattle.std.specs.Prelude.{ℕ, ◌≡◌, Bool, true, false, List, [], ◌∷◌, ◌++◌, codes, filter, Option, Some, None}
use Rattle.mc_request.specs.Flags.{flag_of}
use Rattle.mc_request.specs.declared.flags.Flag.{Flag}
use Rattle.mc_request.specs.declared.flags.Flag.TheVariants.{Cas, ClientFlags, Key, Opaque, Size, Left}
use Rattle.mc_request.specs.declared.meta.Show.{Show}
use Rattle.mc_request.specs.declared.meta.MetaCommand.{MetaCommand}
use Rattle.mc_request.specs.declared.meta.MetaCommand.TheVariants as metas
use Rattle.mc_request.specs.declared.parts.Request.{Request}
use Rattle.mc_request.specs.declared.parts.Request.TheVariants as requests
use Rattle.mc_reply.specs.declared.replies.Shown.{Shown}
use Rattle.mc_reply.specs.declared.replies.Reply.{Reply}
use Rattle.mc_reply.specs.declared.replies.Reply.TheVariants.{Meta}

-- whether a flag returns something: source protocol.txt, "Meta Commands"
abbrev pub is_given : Option Flag → Bool
is_given (Some Cas) = true
is_given (Some ClientFlags) = true
is_given (Some Size) = true
is_given (Some Left) = true
is_given (Some Key) = true
is_given (Some Opaque) = true
is_given other = false

abbrev pub gives_back : List ℕ → Bool
gives_back [] = false
gives_back (letter ∷ token) = is_given (flag_of letter)

-- what a meta command asks to be shown
abbrev pub show_of : {K B : Type 0} → MetaCommand K B → Show
show_of (metas.Get key get) = get.show
show_of (metas.Update update show) = show

-- a word, if it is asked for
abbrev pub word_if : Bool → List ℕ → List (List ℕ)
word_if true word = word ∷ []
word_if false word = []

-- the flag words of what is asked to be shown beside the value, in the order of canonical spellings
-- source: this project's own
abbrev pub show_words : Show → List (List ℕ)
show_words show = word_if show.cas (codes "c") ++ (word_if show.flags (codes "f") ++ (word_if show.size (codes "s") ++ word_if show.left (codes "t")))

-- no more is shown than what is asked for
pub record ShowsAsked (show : Show) (shown : Shown) : Type 0 where
  pub cas : show.cas ≡ false → shown.cas ≡ None
  pub flags : show.flags ≡ false → shown.flags ≡ None
  pub size : show.size ≡ false → shown.size ≡ None
  pub left : show.left ≡ false → shown.left ≡ None

abbrev pub RepliesAsked : Show → Reply (List ℕ) → Type 0
RepliesAsked show (Meta shown value) = ShowsAsked show shown
RepliesAsked show other = Unit {0}

-- a request whose answer by this reply is a canonical spelling: a meta command returns neither its key nor an opaque,
-- and asks for what it shows in the canonical order. Every other request of one command is one
-- source: this project's own
abbrev pub IsCanonical : Request → Reply (List ℕ) → Type 0
IsCanonical (requests.Meta command form) reply = (filter gives_back form.flags ≡ show_words (show_of command)) × RepliesAsked (show_of command) reply
IsCanonical other reply = Unit {0}
