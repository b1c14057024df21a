-- A link, as contracts see it.
use Rattle.std.specs.Prelude.{ℕ, ◌-◌, ◌^◌, ◌≤◌, ◌&&◌, not, nat_lt, Bool, true, false, List, [], ◌∷◌, ◌++◌}
use Rattle.mc_request.specs.declared.parts.Atom.{Atom}
use Rattle.mc_request.specs.Atoms.{head_of}
use Rattle.mc_codec.specs.Spellings.{spelling_of_atom}
use Rattle.mc_link.specs.declared.turns.Tag.{Tag}

-- a pending command: without its data block, and with its tag
abbrev pub Waiting : Type 0
Waiting = Atom (Unit {0}) × Tag

-- a link: whether it is up, how often it came up, the output not yet consumed, the pending commands, oldest first, and the
-- bytes that have arrived and belong to no reply that was taken
pub record LinkState : Type 0 where
  pub up : Bool
  pub generation : ℕ
  pub output : List ℕ
  pub waiting : List Waiting
  pub unread : List ℕ

-- a link with the room that is reserved: for how many more bytes of output, and for how many more pending commands
pub record RoomyLink : Type 0 where
  pub state : LinkState
  pub bytes : ℕ
  pub heads : ℕ

-- a link of this generation that is down; and one that just came up
abbrev pub down_link : ℕ → LinkState
down_link generation = record { up = false; generation = generation; output = []; waiting = []; unread = [] }

abbrev pub up_link : ℕ → LinkState
up_link generation = record { up = true; generation = generation; output = []; waiting = []; unread = [] }

-- a link to which a command was sent: its spelling is appended to the output, and its head to the pending commands
abbrev pub sent : Atom (List ℕ) → Tag → LinkState → LinkState
sent atom tag s = record s { output = s.output ++ spelling_of_atom atom; waiting = s.waiting ++ (head_of atom, tag) ∷ [] }

-- the link is down, and a generation is left
abbrev pub can_come_back : LinkState → Bool
can_come_back s = not s.up && nat_lt s.generation (2 ^ 64 - 1)

-- no room is lost
pub record KeepsRoom (old new : RoomyLink) : Type 0 where
  pub bytes : old.bytes ≤ new.bytes
  pub heads : old.heads ≤ new.heads
