-- What is kept for clients, and what one of them may keep. All of it is this project's own.
use Rattle.std.specs.Prelude.{ℕ, ◌+◌, ◌-◌, ◌^◌, max, min}
use Rattle.mc_net.specs.declared.buffers.Buffers.{Buffers}
use Rattle.mc_net.specs.declared.buffers.Right.{Right}
use Rattle.mc_net.specs.declared.buffers.Right.TheVariants.{Usual, Behind, Ahead}
use Rattle.mc_net.specs.declared.buffers.TheConstants.{CLIENT_SHARE, ROOM_AHEAD, UNCOUNTED}

-- nothing is kept yet
abbrev pub no_buffers : ℕ → Buffers
no_buffers most = record { most = most; kept = 0; others = 0 }

-- a sum, as far as 64 bits count
abbrev pub counted : ℕ → ℕ → ℕ
counted one other = min (one + other) (2 ^ 64 - 1)

-- all that is kept
abbrev pub kept_in : Buffers → ℕ
kept_in buffers = counted buffers.kept buffers.others

-- what is free
abbrev pub free_of : Buffers → ℕ
free_of buffers = buffers.most - kept_in buffers

-- what is free for the client that is ahead
abbrev pub free_ahead_of : Buffers → ℕ
free_ahead_of buffers = counted buffers.most ROOM_AHEAD - kept_in buffers

-- what is counted of a client that keeps some bytes: those above its share, and above as much for what its buffers reserve beyond their needs
abbrev pub excess : ℕ → ℕ
excess kept = kept - UNCOUNTED

-- a client for which some bytes were kept now has others
abbrev pub changed : (before after : ℕ) → Buffers → Buffers
changed before after buffers = record buffers { kept = counted (buffers.kept - excess before) (excess after) }

-- what is kept for no client
abbrev pub with_others : ℕ → Buffers → Buffers
with_others bytes buffers = record buffers { others = bytes }

-- what a right adds to what a client keeps
abbrev pub more_by : Buffers → Right → ℕ
more_by buffers Usual = free_of buffers
more_by buffers Behind = 0
more_by buffers Ahead = free_ahead_of buffers

-- what a client may keep that keeps some bytes: never less than its share
abbrev pub share_of : Buffers → ℕ → Right → ℕ
share_of buffers kept right = counted (max CLIENT_SHARE kept) (more_by buffers right)
