-- What is kept for a client, and whether it makes progress. All of it is this project's own.
use Rattle.std.specs.Prelude.{ℕ, ◌+◌, ◌-◌, ◌/◌, ◌^◌, ◌&&◌, ◌||◌, Bool, true, false, not, max, min, nat_lt, if◌then◌else◌}
use Rattle.mc_net.specs.declared.buffers.TheConstants.{CLIENT_SHARE}
use Rattle.mc_net.specs.declared.holdings.Holding.{Holding}
use Rattle.mc_net.specs.declared.holdings.TheConstants.{LEAST_MOVED, MOVED_PART}
use Rattle.mc_net.specs.declared.shortages.Standing.{Standing}
use Rattle.mc_net.specs.declared.shortages.Standing.TheVariants.{Apart, Waiting, Ahead}

-- nothing is kept for a client, and it has moved nothing
abbrev pub new_holding : Holding
new_holding = record { kept = 0; high = 0; moved = 0; slow = 0; waited = 0; turn = false }

-- more bytes moved, as far as 64 bits count
abbrev pub counted_move : (moved sent taken : ℕ) → ℕ
counted_move moved sent taken = min (moved + (sent + taken)) (2 ^ 64 - 1)

-- what is kept for a client is counted: also the most that it kept since it last kept no more than its share
abbrev pub kept_now : ℕ → Holding → Holding
kept_now kept holding = record holding { kept = kept; high = if nat_lt CLIENT_SHARE kept then max holding.high kept else 0 }

-- a client that moved few bytes for the most that it kept
abbrev pub is_slow : Holding → Bool
is_slow holding = nat_lt holding.moved (max (holding.high / MOVED_PART) LEAST_MOVED)

-- a client that keeps more than its share
abbrev pub is_large : Holding → Bool
is_large holding = nat_lt CLIENT_SHARE holding.kept

-- one more, as far as 8 bits count, or none if the sequence has ended
abbrev pub one_more : ℕ → Bool → ℕ
one_more count true = min (count + 1) (2 ^ 8 - 1)
one_more count false = 0

-- after a sweep at which nobody waits
abbrev pub rested : Holding → Holding
rested holding = record holding { moved = 0; slow = 0; waited = 0 }

-- Whether only a client itself can free what is kept for it, by where it stands, whether answers wait until it takes them, and whether it has
-- pending answers. It can if it must take answers, or send the rest of a request. It cannot if it waits to be read, or for others to answer.
abbrev pub is_blamed : Standing → (untaken pending : Bool) → Bool
is_blamed Waiting untaken pending = untaken
is_blamed _ untaken pending = untaken || not pending

-- whether it waits for room
abbrev pub is_waiting : Standing → Bool
is_waiting Waiting = true
is_waiting _ = false

-- after a sweep at which some wait, given where this client stands, and whether answers wait until it takes them, and are pending
abbrev pub swept : Standing → (untaken pending : Bool) → Holding → Holding
swept standing untaken pending holding = record holding {
  moved = 0;
  slow = one_more holding.slow (is_large holding && is_blamed standing untaken pending && is_slow holding);
  waited = one_more holding.waited (is_waiting standing && is_slow holding);
}
