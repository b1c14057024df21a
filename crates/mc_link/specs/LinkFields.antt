-- How a link is kept.
use Rattle.std.specs.Prelude.{ℕ, ◌-◌, ◌*◌, ◌≡◌, ◌<◌, ◌≤◌, false, List, [], ◌∷◌, ◌++◌, length, drop, vec_len, vec_capacity}
use Rattle.std.specs.VecDeque.{deque_len, deque_capacity}
use Rattle.mc_codec.specs.NextReply.{IsBegun}
use Rattle.mc_link.specs.declared.links.Link.TheInside.{Inside}
use Rattle.mc_link.specs.LinkState.{RoomyLink, Waiting}

abbrev pub link_of : Inside → RoomyLink
link_of l = record {
  state = record { up = l.up; generation = l.generation; output = drop l.sent l.output.items; waiting = l.waiting.items; unread = l.reader.unread };
  bytes = vec_capacity l.output - vec_len l.output;
  heads = deque_capacity l.waiting - deque_len l.waiting;
}

-- with fewer unread bytes than this, the reply to the oldest pending command has only begun
abbrev pub IsShortOf : ℕ → List Waiting → List ℕ → Type 0
IsShortOf wanted [] unread = wanted ≡ 0
IsShortOf wanted (oldest ∷ others) unread = (more : List ℕ) → length (unread ++ more) < wanted → IsBegun oldest.0 (unread ++ more)

pub record IsLink (l : Inside) : Type 0 where
  -- at most half of the output that is kept was consumed
  pub half : 2 * l.sent ≤ vec_len l.output
  -- a link that is down keeps nothing
  pub output : l.up ≡ false → drop l.sent l.output.items ≡ []
  pub waiting : l.up ≡ false → l.waiting.items ≡ []
  pub unread : l.up ≡ false → l.reader.unread ≡ []
  pub short : IsShortOf l.wanted l.waiting.items l.reader.unread
