-- A ring: servers in order, and the pairs of a point and a place. All of it is this project's own.
use Rattle.std.specs.Prelude.{◌≡◌, ◌↔◌, ◌<◌, ◌≤◌, ◌||◌, ◌⊎◌, ℕ, Bool, true, false, List, [], ◌∷◌, length, All, AllPairs, Contains}
use Rattle.std.specs.List.{list_any}
use Rattle.std.specs.Str.{bytes_eq}
use Rattle.mc_ring.specs.declared.points.Point.{Point}
use Rattle.mc_ring.specs.Owners.{is_before, owner_of}

-- what contracts see of a ring
pub record RingState : Type 0 where
  -- the text of each server
  pub servers : List (List ℕ)
  -- each pair once, in rising order of point, then place
  pub points : List Point

-- each pair is before all that follow it
abbrev pub IsRising : List Point → Type 0
IsRising points = AllPairs (λ p q. is_before p q ≡ true) points

-- two lists have the same members
abbrev pub HasSame : List Point → List Point → Type 0
HasSame ps qs = (p : Point) → Contains ps p ↔ Contains qs p

-- the points are exactly these pairs, each once and in rising order
pub record Shows (pairs points : List Point) : Type 0 where
  pub rising : IsRising points
  pub same : HasSame points pairs

-- two of the servers have equal bytes
abbrev pub has_doubled : List (List ℕ) → Bool
has_doubled [] = false
has_doubled (server ∷ servers) = list_any (λ other. bytes_eq other server) servers || has_doubled servers

-- what is true of every ring: 1 to 64 servers, no two alike, and at least one point, each of a server of the ring
pub record IsRing (ring : RingState) : Type 0 where
  pub some : 0 < length ring.servers
  pub few : length ring.servers ≤ 64
  pub apart : has_doubled ring.servers ≡ false
  pub pointed : 0 < length ring.points
  pub rising : IsRising ring.points
  pub inside : All (λ p. p.place < length ring.servers) ring.points

-- if points are added, each hash keeps its owner or goes to the server at a place
abbrev pub MovesOnlyTo : ℕ → List Point → List Point → Type 0
MovesOnlyTo place before after = (hash : ℕ) → (owner_of after hash ≡ owner_of before hash) ⊎ (owner_of after hash ≡ place)
