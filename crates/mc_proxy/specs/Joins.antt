-- How a server joins.
use Rattle.std.specs.Prelude.{ℕ, ◌≡◌, Bool, List, [], ◌∷◌, ◌++◌, length, if◌then◌else◌}
use Rattle.std.specs.List.{list_any}
use Rattle.std.specs.Str.{bytes_eq}
use Rattle.mc_ring.specs.Points.{points_of, pairs_at}
use Rattle.mc_ring.specs.Rings.{Shows, MovesOnlyTo}
use Rattle.mc_link.specs.LinkState.{LinkState, up_link, down_link}
use Rattle.mc_proxy.specs.ProxyState.{ProxyState}

-- the link of a server that joins: up, of the first generation, or down, and never up before
abbrev pub joined_link : Bool → LinkState
joined_link up = if up then up_link 1 else down_link 0

-- a server joins at the last place: the ring has its points beside those it had, and each key keeps its owner or goes to it;
-- no request that was taken is routed anew
pub record JoinsServer (address : List ℕ) (up : Bool) (place : ℕ) (old new : ProxyState) : Type 0 where
  pub last : place ≡ length old.ring.servers
  pub servers : new.ring.servers ≡ old.ring.servers ++ address ∷ []
  pub points : Shows (old.ring.points ++ pairs_at place (points_of address)) new.ring.points
  pub moves : MovesOnlyTo place old.ring.points new.ring.points
  pub sessions : new.sessions ≡ old.sessions
  pub losses : new.losses ≡ old.losses
  pub admitted : new.admitted ≡ old.admitted
  pub links : new.links ≡ old.links ++ joined_link up ∷ []

-- whether a ring has a server of this address
abbrev pub has_server : List (List ℕ) → List ℕ → Bool
has_server servers address = list_any (λ other. bytes_eq other address) servers
