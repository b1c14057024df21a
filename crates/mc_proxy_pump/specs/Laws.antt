-- The state of a proxy's account after calls for a session, or for a link.
use Rattle.std.specs.Prelude.{◌≡◌, ℕ, List, [], ◌∷◌, ◌++◌, map}
use Rattle.mc_proxy.specs.ProxyState.{ProxyState}
use Rattle.mc_account.specs.Lanes.{Lane}
use Rattle.mc_account.specs.Orders.{Order, TakenRequest}
use Rattle.mc_account.specs.Holds.{ProxyHolds, changed, grown}

-- each entry was taken of the session of a number
abbrev pub AreOf : ℕ → Order → Type 0
AreOf number [] = Unit {0}
AreOf number (e ∷ es) = (e.session ≡ number) × AreOf number es

-- The proxy holds with a session's new input and sent bytes appended to the earlier ones, and with more taken of that session,
-- all of it after what was taken before.
pub record HoldsAfterClient (number : ℕ) (came went : List ℕ) (texts sent : ℕ → List ℕ) (order : Order) (lanes : ℕ → Lane) (new : ProxyState) : Type 0 where
  pub more : Order
  pub own : AreOf number more
  pub holds : ProxyHolds (grown number came texts) (grown number went sent) (order ++ more) lanes new

-- what was taken, without its outcomes
abbrev pub asked_in : Order → Order
asked_in order = map (λ (e : TakenRequest). record e { outcomes = [] }) order

-- The proxy holds with the bytes that arrived over a link and those sent over it appended to the earlier ones, and with the
-- same requests taken in the same order: more outcomes may be known.
pub record HoldsAfterLink (place : ℕ) (came went : List ℕ) (texts sent : ℕ → List ℕ) (order : Order) (lanes : ℕ → Lane) (new : ProxyState) : Type 0 where
  pub order' : Order
  pub same : asked_in order' ≡ asked_in order
  pub lane : Lane
  pub came_is : lane.came ≡ (lanes place).came ++ came
  pub out_is : lane.out ≡ (lanes place).out ++ went
  pub holds : ProxyHolds texts sent order' (changed place lane lanes) new
