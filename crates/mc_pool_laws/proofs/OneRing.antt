-- A log leaves each proxy one ring.
use Rattle.std.proofs.Common.{◌≡◌, ◌∙◌, ℕ, inl, inr, List, [], ◌∷◌, ◌++◌, sym, ap₂, subst}
use Rattle.mc_ring.specs.Points.{pairs_at, points_of}
use Rattle.mc_ring.specs.Rings.{RingState}
use Rattle.mc_ring.specs.declared.points.Point.{Point}
use Rattle.mc_ring.proofs.ShownLemmas.{shown_one}
use Rattle.mc_world.specs.Logs.{HasJoined, IsRingAfter, Log}
use Rattle.mc_world.specs.declared.logs.Logged.TheVariants.{Happened, Joined, Restarted}

abbrev ring_with : List (List ℕ) → List Point → RingState
ring_with servers points = record { servers = servers; points = points }

-- two rings that the same server joined
pub joined_one : (server : ℕ) (address : List ℕ) (old a b : RingState) → HasJoined server address old a → HasJoined server address old b → a ≡ b
joined_one server address old a b f g =
    ap₂ ring_with (f.servers ∙ sym g.servers) (shown_one (old.points ++ pairs_at server (points_of address)) a.points b.points f.points g.points)

pub ring_one : (proxy : ℕ) (ring a b : RingState) (log : Log) → IsRingAfter proxy ring log a → IsRingAfter proxy ring log b → a ≡ b
ring_one proxy ring a b [] f g = f ∙ sym g
ring_one proxy ring a b (Happened event ∷ es) f g = ring_one proxy ring a b es f g
ring_one proxy ring a b (Joined of server address up ∷ es) (inl f) (inl g) =
    ring_one proxy f.1 a b es f.3 (subst (λ (r : RingState). IsRingAfter proxy r es b) (joined_one server address ring g.1 f.1 g.2 f.2) g.3)
ring_one proxy ring a b (Joined of server address up ∷ es) (inl f) (inr g) = absurd (g.0 f.0)
ring_one proxy ring a b (Joined of server address up ∷ es) (inr f) (inl g) = absurd (f.0 g.0)
ring_one proxy ring a b (Joined of server address up ∷ es) (inr f) (inr g) = ring_one proxy ring a b es f.1 g.1
ring_one proxy ring a b (Restarted server ∷ es) f g = ring_one proxy ring a b es f g
