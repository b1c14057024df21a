use Rattle.std.proofs.Common.{ℕ, ◌<◌}
use Rattle.mc_world.specs.Acts.{IsIdle, IsOver}
use Rattle.mc_world.specs.Rounds.{Alternates, InOrder, Then}
use Rattle.mc_world.specs.declared.acts.Act.TheVariants.{ReachProxy, ReachServer, Serve, TakeReply}
use Rattle.mc_world.proofs.worlds.World.serve_links.Given as goal

-- the part so far is over, and each of the proxy's servers was in its order
abbrev pub invariant-loop-place : goal.invariant-loop-place
invariant-loop-place g l = record {
  over : IsOver l.moment (λ s. (k : ℕ) → k < l.place → (IsIdle l.moment s.pool (ReachServer l.proxy k) × IsIdle l.moment s.pool (Serve l.proxy k))
      × (IsIdle l.moment s.pool (ReachProxy l.proxy k) × IsIdle l.moment s.pool (TakeReply l.proxy k))) l.did l.fn.self l.self;
  order : InOrder (λ place. Then (Alternates l.moment (ReachServer l.proxy place) (Serve l.proxy place)) (Alternates l.moment (ReachProxy l.proxy place) (TakeReply l.proxy place)))
      l.place l.fn.self.course l.self.course;
}
