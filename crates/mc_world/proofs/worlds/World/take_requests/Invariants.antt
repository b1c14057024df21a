use Rattle.std.proofs.Common.{ℕ, ◌<◌}
use Rattle.mc_world.specs.Acts.{IsIdle, IsOver}
use Rattle.mc_world.specs.Rounds.{InOrder, Repeats}
use Rattle.mc_world.specs.declared.acts.Act.TheVariants.{TakeRequest}
use Rattle.mc_world.proofs.worlds.World.take_requests.Given as goal

-- the part so far is over, and each client was in its order
abbrev pub invariant-loop-client : goal.invariant-loop-client
invariant-loop-client g l = record {
  over : IsOver l.moment (λ s. (k : ℕ) → k < l.client → IsIdle l.moment s.pool (TakeRequest k)) l.did l.fn.self l.self;
  order : InOrder (λ client. Repeats l.moment (TakeRequest client)) l.client l.fn.self.course l.self.course;
}
