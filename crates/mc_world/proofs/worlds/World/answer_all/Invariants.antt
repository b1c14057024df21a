use Rattle.std.proofs.Common.{ℕ, ◌<◌}
use Rattle.mc_world.specs.Acts.{IsIdle, IsOver}
use Rattle.mc_world.specs.Rounds.{Alternates, InOrder}
use Rattle.mc_world.specs.declared.acts.Act.TheVariants.{PutAnswer, TakeBytes}
use Rattle.mc_world.proofs.worlds.World.answer_all.Given as goal

-- the part so far is over, and each client was in its order
abbrev pub invariant-loop-client : goal.invariant-loop-client
invariant-loop-client g l = record {
  over : IsOver l.moment (λ s. (k : ℕ) → k < l.client → IsIdle l.moment s.pool (PutAnswer k) × IsIdle l.moment s.pool (TakeBytes k)) l.did l.fn.self l.self;
  order : InOrder (λ client. Alternates l.moment (PutAnswer client) (TakeBytes client)) l.client l.fn.self.course l.self.course;
}
