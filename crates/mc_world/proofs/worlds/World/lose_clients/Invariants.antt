use Rattle.std.proofs.Common.{◌≡◌}
use Rattle.mc_world.proofs.Drain.EndLemmas.{AreGone, IsDying}
use Rattle.mc_world.proofs.worlds.World.lose_clients.Given as goal

-- the first clients of the proxy have gone
abbrev pub invariant-loop-client : goal.invariant-loop-client
invariant-loop-client g l = record {
  dying : IsDying l.proxy l.fn.self.course l.self.course;
  gone : AreGone l.proxy l.client l.self.course.pool;
  opened : (l.self.opening ≡ l.fn.self.opening) × (l.self.budget ≡ l.fn.self.budget) × (l.self.items ≡ l.fn.self.items) × (l.self.losses ≡ l.fn.self.losses);
}
