use Rattle.std.proofs.Common.{◌≡◌}
use Rattle.mc_world.specs.ProxyRestarts.{HasNoClient}
use Rattle.mc_world.proofs.Drain.EndLemmas.{AreDown, IsDying}
use Rattle.mc_world.proofs.worlds.World.lose_links.Given as goal

-- the first links of the proxy are down
abbrev pub invariant-loop-server : goal.invariant-loop-server
invariant-loop-server g l = record {
  dying : IsDying l.proxy l.fn.self.course l.self.course;
  down : AreDown l.proxy l.server l.self.course.pool;
  gone : HasNoClient l.proxy l.self.course.pool;
  opened : (l.self.opening ≡ l.fn.self.opening) × (l.self.budget ≡ l.fn.self.budget) × (l.self.items ≡ l.fn.self.items) × (l.self.losses ≡ l.fn.self.losses);
}
