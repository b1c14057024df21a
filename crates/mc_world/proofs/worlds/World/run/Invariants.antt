use Rattle.std.proofs.Common.{◌≡◌, ◌≤◌, take}
use Rattle.mc_world.specs.Steps.{RunsTo}
use Rattle.mc_world.proofs.worlds.World.run.Given as goal

-- the events so far were tried, and at most as many were refused
abbrev pub invariant-loop-event : goal.invariant-loop-event
invariant-loop-event g l = record {
  runs : RunsTo (take l.event-index l.fn.events) l.fn.self.course l.self.course l.refused;
  few : l.refused ≤ l.event-index;
  opened : (l.self.opening ≡ l.fn.self.opening) × (l.self.budget ≡ l.fn.self.budget) × (l.self.items ≡ l.fn.self.items) × (l.self.losses ≡ l.fn.self.losses);
}
