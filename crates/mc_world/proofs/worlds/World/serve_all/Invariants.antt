use Rattle.std.proofs.Common.{ℕ, ◌<◌}
use Rattle.mc_world.specs.Acts.{IsOver, NoServer}
use Rattle.mc_world.specs.Rounds.{Alternates, EachServer, InOrder, Then}
use Rattle.mc_world.specs.declared.acts.Act.TheVariants.{ReachProxy, ReachServer, Serve, TakeReply}
use Rattle.mc_world.proofs.worlds.World.serve_all.Given as goal

-- the part so far is over, and each proxy was in its order
abbrev pub invariant-loop-proxy : goal.invariant-loop-proxy
invariant-loop-proxy g l = record {
  over : IsOver l.moment (λ s. (k : ℕ) → k < l.proxy → NoServer l.moment (λ place. ReachServer k place) s × NoServer l.moment (λ place. Serve k place) s
      × NoServer l.moment (λ place. ReachProxy k place) s × NoServer l.moment (λ place. TakeReply k place) s) l.did l.fn.self l.self;
  order : InOrder (λ proxy. EachServer (λ place. Then (Alternates l.moment (ReachServer proxy place) (Serve proxy place)) (Alternates l.moment (ReachProxy proxy place) (TakeReply proxy place))))
      l.proxy l.fn.self.course l.self.course;
}
