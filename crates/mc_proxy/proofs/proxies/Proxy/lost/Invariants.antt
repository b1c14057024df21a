use Rattle.std.proofs.Common.{◌≡◌}
use Rattle.mc_proxy.specs.Noting.{all_lost}
use Rattle.mc_proxy.proofs.proxies.Proxy.lost.Given as goal

-- the commands left to lose lead to the same sessions, and all else stays
abbrev pub invariant-loop-tag : goal.invariant-loop-tag
invariant-loop-tag l = record {
  sessions : all_lost l.tag-iterator.rest.items l.self.sessions ≡ all_lost l.initial.tag-iterator.rest.items l.initial.self.sessions;
  losses : l.self.losses ≡ l.initial.self.losses;
  ring : l.self.ring ≡ l.initial.self.ring;
  admitted : l.self.admitted ≡ l.initial.self.admitted;
  links : l.self.links ≡ l.initial.self.links;
}
