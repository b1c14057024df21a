use Rattle.std.proofs.Common.{◌≡◌, ◌-◌}
use Rattle.mc_net.specs.Listings.{first_listing}
use Rattle.mc_net.proofs.operators.Operators.listing_in.Given as goal

abbrev pub invariant-loop-key : goal.invariant-loop-key
invariant-loop-key l = first_listing l.self.slots l.key (l.end - l.key) ≡ first_listing l.self.slots l.first (l.end - l.first)
