use Rattle.std.proofs.Common.{◌≡◌, ◌==◌}
use Rattle.std.specs.List.{list_any}
use Rattle.mc_route.specs.Routes.{owner_in}
use Rattle.mc_route.proofs.looks.keys_go_to.Given as goal

-- the server owns none of the keys so far
abbrev pub invariant-loop-key : goal.invariant-loop-key
invariant-loop-key l = list_any (λ key. owner_in l.ring key == l.place) l.key-iterator ≡ list_any (λ key. owner_in l.ring key == l.place) l.fn.keys
