-- Whether a server gets any of a request's commands.
use Rattle.std.proofs.Common.{◌≡◌, ℕ, suc, ℤ, ◌+◌, ◌≤◌, ◌==◌, ◌||◌, nat_lt, Bool, Option, List, [], ◌∷◌, length, refl, ap, arith}
use Rattle.std.specs.List.{list_any}
use Rattle.std.proofs.lemmas.Bool.Decides.{nat_tests}
use Rattle.mc_request.specs.declared.parts.Atom.{Atom}
use Rattle.mc_ring.specs.Rings.{RingState}
use Rattle.mc_route.specs.Looks.{goes_to}
use Rattle.mc_route.specs.Routes.{owner_in, to_each, route_of_gets}

-- whether a retrieval command goes to a place, by the owners of its keys
pub gets_go_to : (ring : RingState) (exptime : Option ℤ) (with_cas : Bool) (place : ℕ) (keys : List (List ℕ))
    → goes_to place (route_of_gets ring exptime with_cas keys) ≡ list_any (λ key. owner_in ring key == place) keys
gets_go_to ring exptime with_cas place [] = refl
gets_go_to ring exptime with_cas place (key ∷ keys) = ap (λ (others : Bool). (owner_in ring key == place) || others) (gets_go_to ring exptime with_cas place keys)

-- a flush goes to each place from the first on, up to the last server's
each_goes_to : (first place end : ℕ) (servers : List (List ℕ)) (atom : Atom (List ℕ)) → first ≤ place → end ≡ first + length servers
    → nat_lt place end ≡ goes_to place (to_each first servers atom)
each_goes_to first place end [] atom from is = grind (arith, nat_tests, from, is)
each_goes_to first place end (server ∷ servers) atom from is =
    let again : suc first ≤ place → nat_lt place end ≡ goes_to place (to_each (suc first) servers atom) =
    λ past. each_goes_to (suc first) place end servers atom past (omega (arith, is)) in
    grind (arith, nat_tests, from, is, again)

pub flush_goes_to : (place : ℕ) (servers : List (List ℕ)) (atom : Atom (List ℕ)) → nat_lt place (length servers) ≡ goes_to place (to_each 0 servers atom)
flush_goes_to place servers atom = each_goes_to 0 place (length servers) servers atom (omega arith) (omega arith)
