-- Addresses that have hosts' names.
use Rattle.std.proofs.Common.{◌≡◌, ℕ, ◌≤◌, List, [], ◌∷◌, length, get_or, inl, arith}
use Rattle.mc_proxyd.specs.Names.{HasName, HaveName}

-- if the first of them has one, one of them has
pub have_first : (addresses : List (List ℕ)) (address : List ℕ) → 1 ≤ length addresses → address ≡ get_or addresses 0 address
    → HasName address → HaveName addresses
have_first [] address some is named = absurd (omega (arith, some))
have_first (first ∷ addresses) address some is named = inl (rw (← is) named)
