-- The first of several addresses that passes a test.
use Rattle.std.proofs.Common.{◌≡◌, ℕ, suc, ◌+◌, Bool, false, List, ◌∷◌, take, refl, arith}
use Rattle.std.specs.Prelude.{find}

-- the first elements of a list are its first one and those of the rest
pub take_past : {X : Type 0} (n m : ℕ) (x : X) (xs rest : List X) → m + 1 ≡ n → xs ≡ x ∷ rest → take n xs ≡ x ∷ take m rest
take_past n m x xs rest more first = let is : n ≡ suc m = omega (arith, more) in rw (is, first) refl

-- past one that fails, the first that passes is the same
pub find_past : {X : Type 0} (test : X → Bool) (x : X) (xs rest : List X) → xs ≡ x ∷ rest → test x ≡ false → find test rest ≡ find test xs
find_past test x xs rest first fails = rw (first, fails) refl
