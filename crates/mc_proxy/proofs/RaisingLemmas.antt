-- The links of a proxy that come up in sequence.
use Rattle.std.proofs.Common.{◌≡◌, ℕ, zero, suc, ◌<◌, List, [], ◌∷◌, refl, ap, arith}
use Rattle.std.specs.Prelude.{replicate}
use Rattle.mc_link.specs.LinkState.{LinkState, down_link, up_link}
use Rattle.mc_proxy.specs.SessionState.{link_at, with_link}

-- this many links, of which the first are up
abbrev pub raised : ℕ → ℕ → List LinkState
raised zero many = replicate many (down_link 0)
raised (suc up) zero = []
raised (suc up) (suc many) = up_link 1 ∷ raised up many

-- one more link comes up
pub raised-next : (up many : ℕ) → up < many → with_link up (up_link 1) (raised up many) ≡ raised (suc up) many
raised-next up zero inside = absurd (omega (arith, inside))
raised-next zero (suc many) inside = refl
raised-next (suc up) (suc many) inside = ap (λ (links : List LinkState). up_link 1 ∷ links) (raised-next up many (omega (arith, inside)))

-- the next one is down
pub raised-at : (up many : ℕ) → up < many → link_at (raised up many) up ≡ down_link 0
raised-at up zero inside = absurd (omega (arith, inside))
raised-at zero (suc many) inside = refl
raised-at (suc up) (suc many) inside = raised-at up many (omega (arith, inside))

-- all links are up
pub raised-all : (many : ℕ) → raised many many ≡ replicate many (up_link 1)
raised-all zero = refl
raised-all (suc many) = ap (λ (links : List LinkState). up_link 1 ∷ links) (raised-all many)
