-- Keys, one by one.
use Rattle.std.proofs.Common.{◌≡◌, ℕ, suc, ◌+◌, ◌-◌, ◌<◌, option_and_then, arith, ap}
use Rattle.slab.specs.Slab.{Slab, get}
use Rattle.mc_net.specs.declared.operator_slots.OperatorSlot.{OperatorSlot}
use Rattle.mc_net.specs.Listings.{first_listing, listing_of, listing_or}

-- the first of some keys, or that of the others
pub first_next : (slots : Slab OperatorSlot) (key end : ℕ) → key < end
    → first_listing slots key (end - key)
    ≡ listing_or key (option_and_then listing_of (get slots key)) (first_listing slots (key + 1) (end - (key + 1)))
first_next slots key end below =
    let longer : end - key ≡ suc (end - (key + 1)) = omega (arith, below) in
    ap (λ count. first_listing slots key count) longer
