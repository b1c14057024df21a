use Rattle.std.proofs.Common.{◌∙◌, ℕ, List, [], ◌∷◌, ◌++◌, sym, ap}
use Rattle.mc_pool_script.specs.PoolScripts.{first_servers}
use Rattle.mc_pool_script.proofs.AddressLemmas.{first_servers_more}
use Rattle.mc_pool_script.proofs.addresses.first_addresses.Goals as goal

pub loop-place-preserved : goal.loop-place-preserved
loop-place-preserved c =
    let place = c.loop-place.place in
    c.in_ok-push.ensures.items
    ∙ ap (λ (xs : List (List ℕ)). xs ++ c.in_ok-first_address.field-0 ∷ []) c.loop-place.invariant
    ∙ ap (λ (address : List ℕ). first_servers place ++ address ∷ []) c.in_ok-first_address.ensures.address
    ∙ sym (first_servers_more place)
