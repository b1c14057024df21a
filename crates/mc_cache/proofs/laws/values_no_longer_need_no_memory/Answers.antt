use Rattle.std.proofs.Common.{◌≡◌, ◌&&◌, ℕ, [], Bool, true, false, Option, Some, None, refl}
use Rattle.mc_item.specs.declared.bodies.Body.{Body}
use Rattle.mc_request.specs.declared.parts.StoreMode.TheVariants.{Append, Prepend}
use Rattle.mc_cache.specs.Memory.{store_may_refuse}
use Rattle.mc_cache.proofs.laws.values_no_longer_need_no_memory.Goals as goal

never : (b : Bool) → (b && false) ≡ false
never true = refl
never false = refl

append_none : (compare : Option ℕ) (held : Option Body) → store_may_refuse compare Append held [] ≡ false
append_none None None = refl
append_none (Some number) None = refl
append_none compare (Some body) = never _

prepend_none : (compare : Option ℕ) (held : Option Body) → store_may_refuse compare Prepend held [] ≡ false
prepend_none None None = refl
prepend_none (Some number) None = refl
prepend_none compare (Some body) = never _

pub returns-clause-append : goal.returns-clause-append
returns-clause-append c = λ s key moment flags compare exptime. append_none compare _

pub returns-clause-prepend : goal.returns-clause-prepend
returns-clause-prepend c = λ s key moment flags compare exptime. prepend_none compare _
