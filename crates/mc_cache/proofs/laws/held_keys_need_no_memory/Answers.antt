use Rattle.std.proofs.Common.{◌≡◌, ◌&&◌, Bool, true, false, refl}
use Rattle.mc_cache.proofs.laws.held_keys_need_no_memory.Goals as goal

-- a whole value in place of the stored one needs no memory, whatever is compared
never : (stores : Bool) → (stores && false) ≡ false
never true = refl
never false = refl

pub returns-clause-set : goal.returns-clause-set
returns-clause-set c = λ s key moment body finds compare flags exptime block. rw finds (never _)

pub returns-clause-replace : goal.returns-clause-replace
returns-clause-replace c = λ s key moment body finds compare flags exptime block. rw finds (never _)
