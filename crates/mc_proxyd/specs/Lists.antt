-- Why the words of a proxy name no pool: this project's own.
use Rattle.mc_ring.specs.declared.errors.RingError.{RingError}
use Rattle.mc_ring.specs.declared.errors.RingError.TheVariants as ring
use Rattle.mc_proxyd.specs.declared.options.ListError.{ListError}
use Rattle.mc_proxyd.specs.declared.options.ListError.TheVariants.{At, Bad, Memory}
use Rattle.mc_proxyd.specs.declared.options.ServerSource.{ServerSource}
use Rattle.mc_proxyd.specs.declared.lists.Mistake.{Mistake}
use Rattle.mc_proxyd.specs.declared.lists.Mistake.TheVariants as lists

-- the error of a mistake at a place: lack of memory, or that mistake there
abbrev pub list_error_at : ServerSource → Mistake → ListError
list_error_at place lists.Memory = Memory
list_error_at place mistake = At place mistake

-- the error of a list that makes no ring, or for which there is no memory
abbrev pub list_error_by : RingError → ListError
list_error_by ring.Memory = Memory
list_error_by other = Bad
