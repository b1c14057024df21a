-- Why a server does not join: this project's own.
use Rattle.mc_proxy.specs.declared.errors.ProxyError.{ProxyError}
use Rattle.mc_proxy.specs.declared.errors.ProxyError.TheVariants as proxy
use Rattle.mc_proxyd.specs.declared.notices.Cause.{Cause}
use Rattle.mc_proxyd.specs.declared.notices.Cause.TheVariants.{Memory, NoPlace}

-- a ring that is full or has the server already, or lack of memory
abbrev pub cause_by : ProxyError → Cause
cause_by proxy.RingFull = NoPlace
cause_by proxy.AlreadyThere = NoPlace
cause_by _ = Memory
