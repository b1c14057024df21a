-- When a side of a client's socket has failed. Source: this project's own.
use Rattle.std.specs.Prelude.{Bool, true, false}
use Rattle.std.specs.declared.io.ErrorKind.{ErrorKind}
use Rattle.std.specs.declared.io.ErrorKind.TheVariants.{Interrupted, WouldBlock}

-- by the kind of its error: one that gives or takes nothing now has not, nor one whose call was interrupted
abbrev pub fails_by : ErrorKind → Bool
fails_by WouldBlock = false
fails_by Interrupted = false
fails_by _ = true
