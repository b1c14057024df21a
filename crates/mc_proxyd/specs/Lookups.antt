-- The next step of a try that needs the address of a host: this project's own.
use Rattle.std.specs.Prelude.{Option, Some, None, Result, Ok, Err}
use Rattle.std.specs.declared.net.socket_addr.SocketAddr.{SocketAddr}
use Rattle.mc_proxyd.specs.declared.lookups.Known.{Known}
use Rattle.mc_proxyd.specs.declared.lookups.Known.TheVariants.{Nothing, Answer, Other}
use Rattle.mc_proxyd.specs.declared.lookups.NextLookup.{NextLookup}
use Rattle.mc_proxyd.specs.declared.lookups.NextLookup.TheVariants.{Ask, Wait, Connect, Fail}
use Rattle.mc_proxyd.specs.declared.lookups.Standing.{Standing}
use Rattle.mc_proxyd.specs.declared.lookups.Standing.TheVariants.{Wanted, Late, Unwanted}
use Rattle.mc_proxyd.specs.declared.notices.Cause.{Cause}
use Rattle.mc_proxyd.specs.declared.notices.Cause.TheVariants.{UnknownHost, LookUp}

-- No second look-up is begun while one is pending. The result decides, even if an earlier try began the look-up, but not if it was begun
-- for another address.
abbrev pub next_by : Option Known → NextLookup
next_by None = Ask
next_by (Some Nothing) = Wait
next_by (Some Other) = Ask
next_by (Some (Answer (Ok address))) = Connect address
next_by (Some (Answer (Err cause))) = Fail cause

-- A look-up that took longer than a try and found no address timed out: the system also calls a host unknown if no name server answers.
abbrev pub late_answer : Result SocketAddr Cause → Result SocketAddr Cause
late_answer (Err UnknownHost) = Err LookUp
late_answer found = found

-- What is known of a look-up, given its answer, if it has ended, and its state. The answer for an address that is no longer the server's is
-- none of its own, whenever it arrives.
abbrev pub known_by : Option (Result SocketAddr Cause) → Standing → Known
known_by None standing = Nothing
known_by (Some found) Wanted = Answer found
known_by (Some found) Late = Answer (late_answer found)
known_by (Some found) Unwanted = Other

-- the state of a look-up once the try that waits for it is given up
abbrev pub after_a_try : Standing → Standing
after_a_try Unwanted = Unwanted
after_a_try standing = Late
