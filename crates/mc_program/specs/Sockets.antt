-- Why the system gives no socket, no connection or no file: this project's own.
use Rattle.std.specs.Prelude.{ℤ, pos, ◌==◌, Option, Some, None, if◌then◌else◌}
use Rattle.std.specs.declared.io.ErrorKind.{ErrorKind}
use Rattle.std.specs.declared.io.ErrorKind.TheVariants.{Uncategorized}
use Rattle.mc_program.specs.declared.sockets.SocketError.{SocketError}
use Rattle.mc_program.specs.declared.sockets.SocketError.TheVariants.{OpenFiles, SystemFiles, Other, Numbered}

-- an error whose kind has no name, by its number if it has one
abbrev pub by_number : Option ℤ → SocketError
by_number (Some number) = Numbered number
by_number None = Other Uncategorized

-- an error by its kind, if that has a name
abbrev pub by_kind : Option ℤ → ErrorKind → SocketError
by_kind number Uncategorized = by_number number
by_kind number kind = Other kind

-- the error of a number whose name in the system is known: 24 is EMFILE, 23 is ENFILE
-- source: errno(3), with the numbers of Linux
abbrev pub socket_error_of : Option ℤ → ErrorKind → SocketError
socket_error_of (Some (pos code)) kind = if code == 24 then OpenFiles else (if code == 23 then SystemFiles else by_kind (Some (pos code)) kind)
socket_error_of number kind = by_kind number kind
