-- The address at which a program listens, among those that a look-up found. All of it is this project's own.
use Rattle.std.specs.Prelude.{◌≡◌, ℕ, List, Option, None, Some, Result, Ok, Err, find}
use Rattle.std.specs.Net.Addr.{is_ipv4}
use Rattle.std.specs.Net.Socket.{socket_ip}
use Rattle.std.specs.Net.Grammar.{IsSocketV4Text}
use Rattle.std.specs.Net.ToAddrs.{HostAddrs, host_addrs}
use Rattle.std.specs.declared.net.socket_addr.SocketAddr.{SocketAddr}
use Rattle.std.specs.declared.net.socket_addr.SocketAddr.TheVariants.{V4}
use Rattle.std.specs.declared.net.socket_addr.SocketAddrV4.{SocketAddrV4}
use Rattle.std.specs.declared.io.Error.{Error}
use Rattle.mc_program.specs.declared.errors.ListenError.TheVariants.{UnknownHost}
use Rattle.mc_program.specs.declared.errors.ServeError.{ServeError}
use Rattle.mc_program.specs.declared.errors.ServeError.TheVariants.{Listen}

-- the first IPv4 address of those that were found; none if the look-up failed
abbrev pub first_ipv4 : Result HostAddrs Error → Option SocketAddr
first_ipv4 (Ok found) = find (λ address. is_ipv4 (socket_ip address)) (host_addrs found)
first_ipv4 (Err error) = None

-- the address at which a program listens, given a host: its first IPv4 address; without one it cannot, since the host is unknown
abbrev pub address_by : Option SocketAddr → Result SocketAddr ServeError
address_by (Some address) = Ok address
address_by None = Err (Listen UnknownHost)

-- an IPv4 address and a port that a text spells, by std's grammar; none if it spells none
abbrev pub Spells : List ℕ → Option SocketAddr → Type 0
Spells text (Some address) = (spelled : SocketAddrV4) × (address ≡ V4 spelled) × IsSocketV4Text text spelled
Spells text None = (address : SocketAddrV4) → ¬ (IsSocketV4Text text address)
