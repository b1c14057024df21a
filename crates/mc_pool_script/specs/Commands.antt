-- The names of a pool script's lines. Source: this project's own.
use Rattle.std.specs.Prelude.{ℕ, List, Option, Some, None, codes, if◌then◌else◌}
use Rattle.std.specs.Str.{bytes_eq}
use Rattle.mc_pool_script.specs.declared.commands.Command.{Command}
use Rattle.mc_pool_script.specs.declared.commands.Command.TheVariants.{Bytes, Gone, Turn, Emit, Takes, ToServer, Serve, ToProxy, Reply, Lost, Back, End, Join, Restart, ProxyRestart, Drain}

-- the command of a client that a name stands for
unfoldable pub client_command : List ℕ → Option Command
client_command name =
    if bytes_eq name (codes "bytes") then Some Bytes
    else if bytes_eq name (codes "gone") then Some Gone
    else if bytes_eq name (codes "turn") then Some Turn
    else if bytes_eq name (codes "emit") then Some Emit
    else if bytes_eq name (codes "takes") then Some Takes
    else None

-- the command that a name stands for: of the bytes between proxy and servers
unfoldable pub way_command : List ℕ → Option Command
way_command name =
    if bytes_eq name (codes "toserver") then Some ToServer
    else if bytes_eq name (codes "serve") then Some Serve
    else if bytes_eq name (codes "toproxy") then Some ToProxy
    else if bytes_eq name (codes "reply") then Some Reply
    else None

-- the command that a name stands for: of a link, of a server that joins or restarts, of a proxy that restarts, or of a drain
unfoldable pub link_command : List ℕ → Option Command
link_command name =
    if bytes_eq name (codes "lost") then Some Lost
    else if bytes_eq name (codes "back") then Some Back
    else if bytes_eq name (codes "end") then Some End
    else if bytes_eq name (codes "join") then Some Join
    else if bytes_eq name (codes "restart") then Some Restart
    else if bytes_eq name (codes "proxyrestart") then Some ProxyRestart
    else if bytes_eq name (codes "drain") then Some Drain
    else None
