-- When a silent peer is gone: this project's own.
use Rattle.std.specs.Prelude.{ℕ, ◌+◌, ◌*◌}
use Rattle.mc_net.specs.declared.keeping.Keepalive.{Keepalive}

-- The milliseconds until a silent peer is gone: before the first question, and after each of them.
-- source: tcp(7), TCP_KEEPIDLE, TCP_KEEPINTVL, TCP_KEEPCNT and TCP_USER_TIMEOUT
abbrev pub silence_of : Keepalive → ℕ
silence_of keepalive = (keepalive.idle + keepalive.interval * keepalive.probes) * 1000
