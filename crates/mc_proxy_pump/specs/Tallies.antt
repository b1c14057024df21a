-- What is counted of a proxy's clients. Source: this project's own.
use Rattle.std.specs.Prelude.{ℕ, ◌+◌, ◌-◌, ◌%◌, ◌^◌, Bool, false, Option, Some, None, if◌then◌else◌}
use Rattle.std.specs.Option.{option_map}
use Rattle.mc_proxy_pump.specs.declared.limits.TheConstants.{QUANTUM}
use Rattle.mc_proxy_pump.specs.declared.tallies.ClientTally.{ClientTally}

-- no traffic; requests whose answer hides a loss are counted, or not; no line named a host, a whole quantum is left, and there is no limit
abbrev pub fresh_tally : Bool → ClientTally
fresh_tally counts = record { passed = record { requests = 0; read = 0; written = 0 }; missed = if counts then Some 0 else None; foreign = false; left = QUANTUM; most = 2 ^ 64 - 1; answer = 2 ^ 64 - 1; short = None }

-- One answer more, which hides a loss or not. The count wraps to 0 after 2^64 - 1; without a count, none begins.
abbrev pub counted : Bool → Option ℕ → Option ℕ
counted hides missed = if hides then option_map (λ n. (n + 1) % 2 ^ 64) missed else missed

-- what calls count: the requests whose answers hide a loss, if they are counted, and the work that is left
abbrev pub Counts : Type 0
Counts = Option ℕ × ℕ

abbrev pub counts_of : ClientTally → Counts
counts_of tally = (tally.missed, tally.left)
