-- Why a server cannot join, or restart. These causes do not include refused memory.
use Rattle.std.specs.Prelude.{ℕ, nat_le, nat_lt, List, length, Option, Some, None, Result, Ok, Err, if◌then◌else◌}
use Rattle.mc_proxy.specs.Joins.{has_server}
use Rattle.mc_world.specs.declared.errors.WorldError.{WorldError}
use Rattle.mc_world.specs.declared.errors.WorldError.TheVariants.{AlreadyThere, Behind, Memory, NoProxy, NoServer, RingFull}
use Rattle.mc_world.specs.WorldState.{PoolState, proxy_at}

-- a cause other than memory
abbrev pub cause_of : WorldError → Option WorldError
cause_of Memory = None
cause_of other = Some other

-- why a join or a restart was refused, if the cause is not memory
abbrev pub refusal_in : {T S : Type 0} → Result T (WorldError × S) → Option WorldError
refusal_in (Ok value) = None
refusal_in (Err refused) = cause_of refused.0

abbrev pub cause_in : {T : Type 0} → Result T WorldError → Option WorldError
cause_in (Ok value) = None
cause_in (Err cause) = cause_of cause

-- why a server of an address cannot join these servers of a proxy: there are 64, or one of this address
abbrev pub refusal_of : List (List ℕ) → List ℕ → Option WorldError
refusal_of servers address =
    if nat_le 64 (length servers) then Some RingFull
    else if has_server servers address then Some AlreadyThere
    else None

-- why a new server cannot join a pool at a proxy: there is no such proxy, it has not learned all servers, or its servers refuse
abbrev pub join_refusal_of : PoolState → ℕ → List ℕ → Option WorldError
join_refusal_of pool proxy address =
    if nat_le (length pool.proxies) proxy then Some NoProxy
    else if nat_lt (length (proxy_at pool proxy).ring.servers) (length pool.sites) then Some Behind
    else refusal_of (proxy_at pool proxy).ring.servers address

-- why a proxy cannot learn a server: there is no such proxy, it knows all servers, or its servers refuse
abbrev pub learn_refusal_of : PoolState → ℕ → List ℕ → Option WorldError
learn_refusal_of pool proxy address =
    if nat_le (length pool.proxies) proxy then Some NoProxy
    else if nat_le (length pool.sites) (length (proxy_at pool proxy).ring.servers) then Some NoServer
    else refusal_of (proxy_at pool proxy).ring.servers address

-- why the server of a place cannot restart, if there are this many: no server has that place
abbrev pub restart_refusal_of : ℕ → ℕ → Option WorldError
restart_refusal_of servers place = if nat_lt place servers then None else Some NoServer
