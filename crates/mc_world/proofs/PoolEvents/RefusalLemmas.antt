-- Which servers can join a pool, and which a proxy can learn.
use Rattle.std.proofs.Common.{◌≡◌, ◌∙◌, ℕ, ◌<◌, ◌≤◌, Bool, true, false, if◌then◌else◌, nat_le, nat_lt, List, length, Option, Some, None, refl, sym, ap}
use Rattle.std.proofs.lemmas.Bool.{leb-false, ltb-false}
use Rattle.std.proofs.lemmas.Option.{none-some, same_Some}
use Rattle.mc_proxy.specs.Joins.{has_server}
use Rattle.mc_world.specs.Refusals.{cause_of, join_refusal_of, learn_refusal_of, refusal_of}
use Rattle.mc_world.specs.WorldState.{PoolState, proxy_at}
use Rattle.mc_world.specs.declared.errors.WorldError.{WorldError}
use Rattle.mc_world.specs.declared.errors.WorldError.TheVariants.{AlreadyThere, Behind, NoProxy, NoServer, RingFull}

-- no refusal: no test passed
none_passed : {X : Type 0} (b : Bool) (x : X) (others : Option X) → None ≡ (if b then Some x else others) → (b ≡ false) × (None ≡ others)
none_passed true x others is = absurd (none-some x is)
none_passed false x others is = (refl, is)

-- a proxy at which a server can join is there, and knows all servers
pub join_fits : (pool : PoolState) (proxy : ℕ) (address : List ℕ) → None ≡ join_refusal_of pool proxy address
    → (proxy < length pool.proxies) × (length pool.sites ≤ length (proxy_at pool proxy).ring.servers)
join_fits pool proxy address is =
    let there = none_passed (nat_le (length pool.proxies) proxy) NoProxy _ is in
    let all = none_passed (nat_lt (length (proxy_at pool proxy).ring.servers) (length pool.sites)) Behind _ there.1 in
    (leb-false (length pool.proxies) proxy there.0, ltb-false (length (proxy_at pool proxy).ring.servers) (length pool.sites) all.0)

-- a proxy that can learn one is there, and does not know all
pub learn_fits : (pool : PoolState) (proxy : ℕ) (address : List ℕ) → None ≡ learn_refusal_of pool proxy address
    → (proxy < length pool.proxies) × (length (proxy_at pool proxy).ring.servers < length pool.sites)
learn_fits pool proxy address is =
    let there = none_passed (nat_le (length pool.proxies) proxy) NoProxy _ is in
    let more = none_passed (nat_le (length pool.sites) (length (proxy_at pool proxy).ring.servers)) NoServer _ there.1 in
    (leb-false (length pool.proxies) proxy there.0, leb-false (length pool.sites) (length (proxy_at pool proxy).ring.servers) more.0)

-- a refusal's cause is not memory
abbrev pub IsTold : Option WorldError → Type 0
IsTold refusal = (cause : WorldError) → Some cause ≡ refusal → cause_of cause ≡ refusal

by_test : (b : Bool) (x : WorldError) (others : Option WorldError) → cause_of x ≡ Some x → IsTold others → IsTold (if b then Some x else others)
by_test true x others told next cause is = ap cause_of (same_Some cause x is) ∙ told
by_test false x others told next cause is = next cause is

told_refusal : (servers : List (List ℕ)) (address : List ℕ) → IsTold (refusal_of servers address)
told_refusal servers address =
    by_test (nat_le 64 (length servers)) RingFull _ refl (by_test (has_server servers address) AlreadyThere None refl (λ cause is. absurd (none-some cause (sym is))))

pub told_join : (pool : PoolState) (proxy : ℕ) (address : List ℕ) → IsTold (join_refusal_of pool proxy address)
told_join pool proxy address =
    by_test (nat_le (length pool.proxies) proxy) NoProxy _ refl
    (by_test (nat_lt (length (proxy_at pool proxy).ring.servers) (length pool.sites)) Behind _ refl (told_refusal (proxy_at pool proxy).ring.servers address))

pub told_learn : (pool : PoolState) (proxy : ℕ) (address : List ℕ) → IsTold (learn_refusal_of pool proxy address)
told_learn pool proxy address =
    by_test (nat_le (length pool.proxies) proxy) NoProxy _ refl
    (by_test (nat_le (length pool.sites) (length (proxy_at pool proxy).ring.servers)) NoServer _ refl (told_refusal (proxy_at pool proxy).ring.servers address))
