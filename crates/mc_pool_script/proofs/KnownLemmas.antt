-- How many servers each proxy knows, as one more line is read.
use Rattle.std.proofs.Common.{◌≡◌, ◌∙◌, ℕ, ◌+◌, ◌^◌, ◌<◌, ◌≤◌, ◌==◌, Bool, true, false, if◌then◌else◌, List, [], ◌∷◌, ◌++◌, length, get_or, replicate, slice_set, slice_index_or, refl, sym, ap, append_assoc, arith}
use Rattle.std.specs.List.{flat_map, sum_by}
use Rattle.std.proofs.lemmas.Bool.Decides.{nat_tests}
use Rattle.std.proofs.lemmas.Grind.{common_steps, flat_map-append, get_or-set_at, same_number_lists}
use Rattle.std.proofs.lemmas.List.{append-nil, get_or-replicate, get_or-set_other, get_or_past}
use Rattle.std.proofs.lemmas.List.Elements.{All-push}
use Rattle.std.proofs.lemmas.List.FromFn.{get_or-map-range_with_len, length-map-range_with_len}
use Rattle.std.proofs.lemmas.List.Sums.{sum_by-le, sum_by_push}
use Rattle.mc_pool_script.specs.PoolLines.{HasMoment}
use Rattle.mc_pool_script.specs.PoolScripts.{IsPoolScript, PoolSeen, first_servers, followed, joined_by, known_after, known_by, known_of, servers_of}
use Rattle.mc_pool_script.specs.declared.lines.PoolLine.{PoolLine}
use Rattle.mc_pool_script.specs.declared.lines.PoolLine.TheVariants.{Drain, Event, Join, Learn, ProxyRestart, Restart}

-- a line is of at most one server that a proxy knows
one_or_none : (b : Bool) → (if b then 1 else 0) ≤ 1
one_or_none true = omega arith
one_or_none false = omega arith

at_most_one : (proxy : ℕ) (line : PoolLine) → known_by proxy line ≤ 1
at_most_one proxy (Event event) = omega arith
at_most_one proxy (Join at address) = one_or_none (at == proxy)
at_most_one proxy (Learn at address) = one_or_none (at == proxy)
at_most_one proxy (Restart server) = omega arith
at_most_one proxy (ProxyRestart at) = omega arith
at_most_one proxy (Drain moment) = omega arith

all_most : (proxy : ℕ) (lines : List PoolLine) → sum_by (known_by proxy) lines ≤ length lines
all_most proxy lines = omega (arith, sum_by-le (known_by proxy) 1 lines (λ k d inside. at_most_one proxy (get_or lines k d)))

-- how many a proxy knows
known_at : (seen : PoolSeen) (proxy : ℕ) → proxy < seen.proxies → get_or (known_of seen) proxy 0 ≡ seen.servers + sum_by (known_by proxy) seen.lines
known_at seen proxy inside =
    get_or-map-range_with_len (λ (p : ℕ). seen.servers + sum_by (known_by p) seen.lines) 0 seen.proxies proxy proxy 0 inside (omega arith)

length_known : (seen : PoolSeen) → length (known_of seen) ≡ seen.proxies
length_known seen = length-map-range_with_len (λ (p : ℕ). seen.servers + sum_by (known_by p) seen.lines) 0 seen.proxies

-- no proxy knows more than there were at first and lines since
pub known_most : (seen : PoolSeen) (proxy : ℕ) → get_or (known_of seen) proxy 0 ≤ seen.servers + length seen.lines
known_most seen proxy =
    let count = length_known seen in
    let most = all_most proxy seen.lines in
    grind (arith, known_at seen proxy, get_or_past (known_of seen) proxy 0)

-- one more line
known_then : (seen : PoolSeen) (line : PoolLine) (proxy : ℕ) → proxy < seen.proxies
    → get_or (known_of (followed seen line)) proxy 0 ≡ get_or (known_of seen) proxy 0 + known_by proxy line
known_then seen line proxy inside =
    let old = known_at seen proxy inside in
    let new = known_at (followed seen line) proxy inside in
    let more = sum_by_push (known_by proxy) seen.lines line in
    omega arith

-- a line that is of no such server
none_known : (seen : PoolSeen) (line : PoolLine) → ((proxy : ℕ) → known_by proxy line ≡ 0) → known_of (followed seen line) ≡ known_of seen
none_known seen line none =
    let new = length_known (followed seen line) in
    let old = length_known seen in
    same_number_lists (known_of (followed seen line)) (known_of seen) (omega arith)
    (λ k inside. let more = known_then seen line k (omega arith) in let zero = none k in omega arith)

-- a line of a server that a proxy knows then
set_at : (known : List ℕ) (at k : ℕ) → k < length known → get_or known k 0 + (if at == k then 1 else 0) ≡ get_or (slice_set known at (slice_index_or known at 0 + 1)) k 0
set_at known at k inside = grind (arith, nat_tests, get_or-set_at, get_or-set_other)

one_known : (seen : PoolSeen) (line : PoolLine) (at : ℕ) → ((proxy : ℕ) → known_by proxy line ≡ (if at == proxy then 1 else 0))
    → known_of (followed seen line) ≡ slice_set (known_of seen) at (slice_index_or (known_of seen) at 0 + 1)
one_known seen line at one =
    let new = length_known (followed seen line) in
    let old = length_known seen in
    same_number_lists (known_of (followed seen line)) (slice_set (known_of seen) at (slice_index_or (known_of seen) at 0 + 1)) (grind (arith, common_steps))
    (λ k inside. known_then seen line k (omega arith) ∙ ap (λ (n : ℕ). get_or (known_of seen) k 0 + n) (one k) ∙ set_at (known_of seen) at k (omega arith))

-- how many each proxy knows after one more line
pub known_more : (seen : PoolSeen) (line : PoolLine) → known_of (followed seen line) ≡ known_after (known_of seen) line
known_more seen (Event event) = none_known seen (Event event) (λ p. refl)
known_more seen (Join proxy address) = one_known seen (Join proxy address) proxy (λ p. refl)
known_more seen (Learn proxy address) = one_known seen (Learn proxy address) proxy (λ p. refl)
known_more seen (Restart server) = none_known seen (Restart server) (λ p. refl)
known_more seen (ProxyRestart proxy) = none_known seen (ProxyRestart proxy) (λ p. refl)
known_more seen (Drain moment) = none_known seen (Drain moment) (λ p. refl)

-- at first each proxy knows all
pub known_first : (seen : PoolSeen) → seen.lines ≡ [] → replicate seen.proxies seen.servers ≡ known_of seen
known_first seen none =
    let count = length_known seen in
    same_number_lists (replicate seen.proxies seen.servers) (known_of seen) (grind (arith, common_steps))
    (λ k inside. let lines : sum_by (known_by k) seen.lines ≡ 0 = ap (λ (ls : List PoolLine). sum_by (known_by k) ls) none in
    let within : k < seen.proxies = grind (arith, common_steps) in
    let at = known_at seen k within in
    let first = get_or-replicate seen.proxies k seen.servers 0 within in
    omega arith)

-- the script of a reader, its servers' addresses, and how many each proxy knows
abbrev pub AreParts : PoolSeen → List (List ℕ) → List ℕ → Type 0
AreParts seen addresses known = IsPoolScript seen × (addresses ≡ servers_of seen) × (known ≡ known_of seen)

servers_more : (seen : PoolSeen) (line : PoolLine) → servers_of seen ++ joined_by line ≡ servers_of (followed seen line)
servers_more seen line =
    let first = first_servers seen.servers in
    let joined : flat_map joined_by (seen.lines ++ line ∷ []) ≡ flat_map joined_by seen.lines ++ joined_by line =
    flat_map-append joined_by seen.lines (line ∷ []) ∙ ap (λ (xs : List (List ℕ)). flat_map joined_by seen.lines ++ xs) (append-nil (joined_by line)) in
    append_assoc first (flat_map joined_by seen.lines) (joined_by line) ∙ ap (λ (xs : List (List ℕ)). first ++ xs) (sym joined)

-- one more line is added to them
pub parts_more : (seen : PoolSeen) (line : PoolLine) (addresses addresses' : List (List ℕ)) (known known' : List ℕ) → AreParts seen addresses known
    → HasMoment line (2 ^ 63) → addresses' ≡ addresses ++ joined_by line → known' ≡ known_after known line → AreParts (followed seen line) addresses' known'
parts_more seen line addresses addresses' known known' h moment joined counted =
    let good : IsPoolScript (followed seen line) = record {
      some_servers = h.0.some_servers;
      few_servers = h.0.few_servers;
      some_clients = h.0.some_clients;
      some_proxies = h.0.some_proxies;
      few_proxies = h.0.few_proxies;
      few_clients = h.0.few_clients;
      bounds = h.0.bounds;
      places = h.0.places;
      moments = All-push (λ (l : PoolLine). HasMoment l (2 ^ 63)) seen.lines line h.0.moments moment;
    } in (
      good,
      joined ∙ ap (λ (xs : List (List ℕ)). xs ++ joined_by line) h.1 ∙ servers_more seen line,
      counted ∙ ap (λ (counts : List ℕ). known_after counts line) h.2 ∙ sym (known_more seen line),
    )
