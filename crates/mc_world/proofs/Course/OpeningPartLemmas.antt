-- The parts of a world that is opened, as they are made one by one.
use Rattle.std.proofs.Common.{◌≡◌, ◌∙◌, ℕ, zero, suc, ◌+◌, ◌<◌, ◌≤◌, Bool, if◌then◌else◌, List, [], ◌∷◌, ◌++◌, length, drop, refl, sym, ap, append_assoc, append-nil, arith}
use Rattle.std.specs.Prelude.{replicate, slice_index_or, sum}
use Rattle.std.proofs.lemmas.List.{drop_all, drop_more, length-append, length-replicate}
use Rattle.std.proofs.lemmas.List.Sums.{sum_by-cons}
use Rattle.mc_ring.specs.Rings.{RingState}
use Rattle.mc_route.specs.declared.losses.Losses.{Losses}
use Rattle.mc_link.specs.LinkState.{up_link}
use Rattle.mc_cache.specs.CacheState.{CacheState}
use Rattle.mc_proxy.specs.SessionState.{fresh_session}
use Rattle.mc_proxy.specs.ProxyState.{ProxyState, Sessions, with_fresh, without}
use Rattle.mc_account.proofs.OpenSessions.{own_number}
use Rattle.mc_world.specs.WorldState.{WayState}
use Rattle.mc_world.specs.Worlds.{admitting, first_ways, fresh_sessions, homes_from, opening_proxies, opening_proxy}

-- one more session
fresh-push : (from count : ℕ) → fresh_sessions from (suc count) ≡ fresh_sessions from count ++ (from + count, fresh_session) ∷ []
fresh-push from zero = let same : from + 0 ≡ from = omega arith in ap (λ (n : ℕ). (n, fresh_session) ∷ []) (sym same)
fresh-push from (suc count) =
    let same : suc from + count ≡ from + suc count = omega arith in
    ap (λ (more : Sessions). (from, fresh_session) ∷ more) (fresh-push (suc from) count ∙ ap (λ (n : ℕ). fresh_sessions (suc from) count ++ (n, fresh_session) ∷ []) same)

-- one more client is admitted
pub one_admitted : (losses : Losses) (ring : RingState) (first clients : ℕ) → with_fresh (opening_proxy losses ring first clients) ≡ opening_proxy losses ring first (suc clients)
one_admitted losses ring first clients =
    let one_more : first + clients + 1 ≡ first + suc clients = omega arith in
    ap (λ (s : Sessions). record { losses = losses; ring = ring; sessions = s; admitted = first + clients + 1; links = replicate (length ring.servers) (up_link 1) })
    (sym (fresh-push first clients))
    ∙ ap (λ (n : ℕ). record { losses = losses; ring = ring; sessions = fresh_sessions first (suc clients); admitted = n; links = replicate (length ring.servers) (up_link 1) }) one_more

-- a proxy that has admitted these, who have gone
pub passed_by : (losses : Losses) (ring : RingState) (first client : ℕ) → client ≡ first + 0
    → record (with_fresh (opening_proxy losses ring first 0)) { sessions = without client (with_fresh (opening_proxy losses ring first 0)).sessions } ≡ opening_proxy losses ring (first + 1) 0
passed_by losses ring first client is =
    let number : first + 0 + 1 ≡ first + 1 + 0 = omega arith in
    ap (λ (c : ℕ). record (with_fresh (opening_proxy losses ring first 0)) { sessions = without c (with_fresh (opening_proxy losses ring first 0)).sessions }) is
    ∙ ap (λ (v : Bool). record { losses = losses; ring = ring; sessions = if v then [] else (first + 0, fresh_session) ∷ []; admitted = first + 0 + 1; links = replicate (length ring.servers) (up_link 1) })
    (own_number (first + 0))
    ∙ ap (λ (n : ℕ). record { losses = losses; ring = ring; sessions = []; admitted = n; links = replicate (length ring.servers) (up_link 1) }) number

-- the clients of one proxy more
pub homes_next : (homes clients : List ℕ) (proxy : ℕ) (whole : List ℕ) → proxy < length clients → homes ++ homes_from proxy (drop proxy clients) ≡ whole
    → (homes ++ replicate (slice_index_or clients proxy 0) proxy) ++ homes_from (proxy + 1) (drop (proxy + 1) clients) ≡ whole
homes_next homes clients proxy whole inside h =
    let next : proxy + 1 ≡ suc proxy = omega arith in
    append_assoc homes (replicate (slice_index_or clients proxy 0) proxy) (homes_from (proxy + 1) (drop (proxy + 1) clients))
    ∙ ap (λ (n : ℕ). homes ++ (replicate (slice_index_or clients proxy 0) proxy ++ homes_from n (drop (proxy + 1) clients))) next
    ∙ ap (λ (cs : List ℕ). homes ++ homes_from proxy cs) (sym (drop_more clients proxy 0 inside)) ∙ h

pub homes_all : (homes clients : List ℕ) (proxy : ℕ) (whole : List ℕ) → length clients ≤ proxy → homes ++ homes_from proxy (drop proxy clients) ≡ whole → homes ≡ whole
homes_all homes clients proxy whole past h =
    sym (append-nil homes) ∙ ap (λ (cs : List ℕ). homes ++ homes_from proxy cs) (sym (drop_all proxy clients past)) ∙ h

pub homes-length : (proxy : ℕ) (clients : List ℕ) → length (homes_from proxy clients) ≡ sum clients
homes-length proxy [] = refl
homes-length proxy (c ∷ cs) =
    let again = homes-length (suc proxy) cs in
    let size = length-append (replicate c proxy) (homes_from (suc proxy) cs) in
    let here = length-replicate c proxy in
    let whole : sum (c ∷ cs) ≡ c + sum cs = sum_by-cons (λ x. x) c cs in
    omega (arith, again, size, here, whole)

-- one proxy more
pub proxies_next : (proxies : List ProxyState) (losses : Losses) (ring : RingState) (first : ℕ) (clients : List ℕ) (i : ℕ) (whole : List ProxyState) → i < length clients
    → proxies ++ opening_proxies losses ring first (drop i clients) ≡ whole
    → (proxies ++ opening_proxy losses ring first (slice_index_or clients i 0) ∷ []) ++ opening_proxies losses ring (first + slice_index_or clients i 0) (drop (i + 1) clients) ≡ whole
proxies_next proxies losses ring first clients i whole inside h =
    append_assoc proxies (opening_proxy losses ring first (slice_index_or clients i 0) ∷ []) (opening_proxies losses ring (first + slice_index_or clients i 0) (drop (i + 1) clients))
    ∙ ap (λ (cs : List ℕ). proxies ++ opening_proxies losses ring first cs) (sym (drop_more clients i 0 inside)) ∙ h

pub proxies_all : (proxies : List ProxyState) (losses : Losses) (ring : RingState) (first : ℕ) (clients : List ℕ) (i : ℕ) (whole : List ProxyState) → length clients ≤ i
    → proxies ++ opening_proxies losses ring first (drop i clients) ≡ whole → proxies ≡ whole
proxies_all proxies losses ring first clients i whole past h =
    sym (append-nil proxies) ∙ ap (λ (cs : List ℕ). proxies ++ opening_proxies losses ring first cs) (sym (drop_all i clients past)) ∙ h

-- the numbers of clients that are left
pub sum_left : (clients : List ℕ) (i : ℕ) → i < length clients → sum (drop i clients) ≡ slice_index_or clients i 0 + sum (drop (i + 1) clients)
sum_left clients i inside =
    ap (λ (cs : List ℕ). sum cs) (drop_more clients i 0 inside) ∙ sum_by-cons (λ x. x) (slice_index_or clients i 0) (drop (i + 1) clients)

-- one way more, over the next connection
pub ways_push : (from count : ℕ) → first_ways from (suc count) ≡ first_ways from count ++ record { generation = 1; connection = from + count; ahead = 0 } ∷ []
ways_push from zero =
    let same : from + 0 ≡ from = omega arith in
    ap (λ (n : ℕ). record { generation = 1; connection = n; ahead = 0 } ∷ []) (sym same)
ways_push from (suc count) =
    let same : suc from + count ≡ from + suc count = omega arith in
    ap (λ (more : List WayState). record { generation = 1; connection = from; ahead = 0 } ∷ more)
    (ways_push (suc from) count ∙ ap (λ (n : ℕ). first_ways (suc from) count ++ record { generation = 1; connection = n; ahead = 0 } ∷ []) same)

pub admitting_count : (opening : CacheState) (n : ℕ) → (admitting opening n).admitted ≡ n
admitting_count opening zero = refl
admitting_count opening (suc n) = let before = admitting_count opening n in omega (arith, before)
