-- By one proxy, and by rings that grow, a key's server stays, or is one that has joined since, whose place is higher.
use Rattle.std.proofs.Common.{◌≡◌, ◌∙◌, ⊎_elim, ℕ, zero, suc, ◌+◌, ◌-◌, ◌<◌, ◌≤◌, ◌==◌, ◌&&◌, nat_le, Bool, true, false, if◌then◌else◌, List, [], ◌∷◌, ◌++◌, length, take, drop, Option, None, Some, refl, sym, ap, subst, length-append, append_assoc, append-nil, arith, inl, inr}
use Rattle.std.specs.Option.{option_map_or}
use Rattle.std.specs.Str.{bytes_eq}
use Rattle.std.specs.Cmp.Lexicographic.{same_text}
use Rattle.std.proofs.lemmas.Bool.Decides.{leb_tells}
use Rattle.std.proofs.lemmas.List.{append_cancel_left, length-take, length_push, take-append-drop}
use Rattle.mc_request.specs.declared.parts.Atom.{Atom}
use Rattle.mc_ring.specs.Points.{hash_of, pairs_at, points_of}
use Rattle.mc_ring.specs.Rings.{IsRing, RingState}
use Rattle.mc_ring.proofs.PairLemmas.{shown-some}
use Rattle.mc_ring.proofs.RingLemmas.{moves}
use Rattle.mc_route.specs.declared.losses.Losses.{Losses}
use Rattle.mc_route.specs.Routes.{owner_in, to_place}
use Rattle.mc_route.proofs.RouteLemmas.{owner_inside}
use Rattle.mc_link.specs.declared.turns.Tag.{Tag}
use Rattle.mc_cache.specs.CacheState.{CacheState}
use Rattle.mc_cache.specs.Step.{atom_key}
use Rattle.mc_account.specs.Lookups.{asked_at, command_at}
use Rattle.mc_account.specs.Orders.{Order, TakenRequest}
use Rattle.mc_account.proofs.OpenSessions.{other_number, own_number}
use Rattle.mc_history.specs.declared.entries.Entry.{Entry}
use Rattle.mc_registers.specs.Laws.{is_on}
use Rattle.mc_world.specs.Accounts.{Accounts, WasTaken}
use Rattle.mc_world.specs.Homes.{Homes}
use Rattle.mc_world.specs.Logs.{HasJoined, IsRingAfter, Log, before, takes}
use Rattle.mc_world.specs.declared.logs.Logged.TheVariants.{Happened, Joined, Restarted}
use Rattle.mc_pool_laws.proofs.OneRing.{joined_one, ring_one}
use Rattle.mc_pool_laws.proofs.OwnerLemmas.{taken-own}
use Rattle.mc_pool_laws.proofs.PlaceLemmas.{before-front, front_of}
use Rattle.mc_pool_laws.proofs.SentLemmas.{in_request}
use Rattle.mc_linearizable.specs.Linearizable.{HasServersTo, joined_to}

-- a ring has points, and a key's owner is one of its servers
record IsOwned (key : List ℕ) (ring : RingState) : Type 0 where
  pub pointed : 0 < length ring.points
  pub inside : owner_in ring key < length ring.servers

-- a ring that goes on to another: the key's owner is owned there too, and its place is no lower
record GoesTo (key : List ℕ) (old new : RingState) : Type 0 where
  pub owned : IsOwned key new
  pub higher : owner_in old key ≤ owner_in new key

joined_goes : (key : List ℕ) (server : ℕ) (address : List ℕ) (old new : RingState) → HasJoined server address old new → IsOwned key old → GoesTo key old new
joined_goes key server address old new joins owned =
    let many : length new.servers ≡ length old.servers + 1 = ap (λ (ss : List (List ℕ)). length ss) joins.servers ∙ length_push old.servers address in
    let last = joins.last in
    let was = owned.inside in
    let some : 0 < length new.points = shown-some (old.points ++ pairs_at server (points_of address)) new.points joins.points
    (omega (arith, owned.pointed, length-append old.points (pairs_at server (points_of address)))) in
    elim (moves old.points new.points server (points_of address) some joins.points (hash_of key)) [
      | inl stays ↦ (let same : owner_in new key ≡ owner_in old key = stays in
          record { owned = record { pointed = some; inside = omega (arith, many, was, same) }; higher = omega (arith, same) })
      | inr goes ↦ (let is : owner_in new key ≡ server = goes in
          record { owned = record { pointed = some; inside = omega (arith, many, last, is) }; higher = omega (arith, was, last, is) })
    ]

-- a ring that servers of these addresses have joined, in their order
abbrev GrowsBy : RingState → List (List ℕ) → RingState → Type 0
GrowsBy old [] new = new ≡ old
GrowsBy old (address ∷ more) new = (next : RingState) × HasJoined (length old.servers) address old next × GrowsBy next more new

grows_goes : (key : List ℕ) (old : RingState) (more : List (List ℕ)) (new : RingState) → GrowsBy old more new → IsOwned key old → GoesTo key old new
grows_goes key old [] new is owned = subst (λ (ring : RingState). GoesTo key old ring) (sym is) (record { owned = owned; higher = omega arith })
grows_goes key old (address ∷ more) new is owned =
    let first = joined_goes key (length old.servers) address old is.0 is.1 owned in
    let rest = grows_goes key is.0 more new is.2 first.owned in
    let low = first.higher in
    let high = rest.higher in
    record { owned = rest.owned; higher = omega (arith, low, high) }

grown_servers : (old : RingState) (more : List (List ℕ)) (new : RingState) → GrowsBy old more new → new.servers ≡ old.servers ++ more
grown_servers old [] new is = ap (λ (ring : RingState). ring.servers) is ∙ sym (append-nil old.servers)
grown_servers old (address ∷ more) new is =
    grown_servers is.0 more new is.2 ∙ ap (λ (ss : List (List ℕ)). ss ++ more) is.1.servers ∙ append_assoc old.servers (address ∷ []) more

-- after the first of these servers, the others join
grows_on : (old : RingState) (first second : List (List ℕ)) (now new : RingState) → GrowsBy old first now → GrowsBy old (first ++ second) new → GrowsBy now second new
grows_on old [] second now new f g = subst (λ (ring : RingState). GrowsBy ring second new) (sym f) g
grows_on old (address ∷ first) second now new f g =
    grows_on f.0 first second now new f.2
    (subst (λ (ring : RingState). GrowsBy ring (first ++ second) new) (joined_one (length old.servers) address old g.0 f.0 g.1 f.1) g.2)

-- a proxy's ring grows along a log
grown : (proxy : ℕ) (old new : RingState) (log : Log) → IsRingAfter proxy old log new → (more : List (List ℕ)) × GrowsBy old more new
grown proxy old new [] is = ([], is)
grown proxy old new (Happened event ∷ es) is = grown proxy old new es is
grown proxy old new (Joined of server address up ∷ es) (inl is) =
    let rest = grown proxy is.1 new es is.3 in
    (address ∷ rest.0, (is.1, subst (λ (place : ℕ). HasJoined place address old is.1) is.2.last is.2, rest.1))
grown proxy old new (Joined of server address up ∷ es) (inr is) = grown proxy old new es is.1
grown proxy old new (Restarted server ∷ es) is = grown proxy old new es is

-- the ring after a front of a log
ring_between : (proxy : ℕ) (old new : RingState) (front rest : Log) → IsRingAfter proxy old (front ++ rest) new
    → (now : RingState) × IsRingAfter proxy old front now × IsRingAfter proxy now rest new
ring_between proxy old new [] rest is = (old, refl, is)
ring_between proxy old new (Happened event ∷ es) rest is = ring_between proxy old new es rest is
ring_between proxy old new (Joined of server address up ∷ es) rest (inl is) =
    let later = ring_between proxy is.1 new es rest is.3 in
    (later.0, inl (is.0, is.1, is.2, later.1), later.2)
ring_between proxy old new (Joined of server address up ∷ es) rest (inr is) =
    let later = ring_between proxy old new es rest is.1 in
    (later.0, inr (is.0, later.1), later.2)
ring_between proxy old new (Restarted server ∷ es) rest is = ring_between proxy old new es rest is

-- a command on a key has that key
pub has_key : (key : List ℕ) (atom : Atom (List ℕ)) → is_on key atom ≡ true → atom_key atom ≡ Some key
has_key key atom on =
    (elim (atom_key atom) as (λ (own : Option (List ℕ)). option_map_or (λ text. bytes_eq text key) own false ≡ true → own ≡ Some key) [
      | None ↦ λ never. absurd cc
      | Some text ↦ λ same. ap (λ (k : List ℕ). Some k) (same_text text key (sym same))
    ]) on

-- the servers that joined at a proxy along a log
abbrev joined_all : ℕ → Log → List (List ℕ)
joined_all proxy [] = []
joined_all proxy (Happened event ∷ es) = joined_all proxy es
joined_all proxy (Joined of server address up ∷ es) = if of == proxy then address ∷ joined_all proxy es else joined_all proxy es
joined_all proxy (Restarted server ∷ es) = joined_all proxy es

-- its ring grows by them
joined_grows : (proxy : ℕ) (old new : RingState) (log : Log) → IsRingAfter proxy old log new → GrowsBy old (joined_all proxy log) new
joined_grows proxy old new [] is = is
joined_grows proxy old new (Happened event ∷ es) is = joined_grows proxy old new es is
joined_grows proxy old new (Joined of server address up ∷ es) (inl is) =
    let first : HasJoined (length old.servers) address old is.1 = subst (λ (place : ℕ). HasJoined place address old is.1) is.2.last is.2 in
    let own : of == proxy ≡ true = subst (λ (p : ℕ). of == p ≡ true) is.0 (own_number of) in
    subst (λ (v : Bool). GrowsBy old (if v then address ∷ joined_all proxy es else joined_all proxy es) new) (sym own)
    (is.1, first, joined_grows proxy is.1 new es is.3)
joined_grows proxy old new (Joined of server address up ∷ es) (inr is) =
    subst (λ (v : Bool). GrowsBy old (if v then address ∷ joined_all proxy es else joined_all proxy es) new) (sym (other_number of proxy is.0))
    (joined_grows proxy old new es is.1)
joined_grows proxy old new (Restarted server ∷ es) is = joined_grows proxy old new es is

-- they join at one place after another, so those up to a place are the first of them
take_one : (address : List ℕ) (rest : List (List ℕ)) (size place : ℕ) → size ≤ place → address ∷ take (suc place - suc size) rest ≡ take (suc place - size) (address ∷ rest)
take_one address rest size place less =
    let count : suc place - size ≡ suc (suc place - suc size) = omega (arith, less) in
    ap (λ (n : ℕ). take n (address ∷ rest)) (sym count)

take_past : (some rest : List (List ℕ)) (size place : ℕ) → place < size → take (suc place - suc size) rest ≡ take (suc place - size) some
take_past some rest size place past =
    let none : suc place - size ≡ 0 = omega (arith, past) in
    let less : suc place - suc size ≡ 0 = omega (arith, past) in
    ap (λ (n : ℕ). take n rest) less ∙ sym (ap (λ (n : ℕ). take n some) none)

joined_here : (address : List ℕ) (size place : ℕ) (first all : List (List ℕ)) → first ≡ take (suc place - suc size) all
    → (if nat_le size place then address ∷ first else first) ≡ take (suc place - size) (address ∷ all)
joined_here address size place first all rest = ⊎_elim
    (λ inside. subst (λ (v : Bool). (if v then address ∷ first else first) ≡ take (suc place - size) (address ∷ all)) (sym inside.0)
    (ap (λ (ss : List (List ℕ)). address ∷ ss) rest ∙ take_one address all size place inside.1))
    (λ past. subst (λ (v : Bool). (if v then address ∷ first else first) ≡ take (suc place - size) (address ∷ all)) (sym past.0)
    (rest ∙ take_past (address ∷ all) all size place past.1))
    (leb_tells size place)

take_nothing : (n : ℕ) → take {A = List ℕ} n [] ≡ []
take_nothing zero = refl
take_nothing (suc n) = refl

joined_first : (proxy place : ℕ) (old new : RingState) (log : Log) → IsRingAfter proxy old log new
    → joined_to proxy place log ≡ take (suc place - length old.servers) (joined_all proxy log)
joined_first proxy place old new [] is = sym (take_nothing (suc place - length old.servers))
joined_first proxy place old new (Happened event ∷ es) is = joined_first proxy place old new es is
joined_first proxy place old new (Joined of server address up ∷ es) (inl is) =
    let more : length is.1.servers ≡ length old.servers + 1 = ap (λ (ss : List (List ℕ)). length ss) is.2.servers ∙ length_push old.servers address in
    let many : length is.1.servers ≡ suc (length old.servers) = omega (arith, more) in
    let rest : joined_to proxy place es ≡ take (suc place - suc (length old.servers)) (joined_all proxy es) =
    subst (λ (n : ℕ). joined_to proxy place es ≡ take (suc place - n) (joined_all proxy es)) many (joined_first proxy place is.1 new es is.3) in
    let own : of == proxy ≡ true = subst (λ (p : ℕ). of == p ≡ true) is.0 (own_number of) in
    subst (λ (v : Bool). (if v && nat_le server place then address ∷ joined_to proxy place es else joined_to proxy place es)
    ≡ take (suc place - length old.servers) (if v then address ∷ joined_all proxy es else joined_all proxy es)) (sym own)
    (subst (λ (n : ℕ). (if nat_le n place then address ∷ joined_to proxy place es else joined_to proxy place es)
    ≡ take (suc place - length old.servers) (address ∷ joined_all proxy es)) (sym is.2.last)
    (joined_here address (length old.servers) place (joined_to proxy place es) (joined_all proxy es) rest))
joined_first proxy place old new (Joined of server address up ∷ es) (inr is) =
    subst (λ (v : Bool). (if v && nat_le server place then address ∷ joined_to proxy place es else joined_to proxy place es)
    ≡ take (suc place - length old.servers) (if v then address ∷ joined_all proxy es else joined_all proxy es)) (sym (other_number of proxy is.0))
    (joined_first proxy place old new es is.1)
joined_first proxy place old new (Restarted server ∷ es) is = joined_first proxy place old new es is

-- in a ring that has grown from a ring, a key's owner is at no lower place than in one that it has grown by
grows_higher : (ring : RingState) (key : List ℕ) → IsRing ring → (first second : List (List ℕ)) (old new : RingState) → GrowsBy ring first old → GrowsBy old second new
    → owner_in old key ≤ owner_in new key
grows_higher ring key good first second old new by on =
    let inside = owner_inside ring key good in
    let opens : IsOwned key ring = record { pointed = good.pointed; inside = omega (arith, inside) } in
    (grows_goes key old second new on (grows_goes key ring first old by opens).owned).higher

-- two commands on a key go where their rings have it: if its owner in the second ring is no lower, to no lower place
routed_lower : (order : Order) (key : List ℕ) (a b : Tag) (p q : ℕ) (x y : Atom (List ℕ)) → command_at order a ≡ Some (to_place p x)
    → command_at order b ≡ Some (to_place q y) → is_on key x ≡ true → is_on key y ≡ true
    → ((e f : TakenRequest) → asked_at order a.session a.request ≡ Some e → asked_at order b.session b.request ≡ Some f → p ≡ owner_in e.ring key
    → owner_in e.ring key ≤ owner_in f.ring key) → p ≤ q
routed_lower order key a b p q x y first second on_first on_second kept =
    let e = in_request (asked_at order a.session a.request) a.atom (to_place p x) first in
    let f = in_request (asked_at order b.session b.request) b.atom (to_place q y) second in
    let here : p ≡ owner_in e.0.ring key = taken-own e.0.ring e.0.what a.atom (to_place p x) e.2 key (has_key key x on_first) in
    let there : q ≡ owner_in f.0.ring key = taken-own f.0.ring f.0.what b.atom (to_place q y) f.2 key (has_key key y on_second) in
    let higher = kept e.0 f.0 e.1 f.1 here in
    omega (arith, here, there, higher)

-- of two commands on a key that one proxy took, the one whose request was taken first is at no higher place
pub taken_lower : (home : Homes) (losses : Losses) (ring : RingState) (opening : CacheState) (order : Order) (texts outs : ℕ → List ℕ) (histories : ℕ → List Entry) (log : Log)
    → Accounts home losses ring opening order texts outs histories log → IsRing ring → (key : List ℕ) (a b : Tag) (p q : ℕ) (x y : Atom (List ℕ))
    → command_at order a ≡ Some (to_place p x) → command_at order b ≡ Some (to_place q y) → is_on key x ≡ true → is_on key y ≡ true
    → home a.session ≡ home b.session → WasTaken a (before (takes b.session) b.request log) → p ≤ q
taken_lower home losses ring opening order texts outs histories log h good key a b p q x y first second on_first on_second one early =
    let split = front_of (takes a.session) a.request (before (takes b.session) b.request log) in
    let same = before-front (takes a.session) (takes b.session) a.request b.request log early in
    let whole : before (takes b.session) b.request log ≡ before (takes a.session) a.request log ++ split.0 = split.1 ∙ ap (λ (l : Log). l ++ split.0) (sym same) in
    routed_lower order key a b p q x y first second on_first on_second
    (λ e f at also here.
    let between = ring_between (home b.session) ring f.ring (before (takes a.session) a.request log) split.0
    (subst (λ (l : Log). IsRingAfter (home b.session) ring l f.ring) whole (h.rings b.session b.request f also)) in
    let its : IsRingAfter (home b.session) ring (before (takes a.session) a.request log) e.ring =
    subst (λ (proxy : ℕ). IsRingAfter proxy ring (before (takes a.session) a.request log) e.ring) one (h.rings a.session a.request e at) in
    let now : between.0 ≡ e.ring = ring_one (home b.session) ring between.0 e.ring (before (takes a.session) a.request log) between.1 its in
    let before_it = grown (home b.session) ring e.ring (before (takes a.session) a.request log) its in
    let after_it = grown (home b.session) between.0 f.ring split.0 between.2 in
    grows_higher ring key good before_it.0 after_it.0 e.ring f.ring before_it.1 (subst (λ (r : RingState). GrowsBy r after_it.0 f.ring) now after_it.1))

-- the ring that the first of these servers have joined
grows_front : (old : RingState) (first second : List (List ℕ)) (new : RingState) → GrowsBy old (first ++ second) new
    → (mid : RingState) × GrowsBy old first mid × GrowsBy mid second new
grows_front old [] second new g = (old, refl, g)
grows_front old (address ∷ first) second new g =
    let rest = grows_front g.0 first second new g.2 in
    (rest.0, (g.0, g.1, rest.1), rest.2)

-- a key's owner that did not join since was its owner before
joined_keeps : (key : List ℕ) (server : ℕ) (address : List ℕ) (old new : RingState) → HasJoined server address old new → IsOwned key old
    → owner_in new key < length old.servers → owner_in old key ≡ owner_in new key
joined_keeps key server address old new joins owned low =
    let last = joins.last in
    let some : 0 < length new.points = shown-some (old.points ++ pairs_at server (points_of address)) new.points joins.points
    (omega (arith, owned.pointed, length-append old.points (pairs_at server (points_of address)))) in
    elim (moves old.points new.points server (points_of address) some joins.points (hash_of key)) [
      | inl stays ↦ (let same : owner_in new key ≡ owner_in old key = stays in sym same)
      | inr goes ↦ (let is : owner_in new key ≡ server = goes in absurd (omega (arith, last, is, low)))
    ]

grown_keeps : (key : List ℕ) (old : RingState) (more : List (List ℕ)) (new : RingState) → GrowsBy old more new → IsOwned key old → owner_in new key < length old.servers
    → owner_in old key ≡ owner_in new key
grown_keeps key old [] new is owned low = ap (λ (ring : RingState). owner_in ring key) (sym is)
grown_keeps key old (address ∷ more) new is owned low =
    let many : length is.0.servers ≡ length old.servers + 1 = ap (λ (ss : List (List ℕ)). length ss) is.1.servers ∙ length_push old.servers address in
    let next = joined_goes key (length old.servers) address old is.0 is.1 owned in
    let later : owner_in is.0 key ≡ owner_in new key = grown_keeps key is.0 more new is.2 next.owned (omega (arith, many, low)) in
    joined_keeps key (length old.servers) address old is.0 is.1 owned (omega (arith, later, low)) ∙ later

-- in two rings that have grown from one, by servers of which those up to the key's owner in the first are the same, the second owner is at no lower place
had_higher : (ring : RingState) (key : List ℕ) → IsRing ring → (first second : List (List ℕ)) (old new : RingState) → GrowsBy ring first old → GrowsBy ring second new
    → take (suc (owner_in old key) - length ring.servers) second ≡ take (suc (owner_in old key) - length ring.servers) first → owner_in old key ≤ owner_in new key
had_higher ring key good first second old new by on same =
    let inside = owner_inside ring key good in
    let opens : IsOwned key ring = record { pointed = good.pointed; inside = omega (arith, inside) } in
    let n : ℕ = suc (owner_in old key) - length ring.servers in
    let mid = grows_front ring (take n first) (drop n first) old (subst (λ (ss : List (List ℕ)). GrowsBy ring ss old) (sym (take-append-drop n first)) by) in
    let later : GrowsBy mid.0 (drop n second) new = grows_on ring (take n first) (drop n second) mid.0 new mid.1
    (subst (λ (ss : List (List ℕ)). GrowsBy ring ss new) (sym (take-append-drop n second) ∙ ap (λ (ss : List (List ℕ)). ss ++ drop n second) same) on) in
    let owned = (grows_goes key ring (take n first) mid.0 mid.1 opens).owned in
    let all : length old.servers ≡ length ring.servers + length first =
    ap (λ (ss : List (List ℕ)). length ss) (grown_servers ring first old by) ∙ length-append ring.servers first in
    let some : length mid.0.servers ≡ length ring.servers + length (take n first) =
    ap (λ (ss : List (List ℕ)). length ss) (grown_servers ring (take n first) mid.0 mid.1) ∙ length-append ring.servers (take n first) in
    let taken = length-take n first in
    let last = (grows_goes key ring first old by opens).owned.inside in
    let low : owner_in old key < length mid.0.servers = omega (arith, last, all, some, taken) in
    let is : owner_in mid.0 key ≡ owner_in old key = grown_keeps key mid.0 (drop n first) old mid.2 owned low in
    let higher = (grows_goes key mid.0 (drop n second) new later owned).higher in
    omega (arith, is, higher)

-- likewise if the second one's proxy had the servers up to the place of the first
pub had_lower : (home : Homes) (losses : Losses) (ring : RingState) (opening : CacheState) (order : Order) (texts outs : ℕ → List ℕ) (histories : ℕ → List Entry) (log : Log)
    → Accounts home losses ring opening order texts outs histories log → IsRing ring → (key : List ℕ) (a b : Tag) (p q : ℕ) (x y : Atom (List ℕ))
    → command_at order a ≡ Some (to_place p x) → command_at order b ≡ Some (to_place q y) → is_on key x ≡ true → is_on key y ≡ true
    → HasServersTo home p a b log → p ≤ q
had_lower home losses ring opening order texts outs histories log h good key a b p q x y first second on_first on_second has =
    let old_log : Log = before (takes a.session) a.request log in
    let new_log : Log = before (takes b.session) b.request log in
    routed_lower order key a b p q x y first second on_first on_second
    (λ e f at also here.
    let old : IsRingAfter (home a.session) ring old_log e.ring = h.rings a.session a.request e at in
    let new : IsRingAfter (home b.session) ring new_log f.ring = h.rings b.session b.request f also in
    let same : take (suc p - length ring.servers) (joined_all (home b.session) new_log) ≡ take (suc p - length ring.servers) (joined_all (home a.session) old_log) =
    sym (joined_first (home b.session) p ring f.ring new_log new) ∙ has ∙ joined_first (home a.session) p ring e.ring old_log old in
    had_higher ring key good (joined_all (home a.session) old_log) (joined_all (home b.session) new_log) e.ring f.ring
    (joined_grows (home a.session) ring e.ring old_log old) (joined_grows (home b.session) ring f.ring new_log new)
    (subst (λ (n : ℕ). take (suc n - length ring.servers) (joined_all (home b.session) new_log) ≡ take (suc n - length ring.servers) (joined_all (home a.session) old_log))
    here same))

-- two commands on a key go to one place if it is the key's owner by the rings of both
pub stays_lower : (order : Order) (key : List ℕ) (a b : Tag) (p q : ℕ) (x y : Atom (List ℕ)) → command_at order a ≡ Some (to_place p x)
    → command_at order b ≡ Some (to_place q y) → is_on key x ≡ true → is_on key y ≡ true → (e f : TakenRequest) → asked_at order a.session a.request ≡ Some e
    → asked_at order b.session b.request ≡ Some f → owner_in e.ring key ≡ owner_in f.ring key → p ≤ q
stays_lower order key a b p q x y first second on_first on_second e f asked also_asked same =
    routed_lower order key a b p q x y first second on_first on_second
    (λ d g at also here.
    let one : d ≡ e = (let both : Some d ≡ Some e = sym at ∙ asked in cc) in
    let two : g ≡ f = (let both : Some g ≡ Some f = sym also ∙ also_asked in cc) in
    let owner : owner_in d.ring key ≡ owner_in g.ring key =
    ap (λ (r : TakenRequest). owner_in r.ring key) one ∙ same ∙ sym (ap (λ (r : TakenRequest). owner_in r.ring key) two) in
    omega (arith, owner))

-- likewise of two commands that any proxies took, if the key's owner in the ring of the second is no lower than in the first one's ring
pub kept_lower : (home : Homes) (losses : Losses) (ring : RingState) (opening : CacheState) (order : Order) (texts outs : ℕ → List ℕ) (histories : ℕ → List Entry) (log : Log)
    → Accounts home losses ring opening order texts outs histories log → (key : List ℕ) (a b : Tag) (p q : ℕ) (x y : Atom (List ℕ))
    → command_at order a ≡ Some (to_place p x) → command_at order b ≡ Some (to_place q y) → is_on key x ≡ true → is_on key y ≡ true → (old new : RingState)
    → IsRingAfter (home a.session) ring (before (takes a.session) a.request log) old → IsRingAfter (home b.session) ring (before (takes b.session) b.request log) new
    → owner_in old key ≤ owner_in new key → p ≤ q
kept_lower home losses ring opening order texts outs histories log h key a b p q x y first second on_first on_second old new is_old is_new kept =
    routed_lower order key a b p q x y first second on_first on_second
    (λ e f at also here.
    let old_is : old ≡ e.ring = ring_one (home a.session) ring old e.ring (before (takes a.session) a.request log) is_old (h.rings a.session a.request e at) in
    let new_is : new ≡ f.ring = ring_one (home b.session) ring new f.ring (before (takes b.session) b.request log) is_new (h.rings b.session b.request f also) in
    subst (λ (r : RingState). owner_in r key ≤ owner_in f.ring key) old_is (subst (λ (r : RingState). owner_in old key ≤ owner_in r key) new_is kept))

-- so if the ring of the second has the servers of the first one's ring, and then others or none
pub grown_lower : (home : Homes) (losses : Losses) (ring : RingState) (opening : CacheState) (order : Order) (texts outs : ℕ → List ℕ) (histories : ℕ → List Entry) (log : Log)
    → Accounts home losses ring opening order texts outs histories log → IsRing ring → (key : List ℕ) (a b : Tag) (p q : ℕ) (x y : Atom (List ℕ))
    → command_at order a ≡ Some (to_place p x) → command_at order b ≡ Some (to_place q y) → is_on key x ≡ true → is_on key y ≡ true → (old new : RingState)
    → IsRingAfter (home a.session) ring (before (takes a.session) a.request log) old → IsRingAfter (home b.session) ring (before (takes b.session) b.request log) new
    → (more : List (List ℕ)) → new.servers ≡ old.servers ++ more → p ≤ q
grown_lower home losses ring opening order texts outs histories log h good key a b p q x y first second on_first on_second old new is_old is_new more grows =
    let by_old = grown (home a.session) ring old (before (takes a.session) a.request log) is_old in
    let by_new = grown (home b.session) ring new (before (takes b.session) b.request log) is_new in
    let servers : ring.servers ++ by_new.0 ≡ ring.servers ++ (by_old.0 ++ more) =
    sym (grown_servers ring by_new.0 new by_new.1) ∙ grows ∙ ap (λ (ss : List (List ℕ)). ss ++ more) (grown_servers ring by_old.0 old by_old.1)
    ∙ append_assoc ring.servers by_old.0 more in
    let on : GrowsBy old more new = grows_on ring by_old.0 more old new by_old.1
    (subst (λ (ss : List (List ℕ)). GrowsBy ring ss new) (append_cancel_left ring.servers by_new.0 (by_old.0 ++ more) servers) by_new.1) in
    kept_lower home losses ring opening order texts outs histories log h key a b p q x y first second on_first on_second old new is_old is_new
    (grows_higher ring key good by_old.0 more old new by_old.1 on)
