-- A log that grows.
use Rattle.std.proofs.Common.{◌≡◌, ◌∙◌, ℕ, zero, suc, ◌+◌, ◌<◌, ◌≤◌, ◌==◌, ◌&&◌, not, inl, inr, Bool, true, false, if◌then◌else◌, List, [], ◌∷◌, ◌++◌, length, refl, sym, ap, append_assoc, append-nil, arith}
use Rattle.std.proofs.lemmas.Bool.{true≢false}
use Rattle.std.proofs.lemmas.List.{length-append}
use Rattle.mc_ring.specs.Rings.{RingState}
use Rattle.mc_world.specs.declared.events.Event.TheVariants.{LinkBack, LinkLost, ServerTurn}
use Rattle.mc_world.specs.declared.logs.Logged.{Logged}
use Rattle.mc_world.specs.declared.logs.Logged.TheVariants.{Happened, Joined, Restarted}
use Rattle.mc_world.specs.Logs.{IsRingAfter, Log, before, drops, loses, moment_of, moments_of, number_of, serves, up_by, up_from}

pub number-push : (is : Logged → Bool) (log : Log) (e : Logged) → number_of is (log ++ e ∷ []) ≡ number_of is log + (if is e then 1 else 0)
number-push is [] e = (elim (is e) as (λ v. (if v then suc 0 else 0) ≡ 0 + (if v then 1 else 0)) [
  | true ↦ omega arith
  | false ↦ omega arith
])
number-push is (x ∷ xs) e =
    let again = number-push is xs e in
    (elim (is x) as (λ v. (if v then suc (number_of is (xs ++ e ∷ [])) else number_of is (xs ++ e ∷ [])) ≡ (if v then suc (number_of is xs) else number_of is xs) + (if is e then 1 else 0)) [
      | true ↦ omega (arith, again)
      | false ↦ again
    ])

pub up-push : (proxy place : ℕ) (up : Bool) (log : Log) (e : Logged) → up_from proxy place up (log ++ e ∷ []) ≡ up_by proxy place e (up_from proxy place up log)
up-push proxy place up [] e = refl
up-push proxy place up (x ∷ xs) e = up-push proxy place (up_by proxy place x up) xs e

-- the place of an earlier event
pub before-more : (is : Logged → Bool) (number : ℕ) (log more : Log) → number < number_of is log → before is number (log ++ more) ≡ before is number log
before-more is number [] more h = absurd (omega (arith, h))
before-more is zero (x ∷ xs) more h =
    (elim (is x) as (λ v. zero < (if v then suc (number_of is xs) else number_of is xs)
    → (if v then [] else x ∷ before is zero (xs ++ more)) ≡ (if v then [] else x ∷ before is zero xs)) [
      | true ↦ λ k. refl
      | false ↦ λ k. ap (λ (es : Log). x ∷ es) (before-more is zero xs more k)
    ]) h
before-more is (suc number) (x ∷ xs) more h =
    (elim (is x) as (λ v. suc number < (if v then suc (number_of is xs) else number_of is xs)
    → x ∷ before is (if v then number else suc number) (xs ++ more) ≡ x ∷ before is (if v then number else suc number) xs) [
      | true ↦ λ k. ap (λ (es : Log). x ∷ es) (before-more is number xs more (omega (arith, k)))
      | false ↦ λ k. ap (λ (es : Log). x ∷ es) (before-more is (suc number) xs more k)
    ]) h

pub before-stays : (is : Logged → Bool) (number : ℕ) (log : Log) (e : Logged) → number < number_of is log → before is number (log ++ e ∷ []) ≡ before is number log
before-stays is number log e h = before-more is number log (e ∷ []) h

-- an event of another kind is before it
pub before-other : (is : Logged → Bool) (number : ℕ) (x : Logged) (xs : Log) → is x ≡ false → before is number (x ∷ xs) ≡ x ∷ before is number xs
before-other is zero x xs other = rw other refl
before-other is (suc number) x xs other = rw other refl

-- the place of an event after a number of its kind, and of the last event
pub before-here : (is : Logged → Bool) (log : Log) (e : Logged) (more : Log) → is e ≡ true → before is (number_of is log) (log ++ e ∷ more) ≡ log
before-here is [] e more h = rw h refl
before-here is (x ∷ xs) e more h =
    let again = before-here is xs e more h in
    (elim (is x) as (λ v. is x ≡ v → before is (if v then suc (number_of is xs) else number_of is xs) (x ∷ (xs ++ e ∷ more)) ≡ x ∷ xs) [
      | true ↦ λ own. ap (λ (v : Bool). x ∷ before is (if v then number_of is xs else suc (number_of is xs)) (xs ++ e ∷ more)) own ∙ ap (λ (es : Log). x ∷ es) again
      | false ↦ λ other. before-other is (number_of is xs) x (xs ++ e ∷ more) other ∙ ap (λ (es : Log). x ∷ es) again
    ]) refl

pub before-last : (is : Logged → Bool) (log : Log) (e : Logged) → is e ≡ true → before is (number_of is log) (log ++ e ∷ []) ≡ log
before-last is log e h = before-here is log e [] h

-- one more event that is not counted, and one that is
pub number-none : (is : Logged → Bool) (log : Log) (e : Logged) → is e ≡ false → number_of is (log ++ e ∷ []) ≡ number_of is log
number-none is log e none =
    let more = number-push is log e in
    let nothing : ◌≡◌ {A = ℕ} (if is e then 1 else 0) 0 = ap (λ (v : Bool). if v then 1 else 0) none in
    omega (arith, more, nothing)

pub number-one : (is : Logged → Bool) (log : Log) (e : Logged) → is e ≡ true → number_of is (log ++ e ∷ []) ≡ number_of is log + 1
number-one is log e own =
    let more = number-push is log e in
    let one : ◌≡◌ {A = ℕ} (if is e then 1 else 0) 1 = ap (λ (v : Bool). if v then 1 else 0) own in
    omega (arith, more, one)

-- the whole log is before an event that was not done
pub before-past : (is : Logged → Bool) (number : ℕ) (log : Log) → number_of is log ≤ number → before is number log ≡ log
before-past is number [] h = refl
before-past is zero (x ∷ xs) h =
    (elim (is x) as (λ v. (if v then suc (number_of is xs) else number_of is xs) ≤ zero → (if v then [] else x ∷ before is zero xs) ≡ x ∷ xs) [
      | true ↦ λ k. absurd (omega (arith, k))
      | false ↦ λ k. ap (λ (es : Log). x ∷ es) (before-past is zero xs k)
    ]) h
before-past is (suc number) (x ∷ xs) h =
    (elim (is x) as (λ v. (if v then suc (number_of is xs) else number_of is xs) ≤ suc number → x ∷ before is (if v then number else suc number) xs ≡ x ∷ xs) [
      | true ↦ λ k. ap (λ (es : Log). x ∷ es) (before-past is number xs (omega (arith, k)))
      | false ↦ λ k. ap (λ (es : Log). x ∷ es) (before-past is (suc number) xs k)
    ]) h

-- there are no more before an event than in all
counted : (v : Bool) (few many : ℕ) → few ≤ many → (if v then suc few else few) ≤ (if v then suc many else many)
counted true few many le = omega (arith, le)
counted false few many le = le

pub number-before : (is kind : Logged → Bool) (number : ℕ) (log : Log) → number_of is (before kind number log) ≤ number_of is log
number-before is kind number [] = omega arith
number-before is kind zero (x ∷ xs) =
    let again = counted (is x) (number_of is (before kind zero xs)) (number_of is xs) (number-before is kind zero xs) in
    (elim (kind x) as (λ v. number_of is (if v then [] else x ∷ before kind zero xs) ≤ (if is x then suc (number_of is xs) else number_of is xs)) [
      | true ↦ omega arith
      | false ↦ again
    ])
number-before is kind (suc number) (x ∷ xs) =
    counted (is x) (number_of is (before kind (if kind x then number else suc number) xs)) (number_of is xs) (number-before is kind (if kind x then number else suc number) xs)

-- an event joins no server, and restarts none
abbrev pub IsEvent : Logged → Type 0
IsEvent (Happened event) = Unit {0}
IsEvent (Joined proxy server address up) = ⊥
IsEvent (Restarted server) = ⊥

-- such an event leaves the ring of each proxy as it was, and so does a restart
pub ring-push : (proxy : ℕ) (opening now : RingState) (log : Log) (e : Logged) → IsEvent e → IsRingAfter proxy opening log now → IsRingAfter proxy opening (log ++ e ∷ []) now
ring-push proxy opening now [] (Happened event) is h = h
ring-push proxy opening now [] (Joined of server address up) is h = absurd is
ring-push proxy opening now [] (Restarted server) is h = absurd is
ring-push proxy opening now (Happened event ∷ es) e is h = ring-push proxy opening now es e is h
ring-push proxy opening now (Joined of server address up ∷ es) e is h = elim h [
  | inl k ↦ inl (k.0, k.1, k.2, ring-push proxy k.1 now es e is k.3)
  | inr k ↦ inr (k.0, ring-push proxy opening now es e is k.1)
]
ring-push proxy opening now (Restarted server ∷ es) e is h = ring-push proxy opening now es e is h

pub ring-restart : (proxy : ℕ) (opening now : RingState) (log : Log) (server : ℕ) → IsRingAfter proxy opening log now → IsRingAfter proxy opening (log ++ Restarted server ∷ []) now
ring-restart proxy opening now [] server h = h
ring-restart proxy opening now (Happened event ∷ es) server h = ring-restart proxy opening now es server h
ring-restart proxy opening now (Joined of other address up ∷ es) server h = elim h [
  | inl k ↦ inl (k.0, k.1, k.2, ring-restart proxy k.1 now es server k.3)
  | inr k ↦ inr (k.0, ring-restart proxy opening now es server k.1)
]
ring-restart proxy opening now (Restarted other ∷ es) server h = ring-restart proxy opening now es server h

-- moments of a server
pub moments-push : (server : ℕ) (log : Log) (e : Logged) → moments_of server (log ++ e ∷ []) ≡ moments_of server log ++ moment_of server e
moments-push server [] e = append-nil (moment_of server e)
moments-push server (x ∷ xs) e =
    ap (λ (ms : List ℕ). moment_of server x ++ ms) (moments-push server xs e) ∙ sym (append_assoc (moment_of server x) (moments_of server xs) (moment_of server e))

moment-one : (server : ℕ) (e : Logged) → length (moment_of server e) ≡ (if serves server e then 1 else 0)
moment-one server (Happened (ServerTurn proxy at generation moment)) = (elim (at == server) as (λ v. length (if v then moment ∷ [] else []) ≡ (if v then 1 else 0)) [
  | true ↦ refl
  | false ↦ refl
])
moment-one server other = refl

pub moments-count : (server : ℕ) (log : Log) → length (moments_of server log) ≡ number_of (serves server) log
moments-count server [] = refl
moments-count server (x ∷ xs) =
    let joined = length-append (moment_of server x) (moments_of server xs) in
    let one = moment-one server x in
    let again = moments-count server xs in
    (elim (serves server x) as (λ v. length (moment_of server x) ≡ (if v then 1 else 0)
    → length (moment_of server x ++ moments_of server xs) ≡ (if v then suc (number_of (serves server) xs) else number_of (serves server) xs)) [
      | true ↦ λ size. omega (arith, joined, size, again)
      | false ↦ λ size. omega (arith, joined, size, again)
    ]) one

-- a link is lost no more often than it goes down
loss_drops : (proxy place : ℕ) (e : Logged) (few many : ℕ) → few ≤ many → (if loses proxy place e then suc few else few) ≤ (if drops proxy place e then suc many else many)
loss_drops proxy place (Happened event) few many le = counted (loses proxy place (Happened event)) few many le
loss_drops proxy place (Joined of at address up) few many le = (elim (((of == proxy) && (at == place)) && not up) as (λ v. few ≤ (if v then suc many else many)) [
  | true ↦ omega (arith, le)
  | false ↦ le
])
loss_drops proxy place (Restarted at) few many le = le

pub losses_few : (proxy place : ℕ) (log : Log) → number_of (loses proxy place) log ≤ number_of (drops proxy place) log
losses_few proxy place [] = omega arith
losses_few proxy place (e ∷ es) = loss_drops proxy place e (number_of (loses proxy place) es) (number_of (drops proxy place) es) (losses_few proxy place es)

-- a link that does not go down stays up
up_by_other : (proxy place : ℕ) (e : Logged) → drops proxy place e ≡ false → up_by proxy place e true ≡ true
up_by_other proxy place (Happened (LinkLost of at)) h = ap (λ (v : Bool). if v then false else true) h
up_by_other proxy place (Happened (LinkBack of at)) h = (elim ((of == proxy) && (at == place)) as (λ v. (if v then true else true) ≡ true) [
  | true ↦ refl
  | false ↦ refl
])
up_by_other proxy place (Joined of at address now) h = (elim ((of == proxy) && (at == place)) as (λ v. (v && not now) ≡ false → (if v then now else true) ≡ true) [
  | true ↦ (elim now as (λ u. not u ≡ false → u ≡ true) [
    | true ↦ λ k. refl
    | false ↦ λ k. absurd (true≢false k)
  ])
  | false ↦ λ k. refl
]) h
up_by_other proxy place other h = refl

pub stays_up : (proxy place : ℕ) (log : Log) → number_of (drops proxy place) log ≡ 0 → up_from proxy place true log ≡ true
stays_up proxy place [] none = refl
stays_up proxy place (e ∷ es) none =
    (elim (drops proxy place e) as (λ v. drops proxy place e ≡ v → (if v then suc (number_of (drops proxy place) es) else number_of (drops proxy place) es) ≡ 0
    → up_from proxy place (up_by proxy place e true) es ≡ true) [
      | true ↦ λ own k. absurd (omega (arith, k))
      | false ↦ λ other k. ap (λ (up : Bool). up_from proxy place up es) (up_by_other proxy place e other) ∙ stays_up proxy place es k
    ]) refl none
