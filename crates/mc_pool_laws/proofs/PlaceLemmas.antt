-- Events of a log that are before others.
use Rattle.std.proofs.Common.{◌≡◌, ◌∙◌, ℕ, zero, suc, ◌<◌, Bool, true, false, if◌then◌else◌, [], ◌∷◌, ◌++◌, refl, ap, arith}
use Rattle.std.proofs.lemmas.Bool.{false≢true}
use Rattle.mc_world.specs.declared.events.Event.TheVariants.{Emit}
use Rattle.mc_world.specs.Logs.{Log, before, loses, number_of, puts}
use Rattle.mc_world.specs.declared.logs.Logged.{Logged}
use Rattle.mc_world.specs.declared.logs.Logged.TheVariants.{Happened}
use Rattle.mc_world.proofs.Log.LogLemmas.{before-more, before-other}

-- the log before an event is a front of the log
pub front_of : (kind : Logged → Bool) (k : ℕ) (log : Log) → (rest : Log) × (log ≡ before kind k log ++ rest)
front_of kind k [] = ([], refl)
front_of kind zero (x ∷ xs) =
    let again = front_of kind zero xs in
    (elim (kind x) as (λ v. (rest : Log) × (x ∷ xs ≡ (if v then [] else x ∷ before kind zero xs) ++ rest)) [
      | true ↦ (x ∷ xs, refl)
      | false ↦ (again.0, ap (λ (es : Log). x ∷ es) again.1)
    ])
front_of kind (suc k) (x ∷ xs) =
    let again = front_of kind (if kind x then k else suc k) xs in
    (again.0, ap (λ (es : Log). x ∷ es) again.1)

-- the log before one of the events in that front is as in the front
pub before-front : (is kind : Logged → Bool) (number k : ℕ) (log : Log) → number < number_of is (before kind k log) → before is number log ≡ before is number (before kind k log)
before-front is kind number k log early =
    let front = front_of kind k log in
    ap (λ (l : Log). before is number l) front.1 ∙ before-more is number (before kind k log) front.0 early

-- if a log has none of a kind, its first event is of another, and the rest has none
none_first : (kind : Logged → Bool) (x : Logged) (xs : Log) → number_of kind (x ∷ xs) ≡ 0 → (kind x ≡ false) × (number_of kind xs ≡ 0)
none_first kind x xs none =
    (elim (kind x) as (λ v. (if v then suc (number_of kind xs) else number_of kind xs) ≡ 0 → (v ≡ false) × (number_of kind xs ≡ 0)) [
      | true ↦ λ some. absurd (omega (arith, some))
      | false ↦ λ nothing. (refl, nothing)
    ]) none

-- an event that has none of another kind before it is itself before each of those
pub earlier : (is kind : Logged → Bool) → ((x : Logged) → is x ≡ true → kind x ≡ false) → (number k : ℕ) (log : Log) → number < number_of is log
    → number_of kind (before is number log) ≡ 0 → number < number_of is (before kind k log)
earlier is kind apart number k [] inside none = absurd (omega (arith, inside))
earlier is kind apart zero k (x ∷ xs) inside none =
    (elim (is x) as (λ v. is x ≡ v → 0 < (if v then suc (number_of is xs) else number_of is xs) → number_of kind (if v then [] else x ∷ before is zero xs) ≡ 0
    → 0 < number_of is (before kind k (x ∷ xs))) [
      | true ↦ λ own some nothing.
          let first : number_of is (before kind k (x ∷ xs)) ≡ suc (number_of is (before kind k xs)) =
          ap (λ (l : Log). number_of is l) (before-other kind k x xs (apart x own)) ∙ ap (λ (v : Bool). if v then suc (number_of is (before kind k xs)) else number_of is (before kind k xs)) own in
          omega (arith, first)
      | false ↦ λ other some nothing.
          let parts = none_first kind x (before is zero xs) nothing in
          let rest : number_of is (before kind k (x ∷ xs)) ≡ number_of is (before kind k xs) =
          ap (λ (l : Log). number_of is l) (before-other kind k x xs parts.0) ∙ ap (λ (v : Bool). if v then suc (number_of is (before kind k xs)) else number_of is (before kind k xs)) other in
          let again = earlier is kind apart zero k xs some parts.1 in
          omega (arith, rest, again)
    ]) refl inside none
earlier is kind apart (suc number) k (x ∷ xs) inside none =
    (elim (is x) as (λ v. is x ≡ v → suc number < (if v then suc (number_of is xs) else number_of is xs)
    → number_of kind (x ∷ before is (if v then number else suc number) xs) ≡ 0 → suc number < number_of is (before kind k (x ∷ xs))) [
      | true ↦ λ own some nothing.
          let parts = none_first kind x (before is number xs) nothing in
          let first : number_of is (before kind k (x ∷ xs)) ≡ suc (number_of is (before kind k xs)) =
          ap (λ (l : Log). number_of is l) (before-other kind k x xs parts.0) ∙ ap (λ (v : Bool). if v then suc (number_of is (before kind k xs)) else number_of is (before kind k xs)) own in
          let again = earlier is kind apart number k xs (omega (arith, some)) parts.1 in
          omega (arith, first, again)
      | false ↦ λ other some nothing.
          let parts = none_first kind x (before is (suc number) xs) nothing in
          let rest : number_of is (before kind k (x ∷ xs)) ≡ number_of is (before kind k xs) =
          ap (λ (l : Log). number_of is l) (before-other kind k x xs parts.0) ∙ ap (λ (v : Bool). if v then suc (number_of is (before kind k xs)) else number_of is (before kind k xs)) other in
          let again = earlier is kind apart (suc number) k xs some parts.1 in
          omega (arith, rest, again)
    ]) refl inside none

-- the emission of an answer is no loss
pub puts_apart : (client proxy place : ℕ) (x : Logged) → puts client x ≡ true → loses proxy place x ≡ false
puts_apart client proxy place (Happened (Emit of)) own = refl
puts_apart client proxy place other own = absurd (false≢true own)
