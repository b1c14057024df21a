-- Two commands of one client on a key, whose replies the proxy took.
use Rattle.std.proofs.Common.{◌≡◌, ◌∙◌, ⊎_elim, ℕ, zero, suc, ◌<◌, ◌≤◌, inl, inr, Bool, true, false, if◌then◌else◌, List, [], ◌∷◌, Some, slice_get, refl, sym, ap, ap₂, subst, arith}
use Rattle.std.proofs.lemmas.Bool.{cases_lt}
use Rattle.std.proofs.lemmas.Option.{same_Some}
use Rattle.mc_ring.specs.Rings.{IsRing, RingState}
use Rattle.mc_route.specs.declared.losses.Losses.{Losses}
use Rattle.mc_route.specs.Routes.{owner_in, to_place}
use Rattle.mc_link.specs.declared.turns.Tag.{Tag}
use Rattle.mc_cache.specs.CacheState.{CacheState}
use Rattle.mc_account.specs.Lookups.{IsBefore, asked_at}
use Rattle.mc_account.specs.Orders.{Order, TakenRequest}
use Rattle.mc_history.specs.declared.entries.Entry.{Entry}
use Rattle.mc_history.specs.Histories.{tag_in}
use Rattle.mc_world.specs.Accounts.{Accounts, WasTaken}
use Rattle.mc_world.specs.Homes.{Homes}
use Rattle.mc_world.specs.Logs.{Log, before, number_of, serves, takes}
use Rattle.mc_world.specs.declared.logs.Logged.{Logged}
use Rattle.mc_world.proofs.Log.LogLemmas.{number-before}
use Rattle.mc_pool_laws.proofs.OwnerLemmas.{taken-own}
use Rattle.mc_pool_laws.proofs.SentLemmas.{in_request}
use Rattle.mc_linearizable.specs.Linearizable.{ComesFirst, Executed, WasReplied}
use Rattle.mc_linearizable.proofs.MoveLemmas.{has_key, taken_lower}

-- the number of events of a kind before the one of a number is that number
number_at : (is : Logged → Bool) (number : ℕ) (log : Log) → number < number_of is log → number_of is (before is number log) ≡ number
number_at is number [] inside = absurd (omega (arith, inside))
number_at is zero (x ∷ xs) inside =
    (elim (is x) as (λ v. is x ≡ v → 0 < (if v then suc (number_of is xs) else number_of is xs) → number_of is (if v then [] else x ∷ before is zero xs) ≡ 0) [
      | true ↦ λ own some. refl
      | false ↦ λ other some.
          ap (λ (v : Bool). if v then suc (number_of is (before is zero xs)) else number_of is (before is zero xs)) other ∙ number_at is zero xs some
    ]) refl inside
number_at is (suc number) (x ∷ xs) inside =
    (elim (is x) as (λ v. suc number < (if v then suc (number_of is xs) else number_of is xs)
    → (if v then suc (number_of is (before is (if v then number else suc number) xs)) else number_of is (before is (if v then number else suc number) xs)) ≡ suc number) [
      | true ↦ λ some. ap suc (number_at is number xs (omega (arith, some)))
      | false ↦ λ some. number_at is (suc number) xs some
    ]) inside

-- two tags are not each before the other
never_both : (a b : Tag) → IsBefore a b → IsBefore b a → ⊥
never_both a b (inl less) (inl more) = omega (arith, less, more)
never_both a b (inl less) (inr more) = (let same = more.0 in omega (arith, less, same))
never_both a b (inr less) (inl more) = (let same = less.0 in omega (arith, more, same))
never_both a b (inr less) (inr more) = (let first = less.1 in let second = more.1 in omega (arith, first, second))

-- a later request of a client goes to no lower place
later_lower : (home : Homes) (losses : Losses) (ring : RingState) (opening : CacheState) (order : Order) (texts outs : ℕ → List ℕ) (histories : ℕ → List Entry) (log : Log)
    → Accounts home losses ring opening order texts outs histories log → IsRing ring → (key : List ℕ) (a b : Executed order histories key) → a.entry.client ≡ b.entry.client
    → a.entry.request < b.entry.request → a.place ≤ b.place
later_lower home losses ring opening order texts outs histories log h good key a b own less =
    let taken : b.entry.request < number_of (takes b.entry.client) (before (serves b.place) b.number log) = (h.placed b.place b.number b.entry b.at).0 in
    let few = number-before (takes b.entry.client) (serves b.place) b.number log in
    let many = number_at (takes b.entry.client) b.entry.request log (omega (arith, taken, few)) in
    let early : WasTaken (tag_in a.entry) (before (takes b.entry.client) b.entry.request log) =
    subst (λ (c : ℕ). a.entry.request < number_of (takes c) (before (takes b.entry.client) b.entry.request log)) (sym own) (omega (arith, less, many)) in
    taken_lower home losses ring opening order texts outs histories log h good key (tag_in a.entry) (tag_in b.entry) a.place b.place a.atom b.atom a.command b.command a.on b.on (ap (λ (c : ℕ). home c) own)
    early

-- two commands of one request go to one place
one_place : (order : Order) (histories : ℕ → List Entry) (key : List ℕ) (a b : Executed order histories key) → a.entry.client ≡ b.entry.client
    → a.entry.request ≡ b.entry.request → a.place ≡ b.place
one_place order histories key a b own same =
    let e = in_request (asked_at order a.entry.client a.entry.request) a.entry.atom (to_place a.place a.atom) a.command in
    let f = in_request (asked_at order b.entry.client b.entry.request) b.entry.atom (to_place b.place b.atom) b.command in
    let one : e.0 ≡ f.0 = same_Some e.0 f.0 (sym e.1 ∙ ap₂ (λ (c r : ℕ). asked_at order c r) own same ∙ f.1) in
    let here : a.place ≡ owner_in e.0.ring key = taken-own e.0.ring e.0.what a.entry.atom (to_place a.place a.atom) e.2 key (has_key key a.atom a.on) in
    let there : b.place ≡ owner_in f.0.ring key = taken-own f.0.ring f.0.what b.entry.atom (to_place b.place b.atom) f.2 key (has_key key b.atom b.on) in
    here ∙ ap (λ (x : TakenRequest). owner_in x.ring key) one ∙ sym there

not_above : (home : Homes) (losses : Losses) (ring : RingState) (opening : CacheState) (order : Order) (texts outs : ℕ → List ℕ) (histories : ℕ → List Entry) (log : Log)
    → Accounts home losses ring opening order texts outs histories log → IsRing ring → (key : List ℕ) (a b : Executed order histories key) → a.entry.client ≡ b.entry.client
    → IsBefore (tag_in a.entry) (tag_in b.entry) → a.place ≤ b.place
not_above home losses ring opening order texts outs histories log h good key a b own (inl less) =
    later_lower home losses ring opening order texts outs histories log h good key a b own less
not_above home losses ring opening order texts outs histories log h good key a b own (inr same) =
    let at = one_place order histories key a b own same.0 in
    omega (arith, at)

-- in one history the second is not executed first
not_first : (home : Homes) (losses : Losses) (ring : RingState) (opening : CacheState) (order : Order) (texts outs : ℕ → List ℕ) (histories : ℕ → List Entry) (log : Log)
    → Accounts home losses ring opening order texts outs histories log → (place j k : ℕ) (d e : Entry) → slice_get (histories place) j ≡ Some d
    → slice_get (histories place) k ≡ Some e → d.client ≡ e.client → IsBefore (tag_in d) (tag_in e) → WasReplied order (tag_in d) → WasReplied order (tag_in e) → k ≤ j → ⊥
not_first home losses ring opening order texts outs histories log h place j k d e at also own first one other late =
    ⊎_elim
    (λ less. never_both (tag_in d) (tag_in e) first (h.ordered place k j e d other.0 one.0 also at less (sym own) other.1 one.1))
    (λ same.
    let number : j ≡ k = omega (arith, late, same) in
    let is : d ≡ e = same_Some d e (sym at ∙ ap (λ (n : ℕ). slice_get (histories place) n) number ∙ also) in
    let twice : IsBefore (tag_in e) (tag_in e) = subst (λ (x : Entry). IsBefore (tag_in x) (tag_in e)) is first in
    never_both (tag_in e) (tag_in e) twice twice)
    (cases_lt k j)

pub in_order : (home : Homes) (losses : Losses) (ring : RingState) (opening : CacheState) (order : Order) (texts outs : ℕ → List ℕ) (histories : ℕ → List Entry) (log : Log)
    → IsRing ring → Accounts home losses ring opening order texts outs histories log → (key : List ℕ) (a b : Executed order histories key) → a.entry.client ≡ b.entry.client
    → IsBefore (tag_in a.entry) (tag_in b.entry) → WasReplied order (tag_in a.entry) → WasReplied order (tag_in b.entry) → ComesFirst a b
in_order home losses ring opening order texts outs histories log good h key a b own first one other =
    let lower = not_above home losses ring opening order texts outs histories log h good key a b own first in
    ⊎_elim
    (λ less. inl less)
    (λ not_less.
    let same : a.place ≡ b.place = omega (arith, lower, not_less) in
    let at : slice_get (histories b.place) a.number ≡ Some a.entry = subst (λ (p : ℕ). slice_get (histories p) a.number ≡ Some a.entry) same a.at in
    ⊎_elim
    (λ less. inr (same, less))
    (λ late. absurd (not_first home losses ring opening order texts outs histories log h b.place a.number b.number a.entry b.entry at b.at own first one other late))
    (cases_lt a.number b.number))
    (cases_lt a.place b.place)
