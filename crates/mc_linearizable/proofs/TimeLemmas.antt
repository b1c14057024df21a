-- Events of a log in real time.
use Rattle.std.proofs.Common.{ℕ, zero, suc, ◌<◌, ◌≤◌, Bool, true, false, if◌then◌else◌, List, [], ◌∷◌, subst, arith}
use Rattle.mc_ring.specs.Rings.{RingState}
use Rattle.mc_route.specs.declared.losses.Losses.{Losses}
use Rattle.mc_link.specs.declared.turns.Tag.{Tag}
use Rattle.mc_cache.specs.CacheState.{CacheState}
use Rattle.mc_account.specs.Orders.{Order}
use Rattle.mc_history.specs.declared.entries.Entry.{Entry}
use Rattle.mc_world.specs.Accounts.{Accounts, WasTaken}
use Rattle.mc_world.specs.Homes.{Homes}
use Rattle.mc_world.specs.Logs.{Log, before, number_of, puts, takes}
use Rattle.mc_world.specs.declared.logs.Logged.{Logged}
use Rattle.mc_world.proofs.Log.LogLemmas.{number-before}
use Rattle.mc_pool_laws.proofs.PlaceLemmas.{before-front}
use Rattle.mc_linearizable.specs.Linearizable.{IsEarlier}

one_more : (v : Bool) (few many : ℕ) → few ≤ many → (if v then suc few else few) ≤ (if v then suc many else many)
one_more true few many less = omega (arith, less)
one_more false few many less = less

-- no more are before an event than before a later one of its kind
pub number_later : (is kind : Logged → Bool) (few many : ℕ) (log : Log) → few ≤ many → number_of is (before kind few log) ≤ number_of is (before kind many log)
number_later is kind few many [] less = omega arith
number_later is kind zero zero (x ∷ xs) less = omega arith
number_later is kind zero (suc many) (x ∷ xs) less =
    let again = one_more (is x) (number_of is (before kind zero xs)) (number_of is (before kind (suc many) xs)) (number_later is kind zero (suc many) xs less) in
    (elim (kind x) as (λ v. number_of is (if v then [] else x ∷ before kind zero xs) ≤ number_of is (x ∷ before kind (if v then many else suc many) xs)) [
      | true ↦ omega arith
      | false ↦ again
    ])
number_later is kind (suc few) zero (x ∷ xs) less = absurd (omega (arith, less))
number_later is kind (suc few) (suc many) (x ∷ xs) less =
    let here = one_more (is x) (number_of is (before kind few xs)) (number_of is (before kind many xs)) (number_later is kind few many xs (omega (arith, less))) in
    let again = one_more (is x) (number_of is (before kind (suc few) xs)) (number_of is (before kind (suc many) xs)) (number_later is kind (suc few) (suc many) xs less) in
    (elim (kind x) as (λ v. number_of is (x ∷ before kind (if v then few else suc few) xs) ≤ number_of is (x ∷ before kind (if v then many else suc many) xs)) [
      | true ↦ here
      | false ↦ again
    ])

-- a request that was answered before another was taken was also taken before it
pub taken_earlier : (home : Homes) (losses : Losses) (ring : RingState) (opening : CacheState) (order : Order) (texts outs : ℕ → List ℕ) (histories : ℕ → List Entry) (log : Log)
    → Accounts home losses ring opening order texts outs histories log → (a b : Tag) → IsEarlier a b log → WasTaken a (before (takes b.session) b.request log)
taken_earlier home losses ring opening order texts outs histories log h a b earlier =
    let front : Log = before (takes b.session) b.request log in
    let all = number-before (puts a.session) (takes b.session) b.request log in
    let same = before-front (puts a.session) (takes b.session) a.request b.request log earlier in
    let there : a.request < number_of (takes a.session) (before (puts a.session) a.request (before (takes b.session) b.request log)) =
    subst (λ (l : Log). a.request < number_of (takes a.session) l) same (h.after a.session a.request (omega (arith, earlier, all))) in
    let few = number-before (takes a.session) (puts a.session) a.request (before (takes b.session) b.request log) in
    omega (arith, there, few)
