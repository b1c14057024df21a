-- The bytes emitted to a client for which nothing is put, or that sent nothing.
use Rattle.std.proofs.Common.{◌≡◌, ◌∙◌, ℕ, zero, ◌≤◌, List, [], length, take, refl, ap, arith}
use Rattle.mc_request.specs.Requests.{requests_of, requests_within}
use Rattle.mc_ring.specs.Rings.{RingState}
use Rattle.mc_route.specs.declared.losses.Losses.{Losses}
use Rattle.mc_cache.specs.CacheState.{CacheState}
use Rattle.mc_account.specs.Orders.{Order, entries_of}
use Rattle.mc_history.specs.declared.entries.Entry.{Entry}
use Rattle.mc_world.specs.Accounts.{Accounts, answers_by}
use Rattle.mc_world.specs.Homes.{Homes}
use Rattle.mc_world.specs.Logs.{Log, number_of, puts}
use Rattle.mc_pool_laws.proofs.SentLemmas.{puts_taken, taken_few}

nothing_in : requests_of [] ≡ []
unfolding requests_of requests_within
nothing_in = refl

take_none : (order : Order) → take zero order ≡ []
take_none order = refl

pub nothing_put : (home : Homes) (losses : Losses) (ring : RingState) (opening : CacheState) (order : Order) (texts outs : ℕ → List ℕ) (histories : ℕ → List Entry) (log : Log)
    → Accounts home losses ring opening order texts outs histories log → (client : ℕ) → number_of (puts client) log ≡ 0 → outs client ≡ []
nothing_put home losses ring opening order texts outs histories log h client none =
    h.put client ∙ ap (λ (n : ℕ). answers_by losses (take n (entries_of client order))) none ∙ ap (λ (es : Order). answers_by losses es) (take_none (entries_of client order))

-- no answer is emitted if no request was sent
pub puts_asked : (home : Homes) (losses : Losses) (ring : RingState) (opening : CacheState) (order : Order) (texts outs : ℕ → List ℕ) (histories : ℕ → List Entry) (log : Log)
    → Accounts home losses ring opening order texts outs histories log → (client : ℕ) → number_of (puts client) log ≤ length (requests_of (texts client))
puts_asked home losses ring opening order texts outs histories log h client =
    let asked = taken_few home losses ring opening order texts outs histories log h client in
    let few = puts_taken home losses ring opening order texts outs histories log h client in
    omega (arith, asked, few)

pub none_put : (home : Homes) (losses : Losses) (ring : RingState) (opening : CacheState) (order : Order) (texts outs : ℕ → List ℕ) (histories : ℕ → List Entry) (log : Log)
    → Accounts home losses ring opening order texts outs histories log → (client : ℕ) → texts client ≡ [] → number_of (puts client) log ≡ 0
none_put home losses ring opening order texts outs histories log h client silent =
    let few = puts_asked home losses ring opening order texts outs histories log h client in
    grind (arith, nothing_in)

pub nothing_asked : (home : Homes) (losses : Losses) (ring : RingState) (opening : CacheState) (order : Order) (texts outs : ℕ → List ℕ) (histories : ℕ → List Entry) (log : Log)
    → Accounts home losses ring opening order texts outs histories log → (client : ℕ) → texts client ≡ [] → outs client ≡ []
nothing_asked home losses ring opening order texts outs histories log h client silent =
    nothing_put home losses ring opening order texts outs histories log h client (none_put home losses ring opening order texts outs histories log h client silent)
