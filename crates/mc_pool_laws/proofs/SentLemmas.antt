-- The order of an account has the requests that clients sent, and no others.
use Rattle.std.proofs.Common.{◌≡◌, ◌∙◌, ℕ, zero, suc, ◌-◌, ◌<◌, ◌≤◌, List, [], ◌∷◌, length, take, drop, Option, None, Some, slice_get, refl, sym, ap, ap₂, subst, arith}
use Rattle.std.proofs.lemmas.List.{length-append, length-map}
use Rattle.std.proofs.lemmas.Option.{none-some, same_Some}
use Rattle.mc_request.specs.declared.parts.Atom.{Atom}
use Rattle.mc_request.specs.declared.parts.Parsed.{Parsed}
use Rattle.mc_request.specs.Requests.{requests_of}
use Rattle.mc_reply.specs.Spelling.{spelling_of}
use Rattle.mc_ring.specs.Rings.{RingState}
use Rattle.mc_route.specs.declared.losses.Losses.{Losses}
use Rattle.mc_route.specs.Routes.{route_of_taken, to_place}
use Rattle.mc_route.specs.declared.routes.Routed.{Routed}
use Rattle.mc_link.specs.declared.turns.Tag.{Tag}
use Rattle.mc_cache.specs.CacheState.{CacheState}
use Rattle.mc_cache.specs.Step.{step_of}
use Rattle.mc_account.specs.Lookups.{asked_at, command_at, command_in}
use Rattle.mc_account.specs.Orders.{Order, TakenRequest, entries_of, taken_of}
use Rattle.mc_history.specs.declared.entries.Entry.{Entry}
use Rattle.mc_history.specs.Histories.{IsLegal, tag_in}
use Rattle.mc_world.specs.Accounts.{Accounts}
use Rattle.mc_world.specs.Homes.{Homes}
use Rattle.mc_world.specs.Logs.{Log, in_life, number_of, puts, serves, taken_before, takes}
use Rattle.mc_world.proofs.Log.EntryLemmas.{got_inside, got_map, got_some, got_there}
use Rattle.mc_world.proofs.Log.LifeLemmas.{got_in_life, life_of}
use Rattle.mc_world.proofs.Log.LogLemmas.{moments-count, number-before}
use Rattle.mc_world.proofs.Log.OrderLemmas.{turns-taken}
use Rattle.mc_pool_laws.specs.Sent.{IsReplayed, IsSent, IsTaken}
use Rattle.mc_pool_laws.proofs.OneRing.{ring_one}

-- at most as many requests were taken as a client sent
pub taken_few : (home : Homes) (losses : Losses) (ring : RingState) (opening : CacheState) (order : Order) (texts outs : ℕ → List ℕ) (histories : ℕ → List Entry) (log : Log)
    → Accounts home losses ring opening order texts outs histories log → (client : ℕ) → number_of (takes client) log ≤ length (requests_of (texts client))
taken_few home losses ring opening order texts outs histories log h client =
    let asked = h.asked client in
    let turns = turns-taken order log h.turns client in
    grind (arith, length-append, length-map)

-- a request of a client in the order is the one of its number in the client's text
sent_in_text : (home : Homes) (losses : Losses) (ring : RingState) (opening : CacheState) (order : Order) (texts outs : ℕ → List ℕ) (histories : ℕ → List Entry) (log : Log)
    → Accounts home losses ring opening order texts outs histories log → (client request : ℕ) (e : TakenRequest) → asked_at order client request ≡ Some e
    → slice_get (requests_of (texts client)) request ≡ Some e.what
sent_in_text home losses ring opening order texts outs histories log h client request e at =
    let asked = h.asked client in
    ap (λ (ts : List Parsed). slice_get ts request) (sym asked.1)
    ∙ got_there (taken_of client order) asked.0 request e.what (got_map (λ (x : TakenRequest). x.what) (entries_of client order) request e at)

pub entry_taken : (home : Homes) (losses : Losses) (ring : RingState) (opening : CacheState) (order : Order) (texts outs : ℕ → List ℕ) (histories : ℕ → List Entry) (log : Log)
    → Accounts home losses ring opening order texts outs histories log → (client request : ℕ) (e : TakenRequest) → asked_at order client request ≡ Some e
    → IsTaken home ring texts log client request e.what e.ring
entry_taken home losses ring opening order texts outs histories log h client request e at =
    let inside = got_inside (entries_of client order) request e at in
    let turns = turns-taken order log h.turns client in
    record {
      turn = omega (arith, inside, turns);
      sent = sent_in_text home losses ring opening order texts outs histories log h client request e at;
      then = h.rings client request e at;
    }

-- at most as many requests were answered as taken
no_more : (answered taken : ℕ) → ((request : ℕ) → request < answered → request < taken) → answered ≤ taken
no_more zero taken each = omega arith
no_more (suc n) taken each = each n (omega arith)

pub puts_taken : (home : Homes) (losses : Losses) (ring : RingState) (opening : CacheState) (order : Order) (texts outs : ℕ → List ℕ) (histories : ℕ → List Entry) (log : Log)
    → Accounts home losses ring opening order texts outs histories log → (client : ℕ) → number_of (puts client) log ≤ number_of (takes client) log
puts_taken home losses ring opening order texts outs histories log h client =
    no_more (number_of (puts client) log) (number_of (takes client) log)
    (λ request early. let early_on = h.after client request early in let all = number-before (takes client) (puts client) request log in omega (arith, early_on, all))

pub puts_few : (home : Homes) (losses : Losses) (ring : RingState) (opening : CacheState) (order : Order) (texts outs : ℕ → List ℕ) (histories : ℕ → List Entry) (log : Log)
    → Accounts home losses ring opening order texts outs histories log → (client : ℕ) → number_of (puts client) log ≤ length (entries_of client order)
puts_few home losses ring opening order texts outs histories log h client =
    let few = puts_taken home losses ring opening order texts outs histories log h client in
    let turns = turns-taken order log h.turns client in
    omega (arith, few, turns)

-- each request that the log takes is in the order
taken_entry : (home : Homes) (losses : Losses) (ring : RingState) (opening : CacheState) (order : Order) (texts outs : ℕ → List ℕ) (histories : ℕ → List Entry) (log : Log)
    → Accounts home losses ring opening order texts outs histories log → (client request : ℕ) → request < number_of (takes client) log
    → (e : TakenRequest) × (asked_at order client request ≡ Some e)
taken_entry home losses ring opening order texts outs histories log h client request turn =
    let turns = turns-taken order log h.turns client in
    got_some (entries_of client order) request (omega (arith, turn, turns))

pub request_taken : (home : Homes) (losses : Losses) (ring : RingState) (opening : CacheState) (order : Order) (texts outs : ℕ → List ℕ) (histories : ℕ → List Entry) (log : Log)
    → Accounts home losses ring opening order texts outs histories log → (client request : ℕ) → request < number_of (takes client) log
    → (what : Parsed) × (now : RingState) × IsTaken home ring texts log client request what now
request_taken home losses ring opening order texts outs histories log h client request turn =
    let e = taken_entry home losses ring opening order texts outs histories log h client request turn in
    (e.0.what, e.0.ring, entry_taken home losses ring opening order texts outs histories log h client request e.0 e.1)

-- a command that a look-up finds is one of a request that it finds
pub in_request : (o : Option TakenRequest) (atom : ℕ) (command : Routed) → command_in o atom ≡ Some command
    → (e : TakenRequest) × (o ≡ Some e) × (slice_get (route_of_taken e.ring e.what) atom ≡ Some command)
in_request None atom command h = absurd (none-some command h)
in_request (Some e) atom command h = (e, refl, h)

-- a command of the order was sent
pub command_sent : (home : Homes) (losses : Losses) (ring : RingState) (opening : CacheState) (order : Order) (texts outs : ℕ → List ℕ) (histories : ℕ → List Entry) (log : Log)
    → Accounts home losses ring opening order texts outs histories log → (tag : Tag) (command : Routed) → command_at order tag ≡ Some command → IsSent home ring texts log tag command
command_sent home losses ring opening order texts outs histories log h tag command at =
    let found = in_request (asked_at order tag.session tag.request) tag.atom command at in
    record {
      what = found.0.what;
      ring = found.0.ring;
      taken = entry_taken home losses ring opening order texts outs histories log h tag.session tag.request found.0 found.1;
      routed = found.2;
    }

-- a command that was sent is in the order
pub sent_command : (home : Homes) (losses : Losses) (ring : RingState) (opening : CacheState) (order : Order) (texts outs : ℕ → List ℕ) (histories : ℕ → List Entry) (log : Log)
    → Accounts home losses ring opening order texts outs histories log → (tag : Tag) (command : Routed) → IsSent home ring texts log tag command → command_at order tag ≡ Some command
sent_command home losses ring opening order texts outs histories log h tag command s =
    let e = taken_entry home losses ring opening order texts outs histories log h tag.session tag.request s.taken.turn in
    let what_is : e.0.what ≡ s.what =
    same_Some e.0.what s.what (sym (sent_in_text home losses ring opening order texts outs histories log h tag.session tag.request e.0 e.1) ∙ s.taken.sent) in
    grind (arith, slice_get, ap₂, ring_one)

-- a cache replays a history
pub replayed : (home : Homes) (losses : Losses) (ring : RingState) (opening : CacheState) (order : Order) (texts outs : ℕ → List ℕ) (histories : ℕ → List Entry) (log : Log)
    → Accounts home losses ring opening order texts outs histories log → (place : ℕ) (s : CacheState) (es : List Entry) → IsLegal order place s es
    → IsReplayed home ring texts log place s es
replayed home losses ring opening order texts outs histories log h place s [] legal = tt
replayed home losses ring opening order texts outs histories log h place s (e ∷ es) legal = (
  legal.0,
  command_sent home losses ring opening order texts outs histories log h (tag_in e) (to_place place legal.0) legal.1,
  legal.2,
  replayed home losses ring opening order texts outs histories log h place (step_of s legal.0 e.moment e.refused).0 es legal.3,
)

-- a history has an entry for each turn of its server
pub turns_many : (home : Homes) (losses : Losses) (ring : RingState) (opening : CacheState) (order : Order) (texts outs : ℕ → List ℕ) (histories : ℕ → List Entry) (log : Log)
    → Accounts home losses ring opening order texts outs histories log → (place : ℕ) → length (histories place) ≡ number_of (serves place) log
turns_many home losses ring opening order texts outs histories log h place =
    sym (length-map (histories place) (λ (e : Entry). e.moment)) ∙ ap (λ (ms : List ℕ). length ms) (h.moments place) ∙ moments-count place log

-- each entry of a legal history is of a command of its server
pub legal_at : (order : Order) (place : ℕ) (s : CacheState) (es : List Entry) (k : ℕ) (e : Entry) → IsLegal order place s es → slice_get es k ≡ Some e
    → (atom : Atom (List ℕ)) × (command_at order (tag_in e) ≡ Some (to_place place atom))
legal_at order place s [] zero e legal at = absurd (none-some e at)
legal_at order place s [] (suc k) e legal at = absurd (none-some e at)
legal_at order place s (x ∷ xs) zero e legal at = (legal.0, ap (λ (d : Entry). command_at order (tag_in d)) (sym (same_Some x e at)) ∙ legal.1)
legal_at order place s (x ∷ xs) (suc k) e legal at = legal_at order place (step_of s legal.0 x.moment x.refused).0 xs k e legal.3 at

-- likewise for each entry of a history, in whichever life
pub entry_named : (home : Homes) (losses : Losses) (ring : RingState) (opening : CacheState) (order : Order) (texts outs : ℕ → List ℕ) (histories : ℕ → List Entry) (log : Log)
    → Accounts home losses ring opening order texts outs histories log → (place k : ℕ) (e : Entry) → slice_get (histories place) k ≡ Some e
    → (atom : Atom (List ℕ)) × (command_at order (tag_in e) ≡ Some (to_place place atom))
entry_named home losses ring opening order texts outs histories log h place k e at =
    let size = turns_many home losses ring opening order texts outs histories log h place in
    let of = life_of place k log (omega (arith, got_inside (histories place) k e at, size)) in
    legal_at order place opening (in_life place of.life log (histories place)) (k - taken_before place of.life log) e (h.legal place of.life)
    (got_in_life place k log (histories place) of ∙ at)

-- the entries of the life of the first entry
legal_first : (order : Order) (place : ℕ) (opening : CacheState) (log : Log) (e : Entry) (es : List Entry) → 0 < number_of (serves place) log
    → ((life : ℕ) → IsLegal order place opening (in_life place life log (e ∷ es))) → (n : ℕ) × IsLegal order place opening (e ∷ take n es)
legal_first order place opening log e es some legal =
    let of = life_of place 0 log some in
    let from = of.from in
    let to = of.to in
    let begins : taken_before place of.life log ≡ 0 = omega (arith, from) in
    let ends : taken_before place (suc of.life) log ≡ suc (taken_before place (suc of.life) log - 1) = omega (arith, to) in (
      taken_before place (suc of.life) log - 1,
      subst (λ (fs : List Entry). IsLegal order place opening fs) (ap₂ (λ (a b : ℕ). drop a (take b (e ∷ es))) begins ends) (legal of.life),
    )

-- the answer of the first entry of a history is the reply of the opening cache to its command
pub first_reply : (home : Homes) (losses : Losses) (ring : RingState) (opening : CacheState) (order : Order) (texts outs : ℕ → List ℕ) (histories : ℕ → List Entry) (log : Log)
    → Accounts home losses ring opening order texts outs histories log → (place : ℕ) (atom : Atom (List ℕ)) (e : Entry) (es : List Entry) → histories place ≡ e ∷ es
    → IsSent home ring texts log (tag_in e) (to_place place atom) → e.reply ≡ spelling_of atom (step_of opening atom e.moment e.refused).1
first_reply home losses ring opening order texts outs histories log h place atom e es is sent =
    let size = turns_many home losses ring opening order texts outs histories log h place in
    let one : length (histories place) ≡ suc (length es) = ap (λ (history : List Entry). length history) is in
    let first = legal_first order place opening log e es (omega (arith, size, one))
    (subst (λ (history : List Entry). (life : ℕ) → IsLegal order place opening (in_life place life log history)) is (h.legal place)) in
    let legal = first.1 in
    let known = sent_command home losses ring opening order texts outs histories log h (tag_in e) (to_place place atom) sent in
    grind (arith, same_Some)
