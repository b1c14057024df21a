-- If no server joins at any proxy, each command goes to the owner of its key by the ring of the opening.
use Rattle.std.proofs.Common.{◌≡◌, ◌∙◌, ℕ, List, [], ◌∷◌, Option, None, Some, slice_get, refl, sym, ap, arith}
use Rattle.std.proofs.lemmas.Option.{none-some}
use Rattle.mc_request.specs.Requests.{requests_of}
use Rattle.mc_request.specs.declared.parts.Atom.{Atom}
use Rattle.mc_request.specs.declared.parts.Parsed.{Parsed}
use Rattle.mc_ring.specs.Rings.{RingState}
use Rattle.mc_route.specs.declared.losses.Losses.{Losses}
use Rattle.mc_route.specs.Routes.{owner_in, route_of_taken, to_place}
use Rattle.mc_route.specs.declared.routes.Routed.{Routed}
use Rattle.mc_link.specs.declared.turns.Tag.{Tag}
use Rattle.mc_cache.specs.CacheState.{CacheState}
use Rattle.mc_cache.specs.Step.{atom_key}
use Rattle.mc_account.specs.Lookups.{asked_at, command_at, command_in}
use Rattle.mc_account.specs.Orders.{Order, TakenRequest, entries_of, taken_of}
use Rattle.mc_history.specs.declared.entries.Entry.{Entry}
use Rattle.mc_world.specs.Accounts.{Accounts}
use Rattle.mc_world.specs.declared.logs.Logged.TheVariants.{Happened, Joined, Restarted}
use Rattle.mc_world.specs.Homes.{Homes}
use Rattle.mc_world.specs.Logs.{IsRingAfter, Log, number_of}
use Rattle.mc_world.proofs.Log.EntryLemmas.{got_map, got_there}
use Rattle.mc_world.proofs.Log.LogLemmas.{number-before}
use Rattle.mc_pool_laws.proofs.OwnerLemmas.{taken-own}
use Rattle.mc_pool_laws.specs.Executions.{command_sent, sent_at}
use Rattle.mc_pool_laws.specs.OneMaps.{joins}

-- a proxy's ring stays if no server joins
ring-stays : (proxy : ℕ) (ring now : RingState) (log : Log) → number_of joins log ≡ 0 → IsRingAfter proxy ring log now → now ≡ ring
ring-stays proxy ring now [] none h = h
ring-stays proxy ring now (Happened event ∷ es) none h = ring-stays proxy ring now es none h
ring-stays proxy ring now (Joined of server address up ∷ es) none h = absurd (omega (arith, none))
ring-stays proxy ring now (Restarted server ∷ es) none h = ring-stays proxy ring now es none h

-- a command that a look-up finds is one of a request that it finds
in-request : (o : Option TakenRequest) (atom : ℕ) (command : Routed) → command_in o atom ≡ Some command
    → (e : TakenRequest) × (o ≡ Some e) × (slice_get (route_of_taken e.ring e.what) atom ≡ Some command)
in-request None atom command h = absurd (none-some command h)
in-request (Some e) atom command h = (e, refl, h)

-- a request of an account was routed by the ring of the opening, if no server joins
ring_is : (home : Homes) (losses : Losses) (ring : RingState) (opening : CacheState) (order : Order) (texts outs : ℕ → List ℕ) (histories : ℕ → List Entry) (log : Log)
    → Accounts home losses ring opening order texts outs histories log → number_of joins log ≡ 0 → (client request : ℕ) (e : TakenRequest) → asked_at order client request ≡ Some e
    → e.ring ≡ ring
ring_is home losses ring opening order texts outs histories log h none client request e at = grind (arith, number-before, ring-stays)

-- each command of it went to the owner of its key
pub command_own : (home : Homes) (losses : Losses) (ring : RingState) (opening : CacheState) (order : Order) (texts outs : ℕ → List ℕ) (histories : ℕ → List Entry) (log : Log)
    → Accounts home losses ring opening order texts outs histories log → number_of joins log ≡ 0 → (tag : Tag) (place : ℕ) (atom : Atom (List ℕ))
    → command_at order tag ≡ Some (to_place place atom) → (key : List ℕ) → atom_key atom ≡ Some key → place ≡ owner_in ring key
command_own home losses ring opening order texts outs histories log h none tag place atom at key has =
    let found = in-request (asked_at order tag.session tag.request) tag.atom (to_place place atom) at in
    taken-own found.0.ring found.0.what tag.atom (to_place place atom) found.2 key has
    ∙ ap (λ (r : RingState). owner_in r key) (ring_is home losses ring opening order texts outs histories log h none tag.session tag.request found.0 found.1)

-- each command of it is in what its client sent
pub command_is_sent : (home : Homes) (losses : Losses) (ring : RingState) (opening : CacheState) (order : Order) (texts outs : ℕ → List ℕ) (histories : ℕ → List Entry) (log : Log)
    → Accounts home losses ring opening order texts outs histories log → number_of joins log ≡ 0 → (tag : Tag) (command : Routed) → command_at order tag ≡ Some command
    → sent_at ring texts tag ≡ Some command
command_is_sent home losses ring opening order texts outs histories log h none tag command at =
    let found = in-request (asked_at order tag.session tag.request) tag.atom command at in
    let asked = h.asked tag.session in
    let sent : slice_get (requests_of (texts tag.session)) tag.request ≡ Some found.0.what =
    ap (λ (ts : List Parsed). slice_get ts tag.request) (sym asked.1)
    ∙ got_there (taken_of tag.session order) asked.0 tag.request found.0.what (got_map (λ (x : TakenRequest). x.what) (entries_of tag.session order) tag.request found.0 found.1) in
    ap (λ (o : Option Parsed). command_sent ring o tag.atom) sent
    ∙ ap (λ (r : RingState). slice_get (route_of_taken r found.0.what) tag.atom)
    (sym (ring_is home losses ring opening order texts outs histories log h none tag.session tag.request found.0 found.1))
    ∙ found.2
