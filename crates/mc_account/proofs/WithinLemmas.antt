-- Each command of an order goes to a server of the ring.
use Rattle.std.proofs.Common.{◌≡◌, ℕ, zero, suc, ◌<◌, ◌≤◌, ◌==◌, true, false, if◌then◌else◌, List, [], ◌∷◌, ◌++◌, length, Option, Some, None, slice_get, refl, subst, arith}
use Rattle.std.specs.Prelude.{All}
use Rattle.std.proofs.lemmas.List.Elements.{All-cons, All-head, All-nil, All-push, All-tail}
use Rattle.std.proofs.lemmas.Option.{none-some, same_Some}
use Rattle.mc_request.specs.declared.parts.Parsed.{Parsed}
use Rattle.mc_request.specs.declared.parts.Parsed.TheVariants.{Whole, Faulty}
use Rattle.mc_ring.specs.Rings.{IsRing, RingState}
use Rattle.mc_route.specs.Routes.{route_of_taken}
use Rattle.mc_route.specs.declared.outcomes.Outcome.{Outcome}
use Rattle.mc_route.specs.declared.routes.Routed.{Routed}
use Rattle.mc_route.proofs.RouteLemmas.{route_inside}
use Rattle.mc_link.specs.declared.turns.Tag.{Tag}
use Rattle.mc_account.specs.Lookups.{IsRoutedWithin, asked_at, command_at, command_in}
use Rattle.mc_account.specs.Orders.{Order, TakenRequest, entries_of, note, note_in}

-- a property of each of a list is one of the element at a place
all_at : {X : Type 0} (P : X → Type 0) (xs : List X) (k : ℕ) (x : X) → All P xs → slice_get xs k ≡ Some x → P x
all_at P [] zero x h at = absurd (none-some x at)
all_at P [] (suc k) x h at = absurd (none-some x at)
all_at P (y ∷ ys) zero x h at = subst P (same_Some y x at) (All-head P y ys h)
all_at P (y ∷ ys) (suc k) x h at = all_at P ys k x (All-tail P y ys h) at

-- the commands of what was taken go to servers of the ring
taken_inside : (ring : RingState) (what : Parsed) → IsRing ring → All (λ (routed : Routed). routed.server < length ring.servers) (route_of_taken ring what)
taken_inside ring (Whole request) good = route_inside ring request good
taken_inside ring (Faulty fault) good = All-nil (λ (routed : Routed). routed.server < length ring.servers)

-- a property of each entry is one of those of a session
entries_all : (P : TakenRequest → Type 0) (session : ℕ) (order : Order) → All P order → All P (entries_of session order)
entries_all P session [] h = All-nil P
entries_all P session (e ∷ es) h =
    let again = entries_all P session es (All-tail P e es h) in
    (elim (e.session == session) as (λ v. All P (if v then e ∷ entries_of session es else entries_of session es)) [
      | true ↦ All-cons P e (entries_of session es) (All-head P e es h) again
      | false ↦ again
    ])

command_within : (places : ℕ) (asked : Option TakenRequest) (atom : ℕ) (routed : Routed) → ((e : TakenRequest) → asked ≡ Some e → IsRoutedWithin places e) → command_in asked atom ≡ Some routed
    → routed.server < places
command_within places None atom routed good at = absurd (none-some routed at)
command_within places (Some e) atom routed good at =
    let within = good e refl in
    let below : routed.server < length e.ring.servers =
    all_at (λ (r : Routed). r.server < length e.ring.servers) (route_of_taken e.ring e.what) atom routed (taken_inside e.ring e.what within.ring) at in
    omega (arith, below, within.few)

pub commands_within : (places : ℕ) (order : Order) → All (IsRoutedWithin places) order → (tag : Tag) (routed : Routed) → command_at order tag ≡ Some routed → routed.server < places
commands_within places order h tag routed at =
    command_within places (asked_at order tag.session tag.request) tag.atom routed
    (λ e is. all_at (IsRoutedWithin places) (entries_of tag.session order) tag.request e (entries_all (IsRoutedWithin places) tag.session order h) is) at

-- as an order changes, and if there are more servers
pub within-push : (places : ℕ) (order : Order) (e : TakenRequest) → All (IsRoutedWithin places) order → IsRoutedWithin places e → All (IsRoutedWithin places) (order ++ e ∷ [])
within-push places order e h own = All-push (IsRoutedWithin places) order e h own

pub within-note : (places : ℕ) (tag : Tag) (outcome : Outcome) (order : Order) → All (IsRoutedWithin places) order → All (IsRoutedWithin places) (note tag outcome order)
within-note places tag outcome [] h = All-nil (IsRoutedWithin places)
within-note places tag outcome (e ∷ es) h =
    let first = All-head (IsRoutedWithin places) e es h in
    All-cons (IsRoutedWithin places) (note_in tag outcome e) (note tag outcome es) (record { ring = first.ring; few = first.few })
    (within-note places tag outcome es (All-tail (IsRoutedWithin places) e es h))

pub within-more : (few many : ℕ) (order : Order) → few ≤ many → All (IsRoutedWithin few) order → All (IsRoutedWithin many) order
within-more few many [] le h = All-nil (IsRoutedWithin many)
within-more few many (e ∷ es) le h =
    let first = All-head (IsRoutedWithin few) e es h in
    All-cons (IsRoutedWithin many) e es (record { ring = first.ring; few = omega (arith, first.few, le) }) (within-more few many es le (All-tail (IsRoutedWithin few) e es h))
