-- Commands of an order, as it goes on and as outcomes are noted in it.
use Rattle.std.proofs.Common.{◌≡◌, ◌∙◌, ℕ, zero, suc, ◌==◌, true, false, if◌then◌else◌, List, [], ◌∷◌, ◌++◌, length, drop, take, Option, Some, slice_get, refl, sym, ap, ap₂, subst, append_assoc, arith}
use Rattle.std.proofs.lemmas.Bool.{eqb-true}
use Rattle.std.proofs.lemmas.List.{length_push, take-append-drop}
use Rattle.std.proofs.lemmas.Option.{none-some}
use Rattle.mc_route.specs.Routes.{route_of_taken, to_place}
use Rattle.mc_route.specs.declared.outcomes.Outcome.{Outcome}
use Rattle.mc_route.specs.declared.routes.Routed.{Routed}
use Rattle.mc_link.specs.declared.turns.Tag.{Tag}
use Rattle.mc_account.specs.Orders.{Order, Tagged, TakenRequest, commands_from, commands_in, commands_to, entries_of, note, note_all}
use Rattle.mc_account.proofs.OrderLemmas.{commands-append, entries-append, entries-note, entries_push_own}
use Rattle.mc_history.specs.Made.{Each}
use Rattle.mc_account.specs.Lookups.{command_at, command_in}
use Rattle.mc_history.specs.Named.{IsNamed}

-- a property of each of a list, and of one more
pub each_push : {X : Type 0} (P : X → Type 0) (xs : List X) (x : X) → Each P xs → P x → Each P (xs ++ x ∷ [])
each_push P [] x h k = (k, tt)
each_push P (y ∷ ys) x h k = (h.0, each_push P ys x h.1 k)

pub each_append : {X : Type 0} (P : X → Type 0) (xs ys : List X) → Each P xs → Each P ys → Each P (xs ++ ys)
each_append P [] ys h k = k
each_append P (x ∷ xs) ys h k = (h.0, each_append P xs ys h.1 k)

pub each_back : {X : Type 0} (P : X → Type 0) (xs ys : List X) → Each P (xs ++ ys) → Each P ys
each_back P [] ys h = h
each_back P (x ∷ xs) ys h = each_back P xs ys h.1

pub each_weaker : {X : Type 0} (P Q : X → Type 0) (xs : List X) → ((x : X) → P x → Q x) → Each P xs → Each Q xs
each_weaker P Q [] f h = tt
each_weaker P Q (x ∷ xs) f h = (f x h.0, each_weaker P Q xs f h.1)

-- the second order has all commands of the first
abbrev pub Keeps : Order → Order → Type 0
Keeps order longer = (tag : Tag) (routed : Routed) → command_at order tag ≡ Some routed → command_at longer tag ≡ Some routed

pub kept_named : (place : ℕ) (order longer : Order) (cs : List Tagged) → Keeps order longer → Each (IsNamed place order) cs → Each (IsNamed place longer) cs
kept_named place order longer cs keeps h = each_weaker (IsNamed place order) (IsNamed place longer) cs (λ c k. keeps c.1 (to_place place c.0) k) h

still_there : (es fs : Order) (k atom : ℕ) (routed : Routed) → command_in (slice_get es k) atom ≡ Some routed → command_in (slice_get (es ++ fs) k) atom ≡ Some routed
still_there [] fs zero atom routed h = absurd (none-some routed h)
still_there [] fs (suc k) atom routed h = absurd (none-some routed h)
still_there (x ∷ xs) fs zero atom routed h = h
still_there (x ∷ xs) fs (suc k) atom routed h = still_there xs fs k atom routed h

pub keeps_push : (order : Order) (e : TakenRequest) → Keeps order (order ++ e ∷ [])
keeps_push order e tag routed h =
    ap (λ (es : Order). command_in (slice_get es tag.request) tag.atom) (entries-append tag.session order (e ∷ []))
    ∙ still_there (entries_of tag.session order) (entries_of tag.session (e ∷ [])) tag.request tag.atom routed h

-- noting an outcome leaves the commands as they are
pub noted_there : (tag : Tag) (outcome : Outcome) (es : Order) (k atom : ℕ) → command_in (slice_get (note tag outcome es) k) atom ≡ command_in (slice_get es k) atom
noted_there tag outcome [] zero atom = refl
noted_there tag outcome [] (suc k) atom = refl
noted_there tag outcome (e ∷ es) zero atom = refl
noted_there tag outcome (e ∷ es) (suc k) atom = noted_there tag outcome es k atom

pub keeps_note : (noted : Tag) (outcome : Outcome) (order : Order) → Keeps order (note noted outcome order)
keeps_note noted outcome order tag routed h =
    ap (λ (es : Order). command_in (slice_get es tag.request) tag.atom) (entries-note tag.session noted outcome order)
    ∙ noted_there noted outcome (entries_of tag.session order) tag.request tag.atom ∙ h

pub keeps_note_all : (tags : List Tag) (outcome : Outcome) (order : Order) → Keeps order (note_all tags outcome order)
keeps_note_all [] outcome order tag routed h = h
keeps_note_all (t ∷ ts) outcome order tag routed h = keeps_note_all ts outcome (note t outcome order) tag routed (keeps_note t outcome order tag routed h)

-- the commands of the request that was taken last
get_last : (es : Order) (e : TakenRequest) (k : ℕ) → k ≡ length es → slice_get (es ++ e ∷ []) k ≡ Some e
get_last [] e zero h = refl
get_last [] e (suc k) h = absurd (omega (arith, h))
get_last (x ∷ xs) e zero h = absurd (omega (arith, h))
get_last (x ∷ xs) e (suc k) h = get_last xs e k (omega (arith, h))

routed_at : (front back : List Routed) (x : Routed) (k : ℕ) → k ≡ length front → slice_get (front ++ x ∷ back) k ≡ Some x
routed_at [] back x zero h = refl
routed_at [] back x (suc k) h = absurd (omega (arith, h))
routed_at (f ∷ fs) back x zero h = absurd (omega (arith, h))
routed_at (f ∷ fs) back x (suc k) h = routed_at fs back x k (omega (arith, h))

whole_from : (place session request at : ℕ) (whole front commands : List Routed) → whole ≡ front ++ commands → at ≡ length front
    → Each (λ (c : Tagged). (c.1.session ≡ session) × (c.1.request ≡ request) × (slice_get whole c.1.atom ≡ Some (to_place place c.0))) (commands_from place session request at commands)
whole_from place session request at whole front [] is size = tt
whole_from place session request at whole front (c ∷ cs) is size =
    let after : whole ≡ (front ++ c ∷ []) ++ cs = is ∙ sym (append_assoc front (c ∷ []) cs) in
    let longer : suc at ≡ length (front ++ c ∷ []) = omega (arith, size, length_push front c) in
    let again = whole_from place session request (suc at) whole (front ++ c ∷ []) cs after longer in
    let here : slice_get whole at ≡ Some c = ap (λ (rs : List Routed). slice_get rs at) is ∙ routed_at front cs c at size in
    (elim (c.server == place) as (λ v. c.server == place ≡ v → Each (λ (x : Tagged). (x.1.session ≡ session) × (x.1.request ≡ request) × (slice_get whole x.1.atom ≡ Some (to_place place x.0)))
    (if v then (c.atom, record { session = session; request = request; atom = at }) ∷ commands_from place session request (suc at) cs else commands_from place session request (suc at) cs)) [
      | true ↦ λ own. ((refl, refl, here ∙ ap (λ (p : ℕ). Some (to_place p c.atom)) (eqb-true c.server place own)), again)
      | false ↦ λ other. again
    ]) refl

pub named_in : (place : ℕ) (order : Order) (e : TakenRequest) → e.request ≡ length (entries_of e.session order) → Each (IsNamed place (order ++ e ∷ [])) (commands_in place e)
named_in place order e number =
    each_weaker (λ (c : Tagged). (c.1.session ≡ e.session) × (c.1.request ≡ e.request) × (slice_get (route_of_taken e.ring e.what) c.1.atom ≡ Some (to_place place c.0))) (IsNamed place (order ++ e ∷ [])) (commands_in place e)
    (λ c h.
    ap₂ (λ (s r : ℕ). command_in (slice_get (entries_of s (order ++ e ∷ [])) r) c.1.atom) h.0 h.1
    ∙ ap (λ (es : Order). command_in (slice_get es e.request) c.1.atom) (entries_push_own e.session order e refl)
    ∙ ap (λ (o : Option TakenRequest). command_in o c.1.atom) (get_last (entries_of e.session order) e e.request number)
    ∙ h.2)
    (whole_from place e.session e.request 0 (route_of_taken e.ring e.what) [] (route_of_taken e.ring e.what) refl refl)
