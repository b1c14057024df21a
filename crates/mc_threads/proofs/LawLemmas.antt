-- No command is executed twice, and the commands of one client are in its order.
use Rattle.std.proofs.Common.{◌≡◌, ◌∙◌, inl, inr, ℕ, zero, suc, ◌<◌, List, [], ◌∷◌, map, Some, slice_get, sym, ap, subst, arith}
use Rattle.std.proofs.lemmas.Bool.{cases_eq, cases_lt}
use Rattle.std.proofs.lemmas.Option.{none-some, same_Some}
use Rattle.mc_request.specs.declared.parts.Atom.{Atom}
use Rattle.mc_ring.specs.Rings.{RingState}
use Rattle.mc_route.specs.Routes.{to_place}
use Rattle.mc_route.specs.declared.routes.Routed.{Routed}
use Rattle.mc_link.specs.declared.turns.Tag.{Tag}
use Rattle.mc_cache.specs.CacheState.{CacheState}
use Rattle.mc_cache.specs.Step.{step_of}
use Rattle.mc_account.specs.Lookups.{IsBefore, command_at}
use Rattle.mc_account.specs.Orders.{AreInOrder, Order, Tagged, commands_to, entries_of}
use Rattle.mc_account.proofs.RisingLemmas.{commands_rise}
use Rattle.mc_history.specs.Histories.{IsLegal, tag_in}
use Rattle.mc_history.specs.Named.{tags_of}
use Rattle.mc_history.specs.declared.entries.Entry.{Entry}
use Rattle.mc_threads.specs.Accounts.{RunAccounts}
use Rattle.mc_threads.proofs.EntryLemmas.{map_at, map_back}

-- each entry of a legal history is of a command of its server
legal_at : (order : Order) (place : ℕ) (s : CacheState) (es : List Entry) (k : ℕ) (e : Entry) → IsLegal order place s es → slice_get es k ≡ Some e
    → (atom : Atom (List ℕ)) × (command_at order (tag_in e) ≡ Some (to_place place atom))
legal_at order place s [] zero e legal at = absurd (none-some e at)
legal_at order place s [] (suc k) e legal at = absurd (none-some e at)
legal_at order place s (x ∷ xs) zero e legal at = (legal.0, ap (λ (d : Entry). command_at order (tag_in d)) (sym (same_Some x e at)) ∙ legal.1)
legal_at order place s (x ∷ xs) (suc k) e legal at = legal_at order place (step_of s legal.0 x.moment x.refused).0 xs k e legal.3 at

-- the command of the order that an entry is of
command_of : (order : Order) (place : ℕ) (history : List Entry) (k : ℕ) (e : Entry) → map tag_in history ≡ tags_of (commands_to place order) → slice_get history k ≡ Some e
    → (command : Tagged) × (slice_get (commands_to place order) k ≡ Some command) × (command.1 ≡ tag_in e)
command_of order place history k e same at =
    map_back (λ (c : Tagged). c.1) (commands_to place order) k (tag_in e) (ap (λ (tags : List Tag). slice_get tags k) (sym same) ∙ map_at tag_in history k e at)

pub in_order : (order : Order) (place : ℕ) (history : List Entry) → ((number : ℕ) → AreInOrder (entries_of number order))
    → map tag_in history ≡ tags_of (commands_to place order) → (j k : ℕ) (d e : Entry) → slice_get history j ≡ Some d → slice_get history k ≡ Some e
    → j < k → d.client ≡ e.client → IsBefore (tag_in d) (tag_in e)
in_order order place history numbered same j k d e first second lt client =
    let b = command_of order place history j d same first in
    let c = command_of order place history k e same second in
    let sessions : b.0.1.session ≡ c.0.1.session = ap (λ (t : Tag). t.session) b.2 ∙ client ∙ ap (λ (t : Tag). t.session) (sym c.2) in
    subst (λ (t : Tag). IsBefore t (tag_in e)) b.2 (subst (λ (t : Tag). IsBefore b.0.1 t) c.2 (commands_rise place order numbered j k b.0 c.0 b.1 c.1 lt sessions))

never_before : (a b : Tag) → a ≡ b → IsBefore a b → ⊥
never_before a b same (inl lower) = let requests : a.request ≡ b.request = ap (λ (t : Tag). t.request) same in omega (arith, lower, requests)
never_before a b same (inr within) = let atoms : a.atom ≡ b.atom = ap (λ (t : Tag). t.atom) same in let lower = within.1 in omega (arith, lower, atoms)

pub once : (ring : RingState) (opening : CacheState) (order : Order) (texts outs : ℕ → List ℕ) (histories : ℕ → List Entry) (began ended : ℕ → List ℕ)
    → RunAccounts ring opening order texts outs histories began ended → (r s j k : ℕ) (d e : Entry) → slice_get (histories r) j ≡ Some d
    → slice_get (histories s) k ≡ Some e → tag_in d ≡ tag_in e → (r ≡ s) × (j ≡ k)
once ring opening order texts outs histories began ended h r s j k d e at also same =
    let one = legal_at order r opening (histories r) j d (h.legal r) at in
    let two = legal_at order s opening (histories s) k e (h.legal s) also in
    let placed : to_place r one.0 ≡ to_place s two.0 =
    same_Some (to_place r one.0) (to_place s two.0) (sym one.1 ∙ ap (λ (t : Tag). command_at order t) same ∙ two.1) in
    let here : r ≡ s = ap (λ (c : Routed). c.server) placed in
    let there : slice_get (histories r) k ≡ Some e = subst (λ (p : ℕ). slice_get (histories p) k ≡ Some e) (sym here) also in
    let client : d.client ≡ e.client = ap (λ (t : Tag). t.session) same in
    let before : j < k → IsBefore (tag_in d) (tag_in e) = λ lt. in_order order r (histories r) h.numbered (h.commands r) j k d e at there lt client in
    let after : k < j → IsBefore (tag_in e) (tag_in d) = λ lt. in_order order r (histories r) h.numbered (h.commands r) k j e d there at lt (sym client) in (
      here,
      elim (cases_eq j k) [
        | inl is ↦ is
        | inr differ ↦ elim (cases_lt j k) [
          | inl lt ↦ absurd (never_before (tag_in d) (tag_in e) same (before lt))
          | inr least ↦ absurd (never_before (tag_in e) (tag_in d) (sym same) (after (omega (arith, least, differ))))
        ]
      ],
    )
