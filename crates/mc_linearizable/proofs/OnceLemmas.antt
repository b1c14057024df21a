-- A command that was sent has one entry in all histories, or none.
use Rattle.std.proofs.Common.{◌≡◌, ◌≢◌, ◌∙◌, ⊎_elim, ℕ, zero, suc, ◌⊎◌, inl, inr, List, [], ◌∷◌, Some, slice_get, refl, sym, ap, ap₂, subst}
use Rattle.std.proofs.lemmas.Bool.Decides.{eqb_tells}
use Rattle.std.proofs.lemmas.Option.{none-some, same_Some}
use Rattle.mc_ring.specs.Rings.{RingState}
use Rattle.mc_route.specs.declared.losses.Losses.{Losses}
use Rattle.mc_route.specs.Routes.{to_place}
use Rattle.mc_route.specs.declared.routes.Routed.{Routed}
use Rattle.mc_link.specs.declared.turns.Tag.{Tag}
use Rattle.mc_proxy.specs.Sending.{tag_of}
use Rattle.mc_cache.specs.CacheState.{CacheState}
use Rattle.mc_account.specs.Lookups.{command_at}
use Rattle.mc_account.specs.Orders.{Order}
use Rattle.mc_history.specs.declared.entries.Entry.{Entry}
use Rattle.mc_history.specs.Histories.{HasNone, tag_in}
use Rattle.mc_world.specs.Accounts.{Accounts}
use Rattle.mc_world.specs.Homes.{Homes}
use Rattle.mc_world.specs.Logs.{Log}
use Rattle.mc_pool_laws.specs.Sent.{IsSent}
use Rattle.mc_pool_laws.specs.Outcomes.{HasEntry, HasOneEntry}
use Rattle.mc_pool_laws.proofs.LossLemmas.{only_entry}
use Rattle.mc_pool_laws.proofs.SentLemmas.{entry_named, sent_command}

-- two tags are equal, or differ
one_tag : (a b : Tag) → (a ≡ b) ⊎ (a ≢ b)
one_tag a b =
    ⊎_elim
    (λ s. ⊎_elim
    (λ r. ⊎_elim
    (λ n. inl (ap (λ (k : ℕ). tag_of k a.request a.atom) s.1 ∙ ap₂ (λ (k m : ℕ). tag_of b.session k m) r.1 n.1))
    (λ n. inr (λ same. n.1 (ap (λ (t : Tag). t.atom) same)))
    (eqb_tells a.atom b.atom))
    (λ r. inr (λ same. r.1 (ap (λ (t : Tag). t.request) same)))
    (eqb_tells a.request b.request))
    (λ s. inr (λ same. s.1 (ap (λ (t : Tag). t.session) same)))
    (eqb_tells a.session b.session)

none_nowhere : (tag : Tag) → HasNone [] tag
none_nowhere tag zero e at same = none-some e at
none_nowhere tag (suc k) e at same = none-some e at

none_more : (x : Entry) (xs : List Entry) (tag : Tag) → tag_in x ≢ tag → HasNone xs tag → HasNone (x ∷ xs) tag
none_more x xs tag differ none zero e at same = differ (ap (λ (d : Entry). tag_in d) (same_Some x e at) ∙ same)
none_more x xs tag differ none (suc k) e at same = none k e at same

-- a history has an entry of a command, or none
entry_or_none : (history : List Entry) (tag : Tag) → HasEntry history tag ⊎ HasNone history tag
entry_or_none [] tag = inr (none_nowhere tag)
entry_or_none (x ∷ xs) tag =
    ⊎_elim
    (λ same. inl (0, x, refl, same))
    (λ differ. elim (entry_or_none xs tag) [
      | inl has ↦ inl (suc has.0, has.1, has.2, has.3)
      | inr none ↦ inr (none_more x xs tag differ none)
    ])
    (one_tag (tag_in x) tag)

-- the history of another server has no entry of it
none_elsewhere : (home : Homes) (losses : Losses) (ring : RingState) (opening : CacheState) (order : Order) (texts outs : ℕ → List ℕ) (histories : ℕ → List Entry) (log : Log)
    → Accounts home losses ring opening order texts outs histories log → (tag : Tag) (command : Routed) → command_at order tag ≡ Some command
    → HasNone (histories command.server) tag → (place : ℕ) → HasNone (histories place) tag
none_elsewhere home losses ring opening order texts outs histories log h tag command at none place k e there same =
    let named = entry_named home losses ring opening order texts outs histories log h place k e there in
    let is : command ≡ to_place place named.0 =
    same_Some command (to_place place named.0) (sym at ∙ ap (λ (t : Tag). command_at order t) (sym same) ∙ named.1) in
    none k e (subst (λ (p : ℕ). slice_get (histories p) k ≡ Some e) (sym (ap (λ (c : Routed). c.server) is)) there) same

pub once_or_never : (home : Homes) (losses : Losses) (ring : RingState) (opening : CacheState) (order : Order) (texts outs : ℕ → List ℕ) (histories : ℕ → List Entry) (log : Log)
    → Accounts home losses ring opening order texts outs histories log → (tag : Tag) (command : Routed) → IsSent home ring texts log tag command
    → ((place : ℕ) → HasNone (histories place) tag) ⊎ HasOneEntry histories command.server tag
once_or_never home losses ring opening order texts outs histories log h tag command sent =
    let at = sent_command home losses ring opening order texts outs histories log h tag command sent in
    elim (entry_or_none (histories command.server) tag) [
      | inl entry ↦ inr (only_entry home losses ring opening order texts outs histories log h command.server tag entry)
      | inr none ↦ inl (none_elsewhere home losses ring opening order texts outs histories log h tag command at none)
    ]
