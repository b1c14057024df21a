-- The executed commands of an order are a legal history of it.
use Rattle.std.proofs.Common.{◌≡◌, ◌∙◌, ℕ, zero, suc, List, [], ◌∷◌, map, Some, slice_get, refl, sym, ap}
use Rattle.std.specs.Prelude.{All}
use Rattle.std.proofs.lemmas.Option.{none-some, same_Some}
use Rattle.mc_request.specs.declared.parts.Atom.{Atom}
use Rattle.mc_reply.specs.Spelling.{spelling_of}
use Rattle.mc_reply.specs.declared.replies.Reply.{Reply as AReply}
use Rattle.mc_route.specs.Routes.{to_place}
use Rattle.mc_route.specs.declared.outcomes.Outcome.{Outcome}
use Rattle.mc_route.specs.declared.outcomes.Outcome.TheVariants.{Reply}
use Rattle.mc_link.specs.declared.turns.Tag.{Tag}
use Rattle.mc_cache.specs.CacheState.{CacheState}
use Rattle.mc_cache.specs.Refusals.{is_refusal}
use Rattle.mc_cache.specs.Step.{step_of}
use Rattle.mc_account.specs.Lookups.{command_at, outcome_at}
use Rattle.mc_account.specs.Orders.{AreInOrder, IsSized, Order, Tagged, commands_to, entries_of, outcomes_to}
use Rattle.mc_account.proofs.LookupLemmas.{command_found}
use Rattle.mc_account.proofs.ThereLemmas.{command_is_there}
use Rattle.mc_history.specs.Histories.{IsLegal, tag_in}
use Rattle.mc_history.specs.Made.{AreMade, Each, Made, entry_of}
use Rattle.mc_history.specs.Named.{AreReplied, IsNamed, tags_of}
use Rattle.mc_history.specs.declared.entries.Entry.{Entry}
use Rattle.mc_history.proofs.OutcomeLemmas.{entry_made}

-- the executed commands of an order at a place, each of which has the reply that it was given
pub record IsMadeOf (opening : CacheState) (order : Order) (place : ℕ) (made : List Made) : Type 0 where
  pub numbered : (number : ℕ) → AreInOrder (entries_of number order)
  pub sized : All IsSized order
  pub commands : map (λ (m : Made). m.command) made ≡ commands_to place order
  pub outcomes : outcomes_to place order ≡ map (λ (m : Made). Reply m.reply) made
  pub made_is : AreMade opening made

-- the element at a number of a mapped list
pub map_at : {X Y : Type 0} (f : X → Y) (xs : List X) (i : ℕ) (x : X) → slice_get xs i ≡ Some x → slice_get (map f xs) i ≡ Some (f x)
map_at f [] zero x at = absurd (none-some x at)
map_at f [] (suc i) x at = absurd (none-some x at)
map_at f (y ∷ ys) zero x at = ap (λ z. Some (f z)) (same_Some y x at)
map_at f (y ∷ ys) (suc i) x at = map_at f ys i x at

pub map_back : {X Y : Type 0} (f : X → Y) (xs : List X) (i : ℕ) (y : Y) → slice_get (map f xs) i ≡ Some y → (x : X) × (slice_get xs i ≡ Some x) × (f x ≡ y)
map_back f [] zero y at = absurd (none-some y at)
map_back f [] (suc i) y at = absurd (none-some y at)
map_back f (x ∷ xs) zero y at = (x, refl, same_Some (f x) y at)
map_back f (x ∷ xs) (suc i) y at = map_back f xs i y at

each_at : {X : Type 0} (P : X → Type 0) (xs : List X) → ((i : ℕ) (x : X) → slice_get xs i ≡ Some x → P x) → Each P xs
each_at P [] h = tt
each_at P (x ∷ xs) h = (h zero x refl, each_at P xs (λ i y at. h (suc i) y at))

-- a command that was executed, and its outcome, are found by its tag
found : (opening : CacheState) (order : Order) (place : ℕ) (made : List Made) (i : ℕ) (m : Made) → IsMadeOf opening order place made → slice_get made i ≡ Some m
    → (command_at order m.command.1 ≡ Some (to_place place m.command.0)) × (outcome_at order m.command.1 ≡ Some (Reply m.reply))
found opening order place made i m h at =
    let f = command_found place order h.numbered h.sized i m.command (Reply m.reply)
    (ap (λ (cs : List Tagged). slice_get cs i) (sym h.commands) ∙ map_at (λ (x : Made). x.command) made i m at)
    (ap (λ (xs : List Outcome). slice_get xs i) h.outcomes ∙ map_at (λ (x : Made). Reply x.reply) made i m at) in
    (f.command, f.outcome)

legal_history : (place : ℕ) (order : Order) (s : CacheState) (made : List Made) → AreMade s made → Each (λ (m : Made). IsNamed place order m.command) made
    → IsLegal order place s (map entry_of made)
legal_history place order s [] h named = tt
legal_history place order s (m ∷ ms) h named = (
  m.command.0,
  named.0,
  record { legal = h.0.legal; refused = h.0.told ∙ ap (λ (r : AReply (List ℕ)). is_refusal r) h.0.reply; reply = ap (λ (r : AReply (List ℕ)). spelling_of m.command.0 r) h.0.reply },
  legal_history place order (step_of s m.command.0 m.moment m.refused).0 ms h.1 named.1,
)

pub legal_made : (opening : CacheState) (order : Order) (place : ℕ) (made : List Made) → IsMadeOf opening order place made → IsLegal order place opening (map entry_of made)
legal_made opening order place made h =
    legal_history place order opening made h.made_is
    (each_at (λ (m : Made). IsNamed place order m.command) made (λ i m at. (found opening order place made i m h at).0))

-- the tags of the entries are those of the commands, and so are their moments
tags_same : (made : List Made) → map tag_in (map entry_of made) ≡ tags_of (map (λ (m : Made). m.command) made)
tags_same [] = refl
tags_same (m ∷ ms) = ap (λ (ts : List Tag). m.command.1 ∷ ts) (tags_same ms)

pub tags_made_of : (opening : CacheState) (order : Order) (place : ℕ) (made : List Made) → IsMadeOf opening order place made → map tag_in (map entry_of made) ≡ tags_of (commands_to place order)
tags_made_of opening order place made h = tags_same made ∙ ap tags_of h.commands

pub moments_same : (made : List Made) → map (λ (e : Entry). e.moment) (map entry_of made) ≡ map (λ (m : Made). m.moment) made
moments_same [] = refl
moments_same (m ∷ ms) = ap (λ (ts : List ℕ). m.moment ∷ ts) (moments_same ms)

-- a reply is that of the entry
same_reply : (r q : AReply (List ℕ)) → Reply r ≡ Reply q → r ≡ q
same_reply r q e = cc

pub replied_made : (opening : CacheState) (order : Order) (place : ℕ) (made : List Made) → IsMadeOf opening order place made → AreReplied place order (map entry_of made)
replied_made opening order place made h tag atom reply is known =
    let there = command_is_there place order h.numbered tag atom is in
    let own = map_back (λ (m : Made). m.command) made there.0 (atom, tag) (ap (λ (cs : List Tagged). slice_get cs there.0) h.commands ∙ there.1) in
    let m : Made = own.0 in
    let f = found opening order place made there.0 own.0 h own.1 in
    let tag_is : own.0.command.1 ≡ tag = ap (λ (c : Tagged). c.1) own.2 in
    let atom_is : own.0.command.0 ≡ atom = ap (λ (c : Tagged). c.0) own.2 in
    let same : own.0.reply ≡ reply = same_reply own.0.reply reply (same_Some (Reply own.0.reply) (Reply reply) (sym f.1 ∙ ap (λ (t : Tag). outcome_at order t) tag_is ∙ known)) in (
      there.0,
      entry_of own.0,
      entry_made made there.0 own.0 own.1,
      tag_is,
      ap (λ (a : Atom (List ℕ)). spelling_of a own.0.reply) atom_is ∙ ap (λ (r : AReply (List ℕ)). spelling_of atom r) same,
    )
