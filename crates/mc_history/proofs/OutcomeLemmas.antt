-- Outcomes of commands, as an order goes on and as outcomes are noted in it; and the entries after the replies that were taken.
use Rattle.std.proofs.Common.{◌≡◌, ◌≢◌, ◌∙◌, ℕ, zero, suc, ◌+◌, ◌==◌, ◌⊎◌, inl, inr, true, false, if◌then◌else◌, List, [], ◌∷◌, ◌++◌, map, Option, Some, slice_get, refl, sym, ap, subst, arith}
use Rattle.std.proofs.lemmas.Bool.{and_parts, eqb-true}
use Rattle.std.proofs.lemmas.Option.{none-some, same_Some}
use Rattle.mc_request.specs.declared.parts.Atom.{Atom}
use Rattle.mc_reply.specs.declared.replies.Reply.{Reply as AReply}
use Rattle.mc_route.specs.Routes.{to_place}
use Rattle.mc_route.specs.declared.outcomes.Outcome.{Outcome}
use Rattle.mc_route.specs.declared.outcomes.Outcome.TheVariants.{Awaited, Lost, Reply}
use Rattle.mc_route.specs.declared.routes.Routed.{Routed}
use Rattle.mc_link.specs.LinkState.{LinkState}
use Rattle.mc_link.specs.declared.turns.Tag.{Tag}
use Rattle.mc_proxy.specs.SessionNoting.{set_outcome}
use Rattle.mc_proxy.specs.Sending.{at_once, tag_of}
use Rattle.mc_proxy.specs.SessionState.{link_at}
use Rattle.mc_account.specs.Orders.{TakenRequest, Order, AreInOrder, entries_of, note, note_all, numbers_from, owns}
use Rattle.mc_account.proofs.OrderLemmas.{entries-append, entries-note, in_order-note}
use Rattle.mc_history.specs.declared.entries.Entry.{Entry}
use Rattle.mc_history.specs.Made.{Each, Made, entry_of, made_on}
use Rattle.mc_history.proofs.NamedLemmas.{noted_there}
use Rattle.mc_account.specs.Lookups.{command_at, command_in, outcome_at, outcome_in}
use Rattle.mc_history.specs.Named.{AreReplied, IsNamed}

-- among the commands to a place no reply is known that was not known before
abbrev pub NoNews : ℕ → Order → Order → Type 0
NoNews place order longer = (tag : Tag) (atom : Atom (List ℕ)) (reply : AReply (List ℕ)) → command_at longer tag ≡ Some (to_place place atom) → outcome_at longer tag ≡ Some (Reply reply)
    → (command_at order tag ≡ Some (to_place place atom)) × (outcome_at order tag ≡ Some (Reply reply))

pub replied_kept : (place : ℕ) (order longer : Order) (history : List Entry) → NoNews place order longer → AreReplied place order history → AreReplied place longer history
replied_kept place order longer history news h tag atom reply is known = let old = news tag atom reply is known in h tag atom reply old.0 old.1

-- a history that goes on
entry_there : (es : List Entry) (e : Entry) (k : ℕ) (d : Entry) → slice_get es k ≡ Some d → slice_get (es ++ e ∷ []) k ≡ Some d
entry_there [] e zero d h = absurd (none-some d h)
entry_there [] e (suc k) d h = absurd (none-some d h)
entry_there (x ∷ xs) e zero d h = h
entry_there (x ∷ xs) e (suc k) d h = entry_there xs e k d h

pub replied_push : (place : ℕ) (order : Order) (history : List Entry) (e : Entry) → AreReplied place order history → AreReplied place order (history ++ e ∷ [])
replied_push place order history e h tag atom reply is known =
    let old = h tag atom reply is known in (old.0, old.1, entry_there history e old.0 old.1 old.2, old.3, old.4)

-- a request that is taken: no reply to it is known
push_back : (es fs : Order) (k atom : ℕ) (reply : AReply (List ℕ)) → ((j : ℕ) → outcome_in (slice_get fs j) atom ≢ Some (Reply reply))
    → outcome_in (slice_get (es ++ fs) k) atom ≡ Some (Reply reply) → slice_get (es ++ fs) k ≡ slice_get es k
push_back [] fs k atom reply fresh known = absurd (fresh k known)
push_back (x ∷ xs) fs zero atom reply fresh known = refl
push_back (x ∷ xs) fs (suc k) atom reply fresh known = push_back xs fs k atom reply fresh known

at_once_fresh : (links : List LinkState) (routes : List Routed) (atom : ℕ) (reply : AReply (List ℕ)) → slice_get (map (at_once links) routes) atom ≢ Some (Reply reply)
at_once_fresh links [] zero reply e = absurd (none-some (Reply reply) e)
at_once_fresh links [] (suc atom) reply e = absurd (none-some (Reply reply) e)
at_once_fresh links (r ∷ rs) zero reply e =
    let same : (if (link_at links r.server).up then Awaited else Lost) ≡ Reply reply = same_Some (at_once links r) (Reply reply) e in
    (elim ((link_at links r.server).up) as (λ v. (if v then Awaited else Lost) ≡ Reply reply → ⊥) [
      | true ↦ λ k. absurd cc
      | false ↦ λ k. absurd cc
    ]) same
at_once_fresh links (r ∷ rs) (suc atom) reply e = at_once_fresh links rs atom reply e

one_fresh : (e : TakenRequest) (atom : ℕ) (reply : AReply (List ℕ)) → ((atom : ℕ) (reply : AReply (List ℕ)) → slice_get e.outcomes atom ≢ Some (Reply reply))
    → (j : ℕ) → outcome_in (slice_get (e ∷ []) j) atom ≢ Some (Reply reply)
one_fresh e atom reply fresh zero k = fresh atom reply k
one_fresh e atom reply fresh (suc zero) k = absurd (none-some (Reply reply) k)
one_fresh e atom reply fresh (suc (suc j)) k = absurd (none-some (Reply reply) k)

no_entry : (j atom : ℕ) (reply : AReply (List ℕ)) → outcome_in (slice_get [] j) atom ≢ Some (Reply reply)
no_entry zero atom reply k = absurd (none-some (Reply reply) k)
no_entry (suc j) atom reply k = absurd (none-some (Reply reply) k)

pub taken_fresh : (links : List LinkState) (routes : List Routed) (outcomes : List Outcome) → outcomes ≡ map (at_once links) routes
    → (atom : ℕ) (reply : AReply (List ℕ)) → slice_get outcomes atom ≢ Some (Reply reply)
taken_fresh links routes outcomes is atom reply e = at_once_fresh links routes atom reply (ap (λ (xs : List Outcome). slice_get xs atom) (sym is) ∙ e)

pub news_push : (place : ℕ) (order : Order) (e : TakenRequest) → ((atom : ℕ) (reply : AReply (List ℕ)) → slice_get e.outcomes atom ≢ Some (Reply reply)) → NoNews place order (order ++ e ∷ [])
news_push place order e fresh tag atom reply is known =
    let mine : entries_of tag.session (order ++ e ∷ []) ≡ entries_of tag.session order ++ entries_of tag.session (e ∷ []) = entries-append tag.session order (e ∷ []) in
    let none : (j : ℕ) → outcome_in (slice_get (entries_of tag.session (e ∷ [])) j) tag.atom ≢ Some (Reply reply) =
    λ j. (elim (e.session == tag.session) as (λ v. outcome_in (slice_get (if v then e ∷ [] else []) j) tag.atom ≡ Some (Reply reply) → ⊥) [
      | true ↦ λ k. one_fresh e tag.atom reply fresh j k
      | false ↦ λ k. no_entry j tag.atom reply k
    ]) in
    let same : slice_get (entries_of tag.session (order ++ e ∷ [])) tag.request ≡ slice_get (entries_of tag.session order) tag.request =
    ap (λ (es : Order). slice_get es tag.request) mine
    ∙ push_back (entries_of tag.session order) (entries_of tag.session (e ∷ [])) tag.request tag.atom reply none
    (ap (λ (es : Order). outcome_in (slice_get es tag.request) tag.atom) (sym mine) ∙ known) in
    (ap (λ (o : Option TakenRequest). command_in o tag.atom) (sym same) ∙ is, ap (λ (o : Option TakenRequest). outcome_in o tag.atom) (sym same) ∙ known)

-- after an outcome is noted, a known outcome was known before, or is that one
with_back : (at : ℕ) (outcome : Outcome) (xs : List Outcome) (a : ℕ) (q : Outcome) → slice_get (set_outcome at outcome xs) a ≡ Some q → (slice_get xs a ≡ Some q) ⊎ ((a ≡ at) × (q ≡ outcome))
with_back at outcome [] a q e = inl e
with_back zero outcome (x ∷ xs) zero q e = inr (refl, sym (same_Some outcome q e))
with_back zero outcome (x ∷ xs) (suc a) q e = inl e
with_back (suc at) outcome (x ∷ xs) zero q e = inl e
with_back (suc at) outcome (x ∷ xs) (suc a) q e = elim (with_back at outcome xs a q e) [
  | inl h ↦ inl h
  | inr h ↦ inr (ap suc h.0, h.1)
]

pub own_of : (session : ℕ) (order : Order) → Each (λ (e : TakenRequest). e.session ≡ session) (entries_of session order)
own_of session [] = tt
own_of session (e ∷ es) =
    let again = own_of session es in
    (elim (e.session == session) as (λ v. e.session == session ≡ v → Each (λ (x : TakenRequest). x.session ≡ session) (if v then e ∷ entries_of session es else entries_of session es)) [
      | true ↦ λ is. (eqb-true e.session session is, again)
      | false ↦ λ is. again
    ]) refl

slot_back : (t : Tag) (outcome : Outcome) (session : ℕ) (es : Order) (at k a : ℕ) (q : Outcome) → map (λ (e : TakenRequest). e.request) es ≡ numbers_from at es → Each (λ (e : TakenRequest). e.session ≡ session) es
    → outcome_in (slice_get (note t outcome es) k) a ≡ Some q
    → (outcome_in (slice_get es k) a ≡ Some q) ⊎ ((session ≡ t.session) × (k + at ≡ t.request) × (a ≡ t.atom) × (q ≡ outcome))
slot_back t outcome session [] at zero a q numbered own e = absurd (none-some q e)
slot_back t outcome session [] at (suc k) a q numbered own e = absurd (none-some q e)
slot_back t outcome session (x ∷ xs) at zero a q numbered own e =
    let first : x.request ≡ at = cc in
    (elim (owns t x) as (λ v. owns t x ≡ v → slice_get (if v then set_outcome t.atom outcome x.outcomes else x.outcomes) a ≡ Some q
    → (slice_get x.outcomes a ≡ Some q) ⊎ ((session ≡ t.session) × (0 + at ≡ t.request) × (a ≡ t.atom) × (q ≡ outcome))) [
      | true ↦ λ is now. elim (with_back t.atom outcome x.outcomes a q now) [
        | inl h ↦ inl h
        | inr h ↦
            let parts = and_parts (x.session == t.session) (x.request == t.request) is in
            let number : 0 + at ≡ t.request = omega (arith, first, eqb-true x.request t.request parts.1) in
            inr (sym own.0 ∙ eqb-true x.session t.session parts.0, number, h.0, h.1)
      ]
      | false ↦ λ is now. inl now
    ]) refl e
slot_back t outcome session (x ∷ xs) at (suc k) a q numbered own e =
    let after : map (λ (y : TakenRequest). y.request) xs ≡ numbers_from (suc at) xs = cc in
    elim (slot_back t outcome session xs (suc at) k a q after own.1 e) [
      | inl h ↦ inl h
      | inr h ↦ (let number : suc k + at ≡ t.request = omega (arith, h.1) in inr (h.0, number, h.2, h.3))
    ]

pub note_back : (t : Tag) (outcome : Outcome) (order : Order) (tag : Tag) (q : Outcome) → AreInOrder (entries_of tag.session order) → outcome_at (note t outcome order) tag ≡ Some q
    → (outcome_at order tag ≡ Some q) ⊎ ((tag ≡ t) × (q ≡ outcome))
note_back t outcome order tag q numbered e =
    elim (slot_back t outcome tag.session (entries_of tag.session order) 0 tag.request tag.atom q numbered (own_of tag.session order)
    (ap (λ (es : Order). outcome_in (slice_get es tag.request) tag.atom) (sym (entries-note tag.session t outcome order)) ∙ e)) [
      | inl h ↦ inl h
      | inr h ↦
          let number : tag.request ≡ t.request = omega (arith, h.1) in
          inr (ap (λ (s : ℕ). tag_of s tag.request tag.atom) h.0 ∙ ap (λ (r : ℕ). tag_of t.session r tag.atom) number ∙ ap (λ (a : ℕ). tag_of t.session t.request a) h.2, h.3)
    ]

pub command_note : (t : Tag) (outcome : Outcome) (order : Order) (tag : Tag) → command_at (note t outcome order) tag ≡ command_at order tag
command_note t outcome order tag =
    ap (λ (es : Order). command_in (slice_get es tag.request) tag.atom) (entries-note tag.session t outcome order)
    ∙ noted_there t outcome (entries_of tag.session order) tag.request tag.atom

-- a command of another place gets its reply, or commands are lost
pub news_elsewhere : (place other : ℕ) (t : Tag) (atom : Atom (List ℕ)) (outcome : Outcome) (order : Order) → ((number : ℕ) → AreInOrder (entries_of number order)) → place ≢ other
    → command_at order t ≡ Some (to_place place atom) → NoNews other order (note t outcome order)
news_elsewhere place other t atom outcome order numbered differ named tag atom' reply is known =
    let was : command_at order tag ≡ Some (to_place other atom') = sym (command_note t outcome order tag) ∙ is in
    elim (note_back t outcome order tag (Reply reply) (numbered tag.session) known) [
      | inl h ↦ (was, h)
      | inr h ↦
          let both : Some (to_place place atom) ≡ Some (to_place other atom') = sym named ∙ ap (λ (u : Tag). command_at order u) (sym h.0) ∙ was in
          absurd (differ (ap (λ (r : Routed). r.server) (same_Some (to_place place atom) (to_place other atom') both)))
    ]

reply_not_lost : (reply : AReply (List ℕ)) → Reply reply ≡ Lost → ⊥
reply_not_lost reply e = absurd cc

pub news_lost : (place : ℕ) (t : Tag) (order : Order) → ((number : ℕ) → AreInOrder (entries_of number order)) → NoNews place order (note t Lost order)
news_lost place t order numbered tag atom reply is known =
    elim (note_back t Lost order tag (Reply reply) (numbered tag.session) known) [
      | inl h ↦ (sym (command_note t Lost order tag) ∙ is, h)
      | inr h ↦ absurd (reply_not_lost reply h.1)
    ]

pub news_all_lost : (place : ℕ) (tags : List Tag) (order : Order) → ((number : ℕ) → AreInOrder (entries_of number order)) → NoNews place order (note_all tags Lost order)
news_all_lost place [] order numbered tag atom reply is known = (is, known)
news_all_lost place (t ∷ ts) order numbered tag atom reply is known =
    let again = news_all_lost place ts (note t Lost order)
    (λ n. subst (λ (es : Order). AreInOrder es) (sym (entries-note n t Lost order)) (in_order-note t Lost (entries_of n order) (numbered n))) tag atom reply is known in
    news_lost place t order numbered tag atom reply again.0 again.1

-- a command on a connection was made
front_case : (x : Made) (ys : List Made) (n : ℕ) (m : Made) → slice_get (x ∷ ys) n ≡ Some m → (x ≡ m) ⊎ ((j : ℕ) × (slice_get ys j ≡ Some m))
front_case x ys zero m e = inl (same_Some x m e)
front_case x ys (suc n) m e = inr (n, e)

pub in_made : (number : ℕ) (made : List Made) (n : ℕ) (m : Made) → slice_get (made_on number made) n ≡ Some m → (k : ℕ) × (slice_get made k ≡ Some m)
in_made number [] zero m e = absurd (none-some m e)
in_made number [] (suc n) m e = absurd (none-some m e)
in_made number (x ∷ xs) n m e =
    let again = in_made number xs in
    (elim (x.connection == number) as (λ v. slice_get (if v then x ∷ made_on number xs else made_on number xs) n ≡ Some m → (k : ℕ) × (slice_get (x ∷ xs) k ≡ Some m)) [
      | true ↦ λ at. elim (front_case x (made_on number xs) n m at) [
        | inl h ↦ (0, ap (λ (y : Made). Some y) h)
        | inr h ↦ (let b = again h.0 m h.1 in (suc b.0, b.1))
      ]
      | false ↦ λ at. (let b = again n m at in (suc b.0, b.1))
    ]) e

pub entry_made : (made : List Made) (k : ℕ) (m : Made) → slice_get made k ≡ Some m → slice_get (map entry_of made) k ≡ Some (entry_of m)
entry_made [] zero m e = absurd (none-some m e)
entry_made [] (suc k) m e = absurd (none-some m e)
entry_made (x ∷ xs) zero m e = ap (λ (y : Made). Some (entry_of y)) (same_Some x m e)
entry_made (x ∷ xs) (suc k) m e = entry_made xs k m e

pub named_made : (place : ℕ) (order : Order) (made : List Made) (k : ℕ) (m : Made) → Each (λ (x : Made). IsNamed place order x.command) made → slice_get made k ≡ Some m → IsNamed place order m.command
named_made place order [] zero m h e = absurd (none-some m e)
named_made place order [] (suc k) m h e = absurd (none-some m e)
named_made place order (x ∷ xs) zero m h e = subst (λ (y : Made). IsNamed place order y.command) (same_Some x m e) h.0
named_made place order (x ∷ xs) (suc k) m h e = named_made place order xs k m h.1 e
