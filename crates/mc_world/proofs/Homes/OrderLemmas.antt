-- The requests that one proxy took, in an order of those that all took: after one more, after outcomes are noted, and by client.
use Rattle.std.proofs.Common.{◌≡◌, ◌≢◌, ◌∙◌, ⊎_elim, ℕ, zero, suc, ◌==◌, ◌&&◌, Bool, true, false, if◌then◌else◌, List, [], ◌∷◌, ◌++◌, map, drop, Option, None, Some, slice_get, refl, sym, ap, ap₂, subst, append-nil}
use Rattle.std.proofs.lemmas.Bool.{eq-eqb, eqb-true}
use Rattle.std.proofs.lemmas.Bool.Decides.{eqb_tells}
use Rattle.std.proofs.lemmas.List.{drop-map}
use Rattle.std.proofs.lemmas.Option.{none-some}
use Rattle.mc_route.specs.declared.outcomes.Outcome.{Outcome}
use Rattle.mc_route.specs.declared.routes.Routed.{Routed}
use Rattle.mc_link.specs.declared.turns.Tag.{Tag}
use Rattle.mc_proxy.specs.SessionNoting.{set_outcome}
use Rattle.mc_account.specs.Lanes.{Lane, sent_on}
use Rattle.mc_account.specs.Lookups.{asked_at, command_at, command_in, outcome_at, outcome_in}
use Rattle.mc_account.specs.Orders.{AreInOrder, Order, TakenRequest, commands_to, entries_of, note, note_all, note_in, taken_of}
use Rattle.mc_account.proofs.OpenSessions.{other_number}
use Rattle.mc_account.proofs.OrderLemmas.{commands-note}
use Rattle.mc_world.specs.Homes.{Homes, of_proxy}

-- the requests of a proxy in an order and in another one after it
pub of_proxy-append : (home : Homes) (proxy : ℕ) (es fs : Order) → of_proxy home proxy (es ++ fs) ≡ of_proxy home proxy es ++ of_proxy home proxy fs
of_proxy-append home proxy [] fs = refl
of_proxy-append home proxy (e ∷ es) fs =
    let again = of_proxy-append home proxy es fs in
    (elim (home e.session == proxy) as (λ v. (if v then e ∷ of_proxy home proxy (es ++ fs) else of_proxy home proxy (es ++ fs))
    ≡ (if v then e ∷ of_proxy home proxy es else of_proxy home proxy es) ++ of_proxy home proxy fs) [
      | true ↦ ap (λ (xs : Order). e ∷ xs) again
      | false ↦ again
    ])

-- one request more, of a client of this proxy or of another
pub of_proxy_push_own : (home : Homes) (proxy : ℕ) (es : Order) (e : TakenRequest) → home e.session ≡ proxy → of_proxy home proxy (es ++ e ∷ []) ≡ of_proxy home proxy es ++ e ∷ []
of_proxy_push_own home proxy es e own =
    of_proxy-append home proxy es (e ∷ []) ∙ ap (λ (v : Bool). of_proxy home proxy es ++ (if v then e ∷ [] else [])) (eq-eqb (home e.session) proxy own)

pub of_proxy_push_other : (home : Homes) (proxy : ℕ) (es : Order) (e : TakenRequest) → home e.session ≢ proxy → of_proxy home proxy (es ++ e ∷ []) ≡ of_proxy home proxy es
of_proxy_push_other home proxy es e differ =
    of_proxy-append home proxy es (e ∷ []) ∙ ap (λ (v : Bool). of_proxy home proxy es ++ (if v then e ∷ [] else [])) (other_number (home e.session) proxy differ)
    ∙ append-nil (of_proxy home proxy es)

-- outcomes that are noted
pub of_proxy-note : (home : Homes) (proxy : ℕ) (tag : Tag) (outcome : Outcome) (es : Order) → of_proxy home proxy (note tag outcome es) ≡ note tag outcome (of_proxy home proxy es)
of_proxy-note home proxy tag outcome [] = refl
of_proxy-note home proxy tag outcome (e ∷ es) =
    let again = of_proxy-note home proxy tag outcome es in
    (elim (home e.session == proxy) as (λ v. (if v then note_in tag outcome e ∷ of_proxy home proxy (note tag outcome es) else of_proxy home proxy (note tag outcome es))
    ≡ note tag outcome (if v then e ∷ of_proxy home proxy es else of_proxy home proxy es)) [
      | true ↦ ap (λ (xs : Order). note_in tag outcome e ∷ xs) again
      | false ↦ again
    ])

pub of_proxy-note_all : (home : Homes) (proxy : ℕ) (tags : List Tag) (outcome : Outcome) (es : Order)
    → of_proxy home proxy (note_all tags outcome es) ≡ note_all tags outcome (of_proxy home proxy es)
of_proxy-note_all home proxy [] outcome es = refl
of_proxy-note_all home proxy (t ∷ ts) outcome es =
    of_proxy-note_all home proxy ts outcome (note t outcome es) ∙ ap (λ (fs : Order). note_all ts outcome fs) (of_proxy-note home proxy t outcome es)

-- those of clients of other proxies change nothing
note_in_other : (tag : Tag) (outcome : Outcome) (e : TakenRequest) → e.session ≢ tag.session → note_in tag outcome e ≡ e
note_in_other tag outcome e differ =
    ap (λ (v : Bool). record e { outcomes = if v && (e.request == tag.request) then set_outcome tag.atom outcome e.outcomes else e.outcomes })
    (other_number e.session tag.session differ)

note_elsewhere : (home : Homes) (proxy : ℕ) (tag : Tag) (outcome : Outcome) (es : Order) → home tag.session ≢ proxy → note tag outcome (of_proxy home proxy es) ≡ of_proxy home proxy es
note_elsewhere home proxy tag outcome [] differ = refl
note_elsewhere home proxy tag outcome (e ∷ es) differ =
    let again = note_elsewhere home proxy tag outcome es differ in
    (elim (home e.session == proxy) as (λ v. home e.session == proxy ≡ v → note tag outcome (if v then e ∷ of_proxy home proxy es else of_proxy home proxy es)
    ≡ (if v then e ∷ of_proxy home proxy es else of_proxy home proxy es)) [
      | true ↦ λ own. ap₂ (λ (x : TakenRequest) (xs : Order). x ∷ xs)
          (note_in_other tag outcome e (λ same. differ (ap (λ (c : ℕ). home c) (sym same) ∙ eqb-true (home e.session) proxy own))) again
      | false ↦ λ other. again
    ]) refl

pub of_proxy_note_other : (home : Homes) (proxy : ℕ) (tag : Tag) (outcome : Outcome) (es : Order) → home tag.session ≢ proxy
    → of_proxy home proxy (note tag outcome es) ≡ of_proxy home proxy es
of_proxy_note_other home proxy tag outcome es differ = of_proxy-note home proxy tag outcome es ∙ note_elsewhere home proxy tag outcome es differ

pub of_proxy_note_all_other : (home : Homes) (proxy : ℕ) (tags : List Tag) (outcome : Outcome) (es : Order)
    → ((i : ℕ) (tag : Tag) → slice_get tags i ≡ Some tag → home tag.session ≢ proxy) → of_proxy home proxy (note_all tags outcome es) ≡ of_proxy home proxy es
of_proxy_note_all_other home proxy [] outcome es differ = refl
of_proxy_note_all_other home proxy (t ∷ ts) outcome es differ =
    of_proxy_note_all_other home proxy ts outcome (note t outcome es) (λ i tag at. differ (suc i) tag at)
    ∙ of_proxy_note_other home proxy t outcome es (differ 0 t refl)

-- the requests of a client of this proxy, or of another
pub entries_own : (home : Homes) (proxy client : ℕ) (es : Order) → home client ≡ proxy → entries_of client (of_proxy home proxy es) ≡ entries_of client es
entries_own home proxy client [] own = refl
entries_own home proxy client (e ∷ es) own =
    let again = entries_own home proxy client es own in
    (elim (e.session == client) as (λ v. e.session == client ≡ v → entries_of client (if home e.session == proxy then e ∷ of_proxy home proxy es else of_proxy home proxy es)
    ≡ (if v then e ∷ entries_of client es else entries_of client es)) [
      | true ↦ λ is.
          ap (λ (v : Bool). entries_of client (if v then e ∷ of_proxy home proxy es else of_proxy home proxy es))
          (eq-eqb (home e.session) proxy (ap (λ (c : ℕ). home c) (eqb-true e.session client is) ∙ own))
          ∙ ap (λ (v : Bool). if v then e ∷ entries_of client (of_proxy home proxy es) else entries_of client (of_proxy home proxy es)) is
          ∙ ap (λ (xs : Order). e ∷ xs) again
      | false ↦ λ is. (elim (home e.session == proxy) as (λ w. entries_of client (if w then e ∷ of_proxy home proxy es else of_proxy home proxy es) ≡ entries_of client es) [
        | true ↦ ap (λ (v : Bool). if v then e ∷ entries_of client (of_proxy home proxy es) else entries_of client (of_proxy home proxy es)) is ∙ again
        | false ↦ again
      ])
    ]) refl

pub entries_other : (home : Homes) (proxy client : ℕ) (es : Order) → home client ≢ proxy → entries_of client (of_proxy home proxy es) ≡ []
entries_other home proxy client [] differ = refl
entries_other home proxy client (e ∷ es) differ =
    let again = entries_other home proxy client es differ in
    (elim (home e.session == proxy) as (λ v. home e.session == proxy ≡ v → entries_of client (if v then e ∷ of_proxy home proxy es else of_proxy home proxy es) ≡ []) [
      | true ↦ λ is.
          ap (λ (v : Bool). if v then e ∷ entries_of client (of_proxy home proxy es) else entries_of client (of_proxy home proxy es))
          (other_number e.session client (λ same. differ (ap (λ (c : ℕ). home c) (sym same) ∙ eqb-true (home e.session) proxy is)))
          ∙ again
      | false ↦ λ is. again
    ]) refl

pub taken_own : (home : Homes) (proxy client : ℕ) (es : Order) → home client ≡ proxy → taken_of client (of_proxy home proxy es) ≡ taken_of client es
taken_own home proxy client es own = ap (λ (xs : Order). map (λ (e : TakenRequest). e.what) xs) (entries_own home proxy client es own)

pub taken_other : (home : Homes) (proxy client : ℕ) (es : Order) → home client ≢ proxy → taken_of client (of_proxy home proxy es) ≡ []
taken_other home proxy client es differ = ap (λ (xs : Order). map (λ (e : TakenRequest). e.what) xs) (entries_other home proxy client es differ)

-- requests by their clients and numbers, commands and outcomes by their tags
pub asked_own : (home : Homes) (proxy client request : ℕ) (es : Order) → home client ≡ proxy → asked_at (of_proxy home proxy es) client request ≡ asked_at es client request
asked_own home proxy client request es own = ap (λ (xs : Order). slice_get xs request) (entries_own home proxy client es own)

asked_none : (request : ℕ) → ◌≡◌ {A = Option TakenRequest} (slice_get [] request) None
asked_none zero = refl
asked_none (suc request) = refl

pub asked_other : (home : Homes) (proxy client request : ℕ) (es : Order) → home client ≢ proxy → asked_at (of_proxy home proxy es) client request ≡ None
asked_other home proxy client request es differ = ap (λ (xs : Order). slice_get xs request) (entries_other home proxy client es differ) ∙ asked_none request

pub command_own : (home : Homes) (proxy : ℕ) (es : Order) (tag : Tag) → home tag.session ≡ proxy → command_at (of_proxy home proxy es) tag ≡ command_at es tag
command_own home proxy es tag own = ap (λ (o : Option TakenRequest). command_in o tag.atom) (asked_own home proxy tag.session tag.request es own)

pub outcome_own : (home : Homes) (proxy : ℕ) (es : Order) (tag : Tag) → home tag.session ≡ proxy → outcome_at (of_proxy home proxy es) tag ≡ outcome_at es tag
outcome_own home proxy es tag own = ap (λ (o : Option TakenRequest). outcome_in o tag.atom) (asked_own home proxy tag.session tag.request es own)

pub command_other : (home : Homes) (proxy : ℕ) (es : Order) (tag : Tag) → home tag.session ≢ proxy → command_at (of_proxy home proxy es) tag ≡ None
command_other home proxy es tag differ = ap (λ (o : Option TakenRequest). command_in o tag.atom) (asked_other home proxy tag.session tag.request es differ)

pub outcome_other : (home : Homes) (proxy : ℕ) (es : Order) (tag : Tag) → home tag.session ≢ proxy → outcome_at (of_proxy home proxy es) tag ≡ None
outcome_other home proxy es tag differ = ap (λ (o : Option TakenRequest). outcome_in o tag.atom) (asked_other home proxy tag.session tag.request es differ)

-- what a proxy's own requests show is of its own clients, and so in the whole order
pub command_is_own : (home : Homes) (proxy : ℕ) (es : Order) (tag : Tag) (routed : Routed) → command_at (of_proxy home proxy es) tag ≡ Some routed → home tag.session ≡ proxy
command_is_own home proxy es tag routed is =
    ⊎_elim (λ own. own.1) (λ other. absurd (none-some routed (sym (command_other home proxy es tag other.1) ∙ is))) (eqb_tells (home tag.session) proxy)

pub command_whole : (home : Homes) (proxy : ℕ) (es : Order) (tag : Tag) (routed : Routed) → command_at (of_proxy home proxy es) tag ≡ Some routed → command_at es tag ≡ Some routed
command_whole home proxy es tag routed is = sym (command_own home proxy es tag (command_is_own home proxy es tag routed is)) ∙ is

pub outcome_is_own : (home : Homes) (proxy : ℕ) (es : Order) (tag : Tag) (outcome : Outcome) → outcome_at (of_proxy home proxy es) tag ≡ Some outcome → home tag.session ≡ proxy
outcome_is_own home proxy es tag outcome is =
    ⊎_elim (λ own. own.1) (λ other. absurd (none-some outcome (sym (outcome_other home proxy es tag other.1) ∙ is))) (eqb_tells (home tag.session) proxy)

pub outcome_whole : (home : Homes) (proxy : ℕ) (es : Order) (tag : Tag) (outcome : Outcome) → outcome_at (of_proxy home proxy es) tag ≡ Some outcome → outcome_at es tag ≡ Some outcome
outcome_whole home proxy es tag outcome is = sym (outcome_own home proxy es tag (outcome_is_own home proxy es tag outcome is)) ∙ is

-- the requests of each client are in order in the whole, and so in a proxy's own
pub numbered_whole : (home : Homes) (es : Order) → ((proxy number : ℕ) → AreInOrder (entries_of number (of_proxy home proxy es))) → (number : ℕ) → AreInOrder (entries_of number es)
numbered_whole home es h number = subst (λ (xs : Order). AreInOrder xs) (entries_own home (home number) number es refl) (h (home number) number)

pub numbered_own : (home : Homes) (proxy : ℕ) (es : Order) → ((number : ℕ) → AreInOrder (entries_of number es)) → (number : ℕ) → AreInOrder (entries_of number (of_proxy home proxy es))
numbered_own home proxy es h number =
    ⊎_elim (λ own. subst (λ (xs : Order). AreInOrder xs) (sym (entries_own home proxy number es own.1)) (h number))
    (λ other. subst (λ (xs : Order). AreInOrder xs) (sym (entries_other home proxy number es other.1)) refl) (eqb_tells (home number) proxy)

-- noting outcomes keeps the commands that were sent on a lane of a proxy
pub sent_noted : (home : Homes) (proxy place : ℕ) (tag : Tag) (outcome : Outcome) (es : Order) (lane : Lane)
    → sent_on place (of_proxy home proxy (note tag outcome es)) lane ≡ sent_on place (of_proxy home proxy es) lane
sent_noted home proxy place tag outcome es lane =
    ap (λ (fs : Order). sent_on place fs lane) (of_proxy-note home proxy tag outcome es)
    ∙ ap (λ (fs : Order). commands_to place fs) (drop-map (note_in tag outcome) lane.since (of_proxy home proxy es))
    ∙ commands-note place tag outcome (drop lane.since (of_proxy home proxy es))

pub sent_noted_all : (home : Homes) (proxy place : ℕ) (tags : List Tag) (outcome : Outcome) (es : Order) (lane : Lane)
    → sent_on place (of_proxy home proxy (note_all tags outcome es)) lane ≡ sent_on place (of_proxy home proxy es) lane
sent_noted_all home proxy place [] outcome es lane = refl
sent_noted_all home proxy place (t ∷ ts) outcome es lane = sent_noted_all home proxy place ts outcome (note t outcome es) lane ∙ sent_noted home proxy place t outcome es lane
