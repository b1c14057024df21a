-- The commands of the requests that one proxy took, and what holds of all requests or of all commands.
use Rattle.std.proofs.Common.{◌≡◌, ◌≢◌, ◌∙◌, ℕ, suc, ◌==◌, ◌&&◌, Bool, true, false, if◌then◌else◌, List, [], ◌∷◌, ◌++◌, drop, take, refl, sym, ap, subst, arith}
use Rattle.std.specs.Prelude.{All}
use Rattle.std.specs.List.{list_all}
use Rattle.std.proofs.lemmas.Bool.{eq-eqb, eqb-true}
use Rattle.std.proofs.lemmas.List.{take-append-drop}
use Rattle.std.proofs.lemmas.List.Elements.{All-nil, All-cons, All-head, All-tail}
use Rattle.mc_route.specs.Routes.{route_of_taken}
use Rattle.mc_route.specs.declared.routes.Routed.{Routed}
use Rattle.mc_link.specs.declared.turns.Tag.{Tag}
use Rattle.mc_account.specs.Orders.{Order, Tagged, TakenRequest, commands_from, commands_in, commands_to}
use Rattle.mc_account.proofs.OpenSessions.{other_number}
use Rattle.mc_account.proofs.OrderLemmas.{commands-append, passes_joined, passes_parts}
use Rattle.mc_history.specs.Made.{Each}
use Rattle.mc_history.specs.Named.{is_tag, tags_of, times}
use Rattle.mc_history.proofs.NamedLemmas.{each_append, each_back, each_weaker}
use Rattle.mc_world.specs.Homes.{Homes, of_proxy}

-- the commands of a request are of its client
commands_whose : (place session request at : ℕ) (commands : List Routed) → Each (λ (c : Tagged). c.1.session ≡ session) (commands_from place session request at commands)
commands_whose place session request at [] = tt
commands_whose place session request at (c ∷ cs) =
    let again = commands_whose place session request (suc at) cs in
    (elim (c.server == place) as (λ v. Each (λ (x : Tagged). x.1.session ≡ session)
    (if v then (c.atom, record { session = session; request = request; atom = at }) ∷ commands_from place session request (suc at) cs else commands_from place session request (suc at) cs)) [
      | true ↦ (refl, again)
      | false ↦ again
    ])

pub commands_of_client : (place : ℕ) (e : TakenRequest) → Each (λ (c : Tagged). c.1.session ≡ e.session) (commands_in place e)
commands_of_client place e = commands_whose place e.session e.request 0 (route_of_taken e.ring e.what)

-- the commands of a proxy are of its clients
pub commands_own : (home : Homes) (proxy place : ℕ) (es : Order) → Each (λ (c : Tagged). home c.1.session ≡ proxy) (commands_to place (of_proxy home proxy es))
commands_own home proxy place [] = tt
commands_own home proxy place (e ∷ es) =
    let again = commands_own home proxy place es in
    (elim (home e.session == proxy) as (λ v. home e.session == proxy ≡ v → Each (λ (c : Tagged). home c.1.session ≡ proxy)
    (commands_to place (if v then e ∷ of_proxy home proxy es else of_proxy home proxy es))) [
      | true ↦ λ is. each_append (λ (c : Tagged). home c.1.session ≡ proxy) (commands_in place e) (commands_to place (of_proxy home proxy es))
          (each_weaker (λ (c : Tagged). c.1.session ≡ e.session) (λ (c : Tagged). home c.1.session ≡ proxy) (commands_in place e)
          (λ c same. ap (λ (n : ℕ). home n) same ∙ eqb-true (home e.session) proxy is) (commands_of_client place e))
          again
      | false ↦ λ is. again
    ]) refl

-- a tag of another client is not among commands
pub times_none : (tag : Tag) (cs : List Tagged) → Each (λ (c : Tagged). c.1.session ≢ tag.session) cs → times tag (tags_of cs) ≡ 0
times_none tag [] h = refl
times_none tag (c ∷ cs) h =
    let again = times_none tag cs h.1 in
    let here : ◌≡◌ {A = ℕ} (if is_tag tag c.1 then 1 else 0) 0 =
    ap (λ (v : Bool). if (v && (c.1.request == tag.request)) && (c.1.atom == tag.atom) then 1 else 0) (other_number c.1.session tag.session h.0) in
    omega (arith, again, here)

-- a tag is not among the commands of another proxy than its client's
pub times_other : (home : Homes) (proxy place : ℕ) (es : Order) (tag : Tag) → home tag.session ≢ proxy → times tag (tags_of (commands_to place (of_proxy home proxy es))) ≡ 0
times_other home proxy place es tag differ =
    times_none tag (commands_to place (of_proxy home proxy es))
    (each_weaker (λ (c : Tagged). home c.1.session ≡ proxy) (λ (c : Tagged). c.1.session ≢ tag.session) (commands_to place (of_proxy home proxy es))
    (λ c own same. differ (ap (λ (n : ℕ). home n) (sym same) ∙ own)) (commands_own home proxy place es))

-- what holds of the commands to a place holds of those since a request
pub each_since : (P : Tagged → Type 0) (place since : ℕ) (es : Order) → Each P (commands_to place es) → Each P (commands_to place (drop since es))
each_since P place since es h =
    let whole : commands_to place es ≡ commands_to place (take since es) ++ commands_to place (drop since es) =
    ap (λ (fs : Order). commands_to place fs) (sym (take-append-drop since es)) ∙ commands-append place (take since es) (drop since es) in
    each_back P (commands_to place (take since es)) (commands_to place (drop since es)) (subst (λ (cs : List Tagged). Each P cs) whole h)

-- so the commands that a proxy sent since a request are of its clients
pub commands_own_since : (home : Homes) (proxy place since : ℕ) (es : Order) → Each (λ (c : Tagged). home c.1.session ≡ proxy) (commands_to place (drop since (of_proxy home proxy es)))
commands_own_since home proxy place since es =
    each_since (λ (c : Tagged). home c.1.session ≡ proxy) place since (of_proxy home proxy es) (commands_own home proxy place es)

-- what holds of all requests holds of a proxy's own, and back
pub all_own : (P : TakenRequest → Type 0) (home : Homes) (proxy : ℕ) (es : Order) → All P es → All P (of_proxy home proxy es)
all_own P home proxy [] h = All-nil P
all_own P home proxy (e ∷ es) h =
    let again = all_own P home proxy es (All-tail P e es h) in
    (elim (home e.session == proxy) as (λ v. All P (if v then e ∷ of_proxy home proxy es else of_proxy home proxy es)) [
      | true ↦ All-cons P e (of_proxy home proxy es) (All-head P e es h) again
      | false ↦ again
    ])

all_tail : (P : TakenRequest → Type 0) (e : TakenRequest) (own : Bool) (es : Order) → All P (if own then e ∷ es else es) → All P es
all_tail P e true es h = All-tail P e es h
all_tail P e false es h = h

pub all_whole : (P : TakenRequest → Type 0) (home : Homes) (es : Order) → ((proxy : ℕ) → All P (of_proxy home proxy es)) → All P es
all_whole P home [] h = All-nil P
all_whole P home (e ∷ es) h =
    let first : All P (e ∷ of_proxy home (home e.session) es) =
    subst (λ (v : Bool). All P (if v then e ∷ of_proxy home (home e.session) es else of_proxy home (home e.session) es)) (eq-eqb (home e.session) (home e.session) refl) (h (home e.session)) in
    All-cons P e es (All-head P e (of_proxy home (home e.session) es) first)
    (all_whole P home es (λ proxy. all_tail P e (home e.session == proxy) (of_proxy home proxy es) (h proxy)))

-- likewise of the commands to a place
each_front : (P : Tagged → Type 0) (xs ys : List Tagged) → Each P (xs ++ ys) → Each P xs
each_front P [] ys h = tt
each_front P (x ∷ xs) ys h = (h.0, each_front P xs ys h.1)

pub each_own : (P : Tagged → Type 0) (home : Homes) (proxy place : ℕ) (es : Order) → Each P (commands_to place es) → Each P (commands_to place (of_proxy home proxy es))
each_own P home proxy place [] h = tt
each_own P home proxy place (e ∷ es) h =
    let again = each_own P home proxy place es (each_back P (commands_in place e) (commands_to place es) h) in
    (elim (home e.session == proxy) as (λ v. Each P (commands_to place (if v then e ∷ of_proxy home proxy es else of_proxy home proxy es))) [
      | true ↦ each_append P (commands_in place e) (commands_to place (of_proxy home proxy es)) (each_front P (commands_in place e) (commands_to place es) h) again
      | false ↦ again
    ])

pub passes_own : (test : Tagged → Bool) (home : Homes) (proxy place : ℕ) (es : Order) → list_all test (commands_to place es) ≡ true
    → list_all test (commands_to place (of_proxy home proxy es)) ≡ true
passes_own test home proxy place [] h = refl
passes_own test home proxy place (e ∷ es) h =
    let parts = passes_parts test (commands_in place e) (commands_to place es) h in
    let again = passes_own test home proxy place es parts.1 in
    (elim (home e.session == proxy) as (λ v. list_all test (commands_to place (if v then e ∷ of_proxy home proxy es else of_proxy home proxy es)) ≡ true) [
      | true ↦ passes_joined test (commands_in place e) (commands_to place (of_proxy home proxy es)) parts.0 again
      | false ↦ again
    ])
