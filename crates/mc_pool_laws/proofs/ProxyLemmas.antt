-- A link that was never down: of which commands its server's history is, as far as it is of its proxy's clients.
use Rattle.std.proofs.Common.{◌≡◌, ◌≢◌, ◌∙◌, inl, inr, ℕ, suc, ◌+◌, ◌==◌, Bool, true, false, if◌then◌else◌, List, [], ◌∷◌, ◌++◌, length, map, Some, slice_get, refl, sym, ap, ap₂, subst, append_assoc, arith}
use Rattle.std.proofs.lemmas.Bool.{eqb-true, true≢false}
use Rattle.std.proofs.lemmas.List.{map-append}
use Rattle.std.proofs.lemmas.Option.{same_Some}
use Rattle.mc_request.specs.declared.parts.Parsed.{Parsed}
use Rattle.mc_ring.specs.Rings.{RingState}
use Rattle.mc_route.specs.declared.losses.Losses.{Losses}
use Rattle.mc_route.specs.Routes.{route_of_taken}
use Rattle.mc_cache.specs.CacheState.{CacheState}
use Rattle.mc_account.specs.Lookups.{asked_at}
use Rattle.mc_account.specs.Orders.{AreInOrder, Order, Tagged, TakenRequest, commands_from, commands_in, commands_to, entries_of, numbers_from}
use Rattle.mc_account.proofs.LookupLemmas.{get_after}
use Rattle.mc_account.proofs.OpenSessions.{own_number}
use Rattle.mc_account.proofs.OrderLemmas.{entries-append, numbered_after}
use Rattle.mc_world.specs.declared.events.Event.TheVariants.{ProxyTurn}
use Rattle.mc_world.specs.Accounts.{Accounts}
use Rattle.mc_world.specs.Homes.{Homes, of_proxy}
use Rattle.mc_world.specs.Logs.{IsRingAfter, Log, before, drops, number_of, takes, turn_of, turns_of}
use Rattle.mc_world.specs.declared.logs.Logged.{Logged}
use Rattle.mc_world.specs.declared.logs.Logged.TheVariants.{Happened}
use Rattle.mc_world.proofs.Log.LogLemmas.{before-here}
use Rattle.mc_world.proofs.Log.OrderLemmas.{turns-none, turns-push, turns-taken}
use Rattle.mc_history.specs.declared.entries.Entry.{Entry}
use Rattle.mc_pool_laws.specs.Followed.{AreSentBy, FollowsProxy, IsSentBy, TakesNext}
use Rattle.mc_pool_laws.proofs.OneRing.{ring_one}
use Rattle.mc_pool_laws.proofs.SentLemmas.{entry_taken}

-- a part of what the proxies took, and the part of the log by which they took that
record IsPart (order front back : Order) (log done es : Log) : Type 0 where
  pub order_is : order ≡ front ++ back
  pub log_is : log ≡ done ++ es
  pub front_turns : map (λ (e : TakenRequest). e.session) front ≡ turns_of done
  pub back_turns : map (λ (e : TakenRequest). e.session) back ≡ turns_of es

-- the part after the next event
after_turn : (order front back : Order) (log done es : Log) (e : TakenRequest) (client : ℕ)
    → IsPart order front (e ∷ back) log done (Happened (ProxyTurn client) ∷ es)
    → (e.session ≡ client) × IsPart order (front ++ e ∷ []) back log (done ++ Happened (ProxyTurn client) ∷ []) es
after_turn order front back log done es e client h =
    let turns : e.session ∷ map (λ (x : TakenRequest). x.session) back ≡ client ∷ turns_of es = h.back_turns in
    let own : e.session ≡ client = cc in
    let rest : map (λ (x : TakenRequest). x.session) back ≡ turns_of es = cc in (
      own,
      record {
        order_is = h.order_is ∙ sym (append_assoc front (e ∷ []) back);
        log_is = h.log_is ∙ sym (append_assoc done (Happened (ProxyTurn client) ∷ []) es);
        front_turns = map-append (λ (x : TakenRequest). x.session) front (e ∷ []) ∙ ap₂ (λ (cs : List ℕ) (c : ℕ). cs ++ c ∷ []) h.front_turns own ∙ sym (turns-push done (Happened (ProxyTurn client)));
        back_turns = rest;
      },
    )

after_other : (order front back : Order) (log done es : Log) (x : Logged) → turn_of x ≡ [] → IsPart order front back log done (x ∷ es)
    → IsPart order front back log (done ++ x ∷ []) es
after_other order front back log done es x none h = record {
  order_is = h.order_is;
  log_is = h.log_is ∙ sym (append_assoc done (x ∷ []) es);
  front_turns = h.front_turns ∙ sym (turns-none done x none);
  back_turns = h.back_turns ∙ ap (λ (cs : List ℕ). cs ++ turns_of es) none;
}

-- a turn of a client of a proxy takes its next request, and sends its commands
taken_next : (home : Homes) (losses : Losses) (ring : RingState) (opening : CacheState) (order : Order) (texts outs : ℕ → List ℕ) (histories : ℕ → List Entry) (log : Log)
    → Accounts home losses ring opening order texts outs histories log → (proxy place : ℕ) (front back : Order) (done es : Log) (e : TakenRequest) (client : ℕ)
    → IsPart order front (e ∷ back) log done (Happened (ProxyTurn client) ∷ es) → e.session ≡ client → home client ≡ proxy
    → TakesNext proxy ring texts place done client (commands_in place e)
taken_next home losses ring opening order texts outs histories log h proxy place front back done es e client part own its =
    let is_own : (e.session == client) ≡ true = rw own (own_number client) in
    let all : entries_of client order ≡ entries_of client front ++ e ∷ entries_of client back =
    ap (λ (xs : Order). entries_of client xs) part.order_is ∙ entries-append client front (e ∷ back)
    ∙ ap (λ (v : Bool). entries_of client front ++ (if v then e ∷ entries_of client back else entries_of client back)) is_own in
    let number : number_of (takes client) done ≡ length (entries_of client front) = sym (turns-taken front done part.front_turns client) in
    let at : asked_at order client (number_of (takes client) done) ≡ Some e =
    ap (λ (xs : Order). slice_get xs (number_of (takes client) done)) all ∙ get_after (entries_of client front) (entries_of client back) e (number_of (takes client) done) number in
    let taken = entry_taken home losses ring opening order texts outs histories log h client (number_of (takes client) done) e at in
    let there : before (takes client) (number_of (takes client) done) log ≡ done =
    ap (λ (l : Log). before (takes client) (number_of (takes client) done) l) part.log_is ∙ before-here (takes client) done (Happened (ProxyTurn client)) es (own_number client) in
    let numbers : e.request ∷ map (λ (x : TakenRequest). x.request) (entries_of client back)
    ≡ (0 + length (entries_of client front)) ∷ numbers_from (suc (0 + length (entries_of client front))) (entries_of client back) =
    numbered_after 0 (entries_of client front) (e ∷ entries_of client back) (subst (λ (xs : Order). AreInOrder xs) all (h.numbered client)) in
    let first : e.request ≡ 0 + length (entries_of client front) = cc in
    let request : e.request ≡ number_of (takes client) done = omega (arith, first, number) in
    record {
      what = e.what;
      ring = e.ring;
      sent = taken.sent;
      then = subst (λ (p : ℕ). IsRingAfter p ring done e.ring) its (subst (λ (l : Log). IsRingAfter (home client) ring l e.ring) there taken.then);
      routed = ap₂ (λ (session number : ℕ). commands_from place session number 0 (route_of_taken e.ring e.what)) own request;
    }

-- a client of another proxy
not_its : (home : Homes) (proxy client session : ℕ) → session ≡ client → (home session == proxy) ≡ false → home client ≢ proxy
not_its home proxy client session own other its =
    true≢false (sym (own_number proxy) ∙ ap (λ (p : ℕ). p == proxy) (sym (ap (λ (c : ℕ). home c) own ∙ its)) ∙ other)

-- the commands of a proxy to a place are those that the log sent
sent_by : (home : Homes) (losses : Losses) (ring : RingState) (opening : CacheState) (order : Order) (texts outs : ℕ → List ℕ) (histories : ℕ → List Entry) (log : Log)
    → Accounts home losses ring opening order texts outs histories log → (proxy place : ℕ) (front back : Order) (done es : Log) → IsPart order front back log done es
    → AreSentBy home proxy ring texts place done es (commands_to place (of_proxy home proxy back))
sent_by home losses ring opening order texts outs histories log h proxy place front [] done [] part = refl
sent_by home losses ring opening order texts outs histories log h proxy place front (e ∷ back) done [] part =
    let clash : e.session ∷ map (λ (x : TakenRequest). x.session) back ≡ [] = part.back_turns in absurd cc
sent_by home losses ring opening order texts outs histories log h proxy place front [] done (Happened (ProxyTurn client) ∷ es) part =
    let clash : [] ≡ client ∷ turns_of es = part.back_turns in absurd cc
sent_by home losses ring opening order texts outs histories log h proxy place front (e ∷ back) done (Happened (ProxyTurn client) ∷ es) part =
    let next = after_turn order front back log done es e client part in
    let later : AreSentBy home proxy ring texts place (done ++ Happened (ProxyTurn client) ∷ []) es (commands_to place (of_proxy home proxy back)) =
    sent_by home losses ring opening order texts outs histories log h proxy place (front ++ e ∷ []) back (done ++ Happened (ProxyTurn client) ∷ []) es next.1 in
    (elim (home e.session == proxy) as (λ v. (home e.session == proxy) ≡ v
    → AreSentBy home proxy ring texts place done (Happened (ProxyTurn client) ∷ es) (commands_to place (if v then e ∷ of_proxy home proxy back else of_proxy home proxy back))) [
      | true ↦ λ own.
          let its : home client ≡ proxy = sym (ap (λ (c : ℕ). home c) next.0) ∙ eqb-true (home e.session) proxy own in (
            commands_in place e,
            commands_to place (of_proxy home proxy back),
            inl (its, taken_next home losses ring opening order texts outs histories log h proxy place front back done es e client part next.0 its),
            later,
            refl,
          )
      | false ↦ λ other. ([], commands_to place (of_proxy home proxy back), inr (not_its home proxy client e.session next.0 other, refl), later, refl)
    ]) refl
sent_by home losses ring opening order texts outs histories log h proxy place front back done (x ∷ es) part = (
  [],
  commands_to place (of_proxy home proxy back),
  refl,
  sent_by home losses ring opening order texts outs histories log h proxy place front back (done ++ x ∷ []) es (after_other order front back log done es x refl part),
  refl,
)

pub follows : (home : Homes) (losses : Losses) (ring : RingState) (opening : CacheState) (order : Order) (texts outs : ℕ → List ℕ) (histories : ℕ → List Entry) (log : Log)
    → Accounts home losses ring opening order texts outs histories log → (proxy place : ℕ) → number_of (drops proxy place) log ≡ 0
    → FollowsProxy home proxy ring texts log place (histories place)
follows home losses ring opening order texts outs histories log h proxy place none =
    let followed = h.followed proxy place none in (
      commands_to place (of_proxy home proxy order),
      followed.0,
      sent_by home losses ring opening order texts outs histories log h proxy place [] order [] log
          (record { order_is = refl; log_is = refl; front_turns = refl; back_turns = h.turns }),
      followed.1,
    )

-- the commands that a log sent are one list
next_one : (proxy : ℕ) (ring : RingState) (texts : ℕ → List ℕ) (place : ℕ) (done : Log) (client : ℕ) (a b : List Tagged) → TakesNext proxy ring texts place done client a
    → TakesNext proxy ring texts place done client b → a ≡ b
next_one proxy ring texts place done client a b f g =
    let what : f.what ≡ g.what = same_Some f.what g.what (sym f.sent ∙ g.sent) in
    let rings : f.ring ≡ g.ring = ring_one proxy ring f.ring g.ring done f.then g.then in
    f.routed ∙ ap₂ (λ (r : RingState) (w : Parsed). commands_from place client (number_of (takes client) done) 0 (route_of_taken r w)) rings what ∙ sym g.routed

by_one : (home : Homes) (proxy : ℕ) (ring : RingState) (texts : ℕ → List ℕ) (place : ℕ) (done : Log) (x : Logged) (a b : List Tagged)
    → IsSentBy home proxy ring texts place done x a → IsSentBy home proxy ring texts place done x b → a ≡ b
by_one home proxy ring texts place done (Happened (ProxyTurn client)) a b (inl f) (inl g) = next_one proxy ring texts place done client a b f.1 g.1
by_one home proxy ring texts place done (Happened (ProxyTurn client)) a b (inl f) (inr g) = absurd (g.0 f.0)
by_one home proxy ring texts place done (Happened (ProxyTurn client)) a b (inr f) (inl g) = absurd (f.0 g.0)
by_one home proxy ring texts place done (Happened (ProxyTurn client)) a b (inr f) (inr g) = f.1 ∙ sym g.1
by_one home proxy ring texts place done other a b f g = f ∙ sym g

pub sent_one : (home : Homes) (proxy : ℕ) (ring : RingState) (texts : ℕ → List ℕ) (place : ℕ) (done es : Log) (a b : List Tagged)
    → AreSentBy home proxy ring texts place done es a → AreSentBy home proxy ring texts place done es b → a ≡ b
sent_one home proxy ring texts place done [] a b f g = f ∙ sym g
sent_one home proxy ring texts place done (x ∷ es) a b f g =
    f.4 ∙ ap₂ (λ (cs ds : List Tagged). cs ++ ds) (by_one home proxy ring texts place done x f.0 g.0 f.2 g.2)
    (sent_one home proxy ring texts place (done ++ x ∷ []) es f.1 g.1 f.3 g.3) ∙ sym g.4
