-- For one session the commands to a place rise; a link's pending commands come after all with known outcomes.
use Rattle.std.proofs.Common.{◌≡◌, ◌∙◌, ◌⊎◌, inl, inr, ℕ, zero, suc, ◌+◌, ◌<◌, ◌≤◌, ◌==◌, Bool, true, false, if◌then◌else◌, List, [], ◌∷◌, ◌++◌, length, map, drop, take, Some, slice_get, refl, sym, ap, subst, append_assoc, arith}
use Rattle.std.proofs.lemmas.List.{take-append-drop}
use Rattle.std.proofs.lemmas.Option.{none-some, same_Some}
use Rattle.mc_request.specs.Atoms.{head_of}
use Rattle.mc_reply.specs.declared.replies.Reply.{Reply as AReply}
use Rattle.mc_route.specs.Routes.{route_of_taken}
use Rattle.mc_route.specs.declared.outcomes.Outcome.{Outcome}
use Rattle.mc_route.specs.declared.outcomes.Outcome.TheVariants.{Awaited, Reply}
use Rattle.mc_route.specs.declared.routes.Routed.{Routed}
use Rattle.mc_link.specs.LinkState.{Waiting}
use Rattle.mc_link.specs.declared.turns.Tag.{Tag}
use Rattle.mc_proxy.specs.Emits.{is_noted}
use Rattle.mc_proxy.specs.Sending.{tag_of}
use Rattle.mc_proxy.specs.SessionState.{link_at}
use Rattle.mc_proxy.specs.ProxyState.{ProxyState}
use Rattle.mc_account.specs.Lanes.{Lane, as_waiting}
use Rattle.mc_account.specs.Lookups.{IsBefore, outcome_at}
use Rattle.mc_account.specs.Orders.{AreInOrder, Order, Tagged, TakenRequest, commands_from, commands_in, commands_to, entries_of, numbers_from}
use Rattle.mc_account.specs.Holds.{ProxyHolds}
use Rattle.mc_account.proofs.OpenSessions.{own_number}
use Rattle.mc_account.proofs.OrderLemmas.{commands-append}
use Rattle.mc_account.proofs.LaneLemmas.{pending_of}
use Rattle.mc_account.proofs.LookupLemmas.{IsFound, Pairs, pending_found}

-- a property of each of a list
abbrev Each : {X : Type 0} → (X → Type 0) → List X → Type 0
Each P [] = Unit {0}
Each P (x ∷ xs) = P x × Each P xs

each_weaker : {X : Type 0} (P Q : X → Type 0) (xs : List X) → ((x : X) → P x → Q x) → Each P xs → Each Q xs
each_weaker P Q [] to h = tt
each_weaker P Q (x ∷ xs) to h = (to x h.0, each_weaker P Q xs to h.1)

each_joined : {X : Type 0} (P : X → Type 0) (xs ys : List X) → Each P xs → Each P ys → Each P (xs ++ ys)
each_joined P [] ys left right = right
each_joined P (x ∷ xs) ys left right = (left.0, each_joined P xs ys left.1 right)

each_at : {X : Type 0} (P : X → Type 0) (xs : List X) (k : ℕ) (x : X) → Each P xs → slice_get xs k ≡ Some x → P x
each_at P [] zero x h at = absurd (none-some x at)
each_at P [] (suc k) x h at = absurd (none-some x at)
each_at P (y ∷ ys) zero x h at = subst P (same_Some y x at) h.0
each_at P (y ∷ ys) (suc k) x h at = each_at P ys k x h.1 at

-- two commands of one session, the first asked before the second
abbrev Precedes : Tagged → Tagged → Type 0
Precedes c d = c.1.session ≡ d.1.session → IsBefore c.1 d.1

-- each precedes all that follow it
abbrev Rises : List Tagged → Type 0
Rises [] = Unit {0}
Rises (c ∷ cs) = Each (Precedes c) cs × Rises cs

rises_joined : (cs ds : List Tagged) → Rises cs → Rises ds → Each (λ (c : Tagged). Each (Precedes c) ds) cs → Rises (cs ++ ds)
rises_joined [] ds left right across = right
rises_joined (c ∷ cs) ds left right across = (each_joined (Precedes c) cs ds left.0 across.0, rises_joined cs ds left.1 right across.1)

rises_at : (cs : List Tagged) (i j : ℕ) (c d : Tagged) → Rises cs → slice_get cs i ≡ Some c → slice_get cs j ≡ Some d → i < j → Precedes c d
rises_at [] zero j c d h first second lt = absurd (none-some c first)
rises_at [] (suc i) j c d h first second lt = absurd (none-some c first)
rises_at (x ∷ xs) i zero c d h first second lt = absurd (omega (arith, lt))
rises_at (x ∷ xs) zero (suc j) c d h first second lt = subst (λ (b : Tagged). Precedes b d) (same_Some x c first) (each_at (Precedes x) xs j d h.0 second)
rises_at (x ∷ xs) (suc i) (suc j) c d h first second lt = rises_at xs i j c d h.1 first second (omega (arith, lt))

-- the tags of the commands of a request, from one number on
record IsFrom (session request at : ℕ) (c : Tagged) : Type 0 where
  pub whose : c.1.session ≡ session
  pub number : c.1.request ≡ request
  pub place : at ≤ c.1.atom

from_each : (place session request at : ℕ) (commands : List Routed) → Each (IsFrom session request at) (commands_from place session request at commands)
from_each place session request at [] = tt
from_each place session request at (c ∷ cs) =
    let later = each_weaker (IsFrom session request (suc at)) (IsFrom session request at) (commands_from place session request (suc at) cs)
    (λ d h. record { whose = h.whose; number = h.number; place = omega (arith, h.place) }) (from_each place session request (suc at) cs) in
    (elim (c.server == place) as (λ v. Each (IsFrom session request at)
    (if v then (c.atom, record { session = session; request = request; atom = at }) ∷ commands_from place session request (suc at) cs else commands_from place session request (suc at) cs)) [
      | true ↦ (record { whose = refl; number = refl; place = omega arith }, later)
      | false ↦ later
    ])

-- these commands rise
rises_from : (place session request at : ℕ) (commands : List Routed) → Rises (commands_from place session request at commands)
rises_from place session request at [] = tt
rises_from place session request at (c ∷ cs) =
    let again = rises_from place session request (suc at) cs in
    let first : Each (Precedes (c.atom, tag_of session request at)) (commands_from place session request (suc at) cs) =
    each_weaker (IsFrom session request (suc at)) (Precedes (c.atom, tag_of session request at)) (commands_from place session request (suc at) cs)
    (λ d h _. let later : at < d.1.atom = omega (arith, h.place) in inr (sym h.number, later))
    (from_each place session request (suc at) cs) in
    (elim (c.server == place) as (λ v. Rises
    (if v then (c.atom, record { session = session; request = request; atom = at }) ∷ commands_from place session request (suc at) cs else commands_from place session request (suc at) cs)) [
      | true ↦ (first, again)
      | false ↦ again
    ])

-- the requests of a session that follow one of a number have later numbers
later_to : (place session at : ℕ) (es : Order) → map (λ (e : TakenRequest). e.request) (entries_of session es) ≡ numbers_from at (entries_of session es)
    → Each (λ (d : Tagged). session ≡ d.1.session → at ≤ d.1.request) (commands_to place es)
later_to place session at [] numbered = tt
later_to place session at (e ∷ es) numbered =
    (elim (e.session == session) as (λ v. e.session == session ≡ v
    → map (λ (x : TakenRequest). x.request) (if v then e ∷ entries_of session es else entries_of session es) ≡ numbers_from at (if v then e ∷ entries_of session es else entries_of session es)
    → Each (λ (d : Tagged). session ≡ d.1.session → at ≤ d.1.request) (commands_in place e ++ commands_to place es)) [
      | true ↦ λ own mine.
          let here : e.request ≡ at = cc in
          let after : map (λ (x : TakenRequest). x.request) (entries_of session es) ≡ numbers_from (suc at) (entries_of session es) = cc in
          each_joined (λ (d : Tagged). session ≡ d.1.session → at ≤ d.1.request) (commands_in place e) (commands_to place es)
          (each_weaker (IsFrom e.session e.request 0) (λ (d : Tagged). session ≡ d.1.session → at ≤ d.1.request) (commands_in place e)
          (λ d h _. omega (arith, h.number, here)) (from_each place e.session e.request 0 (route_of_taken e.ring e.what)))
          (each_weaker (λ (d : Tagged). session ≡ d.1.session → suc at ≤ d.1.request) (λ (d : Tagged). session ≡ d.1.session → at ≤ d.1.request) (commands_to place es)
          (λ d h same. let later : suc at ≤ d.1.request = h same in omega (arith, later)) (later_to place session (suc at) es after))
      | false ↦ λ other mine.
          each_joined (λ (d : Tagged). session ≡ d.1.session → at ≤ d.1.request) (commands_in place e) (commands_to place es)
          (each_weaker (IsFrom e.session e.request 0) (λ (d : Tagged). session ≡ d.1.session → at ≤ d.1.request) (commands_in place e)
          (λ d h same.
          let is : e.session ≡ session = sym h.whose ∙ sym same in
          let clash : true ≡ false = sym (own_number session) ∙ ap (λ (n : ℕ). n == session) (sym is) ∙ other in absurd cc)
          (from_each place e.session e.request 0 (route_of_taken e.ring e.what)))
          (later_to place session at es mine)
    ]) refl numbered

-- the requests of each session are numbered, from some number on
abbrev AreNumbered : Order → Type 0
AreNumbered es = (session : ℕ) → (at : ℕ) × (map (λ (e : TakenRequest). e.request) (entries_of session es) ≡ numbers_from at (entries_of session es))

numbered_tail : (e : TakenRequest) (es : Order) → AreNumbered (e ∷ es) → AreNumbered es
numbered_tail e es h session =
    let whole = h session in
    (elim (e.session == session) as (λ v.
    map (λ (x : TakenRequest). x.request) (if v then e ∷ entries_of session es else entries_of session es) ≡ numbers_from whole.0 (if v then e ∷ entries_of session es else entries_of session es)
    → (at : ℕ) × (map (λ (x : TakenRequest). x.request) (entries_of session es) ≡ numbers_from at (entries_of session es))) [
      | true ↦ λ mine. (let after : map (λ (x : TakenRequest). x.request) (entries_of session es) ≡ numbers_from (suc whole.0) (entries_of session es) = cc in (suc whole.0, after))
      | false ↦ λ mine. (whole.0, mine)
    ]) whole.1

numbered_next : (e : TakenRequest) (es : Order) → AreNumbered (e ∷ es)
    → map (λ (x : TakenRequest). x.request) (entries_of e.session es) ≡ numbers_from (suc e.request) (entries_of e.session es)
numbered_next e es h =
    let whole = h e.session in
    let mine : map (λ (x : TakenRequest). x.request) (e ∷ entries_of e.session es) ≡ numbers_from whole.0 (e ∷ entries_of e.session es) =
    subst (λ (v : Bool). map (λ (x : TakenRequest). x.request) (if v then e ∷ entries_of e.session es else entries_of e.session es)
    ≡ numbers_from whole.0 (if v then e ∷ entries_of e.session es else entries_of e.session es)) (own_number e.session) whole.1 in
    let here : e.request ≡ whole.0 = cc in
    let after : map (λ (x : TakenRequest). x.request) (entries_of e.session es) ≡ numbers_from (suc whole.0) (entries_of e.session es) = cc in
    after ∙ ap (λ (n : ℕ). numbers_from (suc n) (entries_of e.session es)) (sym here)

-- the commands to a place rise
rises_to : (place : ℕ) (es : Order) → AreNumbered es → Rises (commands_to place es)
rises_to place [] numbered = tt
rises_to place (e ∷ es) numbered =
    let later = later_to place e.session (suc e.request) es (numbered_next e es numbered) in
    rises_joined (commands_in place e) (commands_to place es) (rises_from place e.session e.request 0 (route_of_taken e.ring e.what)) (rises_to place es (numbered_tail e es numbered))
    (each_weaker (IsFrom e.session e.request 0) (λ (c : Tagged). Each (Precedes c) (commands_to place es)) (commands_in place e)
    (λ c h. each_weaker (λ (d : Tagged). e.session ≡ d.1.session → suc e.request ≤ d.1.request) (Precedes c) (commands_to place es)
    (λ d after same.
    let below : suc e.request ≤ d.1.request = after (sym h.whose ∙ same) in
    let lower : c.1.request < d.1.request = omega (arith, below, h.number) in inl lower) later)
    (from_each place e.session e.request 0 (route_of_taken e.ring e.what)))

pub commands_rise : (place : ℕ) (order : Order) → ((number : ℕ) → AreInOrder (entries_of number order)) → (i j : ℕ) (c d : Tagged)
    → slice_get (commands_to place order) i ≡ Some c → slice_get (commands_to place order) j ≡ Some d → i < j → c.1.session ≡ d.1.session → IsBefore c.1 d.1
commands_rise place order numbered i j c d first second lt same =
    rises_at (commands_to place order) i j c d (rises_to place order (λ session. (0, numbered session))) first second lt same

-- an element of two joined lists is in the first or the second
part_of : {X : Type 0} (xs ys : List X) (i : ℕ) (x : X) → slice_get (xs ++ ys) i ≡ Some x → (i < length xs) ⊎ ((k : ℕ) × (slice_get ys k ≡ Some x))
part_of [] ys i x at = inr (i, at)
part_of (y ∷ xs) ys zero x at = inl (omega arith)
part_of (y ∷ xs) ys (suc i) x at = elim (part_of xs ys i x at) [
  | inl h ↦ inl (omega (arith, h))
  | inr h ↦ inr h
]

pub past_front : {X : Type 0} (xs ys : List X) (k i : ℕ) → i ≡ length xs + k → slice_get (xs ++ ys) i ≡ slice_get ys k
past_front [] ys k i is = let same : i ≡ k = omega (arith, is) in ap (λ (n : ℕ). slice_get ys n) same
past_front (x ∷ xs) ys k zero is = absurd (omega (arith, is))
past_front (x ∷ xs) ys k (suc i) is = past_front xs ys k i (omega (arith, is))

-- the commands to the place of a link that is up: the pending ones come after all others, and each of them is awaited
record WaitsLast (place : ℕ) (order : Order) (waiting : List Waiting) : Type 0 where
  pub front : List Tagged
  pub rest : List Tagged
  pub commands : commands_to place order ≡ front ++ rest
  pub waits : waiting ≡ as_waiting rest
  pub awaited : Each (λ (c : Tagged). outcome_at order c.1 ≡ Some Awaited) rest

awaited_each : (place : ℕ) (order : Order) (rest : List Tagged) → Pairs (IsFound place order) rest (map (λ (_ : Waiting). Awaited) (as_waiting rest))
    → Each (λ (c : Tagged). outcome_at order c.1 ≡ Some Awaited) rest
awaited_each place order [] h = tt
awaited_each place order (c ∷ cs) h = (h.0.outcome, awaited_each place order cs h.1)

waits_of : (texts sent : ℕ → List ℕ) (order : Order) (lanes : ℕ → Lane) (now : ProxyState) → ProxyHolds texts sent order lanes now
    → (place : ℕ) → (link_at now.links place).up ≡ true → WaitsLast place order (link_at now.links place).waiting
waits_of texts sent order lanes now h place up =
    let pending = pending_of place order (lanes place) (link_at now.links place) ((h.links place).0 up) in
    let found = pending_found place (lanes place).since order (map (λ (reply : AReply (List ℕ)). Reply reply) (lanes place).replies) (link_at now.links place).waiting h.numbered h.sized pending in
    record {
      front = commands_to place (take (lanes place).since order) ++ pending.front;
      rest = pending.rest;
      commands =
          ap (λ (es : Order). commands_to place es) (sym (take-append-drop (lanes place).since order))
          ∙ commands-append place (take (lanes place).since order) (drop (lanes place).since order)
          ∙ ap (λ (cs : List Tagged). commands_to place (take (lanes place).since order) ++ cs) pending.commands
          ∙ sym (append_assoc (commands_to place (take (lanes place).since order)) pending.front pending.rest);
      waits = pending.waits;
      awaited = awaited_each place order pending.rest found;
    }

-- the command that is pending
waiting_command : (rest : List Tagged) (k : ℕ) (w : Waiting) → slice_get (as_waiting rest) k ≡ Some w → (c : Tagged) × (slice_get rest k ≡ Some c) × (c.1 ≡ w.1)
waiting_command [] zero w at = absurd (none-some w at)
waiting_command [] (suc k) w at = absurd (none-some w at)
waiting_command (c ∷ cs) zero w at = (c, refl, ap (λ (v : Waiting). v.1) (same_Some (head_of c.0, c.1) w at))
waiting_command (c ∷ cs) (suc k) w at = waiting_command cs k w at

-- its place among all commands to the place
record IsAmong (place : ℕ) (order : Order) (w : Waiting) (i : ℕ) : Type 0 where
  pub command : Tagged
  pub at : slice_get (commands_to place order) i ≡ Some command
  pub tag : command.1 ≡ w.1

waiting_place : (place : ℕ) (order : Order) (waiting : List Waiting) (h : WaitsLast place order waiting) (k : ℕ) (w : Waiting) (i : ℕ) → i ≡ length h.front + k → slice_get waiting k ≡ Some w
    → IsAmong place order w i
waiting_place place order waiting h k w i is at =
    let c = waiting_command h.rest k w (ap (λ (ws : List Waiting). slice_get ws k) (sym h.waits) ∙ at) in
    record {
      command = c.0;
      at = ap (λ (cs : List Tagged). slice_get cs i) h.commands ∙ past_front h.front h.rest k i is ∙ c.1;
      tag = c.2;
    }

-- for one session a command with a known outcome was asked before all pending ones
pub told_before_waiting : (texts sent : ℕ → List ℕ) (order : Order) (lanes : ℕ → Lane) (now : ProxyState) → ProxyHolds texts sent order lanes now
    → (place : ℕ) → (link_at now.links place).up ≡ true
    → (i : ℕ) (c : Tagged) (x : Outcome) → slice_get (commands_to place order) i ≡ Some c → outcome_at order c.1 ≡ Some x → is_noted x ≡ true
    → (k : ℕ) (w : Waiting) → slice_get (link_at now.links place).waiting k ≡ Some w → c.1.session ≡ w.1.session → IsBefore c.1 w.1
told_before_waiting texts sent order lanes now h place up i c x at known told k w waits same =
    let all = waits_of texts sent order lanes now h place up in
    let later = waiting_place place order (link_at now.links place).waiting all k w (length all.front + k) refl waits in
    elim (part_of all.front all.rest i c (ap (λ (cs : List Tagged). slice_get cs i) (sym all.commands) ∙ at)) [
      | inl below ↦ subst (λ (t : Tag). IsBefore c.1 t) later.tag
          (commands_rise place order h.numbered i (length all.front + k) c later.command at later.at (omega (arith, below)) (same ∙ ap (λ (t : Tag). t.session) (sym later.tag)))
      | inr after ↦
          let awaited = each_at (λ (d : Tagged). outcome_at order d.1 ≡ Some Awaited) all.rest after.0 c all.awaited after.1 in
          let is : Awaited ≡ x = same_Some Awaited x (sym awaited ∙ known) in
          let clash : false ≡ true = ap is_noted is ∙ told in absurd cc
    ]

-- of two pending commands of a session the older one was asked before
pub waiting_in_order : (texts sent : ℕ → List ℕ) (order : Order) (lanes : ℕ → Lane) (now : ProxyState) → ProxyHolds texts sent order lanes now
    → (place : ℕ) → (link_at now.links place).up ≡ true
    → (k l : ℕ) (v w : Waiting) → slice_get (link_at now.links place).waiting k ≡ Some v → slice_get (link_at now.links place).waiting l ≡ Some w → k < l
    → v.1.session ≡ w.1.session → IsBefore v.1 w.1
waiting_in_order texts sent order lanes now h place up k l v w first second lt same =
    let all = waits_of texts sent order lanes now h place up in
    let one = waiting_place place order (link_at now.links place).waiting all k v (length all.front + k) refl first in
    let two = waiting_place place order (link_at now.links place).waiting all l w (length all.front + l) refl second in
    subst (λ (t : Tag). IsBefore t w.1) one.tag (subst (λ (t : Tag). IsBefore one.command.1 t) two.tag
    (commands_rise place order h.numbered (length all.front + k) (length all.front + l) one.command two.command one.at two.at (omega (arith, lt))
    (ap (λ (t : Tag). t.session) one.tag ∙ same ∙ ap (λ (t : Tag). t.session) (sym two.tag))))
