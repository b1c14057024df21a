-- The commands to a place and their outcomes are what look-ups by their tags find; so the pending commands of a link are awaited.
use Rattle.std.proofs.Common.{◌≡◌, ◌∙◌, ℕ, zero, suc, ◌+◌, ◌==◌, Bool, true, false, if◌then◌else◌, List, [], ◌∷◌, ◌++◌, length, map, drop, take, Option, Some, slice_get, refl, sym, ap, ap₂, subst, append_assoc, arith}
use Rattle.std.specs.Prelude.{All}
use Rattle.std.proofs.lemmas.Bool.{eqb-true}
use Rattle.std.proofs.lemmas.List.{length_push, take-append-drop}
use Rattle.std.proofs.lemmas.List.Elements.{All-drop, All-head, All-tail}
use Rattle.std.proofs.lemmas.Option.{none-some, same_Some}
use Rattle.mc_request.specs.Atoms.{head_of}
use Rattle.mc_reply.specs.declared.replies.Reply.{Reply as AReply}
use Rattle.mc_route.specs.Routes.{route_of_taken, to_place}
use Rattle.mc_route.specs.declared.outcomes.Outcome.{Outcome}
use Rattle.mc_route.specs.declared.outcomes.Outcome.TheVariants.{Awaited, Reply}
use Rattle.mc_route.specs.declared.routes.Routed.{Routed}
use Rattle.mc_link.specs.LinkState.{Waiting}
use Rattle.mc_link.specs.declared.turns.Tag.{Tag}
use Rattle.mc_proxy.specs.Emits.{is_noted}
use Rattle.mc_proxy.specs.SessionState.{link_at}
use Rattle.mc_proxy.specs.LinkTurns.{Answers}
use Rattle.mc_proxy.specs.ProxyState.{ProxyState}
use Rattle.mc_account.specs.Lanes.{Lane, as_waiting}
use Rattle.mc_account.specs.Lookups.{AreAwaited, IsAwaited, asked_at, command_at, command_in, outcome_at, outcome_in}
use Rattle.mc_account.specs.Orders.{AreInOrder, IsSized, Order, Tagged, TakenRequest, commands_from, commands_in, commands_to, entries_of, note, numbers_from, outcomes_from, outcomes_in, outcomes_to}
use Rattle.mc_account.specs.Holds.{ProxyHolds}
use Rattle.mc_account.proofs.OpenSessions.{own_number}
use Rattle.mc_account.proofs.OrderLemmas.{entries-append, entries-note, in_order-note, lengths_in, numbered_after, sized-note}
use Rattle.mc_account.proofs.TagLemmas.{tag_once}
use Rattle.mc_account.proofs.LaneLemmas.{Pending, pending_noted, pending_of}

-- a property of each command and its outcome
abbrev pub Pairs : (Tagged → Outcome → Type 0) → List Tagged → List Outcome → Type 0
Pairs P [] xs = Unit {0}
Pairs P (c ∷ cs) [] = Unit {0}
Pairs P (c ∷ cs) (x ∷ xs) = P c x × Pairs P cs xs

pairs_get : (P : Tagged → Outcome → Type 0) (cs : List Tagged) (xs : List Outcome) (k : ℕ) (c : Tagged) (x : Outcome) → Pairs P cs xs → slice_get cs k ≡ Some c → slice_get xs k ≡ Some x → P c x
pairs_get P [] xs zero c x h at is = absurd (none-some c at)
pairs_get P [] xs (suc k) c x h at is = absurd (none-some c at)
pairs_get P (d ∷ ds) [] zero c x h at is = absurd (none-some x is)
pairs_get P (d ∷ ds) [] (suc k) c x h at is = absurd (none-some x is)
pairs_get P (d ∷ ds) (y ∷ ys) zero c x h at is = subst (λ (z : Outcome). P c z) (same_Some y x is) (subst (λ (b : Tagged). P b y) (same_Some d c at) h.0)
pairs_get P (d ∷ ds) (y ∷ ys) (suc k) c x h at is = pairs_get P ds ys k c x h.1 at is

pairs_nothing : (P : Tagged → Outcome → Type 0) (cs : List Tagged) → Pairs P cs []
pairs_nothing P [] = tt
pairs_nothing P (c ∷ cs) = tt

pairs_joined : (P : Tagged → Outcome → Type 0) (cs ds : List Tagged) (xs ys : List Outcome) → length cs ≡ length xs → Pairs P cs xs → Pairs P ds ys → Pairs P (cs ++ ds) (xs ++ ys)
pairs_joined P [] ds [] ys h left right = right
pairs_joined P [] ds (x ∷ xs) ys h left right = absurd cc
pairs_joined P (c ∷ cs) ds [] ys h left right = absurd cc
pairs_joined P (c ∷ cs) ds (x ∷ xs) ys h left right = (left.0, pairs_joined P cs ds xs ys (cc) left.1 right)

pairs_after : (P : Tagged → Outcome → Type 0) (cs ds : List Tagged) (xs ys : List Outcome) → length cs ≡ length xs → Pairs P (cs ++ ds) (xs ++ ys) → Pairs P ds ys
pairs_after P [] ds [] ys h both = both
pairs_after P [] ds (x ∷ xs) ys h both = absurd cc
pairs_after P (c ∷ cs) ds [] ys h both = absurd cc
pairs_after P (c ∷ cs) ds (x ∷ xs) ys h both = pairs_after P cs ds xs ys (cc) both.1

pairs_weaker : (P Q : Tagged → Outcome → Type 0) (cs : List Tagged) (xs : List Outcome) → ((c : Tagged) (x : Outcome) → P c x → Q c x) → Pairs P cs xs → Pairs Q cs xs
pairs_weaker P Q [] xs to h = tt
pairs_weaker P Q (c ∷ cs) [] to h = tt
pairs_weaker P Q (c ∷ cs) (x ∷ xs) to h = (to c x h.0, pairs_weaker P Q cs xs to h.1)

-- an element of a list after some others
pub get_after : {X : Type 0} (front back : List X) (x : X) (k : ℕ) → k ≡ length front → slice_get (front ++ x ∷ back) k ≡ Some x
get_after [] back x zero h = refl
get_after [] back x (suc k) h = absurd (omega (arith, h))
get_after (f ∷ fs) back x zero h = absurd (omega (arith, h))
get_after (f ∷ fs) back x (suc k) h = get_after fs back x k (omega (arith, h))

-- a command of a request, at its number among all of them, with its outcome
record IsCommand (place session request : ℕ) (whole : List Routed) (outcomes : List Outcome) (c : Tagged) (x : Outcome) : Type 0 where
  pub whose : c.1.session ≡ session
  pub number : c.1.request ≡ request
  pub command : slice_get whole c.1.atom ≡ Some (to_place place c.0)
  pub outcome : slice_get outcomes c.1.atom ≡ Some x

commands_found : (place session request at : ℕ) (whole front commands : List Routed) (outcomes before xs : List Outcome) → whole ≡ front ++ commands → outcomes ≡ before ++ xs → at ≡ length front → at ≡ length before
    → Pairs (IsCommand place session request whole outcomes) (commands_from place session request at commands) (outcomes_from place commands xs)
commands_found place session request at whole front [] outcomes before xs is was size sized = tt
commands_found place session request at whole front (c ∷ cs) outcomes before [] is was size sized =
    pairs_nothing (IsCommand place session request whole outcomes) (commands_from place session request at (c ∷ cs))
commands_found place session request at whole front (c ∷ cs) outcomes before (x ∷ xs) is was size sized =
    let after : whole ≡ (front ++ c ∷ []) ++ cs = is ∙ sym (append_assoc front (c ∷ []) cs) in
    let later : outcomes ≡ (before ++ x ∷ []) ++ xs = was ∙ sym (append_assoc before (x ∷ []) xs) in
    let longer : suc at ≡ length (front ++ c ∷ []) = omega (arith, size, length_push front c) in
    let wider : suc at ≡ length (before ++ x ∷ []) = omega (arith, sized, length_push before x) in
    let again = commands_found place session request (suc at) whole (front ++ c ∷ []) cs outcomes (before ++ x ∷ []) xs after later longer wider in
    let here : slice_get whole at ≡ Some c = ap (λ (rs : List Routed). slice_get rs at) is ∙ get_after front cs c at size in
    let there : slice_get outcomes at ≡ Some x = ap (λ (os : List Outcome). slice_get os at) was ∙ get_after before xs x at sized in
    (elim (c.server == place) as (λ v. c.server == place ≡ v → Pairs (IsCommand place session request whole outcomes)
    (if v then (c.atom, record { session = session; request = request; atom = at }) ∷ commands_from place session request (suc at) cs else commands_from place session request (suc at) cs)
    (if v then x ∷ outcomes_from place cs xs else outcomes_from place cs xs)) [
      | true ↦ λ own. (
        record {
          whose = refl;
          number = refl;
          command = here ∙ ap (λ (p : ℕ). Some (to_place p c.atom)) (eqb-true c.server place own);
          outcome = there;
        },
        again,
      )
      | false ↦ λ other. again
    ]) refl

-- an entry of an order is what a look-up by its session and number finds
pub asked_here : (order front after : Order) (e : TakenRequest) → order ≡ front ++ e ∷ after → AreInOrder (entries_of e.session order) → asked_at order e.session e.request ≡ Some e
asked_here order front after e is numbered =
    let own : (e.session == e.session) ≡ true = own_number e.session in
    let mine : entries_of e.session order ≡ entries_of e.session front ++ e ∷ entries_of e.session after =
    ap (λ (es : Order). entries_of e.session es) is ∙ entries-append e.session front (e ∷ after)
    ∙ ap (λ (v : Bool). entries_of e.session front ++ (if v then e ∷ entries_of e.session after else entries_of e.session after)) own in
    let later : map (λ (x : TakenRequest). x.request) (e ∷ entries_of e.session after) ≡ numbers_from (0 + length (entries_of e.session front)) (e ∷ entries_of e.session after) =
    numbered_after 0 (entries_of e.session front) (e ∷ entries_of e.session after) (subst (λ (es : Order). AreInOrder es) mine numbered) in
    let here : e.request ≡ 0 + length (entries_of e.session front) = cc in
    ap (λ (es : Order). slice_get es e.request) mine ∙ get_after (entries_of e.session front) (entries_of e.session after) e e.request (omega (arith, here))

-- a command to a place and its outcome are what look-ups by its tag find
pub record IsFound (place : ℕ) (order : Order) (c : Tagged) (x : Outcome) : Type 0 where
  pub command : command_at order c.1 ≡ Some (to_place place c.0)
  pub outcome : outcome_at order c.1 ≡ Some x

found_in : (place : ℕ) (order front after : Order) (e : TakenRequest) → order ≡ front ++ e ∷ after → AreInOrder (entries_of e.session order)
    → Pairs (IsFound place order) (commands_in place e) (outcomes_in place e)
found_in place order front after e is numbered =
    let asked = asked_here order front after e is numbered in
    pairs_weaker (IsCommand place e.session e.request (route_of_taken e.ring e.what) e.outcomes) (IsFound place order) (commands_in place e) (outcomes_in place e)
    (λ c x h. record {
      command =
          ap₂ (λ (s r : ℕ). command_in (asked_at order s r) c.1.atom) h.whose h.number
          ∙ ap (λ (o : Option TakenRequest). command_in o c.1.atom) asked ∙ h.command;
      outcome =
          ap₂ (λ (s r : ℕ). outcome_in (asked_at order s r) c.1.atom) h.whose h.number
          ∙ ap (λ (o : Option TakenRequest). outcome_in o c.1.atom) asked ∙ h.outcome;
    })
    (commands_found place e.session e.request 0 (route_of_taken e.ring e.what) [] (route_of_taken e.ring e.what) e.outcomes [] e.outcomes refl refl refl refl)

-- for what was taken after some of an order
pub found_since : (place : ℕ) (order front es : Order) → order ≡ front ++ es → ((number : ℕ) → AreInOrder (entries_of number order)) → All IsSized es
    → Pairs (IsFound place order) (commands_to place es) (outcomes_to place es)
found_since place order front [] is numbered sized = tt
found_since place order front (e ∷ es) is numbered sized =
    let later : order ≡ (front ++ e ∷ []) ++ es = is ∙ sym (append_assoc front (e ∷ []) es) in
    pairs_joined (IsFound place order) (commands_in place e) (commands_to place es) (outcomes_in place e) (outcomes_to place es)
    (lengths_in place e (All-head IsSized e es sized))
    (found_in place order front es e is (numbered e.session))
    (found_since place order (front ++ e ∷ []) es later numbered (All-tail IsSized e es sized))

-- each command to a place, by its number among them
pub command_found : (place : ℕ) (order : Order) → ((number : ℕ) → AreInOrder (entries_of number order)) → All IsSized order → (k : ℕ) (c : Tagged) (x : Outcome)
    → slice_get (commands_to place order) k ≡ Some c → slice_get (outcomes_to place order) k ≡ Some x → IsFound place order c x
command_found place order numbered sized k c x at is =
    pairs_get (IsFound place order) (commands_to place order) (outcomes_to place order) k c x (found_since place order [] order refl numbered sized) at is

-- commands that wait, each of whose replies is pending
waits_at : (place : ℕ) (order : Order) (rest : List Tagged) → Pairs (IsFound place order) rest (map (λ (_ : Waiting). Awaited) (as_waiting rest)) → (k : ℕ) (w : Waiting)
    → slice_get (as_waiting rest) k ≡ Some w → IsAwaited place order w
waits_at place order [] h zero w at = absurd (none-some w at)
waits_at place order [] h (suc k) w at = absurd (none-some w at)
waits_at place order (c ∷ cs) h zero w at =
    subst (λ (v : Waiting). IsAwaited place order v) (same_Some (head_of c.0, c.1) w at) (record { atom = c.0; head = refl; command = h.0.command; outcome = h.0.outcome })
waits_at place order (c ∷ cs) h (suc k) w at = waits_at place order cs h.1 k w at

-- the pending commands, as look-ups find them
pub pending_found : (place since : ℕ) (order : Order) (known : List Outcome) (waiting : List Waiting) → ((number : ℕ) → AreInOrder (entries_of number order)) → All IsSized order
    → (h : Pending place since order known waiting) → Pairs (IsFound place order) h.rest (map (λ (_ : Waiting). Awaited) (as_waiting h.rest))
pending_found place since order known waiting numbered sized h =
    let found = found_since place order (take since order) (drop since order) (sym (take-append-drop since order)) numbered (All-drop IsSized since order sized) in
    let commands : Pairs (IsFound place order) (h.front ++ h.rest) (outcomes_to place (drop since order)) =
    subst (λ (cs : List Tagged). Pairs (IsFound place order) cs (outcomes_to place (drop since order))) h.commands found in
    let outcomes : Pairs (IsFound place order) (h.front ++ h.rest) (known ++ map (λ (_ : Waiting). Awaited) waiting) =
    subst (λ (xs : List Outcome). Pairs (IsFound place order) (h.front ++ h.rest) xs) h.outcomes commands in
    subst (λ (ws : List Waiting). Pairs (IsFound place order) h.rest (map (λ (_ : Waiting). Awaited) ws)) h.waits
    (pairs_after (IsFound place order) h.front h.rest known (map (λ (_ : Waiting). Awaited) waiting) h.size outcomes)

pending_waits : (place since : ℕ) (order : Order) (known : List Outcome) (waiting : List Waiting) → ((number : ℕ) → AreInOrder (entries_of number order)) → All IsSized order
    → Pending place since order known waiting → (k : ℕ) (w : Waiting) → slice_get waiting k ≡ Some w → IsAwaited place order w
pending_waits place since order known waiting numbered sized h k w at =
    waits_at place order h.rest (pending_found place since order known waiting numbered sized h) k w (ap (λ (ws : List Waiting). slice_get ws k) (sym h.waits) ∙ at)

-- requests stay numbered after an outcome is noted
pub numbered-note : (tag : Tag) (outcome : Outcome) (order : Order) → ((number : ℕ) → AreInOrder (entries_of number order)) → (number : ℕ) → AreInOrder (entries_of number (note tag outcome order))
numbered-note tag outcome order numbered number =
    subst (λ (es : Order). AreInOrder es) (sym (entries-note number tag outcome order)) (in_order-note tag outcome (entries_of number order) (numbered number))

pending_awaited : (place since : ℕ) (known : List Outcome) (waiting : List Waiting) (outcome : Outcome) (order : Order) → is_noted outcome ≡ true
    → ((number : ℕ) → AreInOrder (entries_of number order)) → All IsSized order → Pending place since order known waiting
    → AreAwaited (map (λ (w : Waiting). w.1) waiting) outcome order
pending_awaited place since known [] outcome order told numbered sized h = tt
pending_awaited place since known (w ∷ ws) outcome order told numbered sized h =
    let here = pending_waits place since order known (w ∷ ws) numbered sized h 0 w refl in
    let once = tag_once w.1 order (numbered w.1.session) in (
      here.outcome,
      pending_awaited place since (known ++ outcome ∷ []) ws outcome (note w.1 outcome order) told (numbered-note w.1 outcome order numbered) (sized-note w.1 outcome order sized)
          (pending_noted place since order known w ws outcome sized once told h),
    )

-- each pending command of a link that is up is awaited
pub waiting_is_awaited : (texts sent : ℕ → List ℕ) (order : Order) (lanes : ℕ → Lane) (now : ProxyState) → ProxyHolds texts sent order lanes now
    → (place : ℕ) → (link_at now.links place).up ≡ true → (k : ℕ) (w : Waiting) → slice_get (link_at now.links place).waiting k ≡ Some w → IsAwaited place order w
waiting_is_awaited texts sent order lanes now h place up k w at =
    pending_waits place (lanes place).since order (map (λ (reply : AReply (List ℕ)). Reply reply) (lanes place).replies) (link_at now.links place).waiting h.numbered h.sized
    (pending_of place order (lanes place) (link_at now.links place) ((h.links place).0 up)) k w at

-- they are awaited too if the same outcome is noted of all of them, in sequence
pub all_waiting_are_awaited : (texts sent : ℕ → List ℕ) (order : Order) (lanes : ℕ → Lane) (now : ProxyState) → ProxyHolds texts sent order lanes now
    → (place : ℕ) → (link_at now.links place).up ≡ true → (outcome : Outcome) → is_noted outcome ≡ true
    → AreAwaited (map (λ (w : Waiting). w.1) (link_at now.links place).waiting) outcome order
all_waiting_are_awaited texts sent order lanes now h place up outcome told =
    pending_awaited place (lanes place).since (map (λ (reply : AReply (List ℕ)). Reply reply) (lanes place).replies) (link_at now.links place).waiting outcome order told h.numbered h.sized
    (pending_of place order (lanes place) (link_at now.links place) ((h.links place).0 up))

-- the command that gets its reply was awaited too
pub answered_was_awaited : (texts sent : ℕ → List ℕ) (order : Order) (lanes : ℕ → Lane) (place : ℕ) (old new : ProxyState) → ProxyHolds texts sent order lanes old
    → (link_at old.links place).up ≡ true → (answers : Answers place old new) → outcome_at order answers.tag ≡ Some Awaited
answered_was_awaited texts sent order lanes place old new h up answers =
    let first : slice_get (link_at old.links place).waiting 0 ≡ Some (answers.takes.head, answers.tag) = ap (λ (ws : List Waiting). slice_get ws 0) answers.takes.oldest in
    (waiting_is_awaited texts sent order lanes old h place up 0 (answers.takes.head, answers.tag) first).outcome
