-- Commands of a request, sent to links.
use Rattle.std.proofs.Common.{◌≡◌, ◌≢◌, ◌∙◌, ⊎_elim, ℕ, suc, ◌==◌, Bool, true, false, if◌then◌else◌, List, [], ◌∷◌, ◌++◌, length, map, drop, take, refl, sym, ap, ap₂, subst, append_assoc, append-nil, arith}
use Rattle.std.specs.List.{list_all}
use Rattle.std.proofs.lemmas.Bool.{cases_Bool, cases_lt, eqb-true}
use Rattle.std.proofs.lemmas.List.{drop-append-le, get_or_past, length-append, map-append, set_past, take-append-le}
use Rattle.mc_request.specs.Atoms.{head_of}
use Rattle.mc_request.specs.declared.parts.Atom.{Atom}
use Rattle.mc_route.specs.Routes.{route_of_taken}
use Rattle.mc_route.specs.declared.outcomes.Outcome.{Outcome}
use Rattle.mc_route.specs.declared.outcomes.Outcome.TheVariants.{Awaited, Lost, Reply}
use Rattle.mc_route.specs.declared.routes.Routed.{Routed}
use Rattle.mc_reply.specs.declared.replies.Reply.{Reply as AReply}
use Rattle.mc_codec.specs.Spellings.{spelling_of_atom}
use Rattle.mc_link.specs.LinkState.{LinkState, Waiting, down_link, sent}
use Rattle.mc_link.specs.declared.turns.Tag.{Tag}
use Rattle.mc_proxy.specs.Emits.{is_noted}
use Rattle.mc_proxy.specs.Sending.{at_once, handed, handed_to, tag_of}
use Rattle.mc_proxy.specs.SessionState.{link_at, with_link}
use Rattle.mc_account.specs.Orders.{Order, Tagged, TakenRequest, commands_from, commands_in, commands_to, outcomes_from, outcomes_in, outcomes_to}
use Rattle.mc_account.specs.Lanes.{CanHave, Lane, LaneHolds, LinkHolds, as_waiting, replies_text, spelled}
use Rattle.mc_account.proofs.OpenSessions.{own_number}
use Rattle.mc_account.proofs.OrderLemmas.{commands-push, outcomes-push, passes_joined}
use Rattle.mc_account.proofs.LaneLemmas.{can-append, can_length, link_own, link_other, spelled-append, replies_text-append}

-- a link to which commands were sent in order
abbrev pub received : List Tagged → LinkState → LinkState
received [] link = link
received (c ∷ cs) link = received cs (handed_to c.1 c.0 link)

-- the link of the place to which a command goes
handed_own : (place : ℕ) (tag : Tag) (atom : Atom (List ℕ)) (links : List LinkState)
    → link_at (with_link place (handed_to tag atom (link_at links place)) links) place ≡ handed_to tag atom (link_at links place)
handed_own place tag atom links =
    ⊎_elim
    (λ inside. link_own place (handed_to tag atom (link_at links place)) links inside)
    (λ past. let none : link_at links place ≡ down_link 0 = get_or_past links place (down_link 0) past in
    let still : handed_to tag atom (link_at links place) ≡ down_link 0 = ap (λ (link : LinkState). handed_to tag atom link) none in
    ap (λ (ls : List LinkState). link_at ls place) (set_past links place (handed_to tag atom (link_at links place)) past) ∙ none ∙ sym still)
    (cases_lt place (length links))

-- each link has the commands to its place
pub handed_at : (place session request at : ℕ) (commands : List Routed) (links : List LinkState)
    → link_at (handed session request at commands links) place ≡ received (commands_from place session request at commands) (link_at links place)
handed_at place session request at [] links = refl
handed_at place session request at (command ∷ commands) links =
    let again = handed_at place session request (suc at) commands (with_link command.server (handed_to (tag_of session request at) command.atom (link_at links command.server)) links) in
    again ∙ (elim (command.server == place) as (λ v. command.server == place ≡ v
    → received (commands_from place session request (suc at) commands) (link_at (with_link command.server (handed_to (tag_of session request at) command.atom (link_at links command.server)) links) place)
    ≡ received (if v then (command.atom, tag_of session request at) ∷ commands_from place session request (suc at) commands else commands_from place session request (suc at) commands) (link_at links place)) [
      | true ↦ λ is.
          let same : command.server ≡ place = eqb-true command.server place is in
          ap (λ (link : LinkState). received (commands_from place session request (suc at) commands) link)
          (subst (λ (p : ℕ). link_at (with_link command.server (handed_to (tag_of session request at) command.atom (link_at links command.server)) links) p
          ≡ handed_to (tag_of session request at) command.atom (link_at links p)) same (handed_own command.server (tag_of session request at) command.atom links))
      | false ↦ λ is.
          let differ : command.server ≢ place = λ same. let yes : (command.server == place) ≡ true = rw same (own_number place) in
          let clash : true ≡ false = sym yes ∙ is in absurd cc in
          ap (λ (link : LinkState). received (commands_from place session request (suc at) commands) link)
          (link_other command.server place (handed_to (tag_of session request at) command.atom (link_at links command.server)) links differ)
    ]) refl

-- a link that is up sends their spellings, and their replies are pending
pub received_up : (cs : List Tagged) (link : LinkState) → link.up ≡ true
    → received cs link ≡ record link { output = link.output ++ spelled cs; waiting = link.waiting ++ as_waiting cs }
received_up [] link up =
    ap₂ (λ (bytes : List ℕ) (ws : List Waiting). record link { output = bytes; waiting = ws }) (sym (append-nil link.output)) (sym (append-nil link.waiting))
received_up (c ∷ cs) link up =
    let first : handed_to c.1 c.0 link ≡ sent c.0 c.1 link = ap (λ (v : Bool). if v then sent c.0 c.1 link else link) up in
    ap (λ (l : LinkState). received cs l) first
    ∙ received_up cs (sent c.0 c.1 link) up
    ∙ ap₂ (λ (bytes : List ℕ) (ws : List Waiting). record link { output = bytes; waiting = ws })
    (append_assoc link.output (spelling_of_atom c.0) (spelled cs)) (append_assoc link.waiting ((head_of c.0, c.1) ∷ []) (as_waiting cs))

-- a link that is down sends nothing
pub received_down : (cs : List Tagged) (link : LinkState) → link.up ≡ false → received cs link ≡ link
received_down [] link down = refl
received_down (c ∷ cs) link down =
    let first : handed_to c.1 c.0 link ≡ link = ap (λ (v : Bool). if v then sent c.0 c.1 link else link) down in
    ap (λ (l : LinkState). received cs l) first ∙ received_down cs link down

-- the immediate outcomes of the commands to a place
at_once_up : (place session request at : ℕ) (commands : List Routed) (links : List LinkState) → (link_at links place).up ≡ true
    → outcomes_from place commands (map (at_once links) commands) ≡ map (λ (_ : Waiting). Awaited) (as_waiting (commands_from place session request at commands))
at_once_up place session request at [] links up = refl
at_once_up place session request at (command ∷ commands) links up =
    let again = at_once_up place session request (suc at) commands links up in
    (elim (command.server == place) as (λ v. command.server == place ≡ v
    → (if v then at_once links command ∷ outcomes_from place commands (map (at_once links) commands) else outcomes_from place commands (map (at_once links) commands))
    ≡ map (λ (_ : Waiting). Awaited) (as_waiting (if v then (command.atom, tag_of session request at) ∷ commands_from place session request (suc at) commands else commands_from place session request (suc at) commands))) [
      | true ↦ λ is.
          let same : command.server ≡ place = eqb-true command.server place is in
          let goes : (link_at links command.server).up ≡ true = rw same up in
          ap₂ (λ (v : Bool) (xs : List Outcome). (if v then Awaited else Lost) ∷ xs) goes again
      | false ↦ λ is. again
    ]) refl

at_once_down : (place : ℕ) (commands : List Routed) (links : List LinkState) → (link_at links place).up ≡ false
    → list_all is_noted (outcomes_from place commands (map (at_once links) commands)) ≡ true
at_once_down place [] links down = refl
at_once_down place (command ∷ commands) links down =
    let again = at_once_down place commands links down in
    (elim (command.server == place) as (λ v. command.server == place ≡ v
    → list_all is_noted (if v then at_once links command ∷ outcomes_from place commands (map (at_once links) commands) else outcomes_from place commands (map (at_once links) commands)) ≡ true) [
      | true ↦ λ is.
          let same : command.server ≡ place = eqb-true command.server place is in
          let lost : (link_at links command.server).up ≡ false = rw same down in
          ap (λ (v : Bool). list_all is_noted ((if v then Awaited else Lost) ∷ outcomes_from place commands (map (at_once links) commands))) lost ∙ again
      | false ↦ λ is. again
    ]) refl

-- a lane after a request is taken
lane_taken : (place : ℕ) (order : Order) (e : TakenRequest) (lane : Lane) (link : LinkState)
    → outcomes_in place e ≡ map (λ (_ : Waiting). Awaited) (as_waiting (commands_in place e)) → LaneHolds place order lane link
    → LaneHolds place (order ++ e ∷ []) lane (record link { output = link.output ++ spelled (commands_in place e); waiting = link.waiting ++ as_waiting (commands_in place e) })
lane_taken place order e lane link awaited h =
    let dropped : drop lane.since (order ++ e ∷ []) ≡ drop lane.since order ++ e ∷ [] = drop-append-le lane.since order (e ∷ []) h.since in
    let taken : take lane.since (order ++ e ∷ []) ≡ take lane.since order = take-append-le lane.since order (e ∷ []) h.since in
    let commands : commands_to place (drop lane.since (order ++ e ∷ [])) ≡ commands_to place (drop lane.since order) ++ commands_in place e =
    ap (λ (es : Order). commands_to place es) dropped ∙ commands-push place (drop lane.since order) e in
    let few = can_length (commands_to place (drop lane.since order)) lane.replies h.can in
    record {
      since = omega (arith, h.since, length-append order (e ∷ []));
      put = sym (append_assoc lane.out link.output (spelled (commands_in place e)))
          ∙ ap (λ (bytes : List ℕ). bytes ++ spelled (commands_in place e)) h.put
          ∙ sym (spelled-append (commands_to place (drop lane.since order)) (commands_in place e))
          ∙ ap (λ (cs : List Tagged). spelled cs) (sym commands);
      came = h.came
          ∙ ap (λ (bytes : List ℕ). bytes ++ link.unread)
          (sym (replies_text-append (commands_to place (drop lane.since order)) (commands_in place e) lane.replies h.can) ∙ ap (λ (cs : List Tagged). replies_text cs lane.replies) (sym commands));
      can = subst (λ (cs : List Tagged). CanHave cs lane.replies) (sym commands) (can-append (commands_to place (drop lane.since order)) (commands_in place e) lane.replies h.can);
      waiting =
          ap (λ (ws : List Waiting). ws ++ as_waiting (commands_in place e)) h.waiting
          ∙ sym (map-append (λ (command : Tagged). (head_of command.0, command.1)) (drop (length lane.replies) (commands_to place (drop lane.since order))) (commands_in place e))
          ∙ ap (λ (cs : List Tagged). as_waiting cs)
          (sym (drop-append-le (length lane.replies) (commands_to place (drop lane.since order)) (commands_in place e) few) ∙ ap (λ (cs : List Tagged). drop (length lane.replies) cs) (sym commands));
      outcomes =
          ap (λ (es : Order). outcomes_to place es) dropped
          ∙ outcomes-push place (drop lane.since order) e
          ∙ ap₂ (λ (xs ys : List Outcome). xs ++ ys) h.outcomes awaited
          ∙ append_assoc (map (λ (reply : AReply (List ℕ)). Reply reply) lane.replies) (map (λ (_ : Waiting). Awaited) link.waiting) (map (λ (_ : Waiting). Awaited) (as_waiting (commands_in place e)))
          ∙ ap (λ (xs : List Outcome). map (λ (reply : AReply (List ℕ)). Reply reply) lane.replies ++ xs)
          (sym (map-append (λ (_ : Waiting). Awaited) link.waiting (as_waiting (commands_in place e))));
      before = ap (λ (es : Order). list_all is_noted (outcomes_to place es)) taken ∙ h.before;
    }

-- the link at a place, after a request is taken
pub link_taken : (place session request : ℕ) (order : Order) (e : TakenRequest) (lane : Lane) (links now : List LinkState)
    → e.session ≡ session → e.request ≡ request → e.outcomes ≡ map (at_once links) (route_of_taken e.ring e.what)
    → now ≡ handed session request 0 (route_of_taken e.ring e.what) links
    → LinkHolds place order lane (link_at links place) → LinkHolds place (order ++ e ∷ []) lane (link_at now place)
link_taken place session request order e lane links now whose numbered outcomes sent_now h =
    let now_is : link_at now place ≡ received (commands_in place e) (link_at links place) =
    ap (λ (ls : List LinkState). link_at ls place) sent_now ∙ handed_at place session request 0 (route_of_taken e.ring e.what) links
    ∙ ap₂ (λ (s r : ℕ). received (commands_from place s r 0 (route_of_taken e.ring e.what)) (link_at links place)) (sym whose) (sym numbered) in
    let becomes : outcomes_in place e ≡ outcomes_from place (route_of_taken e.ring e.what) (map (at_once links) (route_of_taken e.ring e.what)) =
    ap (λ (xs : List Outcome). outcomes_from place (route_of_taken e.ring e.what) xs) outcomes in
    ⊎_elim
    (λ (up : (link_at links place).up ≡ true).
    let is : link_at now place ≡ record (link_at links place) { output = (link_at links place).output ++ spelled (commands_in place e); waiting = (link_at links place).waiting ++ as_waiting (commands_in place e) } =
    now_is ∙ received_up (commands_in place e) (link_at links place) up in
    subst (λ (l : LinkState). LinkHolds place (order ++ e ∷ []) lane l) (sym is) (
      λ _. lane_taken place order e lane (link_at links place) (becomes ∙ at_once_up place e.session e.request 0 (route_of_taken e.ring e.what) links up) (h.0 up),
      λ down. absurd (down up),
    ))
    (λ (off : (link_at links place).up ≡ false).
    let is : link_at now place ≡ link_at links place = now_is ∙ received_down (commands_in place e) (link_at links place) off in
    let down : (link_at links place).up ≢ true = λ up. let clash : true ≡ false = sym up ∙ off in absurd cc in
    subst (λ (l : LinkState). LinkHolds place (order ++ e ∷ []) lane l) (sym is) (
      λ up. absurd (down up),
      λ _. record {
        nothing = (h.1 down).nothing;
        outcomes = ap (λ (xs : List Outcome). list_all is_noted xs) (outcomes-push place order e)
            ∙ passes_joined is_noted (outcomes_to place order) (outcomes_in place e) (h.1 down).outcomes
            (ap (λ (xs : List Outcome). list_all is_noted xs) becomes ∙ at_once_down place (route_of_taken e.ring e.what) links off);
      },
    ))
    (cases_Bool (link_at links place).up)
