-- What passed over a link, after more is taken, after a reply is taken, and after an outcome is noted.
use Rattle.std.proofs.Common.{◌≡◌, ◌≢◌, ◌∙◌, ⊎_elim, ℕ, ◌+◌, ◌<◌, ◌≤◌, ◌==◌, Bool, true, false, if◌then◌else◌, List, [], ◌∷◌, ◌++◌, length, map, drop, take, refl, sym, ap, ap₂, subst, append_assoc, append-nil, arith}
use Rattle.std.specs.Prelude.{All}
use Rattle.std.specs.List.{list_all}
use Rattle.std.proofs.lemmas.Bool.{and_from, and_parts, cases_Bool, cases_lt}
use Rattle.std.proofs.lemmas.List.{drop-map, drop_all, drop_at, get_or-set_other, get_or-set_same, get_or_past, length-append, length-map, length-take-le, map-append, take-append-drop, take-map, take_all}
use Rattle.std.proofs.lemmas.List.Elements.{All-drop, All-head, All-tail, All-take}
use Rattle.mc_request.specs.Atoms.{head_of}
use Rattle.mc_request.specs.declared.parts.Atom.{Atom}
use Rattle.mc_reply.specs.CanHave.{can_have}
use Rattle.mc_reply.specs.Spelling.{spelling_of}
use Rattle.mc_reply.specs.declared.replies.Reply.{Reply as AReply}
use Rattle.mc_route.specs.Routes.{route_of_taken}
use Rattle.mc_route.specs.declared.outcomes.Outcome.{Outcome}
use Rattle.mc_route.specs.declared.outcomes.Outcome.TheVariants.{Awaited, Reply}
use Rattle.mc_route.specs.declared.routes.Routed.{Routed}
use Rattle.mc_codec.specs.Spellings.{spelling_of_atom}
use Rattle.mc_link.specs.LinkState.{LinkState, Waiting, down_link, up_link}
use Rattle.mc_link.specs.Turns.{Takes as LinkTakes}
use Rattle.mc_link.specs.declared.turns.Tag.{Tag}
use Rattle.mc_proxy.specs.Emits.{is_noted}
use Rattle.mc_proxy.specs.SessionState.{link_at, with_link}
use Rattle.mc_account.specs.Orders.{Order, Tagged, IsSized, commands_to, is_complete, note, note_in, outcomes_from, outcomes_in, outcomes_to}
use Rattle.mc_account.specs.Lanes.{CanHave, IsDown, Lane, LaneHolds, LinkHolds, as_waiting, fresh_lane, replies_text, spelled}
use Rattle.mc_account.proofs.OpenSessions.{own_number}
use Rattle.mc_account.proofs.OrderLemmas.{commands-append, commands-note, lengths_to, passes_joined, passes_parts, told_whole}
use Rattle.mc_account.proofs.TagLemmas.{awaited, awaited-append, awaited_to, count, count-append, count_to, count_to_both, owners, owners-append, same_tag, same_tag_self, incomplete-append, incomplete_owners, weight}
use Rattle.mc_account.proofs.NotingLemmas.{noted_to, renoted, renoted_absent, renoted_at, renoted_told}

-- links by their places
pub link_own : (place : ℕ) (link : LinkState) (links : List LinkState) → place < length links → link_at (with_link place link links) place ≡ link
link_own place link links h = get_or-set_same links place link (down_link 0) h

pub link_other : (place other : ℕ) (link : LinkState) (links : List LinkState) → place ≢ other → link_at (with_link place link links) other ≡ link_at links other
link_other place other link links differ = get_or-set_other links place other link (down_link 0) (λ same. differ (sym same))

-- a link that is up exists
pub up_is_there : (place : ℕ) (links : List LinkState) → (link_at links place).up ≡ true → place < length links
up_is_there place links up =
    ⊎_elim (λ inside. inside)
    (λ past. let none : link_at links place ≡ down_link 0 = get_or_past links place (down_link 0) past in
    let clash : false ≡ true = sym (ap (λ (link : LinkState). link.up) none) ∙ up in absurd cc)
    (cases_lt place (length links))

-- spellings of commands and replies, joined
pub spelled-append : (cs ds : List Tagged) → spelled (cs ++ ds) ≡ spelled cs ++ spelled ds
spelled-append [] ds = refl
spelled-append (c ∷ cs) ds = ap (λ (bytes : List ℕ). spelling_of_atom c.0 ++ bytes) (spelled-append cs ds) ∙ sym (append_assoc (spelling_of_atom c.0) (spelled cs) (spelled ds))

pub replies_text-append : (cs ds : List Tagged) (replies : List (AReply (List ℕ))) → CanHave cs replies
    → replies_text (cs ++ ds) replies ≡ replies_text cs replies
replies_text-append cs ds [] can = refl
replies_text-append [] ds (r ∷ rs) can = absurd can
replies_text-append (c ∷ cs) ds (r ∷ rs) can = ap (λ (bytes : List ℕ). spelling_of (head_of c.0) r ++ bytes) (replies_text-append cs ds rs can.1)

pub can-append : (cs ds : List Tagged) (replies : List (AReply (List ℕ))) → CanHave cs replies → CanHave (cs ++ ds) replies
can-append cs ds [] can = tt
can-append [] ds (r ∷ rs) can = absurd can
can-append (c ∷ cs) ds (r ∷ rs) can = (can.0, can-append cs ds rs can.1)

pub can_length : (cs : List Tagged) (replies : List (AReply (List ℕ))) → CanHave cs replies → length replies ≤ length cs
can_length cs [] can = omega arith
can_length [] (r ∷ rs) can = absurd can
can_length (c ∷ cs) (r ∷ rs) can = omega (arith, can_length cs rs can.1)

-- one reply more
replies_text-push : (front back : List Tagged) (c : Tagged) (replies : List (AReply (List ℕ))) (reply : AReply (List ℕ)) → length front ≡ length replies
    → replies_text (front ++ c ∷ back) (replies ++ reply ∷ []) ≡ replies_text (front ++ c ∷ back) replies ++ spelling_of (head_of c.0) reply
replies_text-push [] back c [] reply h = append-nil (spelling_of (head_of c.0) reply)
replies_text-push [] back c (r ∷ rs) reply h = absurd cc
replies_text-push (f ∷ fs) back c [] reply h = absurd cc
replies_text-push (f ∷ fs) back c (r ∷ rs) reply h =
    ap (λ (bytes : List ℕ). spelling_of (head_of f.0) r ++ bytes) (replies_text-push fs back c rs reply (cc))
    ∙ sym (append_assoc (spelling_of (head_of f.0) r) (replies_text (fs ++ c ∷ back) rs) (spelling_of (head_of c.0) reply))

can-push : (front back : List Tagged) (c : Tagged) (replies : List (AReply (List ℕ))) (reply : AReply (List ℕ)) → length front ≡ length replies
    → can_have (head_of c.0) reply ≡ true → CanHave (front ++ c ∷ back) replies → CanHave (front ++ c ∷ back) (replies ++ reply ∷ [])
can-push [] back c [] reply h can others = (can, tt)
can-push [] back c (r ∷ rs) reply h can others = absurd cc
can-push (f ∷ fs) back c [] reply h can others = absurd cc
can-push (f ∷ fs) back c (r ∷ rs) reply h can others = (others.0, can-push fs back c rs reply (cc) can others.1)

-- replies are known outcomes
pub replies_told : (replies : List (AReply (List ℕ))) → list_all is_noted (map (λ (reply : AReply (List ℕ)). Reply reply) replies) ≡ true
replies_told [] = refl
replies_told (r ∷ rs) = replies_told rs

-- the commands of a link with known outcomes, and its pending ones, since a number of requests had been taken
pub record Pending (place since : ℕ) (order : Order) (known : List Outcome) (waiting : List Waiting) : Type 0 where
  pub front : List Tagged
  pub rest : List Tagged
  pub commands : commands_to place (drop since order) ≡ front ++ rest
  pub size : length front ≡ length known
  pub waits : waiting ≡ as_waiting rest
  pub outcomes : outcomes_to place (drop since order) ≡ known ++ map (λ (_ : Waiting). Awaited) waiting
  pub known_told : list_all is_noted known ≡ true
  pub before : list_all is_noted (outcomes_to place (take since order)) ≡ true

pub pending_of : (place : ℕ) (order : Order) (lane : Lane) (link : LinkState) → LaneHolds place order lane link
    → Pending place lane.since order (map (λ (reply : AReply (List ℕ)). Reply reply) lane.replies) link.waiting
pending_of place order lane link h =
    let few = can_length (commands_to place (drop lane.since order)) lane.replies h.can in
    record {
      front = take (length lane.replies) (commands_to place (drop lane.since order));
      rest = drop (length lane.replies) (commands_to place (drop lane.since order));
      commands = sym (take-append-drop (length lane.replies) (commands_to place (drop lane.since order)));
      size = length-take-le (length lane.replies) (commands_to place (drop lane.since order)) few ∙ sym (length-map lane.replies (λ (reply : AReply (List ℕ)). Reply reply));
      waits = h.waiting;
      outcomes = h.outcomes;
      known_told = replies_told lane.replies;
      before = h.before;
    }

-- if none is pending, the outcome of each command is known
pub pending_none : (place since : ℕ) (order : Order) (known : List Outcome) → Pending place since order known [] → list_all is_noted (outcomes_to place order) ≡ true
pending_none place since order known h =
    let all : outcomes_to place (drop since order) ≡ known = h.outcomes ∙ append-nil known in
    told_whole place since order h.before (ap (λ (xs : List Outcome). list_all is_noted xs) all ∙ h.known_told)

-- the oldest pending command
record Oldest (w : Waiting) (ws : List Waiting) (rest : List Tagged) : Type 0 where
  pub first : Tagged
  pub others : List Tagged
  pub is : rest ≡ first ∷ others
  pub head : head_of first.0 ≡ w.0
  pub tag : first.1 ≡ w.1
  pub waits : ws ≡ as_waiting others

oldest_of : (w : Waiting) (ws : List Waiting) (rest : List Tagged) → w ∷ ws ≡ as_waiting rest → Oldest w ws rest
oldest_of w ws [] e = absurd cc
oldest_of w ws (c ∷ cs) e =
    let one : w ≡ (head_of c.0, c.1) = cc in
    let more : ws ≡ as_waiting cs = cc in
    record {
      first = c;
      others = cs;
      is = refl;
      head = sym (ap (λ (x : Waiting). x.0) one);
      tag = sym (ap (λ (x : Waiting). x.1) one);
      waits = more;
    }

-- the owners of a tag among what was taken since
owners_since : (tag : Tag) (since : ℕ) (order : Order) → owners tag (drop since order) ≤ owners tag order
owners_since tag since order =
    let whole : owners tag (take since order ++ drop since order) ≡ owners tag order = ap (λ (es : Order). owners tag es) (take-append-drop since order) in
    omega (arith, owners-append tag (take since order) (drop since order), whole)

incomplete_since : (tag : Tag) (since : ℕ) (order : Order) → incomplete_owners tag (drop since order) ≤ incomplete_owners tag order
incomplete_since tag since order =
    let whole : incomplete_owners tag (take since order ++ drop since order) ≡ incomplete_owners tag order = ap (λ (es : Order). incomplete_owners tag es) (take-append-drop since order) in
    omega (arith, incomplete-append tag (take since order) (drop since order), whole)

-- what holds of the tag of the oldest pending command
pub record IsOldest (place : ℕ) (order : Order) (tag : Tag) : Type 0 where
  pub to_place : 1 ≤ count tag (commands_to place order)
  pub incomplete : 1 ≤ incomplete_owners tag order

pub is_oldest : (place since : ℕ) (order : Order) (known : List Outcome) (w : Waiting) (ws : List Waiting) → All IsSized order
    → Pending place since order known (w ∷ ws) → IsOldest place order w.1
is_oldest place since order known w ws sized h =
    let o = oldest_of w ws h.rest h.waits in
    let here : same_tag o.first.1 w.1 ≡ true = rw o.tag (same_tag_self w.1) in
    let commands : commands_to place (drop since order) ≡ h.front ++ o.first ∷ o.others = h.commands ∙ ap (λ (cs : List Tagged). h.front ++ cs) o.is in
    let counted : count w.1 (commands_to place (drop since order)) ≡ count w.1 h.front + (weight (same_tag o.first.1 w.1) + count w.1 o.others) =
    ap (λ (cs : List Tagged). count w.1 cs) commands ∙ count-append w.1 h.front (o.first ∷ o.others) in
    let waited : awaited w.1 (commands_to place (drop since order)) (outcomes_to place (drop since order))
    ≡ awaited w.1 h.front known + (weight (same_tag o.first.1 w.1) + awaited w.1 o.others (map (λ (_ : Waiting). Awaited) ws)) =
    ap₂ (λ (cs : List Tagged) (xs : List Outcome). awaited w.1 cs xs) commands h.outcomes
    ∙ awaited-append w.1 h.front (o.first ∷ o.others) known (Awaited ∷ map (λ (_ : Waiting). Awaited) ws) h.size in
    let one : weight (same_tag o.first.1 w.1) ≡ 1 = ap weight here in
    let whole : count w.1 (commands_to place (take since order)) + count w.1 (commands_to place (drop since order)) ≡ count w.1 (commands_to place order) =
    sym (count-append w.1 (commands_to place (take since order)) (commands_to place (drop since order)))
    ∙ ap (λ (cs : List Tagged). count w.1 cs) (sym (commands-append place (take since order) (drop since order)) ∙ ap (λ (es : Order). commands_to place es) (take-append-drop since order)) in
    record {
      to_place = omega (arith, counted, one, whole);
      incomplete = omega (arith, waited, one, awaited_to w.1 place (drop since order) (All-drop IsSized since order sized), incomplete_since w.1 since order);
    }

-- its outcome is noted: it is known, and the others are pending
pub pending_noted : (place since : ℕ) (order : Order) (known : List Outcome) (w : Waiting) (ws : List Waiting) (outcome : Outcome) → All IsSized order → owners w.1 order ≤ 1 → is_noted outcome ≡ true
    → Pending place since order known (w ∷ ws) → Pending place since (note w.1 outcome order) (known ++ outcome ∷ []) ws
pending_noted place since order known w ws outcome sized once known_now h =
    let o = oldest_of w ws h.rest h.waits in
    let commands : commands_to place (drop since order) ≡ h.front ++ o.first ∷ o.others = h.commands ∙ ap (λ (cs : List Tagged). h.front ++ cs) o.is in
    let here : same_tag o.first.1 w.1 ≡ true = rw o.tag (same_tag_self w.1) in
    let one : weight (same_tag o.first.1 w.1) ≡ 1 = ap weight here in
    let counted : count w.1 (commands_to place (drop since order)) ≡ count w.1 h.front + (weight (same_tag o.first.1 w.1) + count w.1 o.others) =
    ap (λ (cs : List Tagged). count w.1 cs) commands ∙ count-append w.1 h.front (o.first ∷ o.others) in
    let few = count_to w.1 place (drop since order) in
    let since_few = owners_since w.1 since order in
    let back_len : length o.others ≡ length (map (λ (_ : Waiting). Awaited) ws) =
    sym (length-map o.others (λ (command : Tagged). (head_of command.0, command.1))) ∙ ap (λ (l : List Waiting). length l) (sym o.waits) ∙ sym (length-map ws (λ (_ : Waiting). Awaited)) in
    let dropped : drop since (note w.1 outcome order) ≡ note w.1 outcome (drop since order) = drop-map (note_in w.1 outcome) since order in
    let taken : take since (note w.1 outcome order) ≡ note w.1 outcome (take since order) = take-map (note_in w.1 outcome) since order in
    record {
      front = h.front ++ o.first ∷ [];
      rest = o.others;
      commands = ap (λ (es : Order). commands_to place es) dropped ∙ commands-note place w.1 outcome (drop since order) ∙ commands ∙ sym (append_assoc h.front (o.first ∷ []) o.others);
      size = omega (arith, length-append h.front (o.first ∷ []), length-append known (outcome ∷ []), h.size);
      waits = o.waits;
      outcomes =
          ap (λ (es : Order). outcomes_to place es) dropped
          ∙ noted_to w.1 outcome place (drop since order) (All-drop IsSized since order sized)
          ∙ ap₂ (λ (cs : List Tagged) (xs : List Outcome). renoted w.1 outcome cs xs) commands h.outcomes
          ∙ renoted_at w.1 outcome h.front o.others o.first known (map (λ (_ : Waiting). Awaited) ws) Awaited o.tag h.size back_len
          (omega (arith, counted, one, few, since_few, once)) (omega (arith, counted, one, few, since_few, once))
          ∙ sym (append_assoc known (outcome ∷ []) (map (λ (_ : Waiting). Awaited) ws));
      known_told = passes_joined is_noted known (outcome ∷ []) h.known_told (and_from (is_noted outcome) true known_now refl);
      before =
          ap (λ (xs : List Outcome). list_all is_noted xs)
          (ap (λ (es : Order). outcomes_to place es) taken ∙ noted_to w.1 outcome place (take since order) (All-take IsSized since order sized))
          ∙ renoted_told w.1 outcome (commands_to place (take since order)) (outcomes_to place (take since order)) known_now h.before;
    }

-- a lane depends only on an order's commands to its place and their outcomes
lane_same : (place : ℕ) (order longer : Order) (lane : Lane) (link : LinkState) → length order ≤ length longer
    → commands_to place (drop lane.since longer) ≡ commands_to place (drop lane.since order)
    → outcomes_to place (drop lane.since longer) ≡ outcomes_to place (drop lane.since order)
    → list_all is_noted (outcomes_to place (take lane.since longer)) ≡ true
    → LaneHolds place order lane link → LaneHolds place longer lane link
lane_same place order longer lane link long commands outcomes before h = record {
  since = omega (arith, long, h.since);
  put = h.put ∙ ap (λ (cs : List Tagged). spelled cs) (sym commands);
  came = h.came ∙ ap (λ (cs : List Tagged). replies_text cs lane.replies ++ link.unread) (sym commands);
  can = subst (λ (cs : List Tagged). CanHave cs lane.replies) (sym commands) h.can;
  waiting = h.waiting ∙ ap (λ (cs : List Tagged). as_waiting (drop (length lane.replies) cs)) (sym commands);
  outcomes = outcomes ∙ h.outcomes;
  before = before;
}

-- the effect of noting an outcome on the commands that were taken before some request, and since
commands_since-note : (place since : ℕ) (tag : Tag) (outcome : Outcome) (order : Order) → commands_to place (drop since (note tag outcome order)) ≡ commands_to place (drop since order)
commands_since-note place since tag outcome order =
    ap (λ (es : Order). commands_to place es) (drop-map (note_in tag outcome) since order) ∙ commands-note place tag outcome (drop since order)

told_before-note : (place since : ℕ) (tag : Tag) (outcome : Outcome) (order : Order) → All IsSized order → is_noted outcome ≡ true
    → list_all is_noted (outcomes_to place (take since order)) ≡ true → list_all is_noted (outcomes_to place (take since (note tag outcome order))) ≡ true
told_before-note place since tag outcome order sized known h =
    ap (λ (xs : List Outcome). list_all is_noted xs)
    (ap (λ (es : Order). outcomes_to place es) (take-map (note_in tag outcome) since order) ∙ noted_to tag outcome place (take since order) (All-take IsSized since order sized))
    ∙ renoted_told tag outcome (commands_to place (take since order)) (outcomes_to place (take since order)) known h

-- the link of another place, after an outcome of a command to this place is noted
pub lane_other : (place other : ℕ) (tag : Tag) (outcome : Outcome) (order : Order) (lane : Lane) (link : LinkState) → place ≢ other → All IsSized order → owners tag order ≤ 1
    → is_noted outcome ≡ true → IsOldest place order tag → LaneHolds other order lane link → LaneHolds other (note tag outcome order) lane link
lane_other place other tag outcome order lane link differ sized once known oldest h =
    let whole : count tag (commands_to other (take lane.since order)) + count tag (commands_to other (drop lane.since order)) ≡ count tag (commands_to other order) =
    sym (count-append tag (commands_to other (take lane.since order)) (commands_to other (drop lane.since order)))
    ∙ ap (λ (cs : List Tagged). count tag cs)
    (sym (commands-append other (take lane.since order) (drop lane.since order)) ∙ ap (λ (es : Order). commands_to other es) (take-append-drop lane.since order)) in
    let none : count tag (commands_to other (drop lane.since order)) ≡ 0 = omega (arith, whole, oldest.to_place, once, count_to_both tag place other order differ) in
    let since_sized = All-drop IsSized lane.since order sized in
    lane_same other order (note tag outcome order) lane link
    (omega (arith, length-map order (note_in tag outcome)))
    (commands_since-note other lane.since tag outcome order)
    (ap (λ (es : Order). outcomes_to other es) (drop-map (note_in tag outcome) lane.since order)
    ∙ noted_to tag outcome other (drop lane.since order) since_sized
    ∙ renoted_absent tag outcome (commands_to other (drop lane.since order)) (outcomes_to other (drop lane.since order)) none (lengths_to other (drop lane.since order) since_sized))
    (told_before-note other lane.since tag outcome order sized known h.before) h

down_other : (place : ℕ) (tag : Tag) (outcome : Outcome) (order : Order) (link : LinkState) → All IsSized order → is_noted outcome ≡ true
    → IsDown place order link → IsDown place (note tag outcome order) link
down_other place tag outcome order link sized known h = record {
  nothing = h.nothing;
  outcomes =
      ap (λ (xs : List Outcome). list_all is_noted xs) (noted_to tag outcome place order sized)
      ∙ renoted_told tag outcome (commands_to place order) (outcomes_to place order) known h.outcomes;
}

pub link_other_noted : (place other : ℕ) (tag : Tag) (outcome : Outcome) (order : Order) (lane : Lane) (link : LinkState) → place ≢ other → All IsSized order → owners tag order ≤ 1
    → is_noted outcome ≡ true → IsOldest place order tag → LinkHolds other order lane link → LinkHolds other (note tag outcome order) lane link
link_other_noted place other tag outcome order lane link differ sized once known oldest h = (
  λ up. lane_other place other tag outcome order lane link differ sized once known oldest (h.0 up),
  λ down. down_other other tag outcome order link sized known (h.1 down),
)

-- a reply is taken off the lane of its place
pub lane_replied : (place : ℕ) (order : Order) (lane : Lane) (old : LinkState) (tag : Tag) (reply : AReply (List ℕ)) (new : LinkState) → All IsSized order → owners tag order ≤ 1
    → LinkTakes old tag reply new → LaneHolds place order lane old
    → LaneHolds place (note tag (Reply reply) order) (record lane { replies = lane.replies ++ reply ∷ [] }) new
lane_replied place order lane old tag reply new sized once takes h =
    let p = subst (λ (ws : List Waiting). Pending place lane.since order (map (λ (reply : AReply (List ℕ)). Reply reply) lane.replies) ws) takes.oldest (pending_of place order lane old h) in
    let next = pending_noted place lane.since order (map (λ (reply : AReply (List ℕ)). Reply reply) lane.replies) (takes.head, tag) new.waiting (Reply reply) sized once refl p in
    let o = oldest_of (takes.head, tag) new.waiting p.rest p.waits in
    let front_len : length p.front ≡ length lane.replies = p.size ∙ length-map lane.replies (λ (reply : AReply (List ℕ)). Reply reply) in
    let commands : commands_to place (drop lane.since order) ≡ p.front ++ o.first ∷ o.others = p.commands ∙ ap (λ (cs : List Tagged). p.front ++ cs) o.is in
    let now : commands_to place (drop lane.since (note tag (Reply reply) order)) ≡ p.front ++ o.first ∷ o.others = commands_since-note place lane.since tag (Reply reply) order ∙ commands in
    let output : new.output ≡ old.output = ap (λ (link : LinkState). link.output) takes.others in
    record {
      since = omega (arith, h.since, length-map order (note_in tag (Reply reply)));
      put = ap (λ (bytes : List ℕ). lane.out ++ bytes) output ∙ h.put ∙ ap (λ (cs : List Tagged). spelled cs) (commands ∙ sym now);
      came =
          h.came
          ∙ ap₂ (λ (cs : List Tagged) (bytes : List ℕ). replies_text cs lane.replies ++ bytes) commands takes.spelled
          ∙ sym (append_assoc (replies_text (p.front ++ o.first ∷ o.others) lane.replies) (spelling_of takes.head reply) new.unread)
          ∙ ap (λ (head : Atom (Unit {0})). (replies_text (p.front ++ o.first ∷ o.others) lane.replies ++ spelling_of head reply) ++ new.unread) (sym o.head)
          ∙ ap (λ (bytes : List ℕ). bytes ++ new.unread) (sym (replies_text-push p.front o.others o.first lane.replies reply front_len))
          ∙ ap (λ (cs : List Tagged). replies_text cs (lane.replies ++ reply ∷ []) ++ new.unread) (sym now);
      can = subst (λ (cs : List Tagged). CanHave cs (lane.replies ++ reply ∷ [])) (sym now)
          (can-push p.front o.others o.first lane.replies reply front_len (subst (λ (head : Atom (Unit {0})). can_have head reply ≡ true) (sym o.head) takes.can)
          (subst (λ (cs : List Tagged). CanHave cs lane.replies) commands h.can));
      waiting =
          let after : length (p.front ++ o.first ∷ []) ≡ length (lane.replies ++ reply ∷ []) =
          omega (arith, length-append p.front (o.first ∷ []), length-append lane.replies (reply ∷ []), front_len) in
          o.waits
          ∙ ap (λ (cs : List Tagged). as_waiting cs) (sym (drop_at (p.front ++ o.first ∷ []) o.others (length (lane.replies ++ reply ∷ [])) after))
          ∙ ap (λ (cs : List Tagged). as_waiting (drop (length (lane.replies ++ reply ∷ [])) cs)) (append_assoc p.front (o.first ∷ []) o.others ∙ sym now);
      outcomes =
          next.outcomes
          ∙ ap (λ (xs : List Outcome). xs ++ map (λ (_ : Waiting). Awaited) new.waiting) (sym (map-append (λ (reply : AReply (List ℕ)). Reply reply) lane.replies (reply ∷ [])));
      before = next.before;
    }

-- if no command is pending on a link, the outcome of each command to its place is known
pub nothing_waits : (place : ℕ) (order : Order) (lane : Lane) (link : LinkState) → link.waiting ≡ [] → LinkHolds place order lane link
    → list_all is_noted (outcomes_to place order) ≡ true
nothing_waits place order lane link none h =
    ⊎_elim
    (λ (up : link.up ≡ true). pending_none place lane.since order (map (λ (reply : AReply (List ℕ)). Reply reply) lane.replies)
    (subst (λ (ws : List Waiting). Pending place lane.since order (map (λ (reply : AReply (List ℕ)). Reply reply) lane.replies) ws) none (pending_of place order lane link (h.0 up))))
    (λ (down : link.up ≡ false). (h.1 (λ up. let clash : true ≡ false = sym up ∙ down in absurd cc)).outcomes)
    (cases_Bool link.up)

-- outcomes that are known of the commands to each place are known of all
complete_from : (commands : List Routed) (xs : List Outcome) → length xs ≡ length commands → ((place : ℕ) → list_all is_noted (outcomes_from place commands xs) ≡ true)
    → list_all is_noted xs ≡ true
complete_from [] [] h known = refl
complete_from [] (x ∷ xs) h known = absurd cc
complete_from (command ∷ commands) [] h known = absurd cc
complete_from (command ∷ commands) (x ∷ xs) h known =
    let own : list_all is_noted (x ∷ outcomes_from command.server commands xs) ≡ true =
    ap (λ (v : Bool). list_all is_noted (if v then x ∷ outcomes_from command.server commands xs else outcomes_from command.server commands xs)) (sym (own_number command.server)) ∙ known command.server in
    let first = (and_parts (is_noted x) (list_all is_noted (outcomes_from command.server commands xs)) own).0 in
    let others = λ (place : ℕ). (elim (command.server == place) as (λ v.
    list_all is_noted (if v then x ∷ outcomes_from place commands xs else outcomes_from place commands xs) ≡ true → list_all is_noted (outcomes_from place commands xs) ≡ true) [
      | true ↦ λ e. (and_parts (is_noted x) (list_all is_noted (outcomes_from place commands xs)) e).1
      | false ↦ λ e. e
    ]) (known place) in
    and_from (is_noted x) (list_all is_noted xs) first (complete_from commands xs (cc) others)

pub complete_order : (es : Order) → All IsSized es → ((place : ℕ) → list_all is_noted (outcomes_to place es) ≡ true) → list_all is_complete es ≡ true
complete_order [] sized known = refl
complete_order (e ∷ es) sized known =
    let parts = λ (place : ℕ). passes_parts is_noted (outcomes_in place e) (outcomes_to place es) (known place) in
    and_from (is_complete e) (list_all is_complete es)
    (complete_from (route_of_taken e.ring e.what) e.outcomes (All-head IsSized e es sized) (λ place. (parts place).0))
    (complete_order es (All-tail IsSized e es sized) (λ place. (parts place).1))

-- a link that came up just now
pub lane_fresh : (place generation : ℕ) (order : Order) → list_all is_noted (outcomes_to place order) ≡ true → LaneHolds place order (fresh_lane (length order)) (up_link generation)
lane_fresh place generation order known =
    let none : commands_to place (drop (length order) order) ≡ [] = ap (λ (es : Order). commands_to place es) (drop_all (length order) order (omega arith)) in
    record {
      since = omega arith;
      put = ap (λ (cs : List Tagged). spelled cs) (sym none);
      came = refl;
      can = tt;
      waiting = ap (λ (cs : List Tagged). as_waiting cs) (sym none);
      outcomes = ap (λ (es : Order). outcomes_to place es) (drop_all (length order) order (omega arith));
      before = ap (λ (es : Order). list_all is_noted (outcomes_to place es)) (take_all (length order) order (omega arith)) ∙ known;
    }
