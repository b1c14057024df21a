-- A run that is over gives account.
use Rattle.std.proofs.Common.{◌≡◌, ◌∙◌, ⊎_elim, ℕ, ◌<◌, ◌≤◌, ◌==◌, Bool, true, false, if◌then◌else◌, List, [], ◌∷◌, ◌++◌, length, map, drop, codes, Option, Some, None, refl, sym, ap, subst, append-nil, arith}
use Rattle.std.specs.List.{All, list_all}
use Rattle.std.proofs.lemmas.Bool.{and_from, and_parts, cases_lt}
use Rattle.std.proofs.lemmas.Bool.Decides.{nat_tests}
use Rattle.std.proofs.lemmas.List.Elements.{All-cons, All-head, All-nil, All-tail}
use Rattle.mc_request.specs.Requests.{requests_of}
use Rattle.mc_request.specs.declared.parts.Parsed.{Parsed}
use Rattle.mc_request.specs.declared.parts.Parsed.TheVariants.{Faulty, Whole}
use Rattle.mc_request_reader.specs.Reader.{rest_of}
use Rattle.mc_reply.specs.declared.replies.Reply.{Reply as AReply}
use Rattle.mc_ring.specs.Rings.{IsRing, RingState}
use Rattle.mc_route.specs.Routes.{route_of_taken}
use Rattle.mc_route.specs.declared.losses.Losses.{Losses}
use Rattle.mc_route.specs.declared.outcomes.Outcome.{Outcome}
use Rattle.mc_route.specs.declared.outcomes.Outcome.TheVariants.{Awaited, Reply}
use Rattle.mc_route.specs.declared.routes.Routed.{Routed}
use Rattle.mc_route.proofs.RouteLemmas.{route_inside}
use Rattle.mc_link.specs.LinkState.{LinkState, Waiting}
use Rattle.mc_cache.specs.CacheState.{CacheState}
use Rattle.mc_cache.specs.Step.{step_of}
use Rattle.mc_cache_laws.specs.GoodCaches.{IsGoodCache}
use Rattle.mc_server.specs.Served.{ServedRequest}
use Rattle.mc_proxy.specs.SessionState.{SessionState, link_at}
use Rattle.mc_proxy.specs.ProxyState.{ProxyState, output_of, session_at, unanswered_of}
use Rattle.mc_proxy.specs.Turns.{waiting_of}
use Rattle.mc_account.specs.Lanes.{CanHave, Lane, LaneHolds, as_waiting, replies_text, spelled}
use Rattle.mc_account.specs.Orders.{HasChoice, IsSized, Order, Tagged, TakenRequest, answers_of, commands_to, entries_of, outcomes_from, outcomes_in, outcomes_to, taken_of, unanswered_of as as_unanswered}
use Rattle.mc_account.specs.Holds.{ProxyHolds, SessionHolds, SessionHoldsAt, IsUnused}
use Rattle.mc_account.proofs.OpenSessions.{own_number}
use Rattle.mc_account.proofs.OrderLemmas.{lengths_to, passes_parts}
use Rattle.mc_history.specs.Generations.{is_good}
use Rattle.mc_history.specs.Made.{AreMade, Made, entry_of}
use Rattle.mc_history.proofs.GenerationLemmas.{told_front}
use Rattle.mc_history.proofs.MadeLemmas.{can_by_head}
use Rattle.mc_threads.specs.Accounts.{RunAccount, is_reply}
use Rattle.mc_threads.specs.Talks.{IsQuiet, IsSilent, Talks}
use Rattle.mc_threads.specs.Workers.{IsWorked}
use Rattle.mc_threads.proofs.EntryLemmas.{IsMadeOf, legal_made, moments_same, replied_made, tags_made_of}
use Rattle.mc_threads.proofs.GoodLemmas.{good_texts}
use Rattle.mc_threads.proofs.HistoryLemmas.{IsServed, served}
use Rattle.mc_threads.proofs.OpeningLemmas.{no_requests}

none_of : {T : Type 0} (xs : List T) → length xs ≡ 0 → xs ≡ []
none_of [] h = refl
none_of (x ∷ xs) h = absurd (omega (arith, h))

-- the requests that were taken of a session that is over, and the bytes emitted to it
record IsOver (order : Order) (text out : List ℕ) (client : ℕ) : Type 0 where
  pub asked : taken_of client order ≡ requests_of text
  pub put : out ≡ answers_of (entries_of client order)

map_none : (es : Order) → map as_unanswered es ≡ [] → es ≡ []
map_none [] h = refl
map_none (e ∷ es) h = absurd cc

over_answered : (client : ℕ) (order : Order) (text out : List ℕ) (s : SessionState) → SessionHolds client order text out s → rest_of s.reader [] ≡ []
    → length s.unanswered ≡ 0 → s.output ≡ [] → IsOver order text out client
over_answered client order text out s h taken answered moved =
    let none : h.incomplete ≡ [] = map_none h.incomplete (sym h.unanswered ∙ none_of s.unanswered answered) in
    let all : entries_of client order ≡ h.done = h.split ∙ ap (λ (es : Order). h.done ++ es) none ∙ append-nil h.done in
    record {
      asked = sym (append-nil (taken_of client order)) ∙ ap (λ (ts : List Parsed). taken_of client order ++ ts) (sym taken) ∙ h.rest [] ∙ ap requests_of (append-nil text);
      put = sym (append-nil out) ∙ ap (λ (bytes : List ℕ). out ++ bytes) (sym moved) ∙ h.answered ∙ ap answers_of (sym all);
    }

over_at : (client : ℕ) (order : Order) (text out : List ℕ) (session : Option SessionState) (s : SessionState) → session ≡ Some s → SessionHoldsAt client order text out session
    → waiting_of session ≡ [] → unanswered_of session ≡ 0 → output_of session ≡ [] → IsOver order text out client
over_at client order text out None s is h taken answered moved = absurd cc
over_at client order text out (Some t) s is h taken answered moved = over_answered client order text out t h taken answered moved

unused_answered : (client : ℕ) (order : Order) (text out : List ℕ) (session : Option SessionState) → IsUnused client order text out session → IsOver order text out client
unused_answered client order text out session h = record {
  asked = ap (λ (es : Order). map (λ (e : TakenRequest). e.what) es) h.nothing_taken ∙ sym (ap requests_of h.nothing_came ∙ no_requests);
  put = h.nothing_sent ∙ sym (ap answers_of h.nothing_taken);
}

later_none : (commands : List Tagged) (later : List (AReply (List ℕ))) → commands ≡ [] → CanHave commands later → later ≡ []
later_none commands [] is can = refl
later_none [] (r ∷ rs) is can = absurd can
later_none (c ∷ cs) (r ∷ rs) is can = absurd cc

waiting_none : (commands : List Tagged) → as_waiting commands ≡ [] → commands ≡ []
waiting_none [] h = refl
waiting_none (c ∷ cs) h = absurd cc

map-map : (made : List Made) → map (λ (r : AReply (List ℕ)). Reply r) (map (λ (m : Made). m.reply) made) ≡ map (λ (m : Made). Reply m.reply) made
map-map [] = refl
map-map (m ∷ ms) = ap (λ (xs : List Outcome). Reply m.reply ∷ xs) (map-map ms)

can_made : (s : CacheState) (made : List Made) → AreMade s made → CanHave (map (λ (m : Made). m.command) made) (map (λ (m : Made). m.reply) made)
can_made s [] h = tt
can_made s (m ∷ ms) h = (can_by_head m.command.0 m.reply ∙ h.0.can, can_made (step_of s m.command.0 m.moment m.refused).0 ms h.1)

can_all : (s : CacheState) (made : List Made) (commands : List Tagged) → map (λ (m : Made). m.command) made ≡ commands → AreMade s made
    → CanHave commands (map (λ (m : Made). m.reply) made)
can_all s made commands is h = subst (λ (cs : List Tagged). CanHave cs (map (λ (m : Made). m.reply) made)) is (can_made s made h)

-- the commands of an order that were executed by a server
record IsMadeFor (ring : RingState) (opening : CacheState) (order : Order) (began ended : List ℕ) (server : ℕ) : Type 0 where
  pub made : List Made
  pub of : IsMadeOf opening order server made
  pub clocked : server < length ring.servers → (quit : ℕ) × (ended ≡ began ++ (map (λ (m : Made). m.moment) made ++ quit ∷ []))

-- a server whose link has nothing to send and no pending command executed them
home_made : (ring : RingState) (opening : CacheState) (texts outs : ℕ → List ℕ) (order : Order) (lanes : ℕ → Lane) (proxy : ProxyState) (began ended : List ℕ) (server : ℕ)
    (sv : IsServed opening began ended (commands_to server order) (lanes server).came)
    → ProxyHolds texts outs order lanes proxy → (link_at proxy.links server).up ≡ true → (lanes server).since ≡ 0 → (link_at proxy.links server).waiting ≡ []
    → list_all is_good (commands_to server order) ≡ true → IsMadeFor ring opening order began ended server
home_made ring opening texts outs order lanes proxy began ended server sv holds up since none good =
    let lane : Lane = lanes server in
    let link : LinkState = link_at proxy.links server in
    let h : LaneHolds server order (lanes server) (link_at proxy.links server) = (holds.links server).0 up in
    let whole : drop lane.since order ≡ order = ap (λ n. drop n order) since in
    let can_all_of : CanHave (commands_to server order) (map (λ (m : Made). m.reply) sv.made) = can_all opening sv.made (commands_to server order) sv.commands_are sv.made_is in
    let can_lane : CanHave (commands_to server order) lane.replies = subst (λ (es : Order). CanHave (commands_to server es) lane.replies) whole h.can in
    let came : lane.came ≡ replies_text (commands_to server order) lane.replies ++ link.unread = subst (λ (es : Order). lane.came ≡ replies_text (commands_to server es) lane.replies ++ link.unread) whole h.came in
    let front = told_front (commands_to server order) lane.replies (map (λ (m : Made). m.reply) sv.made) link.unread good can_lane can_all_of (sym came ∙ sv.told_is) in
    let waits : as_waiting (drop (length lane.replies) (commands_to server order)) ≡ [] =
    sym (subst (λ (es : Order). link.waiting ≡ as_waiting (drop (length lane.replies) (commands_to server es))) whole h.waiting) ∙ none in
    let over : front.later ≡ [] = later_none (drop (length lane.replies) (commands_to server order)) front.later (waiting_none (drop (length lane.replies) (commands_to server order)) waits) front.can in
    let same : map (λ (m : Made). m.reply) sv.made ≡ lane.replies = front.all_is ∙ ap (λ (rs : List (AReply (List ℕ))). lane.replies ++ rs) over ∙ append-nil lane.replies in
    let outcomes : outcomes_to server order ≡ map (λ (r : AReply (List ℕ)). Reply r) lane.replies ++ map (λ (_ : Waiting). Awaited) link.waiting =
    subst (λ (es : Order). outcomes_to server es ≡ map (λ (r : AReply (List ℕ)). Reply r) lane.replies ++ map (λ (_ : Waiting). Awaited) link.waiting) whole h.outcomes in
    record {
      made = sv.made;
      of = record {
        numbered = holds.numbered;
        sized = holds.sized;
        commands = sv.commands_are;
        outcomes = outcomes ∙ ap (λ (ws : List Waiting). map (λ (r : AReply (List ℕ)). Reply r) lane.replies ++ map (λ (_ : Waiting). Awaited) ws) none
            ∙ append-nil (map (λ (r : AReply (List ℕ)). Reply r) lane.replies) ∙ ap (λ (rs : List (AReply (List ℕ))). map (λ (r : AReply (List ℕ)). Reply r) rs) (sym same) ∙ map-map sv.made;
        made_is = sv.made_is;
      };
      clocked = λ low. (sv.quit, sv.clocked);
    }

-- each outcome is a reply if those of the commands to each server are
replied_from : (commands : List Routed) (xs : List Outcome) → length xs ≡ length commands → ((place : ℕ) → list_all is_reply (outcomes_from place commands xs) ≡ true)
    → list_all is_reply xs ≡ true
replied_from [] [] h known = refl
replied_from [] (x ∷ xs) h known = absurd cc
replied_from (command ∷ commands) [] h known = absurd cc
replied_from (command ∷ commands) (x ∷ xs) h known =
    let own : list_all is_reply (x ∷ outcomes_from command.server commands xs) ≡ true =
    ap (λ (v : Bool). list_all is_reply (if v then x ∷ outcomes_from command.server commands xs else outcomes_from command.server commands xs)) (sym (own_number command.server)) ∙ known command.server in
    let first = (and_parts (is_reply x) (list_all is_reply (outcomes_from command.server commands xs)) own).0 in
    let others = λ (place : ℕ). (elim (command.server == place) as (λ v.
    list_all is_reply (if v then x ∷ outcomes_from place commands xs else outcomes_from place commands xs) ≡ true → list_all is_reply (outcomes_from place commands xs) ≡ true) [
      | true ↦ λ e. (and_parts (is_reply x) (list_all is_reply (outcomes_from place commands xs)) e).1
      | false ↦ λ e. e
    ]) (known place) in
    and_from (is_reply x) (list_all is_reply xs) first (replied_from commands xs (cc) others)

replied_order : (es : Order) → All IsSized es → ((place : ℕ) → list_all is_reply (outcomes_to place es) ≡ true) → All (λ e. list_all is_reply e.outcomes ≡ true) es
replied_order [] sized known = All-nil (λ (e : TakenRequest). list_all is_reply e.outcomes ≡ true)
replied_order (e ∷ es) sized known =
    let parts = λ (place : ℕ). passes_parts is_reply (outcomes_in place e) (outcomes_to place es) (known place) in
    All-cons (λ (e : TakenRequest). list_all is_reply e.outcomes ≡ true) e es
    (replied_from (route_of_taken e.ring e.what) e.outcomes (All-head IsSized e es sized) (λ place. (parts place).0))
    (replied_order es (All-tail IsSized e es sized) (λ place. (parts place).1))

-- no command is routed beyond the servers of the ring
none_from : (servers place : ℕ) (commands : List Routed) (xs : List Outcome) → servers ≤ place → All (λ (c : Routed). c.server < servers) commands → outcomes_from place commands xs ≡ []
none_from servers place [] xs above inside = refl
none_from servers place (c ∷ cs) [] above inside = refl
none_from servers place (c ∷ cs) (x ∷ xs) above inside =
    let low = All-head (λ (c : Routed). c.server < servers) c cs inside in
    let not_here : (c.server == place) ≡ false = grind (arith, nat_tests, low, above) in
    rw not_here (none_from servers place cs xs above (All-tail (λ (c : Routed). c.server < servers) c cs inside))

-- the commands of a request go to servers of the ring
taken_inside : (ring : RingState) (what : Parsed) → IsRing ring → All (λ (routed : Routed). routed.server < length ring.servers) (route_of_taken ring what)
taken_inside ring (Whole request) is_ring = route_inside ring request is_ring
taken_inside ring (Faulty fault) is_ring = All-nil (λ (routed : Routed). routed.server < length ring.servers)

none_to : (ring : RingState) (place : ℕ) (es : Order) → IsRing ring → length ring.servers ≤ place → All (λ (e : TakenRequest). e.ring ≡ ring) es → outcomes_to place es ≡ []
none_to ring place [] is_ring above rings = refl
none_to ring place (e ∷ es) is_ring above rings =
    let own : e.ring ≡ ring = All-head (λ (x : TakenRequest). x.ring ≡ ring) e es rings in
    let inside = subst (λ (r : RingState). All (λ (c : Routed). c.server < length ring.servers) (route_of_taken r e.what)) (sym own) (taken_inside ring e.what is_ring) in
    rw (none_from (length ring.servers) place (route_of_taken e.ring e.what) e.outcomes above inside)
    (none_to ring place es is_ring above (All-tail (λ (x : TakenRequest). x.ring ≡ ring) e es rings))

none_left : (cs : List Tagged) → length cs ≡ 0 → [] ≡ cs
none_left [] size = refl
none_left (c ∷ cs) size = absurd (omega (arith, size))

-- no command is executed there
beyond_made : (ring : RingState) (opening : CacheState) (texts outs : ℕ → List ℕ) (order : Order) (lanes : ℕ → Lane) (proxy : ProxyState) (began ended : List ℕ) (server : ℕ) → IsRing ring
    → ProxyHolds texts outs order lanes proxy → All (λ (e : TakenRequest). e.ring ≡ ring) order → length ring.servers ≤ server → IsMadeFor ring opening order began ended server
beyond_made ring opening texts outs order lanes proxy began ended server is_ring holds rings above =
    let none = none_to ring server order is_ring above rings in
    let size : length (outcomes_to server order) ≡ 0 = ap (λ (xs : List Outcome). length xs) none in
    record {
      made = [];
      of = record {
        numbered = holds.numbered;
        sized = holds.sized;
        commands = none_left (commands_to server order) (lengths_to server order holds.sized ∙ size);
        outcomes = none;
        made_is = tt;
      };
      clocked = λ low. absurd (omega (arith, low, above));
    }

all_replies : (made : List Made) → list_all is_reply (map (λ (m : Made). Reply m.reply) made) ≡ true
all_replies [] = refl
all_replies (m ∷ ms) = all_replies ms

-- A run in which the caller's thread is done with all clients and servers. Each server's worker received the bytes that its link sent
-- and `quit`, and sent the bytes that the link received.
pub completes : (ring : RingState) (opening : CacheState) (clients : ℕ) (texts outs went came began ended : ℕ → List ℕ) (proxy : ProxyState) → IsGoodCache opening
    → Talks ring clients texts outs went came proxy → IsQuiet clients (length ring.servers) proxy
    → ((server : ℕ) → server < length ring.servers → (history : List ServedRequest) × IsWorked opening (began server) (ended server) (went server ++ codes "quit\r\n") (came server) history)
    → RunAccount ring opening texts outs began ended
completes ring opening clients texts outs went came began ended proxy good_cache h quiet worked =
    let over : (client : ℕ) → IsOver h.order (texts client) (outs client) client = λ client. ⊎_elim
    (λ below. let q = quiet.answered client below in
    let o = h.is_open client below in
    over_at client h.order (texts client) (outs client) (session_at proxy client) o.0 o.1 (h.holds.sessions client) q.taken q.answered q.moved)
    (λ above. unused_answered client h.order (texts client) (outs client) (session_at proxy client) (h.holds.unused client (omega (arith, above, h.admitted))))
    (cases_lt client clients) in
    let asked : (client : ℕ) → taken_of client h.order ≡ requests_of (texts client) = λ client. (over client).asked in
    let all : (server : ℕ) → IsMadeFor ring opening h.order (began server) (ended server) server = λ server. ⊎_elim
    (λ low.
    let silent : IsSilent proxy server = quiet.silent server low in
    let up : (link_at proxy.links server).up ≡ true = h.up server low in
    let good : list_all is_good (commands_to server h.order) ≡ true = good_texts server h.order texts h.bytes asked in
    let put : went server ≡ spelled (commands_to server h.order) =
    sym (h.went_is server) ∙ sym (append-nil (h.lanes server).out) ∙ ap (λ (bytes : List ℕ). (h.lanes server).out ++ bytes) (sym silent.sent)
    ∙ subst (λ (es : Order). (h.lanes server).out ++ (link_at proxy.links server).output ≡ spelled (commands_to server es)) (ap (λ n. drop n h.order) (h.since server)) ((h.holds.links server).0 up).put in
    let w = worked server low in
    let sv = subst (λ (bytes : List ℕ). IsServed opening (began server) (ended server) (commands_to server h.order) bytes) (sym (h.came_is server))
    (served opening (began server) (ended server) (went server ++ codes "quit\r\n") (came server) w.0 (commands_to server h.order) good_cache w.1
    (ap (λ (bytes : List ℕ). bytes ++ codes "quit\r\n") put) good) in
    home_made ring opening texts outs h.order h.lanes proxy (began server) (ended server) server sv h.holds up (h.since server) silent.none_waits good)
    (λ above. beyond_made ring opening texts outs h.order h.lanes proxy (began server) (ended server) server h.is_ring h.holds h.rings above)
    (cases_lt server (length ring.servers)) in (
      h.order,
      λ server. map entry_of (all server).made,
      record {
        asked = asked;
        numbered = h.holds.numbered;
        rings = h.rings;
        sized = h.holds.sized;
        chosen = subst (λ (losses : Losses). All (HasChoice losses) h.order) h.losses_is h.holds.chosen;
        all_replied = replied_order h.order h.holds.sized (λ place. ap (λ (xs : List Outcome). list_all is_reply xs) (all place).of.outcomes ∙ all_replies (all place).made);
        legal = λ server. legal_made opening h.order server (all server).made (all server).of;
        commands = λ server. tags_made_of opening h.order server (all server).made (all server).of;
        replied = λ server. replied_made opening h.order server (all server).made (all server).of;
        put = λ client. (over client).put;
        clocked = λ server low. let c = (all server).clocked low in
            (c.0, c.1 ∙ ap (λ (ts : List ℕ). began server ++ (ts ++ c.0 ∷ [])) (sym (moments_same (all server).made)));
      },
    )
