-- A course in which nothing can be done is quiet.
use Rattle.std.proofs.Common.{◌≡◌, ◌∙◌, ℕ, ◌-◌, ◌<◌, ◌^◌, ◌==◌, inl, Bool, true, false, List, [], ◌∷◌, ◌++◌, length, map, drop, Some, None, Option, slice_get, refl, sym, ap, subst, append-nil, arith}
use Rattle.std.specs.Prelude.{cond, nat_lt}
use Rattle.std.specs.List.{list_all, position_or_len}
use Rattle.std.proofs.lemmas.Bool.{and_from, lt-ltb}
use Rattle.std.proofs.lemmas.List.Sums.{position_or_len_is}
use Rattle.std.proofs.lemmas.List.{length-map}
use Rattle.mc_request.specs.Requests.{requests_of}
use Rattle.mc_request.specs.declared.parts.Parsed.{Parsed}
use Rattle.mc_reply.specs.declared.replies.Reply.{Reply as AReply}
use Rattle.mc_ring.specs.Rings.{IsRing, RingState}
use Rattle.mc_route.specs.declared.outcomes.Outcome.{Outcome}
use Rattle.mc_route.specs.declared.outcomes.Outcome.TheVariants.{Awaited, Reply}
use Rattle.mc_link.specs.LinkState.{LinkState, Waiting}
use Rattle.mc_route.specs.declared.losses.Losses.{Losses}
use Rattle.mc_cache.specs.CacheState.{CacheState, IsWithinBounds, opening_cache}
use Rattle.mc_cache_laws.proofs.GoodStepLemmas.{opening_is_good}
use Rattle.mc_server.specs.ServerState.{connection_at, output_of}
use Rattle.mc_server.specs.Turns.{waiting_of}
use Rattle.mc_proxy.specs.Emits.{is_noted}
use Rattle.mc_proxy.specs.SessionState.{SessionState, Unanswered}
use Rattle.mc_proxy.specs.ProxyState.{output_of as output_at}
use Rattle.mc_account.specs.Orders.{Order, TakenRequest, entries_of, is_complete, outcomes_to, taken_of, unanswered_of}
use Rattle.mc_account.specs.Holds.{SessionHolds, SessionHoldsAt}
use Rattle.mc_account.proofs.LaneLemmas.{complete_order, up_is_there}
use Rattle.mc_account.proofs.OpenSessions.{own_number}
use Rattle.mc_account.proofs.OrderLemmas.{passes_parts, told_whole}
use Rattle.mc_world.specs.Applies.{IsUp, is_way, lost_way}
use Rattle.mc_world.specs.Courses.{Applies}
use Rattle.mc_world.specs.CourseHolds.{CourseHolds}
use Rattle.mc_world.specs.Homes.{of_proxy, own_of}
use Rattle.mc_world.specs.Logs.{number_of, puts, takes}
use Rattle.mc_world.specs.Runs.{Call, Calls}
use Rattle.mc_world.specs.WorldState.{PoolState, SiteState, StaleState, home_of, link_of, proxy_at, proxy_of, session_of, way_by}
use Rattle.mc_world.specs.Worlds.{CourseState, taken_by, text_of, world_opened}
use Rattle.mc_world.specs.declared.events.Event.{Event}
use Rattle.mc_world.specs.declared.events.Event.TheVariants.{ClientTakes, Emit, ProxyTurn, ReplyTurn, ServerSeesEnd, ServerTurn, ToProxy, ToServer}
use Rattle.mc_world.proofs.Homes.OrderLemmas.{entries_own}
use Rattle.mc_world.proofs.Homes.OwnLemmas.{own_bytes}
use Rattle.mc_world.proofs.Log.OrderLemmas.{turns-taken}
use Rattle.mc_world.proofs.Course.RunLemmas.{course_called}
use Rattle.mc_world.proofs.Course.WorldOpeningLemmas.{course_opens}
use Rattle.mc_world.specs.Quiet.{IsQuiet, is_inner}
use Rattle.mc_world.proofs.Drain.QuietLinkLemmas.{living_none, none_left, some_at}
use Rattle.mc_world.proofs.Drain.QuietSessionLemmas.{complete_of, unanswered_none, untaken_none}

-- nothing can be done inside
abbrev pub IsStuck : PoolState → Type 0
IsStuck pool = (event : Event (List ℕ)) → is_inner event ≡ true → Applies event pool → ⊥

-- a client whose requests are all answered can have more of them taken
abbrev pub IsFew : CourseState → Type 0
IsFew c = (client : ℕ) → number_of (takes client) c.log ≡ number_of (puts client) c.log → number_of (takes client) c.log < 2 ^ 64 - 1

-- the bytes of a link that is up, and of its server's connection
going_none : (pool : PoolState) (proxy place : ℕ) (site : SiteState) → IsStuck pool → slice_get pool.sites place ≡ Some site → IsUp proxy place pool → (link_of pool proxy place).output ≡ []
going_none pool proxy place site stuck at up =
    none_left (link_of pool proxy place).output
    (λ can. stuck (ToServer proxy place (way_by site proxy).generation 1) refl (inl (record { site = site; at = at; is = refl; up = up }, (up, can))))

coming_none : (pool : PoolState) (proxy place : ℕ) (site : SiteState) → IsStuck pool → slice_get pool.sites place ≡ Some site → IsUp proxy place pool
    → output_of (connection_at site.server (way_by site proxy).connection) ≡ []
coming_none pool proxy place site stuck at up =
    none_left (output_of (connection_at site.server (way_by site proxy).connection))
    (λ can. stuck (ToProxy proxy place 1) refl (record { site = site; at = at; up = up; moves = can }))

unserved : (pool : PoolState) (proxy place : ℕ) (site : SiteState) → IsStuck pool → slice_get pool.sites place ≡ Some site → IsUp proxy place pool
    → 0 < length (waiting_of (connection_at site.server (way_by site proxy).connection)) → ⊥
unserved pool proxy place site stuck at up some =
    stuck (ServerTurn proxy place (way_by site proxy).generation 0) refl
    (omega arith, inl (record { site = site; at = at; is = refl; up = up }, record { site = site; at = at; up = up; waits = some }))

-- what holds of a link on which nothing can be done
record LinkIsQuiet (link : LinkState) : Type 0 where
  pub waiting : link.waiting ≡ []
  pub output : link.output ≡ []

link_quiet : (ring : RingState) (opening : CacheState) (c : CourseState) → CourseHolds ring opening c → IsStuck c.pool → (proxy place : ℕ) → LinkIsQuiet (link_of c.pool proxy place)
link_quiet ring opening c h stuck proxy place =
    (elim (link_of c.pool proxy place).up as (λ v. (link_of c.pool proxy place).up ≡ v → LinkIsQuiet (link_of c.pool proxy place)) [
      | true ↦ λ up.
          let inside = up_is_there place (proxy_at c.pool proxy).links up in
          let sited = h.log.servers.sited proxy in
          let there = some_at c.pool.sites place (omega (arith, inside, sited)) in
          let no_output = going_none c.pool proxy place there.0 stuck there.1 up in
          record {
            waiting = living_none (home_of c.pool) proxy place h.order (λ p. h.lanes p place) (λ p. link_of c.pool p place) opening there.0 up (h.pool.sites place there.0 there.1)
                (((h.pool.proxies proxy).links place).0 up) no_output (coming_none c.pool proxy place there.0 stuck there.1 up) (unserved c.pool proxy place there.0 stuck there.1 up)
                (λ tag reply after takes. stuck (ReplyTurn proxy place) refl (up, record { tag = tag; reply = reply; after = after; takes = takes }));
            output = no_output;
          }
      | false ↦ λ down.
          let nothing = (((h.pool.proxies proxy).links place).1 (λ up. let clash : false ≡ true = sym down ∙ up in absurd cc)).nothing in
          record { waiting = ap (λ (l : LinkState). l.waiting) nothing; output = ap (λ (l : LinkState). l.output) nothing }
    ]) refl

-- replies are known outcomes; and so are all outcomes of a link on which nothing can be done
replied_told : (replies : List (AReply (List ℕ))) → list_all is_noted (map (λ reply. Reply reply) replies) ≡ true
replied_told [] = refl
replied_told (r ∷ rs) = replied_told rs

told_at : (ring : RingState) (opening : CacheState) (c : CourseState) → (h : CourseHolds ring opening c) → IsStuck c.pool → (proxy place : ℕ)
    → list_all is_noted (outcomes_to place (of_proxy (home_of c.pool) proxy h.order)) ≡ true
told_at ring opening c h stuck proxy place =
    let own = of_proxy (home_of c.pool) proxy h.order in
    let lane = h.lanes proxy place in
    (elim (link_of c.pool proxy place).up as (λ v. (link_of c.pool proxy place).up ≡ v → list_all is_noted (outcomes_to place own) ≡ true) [
      | true ↦ λ up.
          let holds = ((h.pool.proxies proxy).links place).0 up in
          let waiting = (link_quiet ring opening c h stuck proxy place).waiting in
          let since : outcomes_to place (drop lane.since own) ≡ map (λ reply. Reply reply) lane.replies =
          holds.outcomes ∙ ap (λ (ws : List Waiting). map (λ reply. Reply reply) lane.replies ++ map (λ _. Awaited) ws) waiting
          ∙ append-nil (map (λ reply. Reply reply) lane.replies) in
          told_whole place lane.since own holds.before (ap (λ (xs : List Outcome). list_all is_noted xs) since ∙ replied_told lane.replies)
      | false ↦ λ down. (((h.pool.proxies proxy).links place).1 (λ up. let clash : false ≡ true = sym down ∙ up in absurd cc)).outcomes
    ]) refl

-- a session for which nothing can be done
record SessionIsQuiet (c : CourseState) (client : ℕ) (session : SessionState) : Type 0 where
  pub output : session.output ≡ []
  pub answered : number_of (puts client) c.log ≡ length (requests_of (text_of c client))

session_quiet : (ring : RingState) (opening : CacheState) (c : CourseState) → CourseHolds ring opening c → IsStuck c.pool → IsFew c
    → (client : ℕ) (session : SessionState) → session_of c.pool client ≡ Some session → SessionIsQuiet c client session
session_quiet ring opening c h stuck few client session at =
    let proxy = home_of c.pool client in
    let own = of_proxy (home_of c.pool) proxy h.order in
    let text = own_of (home_of c.pool) proxy (text_of c) client in
    let holds = h.pool.proxies proxy in
    let s : SessionHolds client own text (own_of (home_of c.pool) proxy (taken_by c) client) session =
    subst (λ (o : Option SessionState). SessionHoldsAt client own text (own_of (home_of c.pool) proxy (taken_by c) client) o) at (holds.sessions client) in
    let all_own : entries_of client own ≡ entries_of client h.order = entries_own (home_of c.pool) proxy client h.order refl in
    let text_is : text ≡ text_of c client = own_bytes (home_of c.pool) proxy (text_of c) client refl in
    let complete = complete_order own holds.sized (told_at ring opening c h stuck proxy) in
    let later = (passes_parts is_complete s.done s.incomplete (ap (λ (es : Order). list_all is_complete es) (sym s.split) ∙ complete_of client own complete)).1 in
    let none = unanswered_none session s.incomplete s.unanswered later (λ some. stuck (Emit client) refl (session, at, some)) in
    let no_unanswered : session.unanswered ≡ [] = s.unanswered ∙ ap (λ (es : Order). map unanswered_of es) none in
    let no_output : session.output ≡ [] = none_left session.output
    (λ can. stuck (ClientTakes client 1) refl (subst (λ (o : Option SessionState). (0 < 1) × (0 < length (output_at o))) (sym at) can)) in
    let counted = turns-taken h.order c.log h.log.requests.turns client in
    let numbered : session.taken ≡ length (entries_of client h.order) = s.taken ∙ ap (λ (es : Order). length es) all_own in
    let put : session.taken - length session.unanswered ≡ number_of (puts client) c.log = h.log.answers.unanswered client session at in
    let zero_left : length session.unanswered ≡ 0 = ap (λ (us : List Unanswered). length us) no_unanswered in
    let below = few client (omega (arith, counted, numbered, put, zero_left)) in
    let untaken = untaken_none (proxy_of c.pool client).ring (proxy_of c.pool client).links session no_unanswered no_output (omega (arith, counted, numbered, below))
    (λ place. (link_quiet ring opening c h stuck proxy place).output) (λ ready. stuck (ProxyTurn client) refl (session, at, ready)) in
    let whole : taken_of client own ≡ requests_of (text_of c client) =
    sym (append-nil (taken_of client own)) ∙ ap (λ (ts : List Parsed). taken_of client own ++ ts) (sym untaken) ∙ s.rest []
    ∙ ap (λ (bytes : List ℕ). requests_of bytes) (append-nil text ∙ text_is) in
    let size : length (taken_of client own) ≡ length (entries_of client h.order) =
    length-map (entries_of client own) (λ (e : TakenRequest). e.what) ∙ ap (λ (es : Order). length es) all_own in
    let all : length (taken_of client own) ≡ length (requests_of (text_of c client)) = ap (λ (ts : List Parsed). length ts) whole in
    record { output = no_output; answered = omega (arith, put, zero_left, numbered, size, all) }

-- the first of some lost generations is the first of its proxy and number
pub first_of_way : (way : StaleState) (ways : List StaleState) → lost_way way.proxy way.generation (way ∷ ways) ≡ Some 0
first_of_way way ways =
    let own : is_way way.proxy way.generation way ≡ true = and_from (way.proxy == way.proxy) (way.generation == way.generation) (own_number way.proxy) (own_number way.generation) in
    let zeroth : position_or_len (is_way way.proxy way.generation) (way ∷ ways) ≡ 0 =
    position_or_len_is (is_way way.proxy way.generation) (way ∷ ways) 0 way (omega arith) (λ k below. absurd (omega (arith, below))) (λ inside. own) in
    ap (λ (n : ℕ). cond (nat_lt n (length (way ∷ ways))) (Some n) None) zeroth
    ∙ ap (λ (v : Bool). cond v (Some 0) None) (lt-ltb 0 (length (way ∷ ways)) (omega arith))

-- each end of a lost generation was seen
lost_none : (pool : PoolState) (place : ℕ) (site : SiteState) → IsStuck pool → slice_get pool.sites place ≡ Some site → site.lost ≡ []
lost_none pool place site stuck at =
    (elim site.lost as (λ ways. site.lost ≡ ways → ways ≡ []) [
      | [] ↦ λ e. refl
      | way ∷ ways ↦ λ e.
          absurd (stuck (ServerSeesEnd way.proxy place way.generation) refl (record {
            site = site;
            at = at;
            i = 0;
            first = ap (λ (ws : List StaleState). lost_way way.proxy way.generation ws) e ∙ first_of_way way ways;
            way = way;
            way_at = ap (λ (ws : List StaleState). slice_get ws 0) e;
          }))
    ]) refl

pub course_quiet : (ring : RingState) (opening : CacheState) (c : CourseState) → CourseHolds ring opening c → IsFew c → IsStuck c.pool → IsQuiet c
course_quiet ring opening c h few stuck = record {
  answered = λ client there.
      (elim (session_of c.pool client) as (λ o. session_of c.pool client ≡ o → number_of (puts client) c.log ≡ length (requests_of (text_of c client))) [
        | None ↦ λ at. absurd (there at)
        | Some session ↦ λ at. (session_quiet ring opening c h stuck few client session at).answered
      ]) refl;
  taken = λ client. none_left (output_at (session_of c.pool client)) (λ can. stuck (ClientTakes client 1) refl can);
  waiting = λ proxy place. (link_quiet ring opening c h stuck proxy place).waiting;
  going = λ proxy place. (link_quiet ring opening c h stuck proxy place).output;
  coming = λ proxy place site at up. coming_none c.pool proxy place site stuck at up;
  lost = λ place site at. lost_none c.pool place site stuck at;
}

-- this holds of each course that calls lead to
pub calls_quiet : (losses : Losses) (ring : RingState) (clients : List ℕ) (budget items : ℕ) (calls : List Call) (c : CourseState) → IsRing ring → IsWithinBounds budget items
    → Calls (opening_cache budget items 0) calls (world_opened losses ring clients budget items).course c
    → ((client : ℕ) → number_of (takes client) c.log < 2 ^ 64 - 1) → IsStuck c.pool → IsQuiet c
calls_quiet losses ring clients budget items calls c is_ring bounds run few stuck =
    course_quiet ring (opening_cache budget items 0) c
    (course_called ring (opening_cache budget items 0) calls (world_opened losses ring clients budget items).course c
    (opening_is_good budget items 0 bounds.some_items (omega arith))
    (course_opens losses ring clients budget items is_ring bounds.some_items) run) (λ client _. few client) stuck
