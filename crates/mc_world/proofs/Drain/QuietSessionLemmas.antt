-- Sessions for which nothing can be done have nothing left to do.
use Rattle.std.proofs.Common.{◌≡◌, ◌≢◌, ◌∙◌, ℕ, ◌-◌, ◌<◌, ◌^◌, ◌==◌, Bool, true, false, ◌||◌, ◌&&◌, if◌then◌else◌, List, [], ◌∷◌, ◌++◌, length, map, Some, None, nat_le, refl, sym, ap, subst, arith}
use Rattle.std.specs.List.{list_all, list_any}
use Rattle.std.proofs.lemmas.Bool.{and_from, and_parts}
use Rattle.mc_request_reader.specs.Reader.{rest_of}
use Rattle.mc_ring.specs.Rings.{RingState}
use Rattle.mc_route.specs.Routes.{route_of_taken}
use Rattle.mc_route.specs.declared.routes.Routed.{Routed}
use Rattle.mc_link.specs.LinkState.{LinkState}
use Rattle.mc_proxy.specs.Emits.{answer_of_one, emitted, emitted_from, is_known}
use Rattle.mc_proxy.specs.Looks.{IsReady}
use Rattle.mc_proxy.specs.Sending.{is_link_marked, is_marked}
use Rattle.mc_proxy.specs.SessionState.{SessionState, link_at}
use Rattle.mc_proxy.specs.declared.session_limits.TheConstants.{LINK_MARK, MAX_UNANSWERED, UNSENT_MARK}
use Rattle.mc_proxy.specs.SessionState.{Unanswered}
use Rattle.mc_account.specs.Orders.{Order, entries_of, is_complete, unanswered_of}

-- if all requests are complete, those of one session are
pub complete_of : (session : ℕ) (order : Order) → list_all is_complete order ≡ true → list_all is_complete (entries_of session order) ≡ true
complete_of session [] complete = refl
complete_of session (e ∷ es) complete =
    let parts = and_parts (is_complete e) (list_all is_complete es) complete in
    (elim (e.session == session) as (λ v. list_all is_complete (if v then e ∷ entries_of session es else entries_of session es) ≡ true) [
      | true ↦ and_from (is_complete e) (list_all is_complete (entries_of session es)) parts.0 (complete_of session es parts.1)
      | false ↦ complete_of session es parts.1
    ])

-- the oldest of complete requests can be answered
can_answer : (session : SessionState) (u : Unanswered) (us : List Unanswered) → is_known u ≡ true → emitted_from session (u ∷ us) ≢ None
can_answer session u us known none =
    (elim (is_known u) as (λ v. v ≡ true → (if v then Some (record session { output = session.output ++ answer_of_one u; unanswered = us }) else None) ≡ None → ⊥) [
      | true ↦ λ e n. absurd cc
      | false ↦ λ e n. absurd cc
    ]) known none

-- no request is unanswered if none can be answered
pub unanswered_none : (session : SessionState) (incomplete : Order) → session.unanswered ≡ map unanswered_of incomplete → list_all is_complete incomplete ≡ true
    → (emitted session ≢ None → ⊥) → incomplete ≡ []
unanswered_none session [] unanswered complete never = refl
unanswered_none session (e ∷ es) unanswered complete never =
    absurd (never (subst (λ (us : List Unanswered). emitted_from session us ≢ None) (sym unanswered)
    (can_answer session (unanswered_of e) (map unanswered_of es) (and_parts (is_complete e) (list_all is_complete es) complete).0)))

-- a link with nothing to send has reached no mark
link_unmarked : (link : LinkState) → link.output ≡ [] → is_link_marked link ≡ false
link_unmarked link none =
    ap (λ (bytes : List ℕ). link.up && nat_le LINK_MARK (length bytes)) none ∙ (elim link.up as (λ v. (v && false) ≡ false) [ true ↦ refl | false ↦ refl ])

links_unmarked : (links : List LinkState) (commands : List Routed) → ((place : ℕ) → (link_at links place).output ≡ [])
    → list_any (λ command. is_link_marked (link_at links command.server)) commands ≡ false
links_unmarked links [] none = refl
links_unmarked links (command ∷ commands) none =
    ap (λ (v : Bool). v || list_any (λ c. is_link_marked (link_at links c.server)) commands) (link_unmarked (link_at links command.server) (none command.server))
    ∙ links_unmarked links commands none

-- a session with nothing left has reached no mark
unmarked : (session : SessionState) (links : List LinkState) (commands : List Routed) → session.unanswered ≡ [] → session.output ≡ [] → session.taken < 2 ^ 64 - 1
    → ((place : ℕ) → (link_at links place).output ≡ []) → is_marked session links commands ≡ false
unmarked session links commands no_unanswered no_output few none =
    let last : nat_le (2 ^ 64 - 1) session.taken ≡ false = search (few, arith) in
    ap (λ (us : List Unanswered). (nat_le MAX_UNANSWERED (length us) || nat_le UNSENT_MARK (length session.output) || nat_le (2 ^ 64 - 1) session.taken)
    || list_any (λ c. is_link_marked (link_at links c.server)) commands) no_unanswered
    ∙ ap (λ (bytes : List ℕ). (nat_le UNSENT_MARK (length bytes) || nat_le (2 ^ 64 - 1) session.taken) || list_any (λ c. is_link_marked (link_at links c.server)) commands) no_output
    ∙ ap (λ (v : Bool). v || list_any (λ c. is_link_marked (link_at links c.server)) commands) last
    ∙ links_unmarked links commands none

-- if no turn can be taken, no request is left
pub untaken_none : (ring : RingState) (links : List LinkState) (session : SessionState) → session.unanswered ≡ [] → session.output ≡ [] → session.taken < 2 ^ 64 - 1
    → ((place : ℕ) → (link_at links place).output ≡ []) → (IsReady ring links session → ⊥) → rest_of session.reader [] ≡ []
untaken_none ring links session no_unanswered no_output few none never =
    (elim (rest_of session.reader []) as (λ rest. rest_of session.reader [] ≡ rest → rest ≡ []) [
      | [] ↦ λ e. refl
      | what ∷ others ↦ λ e. absurd (never (record {
        what = what;
        others = others;
        first = e;
        unmarked = unmarked session links (route_of_taken ring what) no_unanswered no_output few none;
      }))
    ]) refl
