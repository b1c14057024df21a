-- What a turn does, by what its steps did.
use Rattle.std.proofs.Common.{◌≡◌, ◌∙◌, ℕ, zero, suc, ◌+◌, ◌<◌, ◌≤◌, ◌==◌, inl, inr, Bool, true, false, not, ◌&&◌, ◌||◌, List, [], ◌∷◌, length, Result, Ok, Err, OnErr, refl, sym, ap, subst, arith}
use Rattle.std.specs.List.{list_any}
use Rattle.std.specs.Prelude.{◌↔◌, IsTrue}
use Rattle.std.proofs.lemmas.Bool.{cases_lt}
use Rattle.std.proofs.lemmas.Bool.Decides.{nat_tests}
use Rattle.mc_request.specs.declared.parts.Parsed.{Parsed}
use Rattle.mc_request_reader.specs.declared.peeks.Front.{Front}
use Rattle.mc_request_reader.specs.Peeks.{Shows, past}
use Rattle.mc_request_reader.specs.Reader.{rest_of}
use Rattle.mc_request_reader.proofs.ReaderLemmas.{shown_waits}
use Rattle.mc_ring.specs.Rings.{RingState}
use Rattle.mc_route.specs.Looks.{goes_to}
use Rattle.mc_route.specs.Routes.{route_of_taken}
use Rattle.mc_route.specs.declared.routes.Routed.{Routed}
use Rattle.mc_link.specs.LinkState.{LinkState}
use Rattle.mc_proxy.specs.SessionState.{SessionState, link_at}
use Rattle.mc_proxy.specs.Sending.{is_link_marked, is_marked, is_session_marked}
use Rattle.mc_proxy.specs.Held.{next_commands}
use Rattle.mc_proxy.specs.Looks.{IsReady, waits_for}
use Rattle.mc_proxy.specs.SessionTurns.{IsHeldUp}

-- whether a link that one of the commands needs has reached its mark
abbrev pub any_marked : List LinkState → List Routed → Bool
any_marked links commands = list_any (λ command. is_link_marked (link_at links command.server)) commands

-- whether one of them is for the link at a place, and that link has reached its mark
abbrev pub is_marked_for : List LinkState → List Routed → ℕ → Bool
is_marked_for links commands place = is_link_marked (link_at links place) && goes_to place commands

-- no place before this one has such a link
abbrev pub NoneBefore : List LinkState → List Routed → ℕ → Type 0
NoneBefore links commands place = (p : ℕ) → p < place → is_marked_for links commands p ≡ false

pub none_before_next : (links : List LinkState) (commands : List Routed) (place : ℕ) → NoneBefore links commands place
    → is_marked_for links commands place ≡ false → NoneBefore links commands (place + 1)
none_before_next links commands place before here p below = elim (cases_lt p place) [
  | inl earlier ↦ before p earlier
  | inr late ↦ let same : place ≡ p = omega (arith, below, late) in subst (λ (n : ℕ). is_marked_for links commands n ≡ false) same here
]

and_first : (a b : Bool) → (a && b) ≡ true → a ≡ true
and_first true b holds = refl
and_first false b holds = holds

and_second : (a b : Bool) → (a && b) ≡ true → b ≡ true
and_second true b holds = holds
and_second false b holds = absurd cc

-- one of two ways holds
any_first : (server place : ℕ) (marked others after : Bool) → (server ≡ place → marked ≡ true) → (others ≡ true → after ≡ true)
    → ((server == place) || others) ≡ true → (marked || after) ≡ true
any_first server place marked others after own again goes = grind (arith, nat_tests, own, again, goes)

-- a link that has reached its mark, and that one of the commands is for, is one that they need
marked_by : (links : List LinkState) (place : ℕ) (commands : List Routed) → is_link_marked (link_at links place) ≡ true
    → goes_to place commands ≡ true → any_marked links commands ≡ true
marked_by links place [] marked goes = absurd cc
marked_by links place (command ∷ commands) marked goes =
    let again : goes_to place commands ≡ true → any_marked links commands ≡ true = marked_by links place commands marked in
    let own : command.server ≡ place → is_link_marked (link_at links command.server) ≡ true =
    λ same. subst (λ (n : ℕ). is_link_marked (link_at links n) ≡ true) (sym same) marked in
    any_first (command.server) place (is_link_marked (link_at links command.server)) (goes_to place commands) (any_marked links commands) own again goes

pub marked_at : (links : List LinkState) (place : ℕ) (commands : List Routed) → is_marked_for links commands place ≡ true → any_marked links commands ≡ true
marked_at links place commands holds =
    marked_by links place commands (and_first (is_link_marked (link_at links place)) (goes_to place commands) holds)
    (and_second (is_link_marked (link_at links place)) (goes_to place commands) holds)

-- without a link, none has reached its mark
link_past : (links : List LinkState) (place : ℕ) → length links ≤ place → is_link_marked (link_at links place) ≡ false
link_past [] place past = refl
link_past (link ∷ links) zero past = absurd (omega arith)
link_past (link ∷ links) (suc place) past = link_past links place (omega arith)

not_first : (marked here others : Bool) → here ≡ true → (marked && (here || others)) ≡ false → marked ≡ false
not_first true true others is none = none
not_first true false others is none = absurd cc
not_first false here others is none = refl

not_others : (marked here others : Bool) → (marked && (here || others)) ≡ false → (marked && others) ≡ false
not_others true true others none = absurd cc
not_others true false others none = none
not_others false here others none = refl

-- if no place has such a link, no link that the commands need has reached its mark
pub none_marked : (links : List LinkState) (commands : List Routed) → NoneBefore links commands (length links) → any_marked links commands ≡ false
none_marked links [] none = refl
none_marked links (command ∷ commands) none =
    let own : (command.server == command.server) ≡ true = grind (arith, nat_tests) in
    let here : is_link_marked (link_at links command.server) ≡ false = elim (cases_lt command.server (length links)) [
      | inl inside ↦ not_first (is_link_marked (link_at links command.server)) (command.server == command.server) (goes_to command.server commands) own (none command.server inside)
      | inr past ↦ link_past links command.server past
    ] in
    let others : any_marked links commands ≡ false = none_marked links commands
    (λ p below. not_others (is_link_marked (link_at links p)) (command.server == p) (goes_to p commands) (none p below)) in
    rw (here, others) refl

-- a request must wait for a mark of its session's own, or for that of a link that it needs
pub marked_by_parts : (ring : RingState) (links : List LinkState) (session : SessionState) (what : Parsed) (own result : Bool) → own ≡ is_session_marked session
    → result ≡ (own || any_marked links (route_of_taken ring what)) → result ≡ is_marked session links (route_of_taken ring what)
marked_by_parts ring links session what own result own_is is = is ∙ ap (λ (b : Bool). b || any_marked links (route_of_taken ring what)) own_is

-- a mark is reached
pub held : (ring : RingState) (links : List LinkState) (session : SessionState) (what : Parsed) (front : Front) → Shows session.reader what front
    → is_marked session links (route_of_taken ring what) ≡ true → IsHeldUp ring links session
held ring links session what front shows marked = record {
  what = what;
  others = rest_of (past front session.reader) [];
  first = shown_waits session.reader what front shows;
  marked = marked;
}

-- no mark is reached, neither of the session nor of a link that the request needs
pub unheld : (ring : RingState) (links : List LinkState) (session : SessionState) (what : Parsed) (front : Front) → Shows session.reader what front
    → is_marked session links (route_of_taken ring what) ≡ false → IsReady ring links session
unheld ring links session what front shows unmarked = record {
  what = what;
  others = rest_of (past front session.reader) [];
  first = shown_waits session.reader what front shows;
  unmarked = unmarked;
}

-- no mark is reached
pub ready : (ring : RingState) (links : List LinkState) (session : SessionState) (what : Parsed) (front : Front) → Shows session.reader what front
    → is_session_marked session ≡ false → any_marked links (route_of_taken ring what) ≡ false → IsReady ring links session
ready ring links session what front shows own others = record {
  what = what;
  others = rest_of (past front session.reader) [];
  first = shown_waits session.reader what front shows;
  unmarked = rw own others;
}

-- a request that is ready is the one that is shown
or_none : (a b : Bool) → (a || b) ≡ false → (a ≡ false) × (b ≡ false)
or_none false false none = (refl, refl)
or_none false true none = absurd cc
or_none true b none = absurd cc

ready_unmarked : (ring : RingState) (links : List LinkState) (session : SessionState) (what : Parsed) (front : Front) → Shows session.reader what front
    → IsReady ring links session → (is_session_marked session ≡ false) × (any_marked links (route_of_taken ring what) ≡ false)
ready_unmarked ring links session what front shows is =
    let same : is.what ∷ is.others ≡ what ∷ rest_of (past front session.reader) [] = sym is.first ∙ shown_waits session.reader what front shows in
    let one : is.what ≡ what = cc in
    or_none (is_session_marked session) (any_marked links (route_of_taken ring what))
    (subst (λ (w : Parsed). is_marked session links (route_of_taken ring w) ≡ false) one is.unmarked)

pub ready_if : (ring : RingState) (links : List LinkState) (session : SessionState) (what : Parsed) (front : Front) → Shows session.reader what front
    → (own others : Bool) → own ≡ is_session_marked session → others ≡ any_marked links (route_of_taken ring what)
    → IsTrue (not own && not others) ↔ IsReady ring links session
ready_if ring links session what front shows false false own others =
    (λ _. ready ring links session what front shows (sym own) (sym others), λ _. refl)
ready_if ring links session what front shows false true own others = (
  λ never. absurd cc,
  λ is. let unmarked = (ready_unmarked ring links session what front shows is).1 in let clash : true ≡ false = others ∙ unmarked in absurd cc,
)
ready_if ring links session what front shows true others_is own others = (
  λ never. absurd cc,
  λ is. let unmarked = (ready_unmarked ring links session what front shows is).0 in let clash : true ≡ false = own ∙ unmarked in absurd cc,
)

-- what holds in any case holds at an error
pub at_error : {T E P : Type 0} (r : Result T E) → P → OnErr r P
at_error (Ok x) holds = tt
at_error (Err e) holds = holds

-- what a look at the first request says of a server
pub waits_by : (ring : RingState) (place : ℕ) (waiting now : List Parsed) (b : Bool) → waiting ≡ now → b ≡ waits_for ring place now → b ≡ waits_for ring place waiting
waits_by ring place waiting now b is told = rw is told

-- what a look at the first request says of its commands
pub counted_by : (ring : RingState) (waiting now : List Parsed) (count : ℕ) → waiting ≡ now → count ≡ next_commands ring now → count ≡ next_commands ring waiting
counted_by ring waiting now count is told = rw is told
