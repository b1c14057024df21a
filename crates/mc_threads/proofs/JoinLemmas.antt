-- The ends of workers' rings are brought together in sequence.
use Rattle.std.proofs.Common.{◌≡◌, ◌∙◌, inl, inr, ℕ, zero, suc, ◌<◌, ◌≤◌, ◌+◌, List, [], ◌∷◌, ◌++◌, length, map, drop, get_or, Result, Ok, Some, slice_get, sym, ap, subst, arith}
use Rattle.std.proofs.lemmas.Bool.{cases_eq}
use Rattle.rtrb.specs.Ring.{sent, received}
use Rattle.mc_cache.specs.CacheState.{opening_cache}
use Rattle.mc_server.specs.Served.{ServedRequest}
use Rattle.mc_threads.specs.Accounts.{at}
use Rattle.mc_threads.specs.Starts.{Each1, Each2, HasSettled, IsFresh}
use Rattle.mc_threads.specs.Talks.{came_from, went_to}
use Rattle.mc_threads.specs.Workers.{IsWorked, WasLet, WasRefused}
use Rattle.mc_threads.specs.declared.errors.Ended.{Ended}
use Rattle.mc_threads.specs.declared.links.Ends.{Ends}
use Rattle.mc_threads.specs.declared.start.Given.{Given}
use Rattle.mc_threads.specs.declared.worker.Bounds.{Bounds}
use Rattle.mc_threads.specs.declared.worker.Done.{Done}
use Rattle.mc_threads.proofs.AtLemmas.{at_map, at_nothing, at_push_low, at_push_own, some_at}

-- the first element of the rest after a number of them
pub first_left : {X : Type 0} (xs : List X) (k : ℕ) (x : X) (rest : List X) → drop k xs ≡ x ∷ rest → slice_get xs k ≡ Some x
first_left [] zero x rest e = absurd cc
first_left [] (suc k) x rest e = absurd cc
first_left (y ∷ ys) zero x rest e = cc
first_left (y ∷ ys) (suc k) x rest e = first_left ys k x rest e

-- the rings of one more worker have met, and its clock was kept
pub settled_push : {C : Type 0} (times : C → List ℕ) (results : List (Result (Done C) Ended)) (k : ℕ) (cs cs2 : List C) (ends : List Ends) (done : Done C) (c : C) (e : Ends)
    → length cs ≡ k → cs2 ≡ cs ++ c ∷ [] → c ≡ done.clock → slice_get results k ≡ Some (Ok done) → e ≡ get_or ends k e → k < length ends
    → received done.from ≡ sent e.to → sent done.to ≡ received e.from → ((server : ℕ) → server < k → HasSettled C times results cs ends server)
    → (server : ℕ) → server < k + 1 → HasSettled C times results cs2 ends server
settled_push {C} times results k cs cs2 ends done c e size grown own joined is inside went came all server below = elim (cases_eq server k) [
  | inl same ↦
      let here : HasSettled C times results cs2 ends k = record {
        done = done;
        ended = joined;
        clock = ap (λ (ys : List C). at (map times ys) k) grown ∙ at_push_own times cs c k size ∙ ap times own;
        went = went ∙ ap (λ (y : Ends). sent y.to) is ∙ sym (at_map (λ (y : Ends). sent y.to) ends k e inside);
        came = came ∙ ap (λ (y : Ends). received y.from) is ∙ sym (at_map (λ (y : Ends). received y.from) ends k e inside);
      } in
      subst (λ (j : ℕ). HasSettled C times results cs2 ends j) (sym same) here
  | inr differ ↦
      let under : server < k = omega (arith, below, differ) in
      let was = all server under in
      record {
        done = was.done;
        ended = was.ended;
        clock = ap (λ (ys : List C). at (map times ys) server) grown ∙ at_push_low times cs c server (omega (arith, under, size)) ∙ was.clock;
        went = was.went;
        came = was.came;
      }
]

-- what the worker of a server did, by the clocks that were given and those that it returned
pub worked_at : {C G H : Type 0} (f : H → Given C G) (times : C → List ℕ) (bounds : Bounds) (n server : ℕ) (hs : List H) (cs : List C) (h : H) (ended went came ended2 went2 came2 : List ℕ)
    → n ≤ length hs → n ≤ length cs → (f h).bounds.value ≡ bounds → h ≡ get_or hs server h → Each2 (λ x c. (f x).clock.value ≡ c) n hs cs → server < n
    → ended ≡ ended2 → went ≡ went2 → came ≡ came2
    → ((history : List ServedRequest) × IsWorked (opening_cache (f h).bounds.value.budget (f h).bounds.value.items 0) (times (f h).clock.value) ended2 went2 came2 history)
    → (history : List ServedRequest) × IsWorked (opening_cache bounds.budget bounds.items 0) (at (map times cs) server) ended went came history
worked_at {C} {G} {H} f times bounds n server hs cs h ended went came ended2 went2 came2 handles clocks same_bounds is same_clocks low e w m worked =
    let c : C = some_at cs server (omega (arith, low, clocks)) in
    let clock : (f h).clock.value ≡ get_or cs server c = ap (λ (x : H). (f x).clock.value) is ∙ same_clocks server h c low in
    let began : times (f h).clock.value ≡ at (map times cs) server = ap times clock ∙ sym (at_map times cs server c (omega (arith, low, clocks))) in
    let B : Bounds → Type 0 = λ b. IsWorked (opening_cache b.budget b.items 0) (at (map times cs) server) ended2 went2 came2 worked.0 in
    let T : List ℕ → Type 0 = λ t. IsWorked (opening_cache (f h).bounds.value.budget (f h).bounds.value.items 0) t ended2 went2 came2 worked.0 in
    (worked.0, rw (e, w, m) (subst B same_bounds (subst T began worked.1)))

-- what the gate let the worker of a server take, by the same clocks
pub let_at : {C G H : Type 0} (f : H → Given C G) (times : C → List ℕ) (lets : G → ℕ → ℕ → Type 0) (knows : G → ℕ → Type 0) (gate : G) (n server : ℕ) (hs : List H) (cs : List C) (h : H) (ended ended2 : List ℕ)
    → n ≤ length cs → h ≡ get_or hs server h → Each1 (λ i x. ((f x).gate.value ≡ gate) × ((f x).place ≡ i)) n hs → Each2 (λ x c. (f x).clock.value ≡ c) n hs cs → server < n
    → ended ≡ ended2 → WasLet (lets (f h).gate.value (f h).place) (knows (f h).gate.value (f h).place) (times (f h).clock.value) ended2
    → WasLet (lets gate server) (knows gate server) (at (map times cs) server) ended
let_at {C} {G} {H} f times lets knows gate n server hs cs h ended ended2 clocks is gates same_clocks low e was =
    let c : C = some_at cs server (omega (arith, low, clocks)) in
    let clock : (f h).clock.value ≡ get_or cs server c = ap (λ (x : H). (f x).clock.value) is ∙ same_clocks server h c low in
    let began : times (f h).clock.value ≡ at (map times cs) server = ap times clock ∙ sym (at_map times cs server c (omega (arith, low, clocks))) in
    let gated = gates server h low in
    let own : (f h).gate.value ≡ gate = ap (λ (x : H). (f x).gate.value) is ∙ gated.0 in
    let here : (f h).place ≡ server = ap (λ (x : H). (f x).place) is ∙ gated.1 in
    let A : G → Type 0 = λ v. WasLet (lets v server) (knows v server) (at (map times cs) server) ended2 in
    let B : ℕ → Type 0 = λ p. WasLet (lets (f h).gate.value p) (knows (f h).gate.value p) (at (map times cs) server) ended2 in
    let D : List ℕ → Type 0 = λ t. WasLet (lets (f h).gate.value (f h).place) (knows (f h).gate.value (f h).place) t ended2 in
    rw e (subst A own (subst B here (subst D began was)))

-- the gate refused the worker of a server
pub refused_at : {C G H : Type 0} (f : H → Given C G) (lets refuses : G → ℕ → ℕ → Type 0) (gate : G) (n server : ℕ) (hs : List H) (h : H)
    → h ≡ get_or hs server h → Each1 (λ i x. ((f x).gate.value ≡ gate) × ((f x).place ≡ i)) n hs → server < n
    → WasRefused (lets (f h).gate.value (f h).place) (refuses (f h).gate.value (f h).place) → WasRefused (lets gate server) (refuses gate server)
refused_at {C} {G} {H} f lets refuses gate n server hs h is gates low was =
    let gated = gates server h low in
    let own : (f h).gate.value ≡ gate = ap (λ (x : H). (f x).gate.value) is ∙ gated.0 in
    let here : (f h).place ≡ server = ap (λ (x : H). (f x).place) is ∙ gated.1 in
    let A : G → Type 0 = λ v. WasRefused (lets v server) (refuses v server) in
    let B : ℕ → Type 0 = λ p. WasRefused (lets (f h).gate.value p) (refuses (f h).gate.value p) in
    subst A own (subst B here was)

-- no byte was sent yet over these rings
pub fresh_ends : {H : Type 0} (ends : List Ends) (hs : List H) (n : ℕ) → length ends ≡ n → n ≤ length hs → Each2 (λ e (h : H). IsFresh e) n ends hs
    → (m : ℕ) → (went_to ends m ≡ []) × (came_from ends m ≡ [])
fresh_ends {H} ends hs n size handles fresh m = (
  at_nothing (λ (e : Ends). sent e.to) ends (λ i d low. (fresh i d (some_at hs i (omega (arith, low, size, handles))) (omega (arith, low, size))).0) m,
  at_nothing (λ (e : Ends). received e.from) ends (λ i d low. (fresh i d (some_at hs i (omega (arith, low, size, handles))) (omega (arith, low, size))).1) m,
)
