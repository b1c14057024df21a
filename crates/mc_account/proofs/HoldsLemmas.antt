-- A proxy holds after each call of a session: one lemma for each.
use Rattle.std.proofs.Common.{◌≡◌, ◌≢◌, ◌∙◌, ⊎_elim, ℕ, ◌<◌, Bool, true, if◌then◌else◌, List, [], ◌∷◌, ◌++◌, map, take, drop, Option, Some, None, refl, sym, ap, subst, arith}
use Rattle.std.specs.Prelude.{All}
use Rattle.std.specs.List.{list_all}
use Rattle.std.proofs.lemmas.Bool.Decides.{eqb_tells, leb_tells}
use Rattle.std.proofs.lemmas.List.{append-nil, length-map}
use Rattle.std.proofs.lemmas.List.Elements.{All-push}
use Rattle.std.proofs.Math.Seq.{take-nil}
use Rattle.mc_ring.specs.Rings.{RingState}
use Rattle.mc_route.specs.Routes.{route_of_taken}
use Rattle.mc_route.specs.declared.losses.Losses.{Losses}
use Rattle.mc_link.specs.LinkState.{LinkState}
use Rattle.mc_proxy.specs.Emits.{IsEmit}
use Rattle.mc_proxy.specs.Sending.{at_once}
use Rattle.mc_proxy.specs.SessionState.{SessionState, fresh_session, link_at}
use Rattle.mc_proxy.specs.SessionTurns.{IsFed, IsTurn, IsUnchanged}
use Rattle.mc_proxy.specs.declared.session_turns.Emit.TheVariants as emits
use Rattle.mc_proxy.specs.declared.session_turns.SessionTurn.{SessionTurn}
use Rattle.mc_proxy.specs.declared.session_turns.SessionTurn.TheVariants as turns
use Rattle.mc_proxy.specs.ProxyState.{ProxyState, Sessions, output_of, sent_by, session_at, session_in, updated, with_fresh, without}
use Rattle.mc_proxy.specs.Turns.{Alone, Steps}
use Rattle.mc_account.specs.Lanes.{Lane, LinkHolds}
use Rattle.mc_account.specs.Orders.{AreInOrder, TakenRequest, IsSized, Order, entries_of, is_complete, HasChoice}
use Rattle.mc_account.specs.Holds.{ProxyHolds, SessionHolds, SessionHoldsAt, changed, grown}
use Rattle.mc_account.proofs.OpenSessions.{at_each, fresh_other, fresh_own, other_number, own_number, updated_other, without_other}
use Rattle.mc_account.proofs.OrderLemmas.{entries_push_other, entries_push_own, in_order_push}
use Rattle.mc_account.proofs.HandingLemmas.{link_taken}
use Rattle.mc_account.proofs.LaneLemmas.{nothing_waits, complete_order}
use Rattle.mc_account.proofs.SessionLemmas.{session_emitted, session_fed, session_fresh, session_left, session_same, session_sent, session_took}

-- a changed function at its own place, and at another
pub changed-own : {T : Type 0} (place : ℕ) (now : T) (old : ℕ → T) → changed place now old place ≡ now
changed-own place now old = ap (λ (v : Bool). if v then now else old place) (own_number place)

pub changed-other : {T : Type 0} (place other : ℕ) (now : T) (old : ℕ → T) → place ≢ other → changed place now old other ≡ old other
changed-other place other now old differ = ap (λ (v : Bool). if v then now else old other) (other_number place other differ)

grown-nothing : (number other count : ℕ) (bytes : ℕ → List ℕ) → grown number (take count []) bytes other ≡ bytes other
grown-nothing number other count bytes =
    ⊎_elim
    (λ e. subst (λ (n : ℕ). grown number (take count []) bytes n ≡ bytes n) e.1
    (changed-own number (bytes number ++ take count []) bytes ∙ ap (λ (more : List ℕ). bytes number ++ more) (take-nil count) ∙ append-nil (bytes number)))
    (λ e. changed-other number other (bytes number ++ take count []) bytes e.1)
    (eqb_tells number other)

-- the state of an open session of a proxy
pub stood : (texts sent : ℕ → List ℕ) (order : Order) (lanes : ℕ → Lane) (proxy : ProxyState) (number : ℕ) (session : SessionState)
    → ProxyHolds texts sent order lanes proxy → session_at proxy number ≡ Some session → SessionHolds number order (texts number) (sent number) session
stood texts sent order lanes proxy number session h was =
    subst (λ (s : Option SessionState). SessionHoldsAt number order (texts number) (sent number) s) was (h.sessions number)

-- the number of an open session was given
given : (texts sent : ℕ → List ℕ) (order : Order) (lanes : ℕ → Lane) (proxy : ProxyState) (number : ℕ) (session : SessionState)
    → ProxyHolds texts sent order lanes proxy → session_at proxy number ≡ Some session → number < proxy.admitted
given texts sent order lanes proxy number session h was =
    ⊎_elim (λ above. let clash : Some session ≡ None = sym was ∙ (h.unused number above.1).not_open in absurd cc)
    (λ below. below.1)
    (leb_tells proxy.admitted number)

-- a session takes a step, and what holds of all others stays
stepped : (texts texts' sent sent' : ℕ → List ℕ) (order longer : Order) (lanes : ℕ → Lane) (number : ℕ) (before after : SessionState) (old new : ProxyState)
    → session_at old number ≡ Some before → new.sessions ≡ updated number after old.sessions → new.admitted ≡ old.admitted → new.losses ≡ old.losses
    → SessionHolds number longer (texts' number) (sent' number) after
    → ((m : ℕ) → number ≢ m → texts' m ≡ texts m) → ((m : ℕ) → number ≢ m → sent' m ≡ sent m) → ((m : ℕ) → number ≢ m → entries_of m longer ≡ entries_of m order)
    → All IsSized longer → All (HasChoice old.losses) longer → ((m : ℕ) → AreInOrder (entries_of m longer)) → ((place : ℕ) → LinkHolds place longer (lanes place) (link_at new.links place))
    → ProxyHolds texts sent order lanes old → ProxyHolds texts' sent' longer lanes new
stepped texts texts' sent sent' order longer lanes number before after old new was is admitted losses own text_is sent_is same sized chosen numbered links h = record {
  sized = sized;
  chosen = subst (λ (l : Losses). All (HasChoice l) longer) (sym losses) chosen;
  numbered = numbered;
  sessions = at_each number before after old.sessions new.sessions was is (λ m s. SessionHoldsAt m longer (texts' m) (sent' m) s) own
      (λ m differ. session_same m order longer (texts m) (texts' m) (sent m) (sent' m) (session_at old m) (same m differ) (text_is m differ) (sent_is m differ) (h.sessions m));
  unused = λ m above.
      let in_use = given texts sent order lanes old number before h was in
      let differ : number ≢ m = λ e. omega (arith, in_use, above, admitted, e) in
      let u = h.unused m (omega (arith, above, admitted)) in
      record {
        not_open = ap (λ (open_ones : Sessions). session_in open_ones m) is ∙ updated_other number m after old.sessions differ ∙ u.not_open;
        nothing_came = text_is m differ ∙ u.nothing_came;
        nothing_taken = same m differ ∙ u.nothing_taken;
        nothing_sent = sent_is m differ ∙ u.nothing_sent;
      };
  links = links;
}

-- the links, if they are the same
same_links : (texts sent : ℕ → List ℕ) (order : Order) (lanes : ℕ → Lane) (old new : ProxyState) → new.links ≡ old.links → ProxyHolds texts sent order lanes old
    → (place : ℕ) → LinkHolds place order (lanes place) (link_at new.links place)
same_links texts sent order lanes old new is h place = subst (λ (links : List LinkState). LinkHolds place order (lanes place) (link_at links place)) (sym is) (h.links place)

-- a session takes a step of its own: nothing else is involved
alone : (texts texts' : ℕ → List ℕ) (sent : ℕ → List ℕ) (order : Order) (lanes : ℕ → Lane) (number : ℕ) (before after : SessionState) (old new : ProxyState)
    → session_at old number ≡ Some before → new.sessions ≡ updated number after old.sessions → new.admitted ≡ old.admitted → new.losses ≡ old.losses → new.links ≡ old.links
    → ((m : ℕ) → number ≢ m → texts' m ≡ texts m)
    → SessionHolds number order (texts' number) (sent number) after → ProxyHolds texts sent order lanes old → ProxyHolds texts' sent order lanes new
alone texts texts' sent order lanes number before after old new was is admitted losses links text_is own h =
    stepped texts texts' sent sent order order lanes number before after old new was is admitted losses own
    text_is (λ _ _. refl) (λ _ _. refl) h.sized h.chosen h.numbered (same_links texts sent order lanes old new links h) h

-- `admit`: the next number is open, and nothing else has changed
pub holds-admitted : (texts sent : ℕ → List ℕ) (order : Order) (lanes : ℕ → Lane) (old : ProxyState)
    → ProxyHolds texts sent order lanes old → session_at old old.admitted ≡ None → ProxyHolds texts sent order lanes (with_fresh old)
holds-admitted texts sent order lanes old h none =
    let u = h.unused old.admitted (omega arith) in
    let here : session_at (with_fresh old) old.admitted ≡ Some fresh_session = fresh_own old.admitted fresh_session old.sessions none in
    let fresh : SessionHolds old.admitted order [] [] fresh_session = session_fresh old.admitted order u.nothing_taken in
    let holds : SessionHolds old.admitted order (texts old.admitted) (sent old.admitted) fresh_session = rw (u.nothing_came, u.nothing_sent) fresh in
    record {
      sized = h.sized;
      chosen = h.chosen;
      numbered = h.numbered;
      sessions = λ m. ⊎_elim
          (λ e. subst (λ (n : ℕ). SessionHoldsAt n order (texts n) (sent n) (session_at (with_fresh old) n)) e.1
          (subst (λ (s : Option SessionState). SessionHoldsAt old.admitted order (texts old.admitted) (sent old.admitted) s) (sym here) holds))
          (λ e. subst (λ (s : Option SessionState). SessionHoldsAt m order (texts m) (sent m) s) (sym (fresh_other old.admitted m fresh_session old.sessions e.1)) (h.sessions m))
          (eqb_tells old.admitted m);
      unused = λ m above.
          let differ : old.admitted ≢ m = λ e. omega (arith, above, e) in
          let v = h.unused m (omega (arith, above)) in
          record {
            not_open = fresh_other old.admitted m fresh_session old.sessions differ ∙ v.not_open;
            nothing_came = v.nothing_came;
            nothing_taken = v.nothing_taken;
            nothing_sent = v.nothing_sent;
          };
      links = h.links;
    }

-- `feed`: the session's text grows by the piece
pub holds-fed : (texts sent : ℕ → List ℕ) (order : Order) (lanes : ℕ → Lane) (number : ℕ) (piece : List ℕ) (old new : ProxyState)
    → ProxyHolds texts sent order lanes old → Steps number old new (Alone (IsFed piece)) → ProxyHolds (grown number piece texts) sent order lanes new
holds-fed texts sent order lanes number piece old new h steps =
    let own = session_fed number order (texts number) (sent number) piece steps.before steps.after (stood texts sent order lanes old number steps.before h steps.was) steps.step.1 in
    alone texts (grown number piece texts) sent order lanes number steps.before steps.after old new steps.was steps.is steps.admitted steps.losses steps.step.0
    (λ m differ. changed-other number m (texts number ++ piece) texts differ)
    (subst (λ (text : List ℕ). SessionHolds number order text (sent number) steps.after) (sym (changed-own number (texts number ++ piece) texts)) own) h

-- `turn` that took a request: the order has one entry more
abbrev pub entry_taken : {number : ℕ} {old new : ProxyState} → Steps number old new (IsTurn number turns.Took old.ring old.losses) → TakenRequest
entry_taken {number = number} {old = old} steps = record {
  session = number;
  request = steps.before.taken;
  what = steps.step.0;
  ring = old.ring;
  losses = old.losses;
  outcomes = map (at_once old.links) (route_of_taken old.ring steps.step.0);
}

pub holds-took : (texts sent : ℕ → List ℕ) (order : Order) (lanes : ℕ → Lane) (number : ℕ) (old new : ProxyState)
    → ProxyHolds texts sent order lanes old → (steps : Steps number old new (IsTurn number turns.Took old.ring old.losses))
    → ProxyHolds texts sent (order ++ entry_taken steps ∷ []) lanes new
holds-took texts sent order lanes number old new h steps =
    let was = stood texts sent order lanes old number steps.before h steps.was in
    let sized : IsSized (entry_taken steps) = length-map (route_of_taken old.ring steps.step.0) (at_once old.links) in
    stepped texts texts sent sent order (order ++ entry_taken steps ∷ []) lanes number steps.before steps.after old new steps.was steps.is steps.admitted steps.losses
    (session_took number order (texts number) (sent number) old.ring old.losses old.links new.links steps.before steps.after steps.step.0 was steps.step.1)
    (λ _ _. refl) (λ _ _. refl) (λ m differ. entries_push_other m order (entry_taken steps) differ)
    (All-push IsSized order (entry_taken steps) h.sized sized) (All-push (HasChoice old.losses) order (entry_taken steps) h.chosen refl)
    (λ m. ⊎_elim
    (λ same. subst (λ (n : ℕ). AreInOrder (entries_of n (order ++ entry_taken steps ∷ []))) same.1
    (subst (λ (es : Order). AreInOrder es) (sym (entries_push_own number order (entry_taken steps) refl)) (in_order_push (entries_of number order) (entry_taken steps) (h.numbered number) was.taken)))
    (λ other. subst (λ (es : Order). AreInOrder es) (sym (entries_push_other m order (entry_taken steps) other.1)) (h.numbered m))
    (eqb_tells number m))
    (λ place. link_taken place number steps.before.taken order (entry_taken steps) (lanes place) old.links new.links refl refl refl steps.step.1.sent (h.links place))
    h

-- a turn that took nothing
unchanged : (number : ℕ) (turn : SessionTurn) (ring : RingState) (losses : Losses) (links now : List LinkState) (before after : SessionState)
    → turn ≢ turns.Took
    → IsTurn number turn ring losses links now before after → IsUnchanged links now before after
unchanged number turns.Took ring losses links now before after differ step = absurd (differ refl)
unchanged number turns.Idle ring losses links now before after differ step = step.1
unchanged number turns.Waiting ring losses links now before after differ step = step.1
unchanged number turns.Closing ring losses links now before after differ step = step.1

pub holds-idle_turn : (texts sent : ℕ → List ℕ) (order : Order) (lanes : ℕ → Lane) (number : ℕ) (turn : SessionTurn) (old new : ProxyState)
    → ProxyHolds texts sent order lanes old → turn ≢ turns.Took → Steps number old new (IsTurn number turn old.ring old.losses) → ProxyHolds texts sent order lanes new
holds-idle_turn texts sent order lanes number turn old new h differ steps =
    let same = unchanged number turn old.ring old.losses old.links new.links steps.before steps.after differ steps.step in
    alone texts texts sent order lanes number steps.before steps.after old new steps.was steps.is steps.admitted steps.losses same.0 (λ _ _. refl)
    (subst (λ (s : SessionState). SessionHolds number order (texts number) (sent number) s) (sym same.1) (stood texts sent order lanes old number steps.before h steps.was)) h

-- `emit` that emitted nothing, and one that answered
pub holds-idle_emit : (texts sent : ℕ → List ℕ) (order : Order) (lanes : ℕ → Lane) (number : ℕ) (old new : ProxyState)
    → ProxyHolds texts sent order lanes old → Steps number old new (Alone (IsEmit emits.Idle)) → ProxyHolds texts sent order lanes new
holds-idle_emit texts sent order lanes number old new h steps =
    alone texts texts sent order lanes number steps.before steps.after old new steps.was steps.is steps.admitted steps.losses steps.step.0 (λ _ _. refl)
    (subst (λ (s : SessionState). SessionHolds number order (texts number) (sent number) s) (sym steps.step.1.1) (stood texts sent order lanes old number steps.before h steps.was)) h

pub holds-emitted : (texts sent : ℕ → List ℕ) (order : Order) (lanes : ℕ → Lane) (number : ℕ) (old new : ProxyState)
    → ProxyHolds texts sent order lanes old → Steps number old new (Alone (IsEmit emits.Done)) → ProxyHolds texts sent order lanes new
holds-emitted texts sent order lanes number old new h steps =
    alone texts texts sent order lanes number steps.before steps.after old new steps.was steps.is steps.admitted steps.losses steps.step.0 (λ _ _. refl)
    (session_emitted number order (texts number) (sent number) steps.before steps.after (stood texts sent order lanes old number steps.before h steps.was) steps.step.1) h

-- `taken_out`: the bytes consumed grow by the first of the output
holds_sent_from : (texts sent : ℕ → List ℕ) (order : Order) (lanes : ℕ → Lane) (number count : ℕ) (old : ProxyState) (session : Option SessionState)
    → session_at old number ≡ session → ProxyHolds texts sent order lanes old
    → ProxyHolds texts (grown number (take count (output_of session)) sent) order lanes (sent_by number count session old)
holds_sent_from texts sent order lanes number count old None was h = record {
  sized = h.sized;
  chosen = h.chosen;
  numbered = h.numbered;
  sessions = λ m. session_same m order order (texts m) (texts m) (sent m) (grown number (take count []) sent m) (session_at old m) refl refl (grown-nothing number m count sent) (h.sessions m);
  unused = λ m above.
      let u = h.unused m above in
      record {
        not_open = u.not_open;
        nothing_came = u.nothing_came;
        nothing_taken = u.nothing_taken;
        nothing_sent = grown-nothing number m count sent ∙ u.nothing_sent;
      };
  links = h.links;
}
holds_sent_from texts sent order lanes number count old (Some before) was h =
    let own = session_sent number order (texts number) (sent number) before count (stood texts sent order lanes old number before h was) in
    stepped texts texts sent (grown number (take count before.output) sent) order order lanes number before (record before { output = drop count before.output })
    old (sent_by number count (Some before) old) was refl refl refl
    (subst (λ (bytes : List ℕ). SessionHolds number order (texts number) bytes (record before { output = drop count before.output }))
    (sym (changed-own number (sent number ++ take count before.output) sent)) own)
    (λ _ _. refl) (λ m differ. changed-other number m (sent number ++ take count before.output) sent differ) (λ _ _. refl) h.sized h.chosen h.numbered h.links h

pub holds-sent : (texts sent : ℕ → List ℕ) (order : Order) (lanes : ℕ → Lane) (number count : ℕ) (old : ProxyState) → ProxyHolds texts sent order lanes old
    → ProxyHolds texts (grown number (take count (output_of (session_at old number))) sent) order lanes (sent_by number count (session_at old number) old)
holds-sent texts sent order lanes number count old h = holds_sent_from texts sent order lanes number count old (session_at old number) refl h

-- `gone`: what was taken and sent until then is the first of the text and of the answers
pub holds-gone : (texts sent : ℕ → List ℕ) (order : Order) (lanes : ℕ → Lane) (number : ℕ) (old : ProxyState) → ProxyHolds texts sent order lanes old
    → session_at (record old { sessions = without number old.sessions }) number ≡ None
    → ProxyHolds texts sent order lanes (record old { sessions = without number old.sessions })
holds-gone texts sent order lanes number old h not_open =
    let left = session_left number order (texts number) (sent number) (session_at old number) (h.sessions number) in
    record {
      sized = h.sized;
      chosen = h.chosen;
      numbered = h.numbered;
      sessions = λ m. ⊎_elim
          (λ e. subst (λ (n : ℕ). SessionHoldsAt n order (texts n) (sent n) (session_in (without number old.sessions) n)) e.1
          (subst (λ (s : Option SessionState). SessionHoldsAt number order (texts number) (sent number) s) (sym not_open) left))
          (λ e. subst (λ (s : Option SessionState). SessionHoldsAt m order (texts m) (sent m) s) (sym (without_other number m old.sessions e.1)) (h.sessions m))
          (eqb_tells number m);
      unused = λ m above.
          let u = h.unused m above in
          record {
            not_open = ⊎_elim (λ e. subst (λ (n : ℕ). session_in (without number old.sessions) n ≡ None) e.1 not_open)
                (λ e. without_other number m old.sessions e.1 ∙ u.not_open) (eqb_tells number m);
            nothing_came = u.nothing_came;
            nothing_taken = u.nothing_taken;
            nothing_sent = u.nothing_sent;
          };
      links = h.links;
    }

-- if no command is pending on any link, each entry is complete
pub holds-complete : (texts sent : ℕ → List ℕ) (order : Order) (lanes : ℕ → Lane) (now : ProxyState) → ProxyHolds texts sent order lanes now
    → ((place : ℕ) → (link_at now.links place).waiting ≡ []) → list_all is_complete order ≡ true
holds-complete texts sent order lanes now h none =
    complete_order order h.sized (λ place. nothing_waits place order (lanes place) (link_at now.links place) (none place) (h.links place))
