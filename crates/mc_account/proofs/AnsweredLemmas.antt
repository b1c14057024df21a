-- What clients were answered, by the state of a proxy.
use Rattle.std.proofs.Common.{◌≡◌, ◌∙◌, ℕ, ◌+◌, true, List, ◌++◌, length, take, Option, Some, None, refl, ap, subst, arith}
use Rattle.std.specs.List.{list_all}
use Rattle.std.proofs.lemmas.List.{length-append, length-map}
use Rattle.std.proofs.Math.Seq.{take-append_seam}
use Rattle.mc_proxy.specs.ProxyState.{ProxyState, session_at}
use Rattle.mc_proxy.specs.SessionState.{SessionState, Unanswered, answered}
use Rattle.mc_account.specs.Answered.{AreAnswers, WasAnswered}
use Rattle.mc_account.specs.Lanes.{Lane}
use Rattle.mc_account.specs.Orders.{Order, answers_of, entries_of, is_complete, unanswered_of}
use Rattle.mc_account.specs.Holds.{ProxyHolds, SessionHoldsAt}

-- the emitted bytes are the answers to the requests that are done
answers_first : (number : ℕ) (order done others : Order) (count : ℕ) (sent unsent : List ℕ) → entries_of number order ≡ done ++ others → count ≡ length done
    → list_all is_complete done ≡ true → sent ++ unsent ≡ answers_of done → AreAnswers number order count sent unsent
answers_first number order done others count sent unsent split is complete answers =
    let first : take count (entries_of number order) ≡ done = rw (split, is) (take-append_seam done others) in
    let size : length (entries_of number order) ≡ length done + length others = ap (λ (es : Order). length es) split ∙ length-append done others in
    record {
      within = omega (arith, is, size);
      complete = rw first complete;
      answers = rw first answers;
    }

-- what a client was sent
was_answered : (number : ℕ) (order : Order) (text sent : List ℕ) (session : Option SessionState) → SessionHoldsAt number order text sent session
    → WasAnswered number order sent session
was_answered number order text sent None h =
    (length h.done, h.unsent, answers_first number order h.done h.incomplete (length h.done) sent h.unsent h.split refl h.complete h.answered)
was_answered number order text sent (Some session) h =
    let size : session.taken ≡ length h.done + length h.incomplete = h.taken ∙ ap (λ (es : Order). length es) h.split ∙ length-append h.done h.incomplete in
    let open_ones : length session.unanswered ≡ length h.incomplete = ap (λ (us : List Unanswered). length us) h.unanswered ∙ length-map h.incomplete unanswered_of in
    let many : answered session ≡ length h.done = omega (arith, size, open_ones) in
    answers_first number order h.done h.incomplete (answered session) sent session.output h.split many h.complete h.answered

-- for each number
pub holds-answered : (texts sent : ℕ → List ℕ) (order : Order) (lanes : ℕ → Lane) (now : ProxyState) → ProxyHolds texts sent order lanes now
    → (number : ℕ) → WasAnswered number order (sent number) (session_at now number)
holds-answered texts sent order lanes now h number = was_answered number order (texts number) (sent number) (session_at now number) (h.sessions number)

-- for an open session: the emitted bytes
pub open_answered : (texts sent : ℕ → List ℕ) (order : Order) (lanes : ℕ → Lane) (now : ProxyState) → ProxyHolds texts sent order lanes now
    → (number : ℕ) (session : SessionState) → session_at now number ≡ Some session → AreAnswers number order (answered session) (sent number) session.output
open_answered texts sent order lanes now h number session is =
    subst (λ (s : Option SessionState). WasAnswered number order (sent number) s) is (holds-answered texts sent order lanes now h number)
