-- A server that is as a history leaves it, after a stretch.
use Rattle.std.proofs.Common.{◌≡◌, ◌≢◌, ◌∙◌, ℕ, ◌==◌, false, List, [], ◌∷◌, ◌++◌, refl, sym, ap, subst, append_assoc}
use Rattle.std.proofs.lemmas.List.{append-nil}
use Rattle.mc_request.specs.declared.parts.Parsed.{Parsed}
use Rattle.mc_request.specs.Requests.{requests_of}
use Rattle.mc_request_reader.specs.Reader.{rest_of}
use Rattle.mc_cache.specs.CacheState.{CacheState}
use Rattle.mc_server.specs.Served.{ServedRequest, cache_after}
use Rattle.mc_server.specs.Histories.{answers_to, taken_of, replayed, IsLegalHistory}
use Rattle.mc_server.specs.ServerState.{ServerState}
use Rattle.mc_server.specs.Holds.{IsReplayed, Holds, ServerHolds, grown}
use Rattle.mc_server.proofs.HistoryLemmas.{other_number, replayed-append, legal-append, answers-append, taken-append}
use Rattle.mc_server.proofs.HoldsLemmas.{SameFor, grown-own, grown-other, stepped, stood}
use Rattle.mc_pump.specs.Stretches.{AreOwn, ConnectionStretch}

-- entries of one number say nothing of another
none_taken : (number moment other : ℕ) (es : List ServedRequest) → number ≢ other → AreOwn number moment es → taken_of other es ≡ []
none_taken number moment other [] differ own = refl
none_taken number moment other (e ∷ es) differ own =
    let not_its : (e.connection == other) ≡ false = rw own.0 (other_number number other differ) in
    rw not_its (none_taken number moment other es differ own.2)

none_answered : (number moment other : ℕ) (s : CacheState) (es : List ServedRequest) → number ≢ other → AreOwn number moment es → answers_to other s es ≡ []
none_answered number moment other s [] differ own = refl
none_answered number moment other s (e ∷ es) differ own =
    let not_its : (e.connection == other) ≡ false = rw own.0 (other_number number other differ) in
    rw not_its (none_answered number moment other (cache_after s e) es differ own.2)

same_for_others : (opening : CacheState) (number moment other : ℕ) (history es : List ServedRequest) → number ≢ other → AreOwn number moment es → SameFor opening other history (history ++ es)
same_for_others opening number moment other history es differ own = (
  taken-append other history es ∙ ap (λ (ts : List Parsed). taken_of other history ++ ts) (none_taken number moment other es differ own) ∙ append-nil (taken_of other history),
  answers-append other opening history es ∙ ap (λ (bytes : List ℕ). answers_to other opening history ++ bytes) (none_answered number moment other (replayed opening history) es differ own)
      ∙ append-nil (answers_to other opening history),
)

-- the cache after a stretch
replayed_after : (opening middle now : CacheState) (history more : List ServedRequest) → IsReplayed opening history middle → IsReplayed middle more now → IsReplayed opening (history ++ more) now
replayed_after opening middle now history more h k = record {
  legal = legal-append opening history more h.legal (subst (λ (s : CacheState). IsLegalHistory s more) h.cache k.legal);
  cache = k.cache ∙ ap (λ (s : CacheState). replayed s more) h.cache ∙ sym (replayed-append opening history more);
}

-- the connection of a stretch
holds_after : (opening : CacheState) (number moment : ℕ) (text : List ℕ) (history : List ServedRequest) (sent : List ℕ) (old new : ServerState) (came went : List ℕ) (stretch : ConnectionStretch number moment old new came went)
    → IsReplayed opening history old.cache → Holds opening number text history sent stretch.before → Holds opening number (text ++ came) (history ++ stretch.history) (sent ++ went) stretch.after
holds_after opening number moment text history sent old new came went stretch replay h =
    let more = stretch.history in
    record {
      rest = λ yet.
          ap (λ (ts : List Parsed). ts ++ rest_of stretch.after.reader yet) (taken-append number history stretch.history)
          ∙ append_assoc (taken_of number history) (taken_of number stretch.history) (rest_of stretch.after.reader yet)
          ∙ ap (λ (ts : List Parsed). taken_of number history ++ ts) (sym (stretch.rest yet))
          ∙ h.rest (came ++ yet)
          ∙ ap requests_of (sym (append_assoc text came yet));
      answered =
          append_assoc sent went stretch.after.output
          ∙ ap (λ (bytes : List ℕ). sent ++ bytes) stretch.answered
          ∙ sym (append_assoc sent stretch.before.output (answers_to number old.cache stretch.history))
          ∙ ap (λ (bytes : List ℕ). bytes ++ answers_to number old.cache stretch.history) h.answered
          ∙ ap (λ (s : CacheState). answers_to number opening history ++ answers_to number s stretch.history) replay.cache
          ∙ sym (answers-append number opening history stretch.history);
    }

-- the server
pub holds_after_stretch : (opening : CacheState) (texts sent : ℕ → List ℕ) (history : List ServedRequest) (number moment : ℕ) (old new : ServerState) (came went : List ℕ)
    → ServerHolds opening texts sent history old → (stretch : ConnectionStretch number moment old new came went)
    → ServerHolds opening (grown number came texts) (grown number went sent) (history ++ stretch.history) new
holds_after_stretch opening texts sent history number moment old new came went h stretch =
    let own = holds_after opening number moment (texts number) history (sent number) old new came went stretch h.cache (stood opening texts sent history old number stretch.before h stretch.was) in
    let P : List ℕ → Type 0 = λ text. Holds opening number text (history ++ stretch.history) (sent number ++ went) stretch.after in
    let Q : List ℕ → Type 0 = λ bytes. Holds opening number (grown number came texts number) (history ++ stretch.history) bytes stretch.after in
    stepped opening texts (grown number came texts) sent (grown number went sent) history (history ++ stretch.history) number stretch.before stretch.after old new stretch.was stretch.is stretch.admitted
    (replayed_after opening old.cache new.cache history stretch.history h.cache stretch.cache)
    (subst Q (sym (grown-own number went sent)) (subst P (sym (grown-own number came texts)) own))
    (λ m differ. grown-other number m came texts differ) (λ m differ. grown-other number m went sent differ)
    (λ m differ. same_for_others opening number moment m history stretch.history differ stretch.own) h
