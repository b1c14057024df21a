-- A server that goes on is as its longer history leaves it: one lemma for each of its calls.
use Rattle.std.proofs.Common.{◌≡◌, ◌≢◌, ◌∙◌, ⊎_elim, ℕ, ◌==◌, ◌<◌, true, false, if◌then◌else◌, List, [], ◌∷◌, ◌++◌, length, take, drop, Option, Some, None, refl, sym, ap, subst, arith}
use Rattle.std.proofs.lemmas.Bool.Decides.{eqb_tells, leb_tells}
use Rattle.std.proofs.lemmas.List.{append-nil}
use Rattle.std.proofs.Math.Seq.{take-append_seam, take-nil}
use Rattle.mc_request.specs.declared.parts.Parsed.{Parsed}
use Rattle.mc_request.specs.Requests.{requests_of}
use Rattle.mc_request_reader.specs.Reader.{rest_of}
use Rattle.mc_cache.specs.CacheState.{CacheState}
use Rattle.mc_server.specs.Served.{ServedRequest, cache_after, answer_after}
use Rattle.mc_server.specs.Histories.{answers_to, taken_of}
use Rattle.mc_server.specs.ServerState.{ConnectionState, Connections, ServerState, connection_at, connection_in, fresh_connection, output_of, updated, closed, with_fresh, sent_by}
use Rattle.mc_server.specs.Turns.{Feeds, IsTurn, Steps}
use Rattle.mc_server.specs.Holds.{IsReplayed, Holds, Left, ServerHoldsAt, ServerHolds, grown}
use Rattle.mc_server.specs.declared.turns.Turn.TheVariants.{Took, Idle, Closing}
use Rattle.mc_server.proofs.ConnectionLemmas.{fresh_own, fresh_other, updated_own, updated_other, closed_other}
use Rattle.mc_server.proofs.HistoryLemmas.{own_number, other_number, taken-push, answers-push, replayed_none, replayed_takes, holds_fresh, holds_fed, holds_takes, holds_waits, holds_sent}

-- bytes of the number that has more, and of another
pub grown-own : (number : ℕ) (more : List ℕ) (bytes : ℕ → List ℕ) → grown number more bytes number ≡ bytes number ++ more
grown-own number more bytes = rw (own_number number) refl

pub grown-other : (number other : ℕ) (more : List ℕ) (bytes : ℕ → List ℕ) → number ≢ other → grown number more bytes other ≡ bytes other
grown-other number other more bytes differ = rw (other_number number other differ) (append-nil (bytes other))

grown-nothing : (number other count : ℕ) (bytes : ℕ → List ℕ) → grown number (take count []) bytes other ≡ bytes other
grown-nothing number other count bytes =
    (elim (number == other) as (λ v. bytes other ++ (if v then take count [] else []) ≡ bytes other) [
      | true ↦ rw take-nil (append-nil (bytes other))
      | false ↦ append-nil (bytes other)
    ])

-- what a history says of a number
abbrev pub SameFor : CacheState → ℕ → List ServedRequest → List ServedRequest → Type 0
SameFor opening number history longer = (taken_of number longer ≡ taken_of number history) × (answers_to number opening longer ≡ answers_to number opening history)

-- an entry of another number says nothing of this one
pub same_for_other : (opening : CacheState) (number : ℕ) (history : List ServedRequest) (e : ServedRequest) → e.connection ≢ number → SameFor opening number history (history ++ e ∷ [])
same_for_other opening number history e differ =
    let other = other_number e.connection number differ in (
      taken-push number history e ∙ rw other (append-nil (taken_of number history)),
      answers-push number opening history e ∙ rw other (append-nil (answers_to number opening history)),
    )

-- the state of a connection depends on nothing else
holds_same : (opening : CacheState) (number : ℕ) (text text' : List ℕ) (history longer : List ServedRequest) (sent sent' : List ℕ)
    (connection : Option ConnectionState)
    → text' ≡ text → sent' ≡ sent → SameFor opening number history longer
    → ServerHoldsAt opening number text history sent connection → ServerHoldsAt opening number text' longer sent' connection
holds_same opening number text text' history longer sent sent' None text_is sent_is same h = record {
  untaken = h.untaken;
  rest = rw (same.0, text_is) h.rest;
  unsent = h.unsent;
  answered = rw (same.1, sent_is) h.answered;
}
holds_same opening number text text' history longer sent sent' (Some connection) text_is sent_is same h = record {
  rest = λ more. rw (same.0, text_is) (h.rest more);
  answered = rw (same.1, sent_is) h.answered;
}

-- an open connection that satisfies `Holds` satisfies `Left` once it is closed
pub left_from_holds : (opening : CacheState) (number : ℕ) (text : List ℕ) (history : List ServedRequest) (sent : List ℕ) (connection : ConnectionState)
    → Holds opening number text history sent connection → Left opening number text history sent
left_from_holds opening number text history sent connection h = record {
  untaken = rest_of connection.reader [];
  rest = h.rest [] ∙ ap requests_of (append-nil text);
  unsent = connection.output;
  answered = h.answered;
}

left_at : (opening : CacheState) (number : ℕ) (text : List ℕ) (history : List ServedRequest) (sent : List ℕ) (connection : Option ConnectionState)
    → ServerHoldsAt opening number text history sent connection → Left opening number text history sent
left_at opening number text history sent None h = h
left_at opening number text history sent (Some connection) h = left_from_holds opening number text history sent connection h

-- what is true of the connection that took a step and of all others, is true of each
pub at_each : (number : ℕ) (before after : ConnectionState) (old new : Connections) → connection_in old number ≡ Some before → new ≡ updated number after old
    → (P : ℕ → Option ConnectionState → Type 0) → P number (Some after) → ((other : ℕ) → number ≢ other → P other (connection_in old other))
    → (m : ℕ) → P m (connection_in new m)
at_each number before after old new was is P own others m =
    let now : connection_in new number ≡ Some after = ap (λ (cs : Connections). connection_in cs number) is ∙ updated_own number before after old was in
    ⊎_elim (λ e. subst (λ (n : ℕ). P n (connection_in new n)) e.1 (subst (λ (c : Option ConnectionState). P number c) (sym now) own))
    (λ e. let same : connection_in new m ≡ connection_in old m = ap (λ (cs : Connections). connection_in cs m) is ∙ updated_other number m after old e.1 in
    subst (λ (c : Option ConnectionState). P m c) (sym same) (others m e.1))
    (eqb_tells number m)

-- an open connection of a server satisfies `Holds`
pub stood : (opening : CacheState) (texts sent : ℕ → List ℕ) (history : List ServedRequest) (server : ServerState) (number : ℕ) (connection : ConnectionState)
    → ServerHolds opening texts sent history server → connection_at server number ≡ Some connection → Holds opening number (texts number) history (sent number) connection
stood opening texts sent history server number connection h was =
    subst (λ (c : Option ConnectionState). ServerHoldsAt opening number (texts number) history (sent number) c) was (h.each number)

-- a number of an open connection was given
pub given : (opening : CacheState) (texts sent : ℕ → List ℕ) (history : List ServedRequest) (server : ServerState) (number : ℕ) (connection : ConnectionState)
    → ServerHolds opening texts sent history server → connection_at server number ≡ Some connection → number < server.admitted
given opening texts sent history server number connection h was =
    ⊎_elim (λ above. let clash : Some connection ≡ None = sym was ∙ (h.unused number above.1).not_open in absurd cc)
    (λ below. below.1)
    (leb_tells server.admitted number)

-- the texts and the bytes taken out may be written in another way
pub ServerHolds-same : (opening : CacheState) (texts texts' sent sent' : ℕ → List ℕ) (history : List ServedRequest) (server : ServerState)
    → ((number : ℕ) → texts' number ≡ texts number) → ((number : ℕ) → sent' number ≡ sent number)
    → ServerHolds opening texts sent history server → ServerHolds opening texts' sent' history server
ServerHolds-same opening texts texts' sent sent' history server text_is sent_is h = record {
  cache = h.cache;
  each = λ number. holds_same opening number (texts number) (texts' number) history history (sent number) (sent' number) (connection_at server number) (text_is number) (sent_is number) (refl, refl) (h.each number);
  unused = λ number above. let u = h.unused number above in record {
    not_open = u.not_open;
    nothing_came = text_is number ∙ u.nothing_came;
    nothing_taken = u.nothing_taken;
    nothing_sent = sent_is number ∙ u.nothing_sent;
  };
}

-- a connection takes a step, and what is true of all others stays so
pub stepped : (opening : CacheState) (texts texts' sent sent' : ℕ → List ℕ) (history longer : List ServedRequest) (number : ℕ) (before after : ConnectionState) (old new : ServerState)
    → connection_at old number ≡ Some before → new.connections ≡ updated number after old.connections → new.admitted ≡ old.admitted
    → IsReplayed opening longer new.cache → Holds opening number (texts' number) longer (sent' number) after
    → ((m : ℕ) → number ≢ m → texts' m ≡ texts m) → ((m : ℕ) → number ≢ m → sent' m ≡ sent m) → ((m : ℕ) → number ≢ m → SameFor opening m history longer)
    → ServerHolds opening texts sent history old → ServerHolds opening texts' sent' longer new
stepped opening texts texts' sent sent' history longer number before after old new was is admitted replay own text_is sent_is same h = record {
  cache = replay;
  each = at_each number before after old.connections new.connections was is (λ m c. ServerHoldsAt opening m (texts' m) longer (sent' m) c) own
      (λ m differ. holds_same opening m (texts m) (texts' m) history longer (sent m) (sent' m) (connection_at old m) (text_is m differ) (sent_is m differ) (same m differ) (h.each m));
  unused = λ m above.
      let in_use = given opening texts sent history old number before h was in
      let differ : number ≢ m = λ e. omega (arith, in_use, above, admitted, e) in
      let u = h.unused m (omega (arith, above, admitted)) in
      record {
        not_open = ap (λ (cs : Connections). connection_in cs m) is ∙ updated_other number m after old.connections differ ∙ u.not_open;
        nothing_came = text_is m differ ∙ u.nothing_came;
        nothing_taken = (same m differ).0 ∙ u.nothing_taken;
        nothing_sent = sent_is m differ ∙ u.nothing_sent;
      };
}

-- `new`: nothing has happened
pub ServerHolds-new : (opening : CacheState) → ServerHolds opening (λ _. []) (λ _. []) [] (record { cache = opening; connections = []; admitted = 0 })
ServerHolds-new opening = record {
  cache = replayed_none opening;
  each = λ number. left_from_holds opening number [] [] [] fresh_connection (holds_fresh opening number [] refl refl);
  unused = λ number above. record { not_open = refl; nothing_came = refl; nothing_taken = refl; nothing_sent = refl };
}

-- an entry of which nothing was taken has no answer
none_answered : (opening : CacheState) (number : ℕ) (history : List ServedRequest) → taken_of number history ≡ [] → answers_to number opening history ≡ []
none_answered opening number [] none = refl
none_answered opening number (e ∷ es) none =
    let again : taken_of number es ≡ [] → answers_to number (cache_after opening e) es ≡ [] = none_answered (cache_after opening e) number es in
    (elim (e.connection == number) as (λ v. (if v then e.what ∷ taken_of number es else taken_of number es) ≡ [] → (if v then answer_after opening e else []) ++ answers_to number (cache_after opening e) es ≡ []) [
      | true ↦ λ k. absurd cc
      | false ↦ λ k. again k
    ]) none

-- `admit`: the next number is open, and nothing else has changed
pub ServerHolds-admitted : (opening : CacheState) (texts sent : ℕ → List ℕ) (history : List ServedRequest) (server : ServerState)
    → ServerHolds opening texts sent history server → ServerHolds opening texts sent history (with_fresh server)
ServerHolds-admitted opening texts sent history server h =
    let number = server.admitted in
    let u = h.unused number (omega arith) in
    let here : connection_at (with_fresh server) number ≡ Some fresh_connection = fresh_own number fresh_connection server.connections u.not_open in
    let fresh : Holds opening number [] history [] fresh_connection = holds_fresh opening number history u.nothing_taken (none_answered opening number history u.nothing_taken) in
    let holds : Holds opening number (texts number) history (sent number) fresh_connection = rw (u.nothing_came, u.nothing_sent) fresh in
    record {
      cache = h.cache;
      each = λ m. ⊎_elim
          (λ e. subst (λ (n : ℕ). ServerHoldsAt opening n (texts n) history (sent n) (connection_at (with_fresh server) n)) e.1
          (subst (λ (c : Option ConnectionState). ServerHoldsAt opening number (texts number) history (sent number) c) (sym here) holds))
          (λ e. subst (λ (c : Option ConnectionState). ServerHoldsAt opening m (texts m) history (sent m) c) (sym (fresh_other number m fresh_connection server.connections e.1)) (h.each m))
          (eqb_tells number m);
      unused = λ m above.
          let differ : number ≢ m = λ e. omega (arith, above, e) in
          let v = h.unused m (omega (arith, above)) in
          record {
            not_open = fresh_other number m fresh_connection server.connections differ ∙ v.not_open;
            nothing_came = v.nothing_came;
            nothing_taken = v.nothing_taken;
            nothing_sent = v.nothing_sent;
          };
    }

-- `feed`: the connection's text grows by the piece
pub ServerHolds-fed : (opening : CacheState) (texts sent : ℕ → List ℕ) (history : List ServedRequest) (number : ℕ) (piece : List ℕ) (old new : ServerState)
    → ServerHolds opening texts sent history old → Steps number old new (Feeds piece) → ServerHolds opening (grown number piece texts) sent history new
ServerHolds-fed opening texts sent history number piece old new h steps =
    let own = holds_fed opening number (texts number) piece history (sent number) steps.before steps.after (stood opening texts sent history old number steps.before h steps.was) steps.step.1 in
    stepped opening texts (grown number piece texts) sent sent history history number steps.before steps.after old new steps.was steps.is steps.admitted
    (subst (λ (s : CacheState). IsReplayed opening history s) (sym steps.step.0) h.cache)
    (subst (λ (text : List ℕ). Holds opening number text history (sent number) steps.after) (sym (grown-own number piece texts)) own)
    (λ m differ. grown-other number m piece texts differ) (λ _ _. refl) (λ _ _. (refl, refl)) h

-- the entry of a turn that took something
abbrev pub entry_taken : {number moment : ℕ} {old new : ServerState} → Steps number old new (IsTurn number moment Took) → ServedRequest
entry_taken {number = number} {moment = moment} steps = record { connection = number; what = steps.step.0; moment = moment; refused = steps.step.1.served.0 }

-- `turn` that took something: the history has its entry more
pub ServerHolds-took : (opening : CacheState) (texts sent : ℕ → List ℕ) (history : List ServedRequest) (number moment : ℕ) (old new : ServerState)
    → ServerHolds opening texts sent history old → (steps : Steps number old new (IsTurn number moment Took)) → ServerHolds opening texts sent (history ++ entry_taken steps ∷ []) new
ServerHolds-took opening texts sent history number moment old new h steps =
    let e = entry_taken steps in
    let takes = steps.step.1 in
    let was = stood opening texts sent history old number steps.before h steps.was in
    stepped opening texts texts sent sent history (history ++ e ∷ []) number steps.before steps.after old new steps.was steps.is steps.admitted
    (replayed_takes opening number history moment old.cache new.cache steps.before steps.after e.what takes h.cache)
    (holds_takes opening number (texts number) history (sent number) moment old.cache new.cache steps.before steps.after e.what takes h.cache was)
    (λ _ _. refl) (λ _ _. refl) (λ m differ. same_for_other opening m history e differ) h

-- `turn` that found nothing
pub ServerHolds-idle : (opening : CacheState) (texts sent : ℕ → List ℕ) (history : List ServedRequest) (number moment : ℕ) (old new : ServerState)
    → ServerHolds opening texts sent history old → Steps number old new (IsTurn number moment Idle) → ServerHolds opening texts sent history new
ServerHolds-idle opening texts sent history number moment old new h steps =
    let was = stood opening texts sent history old number steps.before h steps.was in
    stepped opening texts texts sent sent history history number steps.before steps.after old new steps.was steps.is steps.admitted
    (subst (λ (s : CacheState). IsReplayed opening history s) (sym steps.step.cache) h.cache)
    (holds_waits opening number (texts number) history (sent number) old.cache new.cache steps.before steps.after was steps.step)
    (λ _ _. refl) (λ _ _. refl) (λ _ _. (refl, refl)) h

-- `turn` of a connection of which nothing is read any more
pub ServerHolds-closing : (opening : CacheState) (texts sent : ℕ → List ℕ) (history : List ServedRequest) (number moment : ℕ) (old new : ServerState)
    → ServerHolds opening texts sent history old → Steps number old new (IsTurn number moment Closing) → ServerHolds opening texts sent history new
ServerHolds-closing opening texts sent history number moment old new h steps =
    let was = stood opening texts sent history old number steps.before h steps.was in
    stepped opening texts texts sent sent history history number steps.before steps.after old new steps.was steps.is steps.admitted
    (subst (λ (s : CacheState). IsReplayed opening history s) (sym steps.step.1) h.cache)
    (subst (λ (c : ConnectionState). Holds opening number (texts number) history (sent number) c) (sym steps.step.2) was)
    (λ _ _. refl) (λ _ _. refl) (λ _ _. (refl, refl)) h

-- `close`: what was taken and sent until then is the first of the text and of the answers
pub ServerHolds-closed : (opening : CacheState) (texts sent : ℕ → List ℕ) (history : List ServedRequest) (number : ℕ) (old new : ServerState)
    → ServerHolds opening texts sent history old → new ≡ record old { connections = closed number old.connections } → connection_at new number ≡ None
    → ServerHolds opening texts sent history new
ServerHolds-closed opening texts sent history number old new h is not_open =
    let others : (m : ℕ) → number ≢ m → connection_at new m ≡ connection_at old m =
    λ m differ. ap (λ (s : ServerState). connection_at s m) is ∙ closed_other number m old.connections differ in
    let admitted : new.admitted ≡ old.admitted = ap (λ (s : ServerState). s.admitted) is in
    record {
      cache = subst (λ (s : CacheState). IsReplayed opening history s) (sym (ap (λ (s : ServerState). s.cache) is)) h.cache;
      each = λ m. ⊎_elim
          (λ e. subst (λ (n : ℕ). ServerHoldsAt opening n (texts n) history (sent n) (connection_at new n)) e.1
          (subst (λ (c : Option ConnectionState). ServerHoldsAt opening number (texts number) history (sent number) c) (sym not_open)
          (left_at opening number (texts number) history (sent number) (connection_at old number) (h.each number))))
          (λ e. subst (λ (c : Option ConnectionState). ServerHoldsAt opening m (texts m) history (sent m) c) (sym (others m e.1)) (h.each m))
          (eqb_tells number m);
      unused = λ m above.
          let u = h.unused m (omega (arith, above, admitted)) in
          record {
            not_open = ⊎_elim (λ e. subst (λ (n : ℕ). connection_at new n ≡ None) e.1 not_open) (λ e. others m e.1 ∙ u.not_open) (eqb_tells number m);
            nothing_came = u.nothing_came;
            nothing_taken = u.nothing_taken;
            nothing_sent = u.nothing_sent;
          };
    }

sent_from : (opening : CacheState) (texts sent : ℕ → List ℕ) (history : List ServedRequest) (number count : ℕ) (old new : ServerState) (connection : Option ConnectionState)
    → connection_at old number ≡ connection → ServerHolds opening texts sent history old → new ≡ sent_by number count connection old
    → ServerHolds opening texts (grown number (take count (output_of connection)) sent) history new
sent_from opening texts sent history number count old new None was h is =
    subst (λ (s : ServerState). ServerHolds opening texts (grown number (take count []) sent) history s) (sym is)
    (ServerHolds-same opening texts texts sent (grown number (take count []) sent) history old (λ _. refl) (λ m. grown-nothing number m count sent) h)
sent_from opening texts sent history number count old new (Some before) was h is =
    let after : ConnectionState = record before { output = drop count before.output } in
    let more = take count before.output in
    let own = holds_sent opening number (texts number) history (sent number) before after count (stood opening texts sent history old number before h was) refl refl in
    stepped opening texts texts sent (grown number more sent) history history number before after old new was (ap (λ (s : ServerState). s.connections) is) (ap (λ (s : ServerState). s.admitted) is)
    (subst (λ (s : CacheState). IsReplayed opening history s) (sym (ap (λ (s : ServerState). s.cache) is)) h.cache)
    (subst (λ (bytes : List ℕ). Holds opening number (texts number) history bytes after) (sym (grown-own number more sent)) own)
    (λ _ _. refl) (λ m differ. grown-other number m more sent differ) (λ _ _. (refl, refl)) h

-- `taken_out`: the bytes taken out grow by the first of the output
pub ServerHolds-sent : (opening : CacheState) (texts sent : ℕ → List ℕ) (history : List ServedRequest) (number count : ℕ) (old new : ServerState)
    → ServerHolds opening texts sent history old → new ≡ sent_by number count (connection_at old number) old
    → ServerHolds opening texts (grown number (take count (output_of (connection_at old number))) sent) history new
ServerHolds-sent opening texts sent history number count old new h is = sent_from opening texts sent history number count old new (connection_at old number) refl h is

-- what was taken of a number is the first of its text, in order
pub taken_is_first : (opening : CacheState) (texts sent : ℕ → List ℕ) (history : List ServedRequest) (server : ServerState) (number : ℕ)
    → ServerHolds opening texts sent history server → taken_of number history ≡ take (length (taken_of number history)) (requests_of (texts number))
taken_is_first opening texts sent history server number h =
    let l = left_at opening number (texts number) history (sent number) (connection_at server number) (h.each number) in
    sym (take-append_seam (taken_of number history) l.untaken) ∙ ap (λ (ts : List Parsed). take (length (taken_of number history)) ts) l.rest
