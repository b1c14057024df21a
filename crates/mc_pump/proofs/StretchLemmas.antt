-- Stretches of a connection: none, by one call of the server, and in sequence.
use Rattle.std.proofs.Common.{◌≡◌, ◌∙◌, ℕ, ◌==◌, ◌<◌, ◌≤◌, true, false, if◌then◌else◌, List, [], ◌∷◌, ◌++◌, length, take, drop, Option, Some, refl, sym, ap, subst, append_assoc, arith}
use Rattle.std.proofs.lemmas.List.{append-nil, take-append-drop}
use Rattle.mc_request.specs.declared.parts.Parsed.{Parsed}
use Rattle.mc_request_reader.specs.Reader.{rest_of}
use Rattle.mc_cache.specs.CacheState.{CacheState}
use Rattle.mc_server.specs.Served.{ServedRequest, answer_after}
use Rattle.mc_server.specs.Histories.{replayed, answers_to, taken_of, IsLegalHistory}
use Rattle.mc_server.specs.ServerState.{ConnectionState, Connections, ServerState, connection_at, connection_in, output_of, updated, sent_by}
use Rattle.mc_server.specs.Turns.{Feeds, IsTurn, Steps}
use Rattle.mc_server.specs.Holds.{IsReplayed}
use Rattle.mc_server.specs.declared.turns.Turn.TheVariants.{Took, Idle, Closing}
use Rattle.mc_server.proofs.ConnectionLemmas.{updated_own}
use Rattle.mc_server.proofs.HistoryLemmas.{own_number, replayed_none, replayed_takes, replayed-append, legal-append, answers-append, taken-append}
use Rattle.mc_pump.specs.Stretches.{AreOwn, ConnectionStretch}
use Rattle.mc_pump.specs.declared.limits.TheConstants.{UNSENT_MARK}

-- a connection that stays what it was
pub updated-same : (number : ℕ) (c : ConnectionState) (cs : Connections) → connection_in cs number ≡ Some c → updated number c cs ≡ cs
updated-same number c [] was = absurd cc
updated-same number c (x ∷ xs) was =
    let again = updated-same number c xs in
    (elim (x.0 == number) as (λ v. (if v then Some x.1 else connection_in xs number) ≡ Some c → (if v then (x.0, c) ∷ xs else x ∷ updated number c xs) ≡ x ∷ xs) [
      | true ↦ λ e. let same : x.1 ≡ c = cc in rw (sym same) refl
      | false ↦ λ e. ap (λ (others : Connections). x ∷ others) (again e)
    ]) was

-- a connection that changes twice
pub updated-twice : (number : ℕ) (first second : ConnectionState) (cs : Connections) → updated number second (updated number first cs) ≡ updated number second cs
updated-twice number first second [] = refl
updated-twice number first second (x ∷ xs) =
    let again = updated-twice number first second xs in
    (elim (x.0 == number) as (λ v. x.0 == number ≡ v → updated number second (if v then (x.0, first) ∷ xs else x ∷ updated number first xs) ≡ (if v then (x.0, second) ∷ xs else x ∷ updated number second xs)) [
      | true ↦ λ is. rw is refl
      | false ↦ λ is. rw is (ap (λ (others : Connections). x ∷ others) again)
    ]) refl

own-append : (number moment : ℕ) (es fs : List ServedRequest) → AreOwn number moment es → AreOwn number moment fs → AreOwn number moment (es ++ fs)
own-append number moment [] fs h k = k
own-append number moment (e ∷ es) fs h k = (h.0, h.1, own-append number moment es fs h.2 k)

-- nothing has happened
pub stretch_none : (number moment : ℕ) (s : ServerState) (c : ConnectionState) → connection_at s number ≡ Some c → ConnectionStretch number moment s s [] []
stretch_none number moment s c was = record {
  before = c;
  after = c;
  was = was;
  is = sym (updated-same number c s.connections was);
  admitted = refl;
  history = [];
  own = tt;
  cache = replayed_none s.cache;
  rest = λ text. refl;
  answered = sym (append-nil c.output);
  marked = λ _ _. (refl, refl);
}

pub none_takes_none : (number moment : ℕ) (s : ServerState) (c : ConnectionState) (was : connection_at s number ≡ Some c) → (stretch_none number moment s c was).history ≡ []
unfolding stretch_none
none_takes_none number moment s c was = refl

-- the entry of a turn that took something
abbrev pub taken_entry : (number moment : ℕ) (old new : ServerState) → Steps number old new (IsTurn number moment Took) → ServedRequest
taken_entry number moment old new steps = record { connection = number; what = steps.step.0; moment = moment; refused = steps.step.1.served.0 }

-- a turn took something
pub stretch_took : (number moment : ℕ) (old new : ServerState) → Steps number old new (IsTurn number moment Took) → length (output_of (connection_at old number)) < UNSENT_MARK → ConnectionStretch number moment old new [] []
stretch_took number moment old new steps below =
    let takes = steps.step.1 in
    let e : ServedRequest = record { connection = number; what = steps.step.0; moment = moment; refused = takes.served.0 } in
    let few : length steps.before.output < UNSENT_MARK = subst (λ (c : Option ConnectionState). length (output_of c) < UNSENT_MARK) steps.was below in
    let own = own_number number in
    record {
      before = steps.before;
      after = steps.after;
      was = steps.was;
      is = steps.is;
      admitted = steps.admitted;
      history = e ∷ [];
      own = (refl, refl, tt);
      cache = replayed_takes old.cache number [] moment old.cache new.cache steps.before steps.after steps.step.0 takes (replayed_none old.cache);
      rest = λ text. rw own (takes.first.rest text);
      answered = rw own (takes.served.1.answered ∙ ap (λ (bytes : List ℕ). steps.before.output ++ bytes) (sym (append-nil (answer_after old.cache e))));
      marked = λ above _. absurd (omega (arith, few, above));
    }

pub took_takes_one : (number moment : ℕ) (old new : ServerState) (steps : Steps number old new (IsTurn number moment Took)) (below : length (output_of (connection_at old number)) < UNSENT_MARK)
    → (stretch_took number moment old new steps below).history ≡ taken_entry number moment old new steps ∷ []
unfolding stretch_took
took_takes_one number moment old new steps below = refl

-- a turn found nothing
pub stretch_idle : (number moment : ℕ) (old new : ServerState) → Steps number old new (IsTurn number moment Idle)
    → ConnectionStretch number moment old new [] []
stretch_idle number moment old new steps = record {
  before = steps.before;
  after = steps.after;
  was = steps.was;
  is = steps.is;
  admitted = steps.admitted;
  history = [];
  own = tt;
  cache = subst (λ (s : CacheState). IsReplayed old.cache [] s) (sym steps.step.cache) (replayed_none old.cache);
  rest = λ text. sym (steps.step.none.rest text);
  answered = steps.step.output ∙ sym (append-nil steps.before.output);
  marked = λ _ _. (refl, refl);
}

pub idle_takes_none : (number moment : ℕ) (old new : ServerState) (steps : Steps number old new (IsTurn number moment Idle)) → (stretch_idle number moment old new steps).history ≡ []
unfolding stretch_idle
idle_takes_none number moment old new steps = refl

-- a turn found that nothing is read any more
pub stretch_closing : (number moment : ℕ) (old new : ServerState) → Steps number old new (IsTurn number moment Closing)
    → ConnectionStretch number moment old new [] []
stretch_closing number moment old new steps = record {
  before = steps.before;
  after = steps.after;
  was = steps.was;
  is = steps.is;
  admitted = steps.admitted;
  history = [];
  own = tt;
  cache = subst (λ (s : CacheState). IsReplayed old.cache [] s) (sym steps.step.1) (replayed_none old.cache);
  rest = λ text. sym (ap (λ (c : ConnectionState). rest_of c.reader text) steps.step.2);
  answered = ap (λ (c : ConnectionState). c.output) steps.step.2 ∙ sym (append-nil steps.before.output);
  marked = λ _ _. (refl, refl);
}

pub closing_takes_none : (number moment : ℕ) (old new : ServerState) (steps : Steps number old new (IsTurn number moment Closing)) → (stretch_closing number moment old new steps).history ≡ []
unfolding stretch_closing
closing_takes_none number moment old new steps = refl

-- a piece arrived
pub stretch_fed : (number moment : ℕ) (piece : List ℕ) (old new : ServerState) → Steps number old new (Feeds piece) → length (output_of (connection_at old number)) < UNSENT_MARK → ConnectionStretch number moment old new piece []
stretch_fed number moment piece old new steps below =
    let few : length steps.before.output < UNSENT_MARK = subst (λ (c : Option ConnectionState). length (output_of c) < UNSENT_MARK) steps.was below in
    record {
      before = steps.before;
      after = steps.after;
      was = steps.was;
      is = steps.is;
      admitted = steps.admitted;
      history = [];
      own = tt;
      cache = subst (λ (s : CacheState). IsReplayed old.cache [] s) (sym steps.step.0) (replayed_none old.cache);
      rest = λ text. sym (steps.step.1.rest text);
      answered = steps.step.1.output ∙ sym (append-nil steps.before.output);
      marked = λ above _. absurd (omega (arith, few, above));
    }

pub fed_takes_none : (number moment : ℕ) (piece : List ℕ) (old new : ServerState) (steps : Steps number old new (Feeds piece)) (below : length (output_of (connection_at old number)) < UNSENT_MARK)
    → (stretch_fed number moment piece old new steps below).history ≡ []
unfolding stretch_fed
fed_takes_none number moment piece old new steps below = refl

-- the first bytes of the output went
pub stretch_sent : (number moment count : ℕ) (c : ConnectionState) (old new : ServerState) → connection_at old number ≡ Some c → new ≡ sent_by number count (connection_at old number) old
    → ConnectionStretch number moment old new [] (take count c.output)
stretch_sent number moment count c old new was is =
    let after : ConnectionState = record c { output = drop count c.output } in
    let there : new ≡ record old { connections = updated number after old.connections } = is ∙ ap (λ (o : Option ConnectionState). sent_by number count o old) was in
    record {
      before = c;
      after = after;
      was = was;
      is = ap (λ (s : ServerState). s.connections) there;
      admitted = ap (λ (s : ServerState). s.admitted) there;
      history = [];
      own = tt;
      cache = subst (λ (s : CacheState). IsReplayed old.cache [] s) (sym (ap (λ (s : ServerState). s.cache) there)) (replayed_none old.cache);
      rest = λ text. refl;
      answered = rw take-append-drop (sym (append-nil c.output));
      marked = λ _ _. (refl, refl);
    }

pub sent_takes_none : (number moment count : ℕ) (c : ConnectionState) (old new : ServerState) (was : connection_at old number ≡ Some c) (is : new ≡ sent_by number count (connection_at old number) old)
    → (stretch_sent number moment count c old new was is).history ≡ []
unfolding stretch_sent
sent_takes_none number moment count c old new was is = refl

-- what is after nothing
nothing_after : (xs ys : List ℕ) → xs ++ ys ≡ [] → (xs ≡ []) × (ys ≡ [])
nothing_after [] ys e = (refl, e)
nothing_after (x ∷ xs) ys e = absurd cc

-- a stretch after another that left the connection that it began with
past : (number moment : ℕ) (a b c : ServerState) (came more went yet : List ℕ) (h : ConnectionStretch number moment a b came went) (k : ConnectionStretch number moment b c more yet)
    → h.after ≡ k.before → ConnectionStretch number moment a c (came ++ more) (went ++ yet)
past number moment a b c came more went yet h k same =
    let legal : IsLegalHistory (replayed a.cache h.history) k.history = subst (λ (s : CacheState). IsLegalHistory s k.history) h.cache.cache k.cache.legal in
    let cache : c.cache ≡ replayed (replayed a.cache h.history) k.history = k.cache.cache ∙ ap (λ (s : CacheState). replayed s k.history) h.cache.cache in
    let answers : answers_to number a.cache (h.history ++ k.history) ≡ answers_to number a.cache h.history ++ answers_to number b.cache k.history =
    answers-append number a.cache h.history k.history ∙ ap (λ (s : CacheState). answers_to number a.cache h.history ++ answers_to number s k.history) (sym h.cache.cache) in
    let middle : h.after.output ≡ k.before.output = ap (λ (x : ConnectionState). x.output) same in
    record {
      before = h.before;
      after = k.after;
      was = h.was;
      is = k.is ∙ ap (λ (cs : Connections). updated number k.after cs) h.is ∙ updated-twice number h.after k.after a.connections;
      admitted = k.admitted ∙ h.admitted;
      history = h.history ++ k.history;
      own = own-append number moment h.history k.history h.own k.own;
      cache = record {
        legal = legal-append a.cache h.history k.history h.cache.legal legal;
        cache = cache ∙ sym (replayed-append a.cache h.history k.history);
      };
      rest = λ text.
          ap (λ (bytes : List ℕ). rest_of h.before.reader bytes) (append_assoc came more text)
          ∙ h.rest (more ++ text)
          ∙ ap (λ (x : ConnectionState). taken_of number h.history ++ rest_of x.reader (more ++ text)) same
          ∙ ap (λ (ts : List Parsed). taken_of number h.history ++ ts) (k.rest text)
          ∙ sym (append_assoc (taken_of number h.history) (taken_of number k.history) (rest_of k.after.reader text))
          ∙ ap (λ (ts : List Parsed). ts ++ rest_of k.after.reader text) (sym (taken-append number h.history k.history));
      answered =
          append_assoc went yet k.after.output
          ∙ ap (λ (bytes : List ℕ). went ++ bytes) (k.answered ∙ ap (λ (bytes : List ℕ). bytes ++ answers_to number b.cache k.history) (sym middle))
          ∙ sym (append_assoc went h.after.output (answers_to number b.cache k.history))
          ∙ ap (λ (bytes : List ℕ). bytes ++ answers_to number b.cache k.history) h.answered
          ∙ append_assoc h.before.output (answers_to number a.cache h.history) (answers_to number b.cache k.history)
          ∙ ap (λ (bytes : List ℕ). h.before.output ++ bytes) (sym answers);
      marked = λ above none.
          let parts = nothing_after went yet none in
          let first = h.marked above parts.0 in
          let unsent : h.after.output ≡ h.before.output =
          subst (λ (bytes : List ℕ). bytes ++ h.after.output ≡ h.before.output ++ answers_to number a.cache h.history) parts.0 h.answered
          ∙ ap (λ (es : List ServedRequest). h.before.output ++ answers_to number a.cache es) first.0 ∙ append-nil h.before.output in
          let still : UNSENT_MARK ≤ length k.before.output = subst (λ (bytes : List ℕ). UNSENT_MARK ≤ length bytes) (sym unsent ∙ middle) above in
          let second = k.marked still parts.1 in
          (ap (λ (es : List ServedRequest). es ++ k.history) first.0 ∙ second.0, ap (λ (bytes : List ℕ). bytes ++ more) first.1 ∙ second.1);
    }

-- one stretch after another
pub stretch_then : (number moment : ℕ) (a b c : ServerState) (came more went yet : List ℕ) → ConnectionStretch number moment a b came went → ConnectionStretch number moment b c more yet → ConnectionStretch number moment a c (came ++ more) (went ++ yet)
stretch_then number moment a b c came more went yet h k =
    let there : connection_at b number ≡ Some h.after = ap (λ (cs : Connections). connection_in cs number) h.is ∙ updated_own number h.before h.after a.connections h.was in
    let both : Some h.after ≡ Some k.before = sym there ∙ k.was in
    let same : h.after ≡ k.before = cc in
    past number moment a b c came more went yet h k same

pub then_takes_both : (number moment : ℕ) (a b c : ServerState) (came more went yet : List ℕ) (h : ConnectionStretch number moment a b came went) (k : ConnectionStretch number moment b c more yet)
    → (stretch_then number moment a b c came more went yet h k).history ≡ h.history ++ k.history
unfolding stretch_then past
then_takes_both number moment a b c came more went yet h k = refl

-- the state in which a stretch leaves its connection
pub stretch_open : (number moment : ℕ) (a b : ServerState) (came went : List ℕ) (h : ConnectionStretch number moment a b came went) → connection_at b number ≡ Some h.after
stretch_open number moment a b came went h = ap (λ (cs : Connections). connection_in cs number) h.is ∙ updated_own number h.before h.after a.connections h.was
