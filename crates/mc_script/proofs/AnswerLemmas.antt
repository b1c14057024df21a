-- The outputs that answer a script: at most one list for given refusals, and one without any.
use Rattle.std.proofs.Common.{◌≡◌, ◌≢◌, ◌∙◌, ⊎_elim, ℕ, ◌+◌, ◌<◌, ◌≤◌, ◌==◌, Bool, true, false, if◌then◌else◌, List, [], ◌∷◌, ◌++◌, length, take, get_or, map, refl, sym, ap, subst, arith, append_assoc, length-append}
use Rattle.std.specs.List.{All, range_with_len}
use Rattle.std.proofs.lemmas.Bool.Decides.{nat_tests, eqb_tells}
use Rattle.std.proofs.lemmas.List.{map-append, append-nil, take_more, take-append-le, length-take}
use Rattle.std.proofs.lemmas.List.Elements.{All-cons, All-head, All-tail, All-push}
use Rattle.std.proofs.lemmas.List.FromFn.{get_or-map-range_with_len, length-map-range_with_len}
use Rattle.mc_request.specs.Faults.{fault_line}
use Rattle.mc_request.specs.declared.faults.Fault.TheVariants.{OutOfMemory}
use Rattle.mc_request.specs.declared.parts.Parsed.{Parsed}
use Rattle.mc_request.specs.Requests.{requests_of}
use Rattle.mc_request.proofs.RequestLemmas.{goes_on}
use Rattle.mc_cache.specs.CacheState.{CacheState}
use Rattle.mc_server.specs.Served.{IsLegalAt, ServedRequest, answer_after, cache_after}
use Rattle.mc_server.specs.Histories.{IsLegalHistory, answers_to, replayed, taken_of, turns_of}
use Rattle.mc_server.proofs.HistoryLemmas.{own_number, other_number, legal-push, taken-push}
use Rattle.mc_server.proofs.RefusalLemmas.{granted_is_legal, refusal_is_told}
use Rattle.mc_script.specs.declared.events.ServerEvent.{ServerEvent}
use Rattle.mc_script.specs.declared.events.ServerEvent.TheVariants.{Bytes, Turn}
use Rattle.mc_script.specs.Answers.{bytes_fed, text_fed, turns_by, finds_one, served_with, turns_served, cache_of, Answers, refusals_of, AnswersUnrefused, HasPart, TellNoRefusal}
use Rattle.mc_script.specs.Events.{IsEventOf}
use Rattle.mc_script.specs.Scripts.{ScriptSeen}
use Rattle.mc_script.proofs.HistoryLemmas.{text_more, text_turn, taken_by, served_one, served_none}

abbrev entry : ℕ → Parsed → ℕ → Bool → ServedRequest
entry connection what moment refused = record { connection = connection; what = what; moment = moment; refused = refused }

-- the requests that were taken of a connection first, and after it
head_taken : (x y : ServedRequest) (xs ys : List ServedRequest) → x.connection ≡ y.connection → taken_of x.connection (x ∷ xs) ≡ taken_of x.connection (y ∷ ys) → x.what ≡ y.what
head_taken x y xs ys same h =
    let first : taken_of x.connection (x ∷ xs) ≡ x.what ∷ taken_of x.connection xs = rw (own_number x.connection) refl in
    let test : (y.connection == x.connection) ≡ true = rw (← same) (own_number x.connection) in
    let second : taken_of x.connection (y ∷ ys) ≡ y.what ∷ taken_of x.connection ys = rw test refl in
    let both : x.what ∷ taken_of x.connection xs ≡ y.what ∷ taken_of x.connection ys = sym first ∙ h ∙ second in
    cc

tail_taken : (number : ℕ) (x y : ServedRequest) (xs ys : List ServedRequest) → x.connection ≡ y.connection → taken_of number (x ∷ xs) ≡ taken_of number (y ∷ ys) → taken_of number xs ≡ taken_of number ys
tail_taken number x y xs ys same h =
    let again : taken_of number (y ∷ ys) ≡ (if x.connection == number then y.what ∷ taken_of number ys else taken_of number ys) =
    ap (λ (n : ℕ). if n == number then y.what ∷ taken_of number ys else taken_of number ys) (sym same) in
    (elim (x.connection == number) as (λ v. (if v then x.what ∷ taken_of number xs else taken_of number xs) ≡ (if v then y.what ∷ taken_of number ys else taken_of number ys) → taken_of number xs ≡ taken_of number ys) [
      | true ↦ λ k. cc
      | false ↦ λ k. k
    ]) (h ∙ again)

-- entries are determined by what was taken of each connection, by which turns, and by what was refused
same_entries : (a b : List ServedRequest) → ((number : ℕ) → taken_of number a ≡ taken_of number b) → turns_of a ≡ turns_of b → refusals_of a ≡ refusals_of b
    → a ≡ b
same_entries [] [] t m r = refl
same_entries [] (y ∷ ys) t m r = absurd cc
same_entries (x ∷ xs) [] t m r = absurd cc
same_entries (x ∷ xs) (y ∷ ys) t m r =
    let one : ℕ × ℕ = (x.connection, x.moment) in
    let other : ℕ × ℕ = (y.connection, y.moment) in
    let turn : one ≡ other = cc in
    let connection : x.connection ≡ y.connection = ap (λ (t : ℕ × ℕ). t.0) turn in
    let moment : x.moment ≡ y.moment = ap (λ (t : ℕ × ℕ). t.1) turn in
    let refused : x.refused ≡ y.refused = cc in
    let what : x.what ≡ y.what = head_taken x y xs ys connection (t x.connection) in
    let others : xs ≡ ys = same_entries xs ys (λ number. tail_taken number x y xs ys connection (t number)) (cc) (cc) in
    let same : x ≡ y = ap (λ (c : ℕ). entry c x.what x.moment x.refused) connection ∙ ap (λ (w : Parsed). entry y.connection w x.moment x.refused) what
    ∙ ap (λ (n : ℕ). entry y.connection y.what n x.refused) moment ∙ ap (λ (b : Bool). entry y.connection y.what y.moment b) refused in
    ap (λ (e : ServedRequest). e ∷ xs) same ∙ ap (λ (es : List ServedRequest). y ∷ es) others

-- for given refusals of memory, the outputs that answer a script are one list
pub one_answer : (script : ScriptSeen) (a b : List (List ℕ)) (x : Answers script a) (y : Answers script b) → refusals_of x.history ≡ refusals_of y.history → a ≡ b
one_answer script a b x y same =
    let turns = x.turns ∙ sym y.turns in
    let size : (number : ℕ) → length (taken_of number x.history) ≡ length (taken_of number y.history) =
    λ number. taken_by number x.history ∙ ap (λ (ts : List (ℕ × ℕ)). turns_by number ts) turns ∙ sym (taken_by number y.history) in
    let taken : (number : ℕ) → taken_of number x.history ≡ taken_of number y.history =
    λ number. x.taken number ∙ ap (λ (n : ℕ). take n (requests_of (text_fed number script.events))) (size number) ∙ sym (y.taken number) in
    let entries = same_entries x.history y.history taken turns same in
    x.answered ∙ ap (λ (es : List ServedRequest). map (λ number. answers_to number (cache_of script) es) (range_with_len 0 script.connections)) entries
    ∙ sym y.answered

-- a history that the first events allow, in which memory was refused to no store
record Grants (opening : CacheState) (events : List ServerEvent) (history : List ServedRequest) : Type 0 where
  legal : IsLegalHistory opening history
  taken : (number : ℕ) → taken_of number history ≡ take (length (taken_of number history)) (requests_of (text_fed number events))
  granted : All (λ refused. refused ≡ false) (refusals_of history)

-- at most as many requests were taken of a connection as its text has
few : (xs ys : List Parsed) → xs ≡ take (length xs) ys → length xs ≤ length ys
few xs ys h = omega (arith, ap length h, length-take (length xs) ys)

-- the first elements of a list are those of a longer one
still_first : (xs ys all more : List Parsed) → xs ≡ take (length xs) ys → all ≡ ys ++ more → xs ≡ take (length xs) all
still_first xs ys all more h is = h ∙ sym (take-append-le (length xs) ys more (few xs ys h)) ∙ ap (λ (ts : List Parsed). take (length xs) ts) (sym is)

-- the next element after the first
next_one : (xs : List Parsed) (n : ℕ) → n < length xs → (x : Parsed) × (take (n + 1) xs ≡ take n xs ++ x ∷ [])
next_one [] n inside = absurd (omega arith)
next_one (x ∷ xs) n inside = (get_or (x ∷ xs) n x, take_more (x ∷ xs) n x inside)

grants_none : (opening : CacheState) → Grants opening [] []
grants_none opening = record { legal = tt; taken = λ number. refl; granted = λ k d inside. absurd (omega arith) }

-- bytes arrive
grants_bytes : (opening : CacheState) (events : List ServerEvent) (history : List ServedRequest) (connection : ℕ) (bytes : List ℕ) → Grants opening events history → Grants opening (events ++ Bytes connection bytes ∷ []) history
grants_bytes opening events history connection bytes h = record {
  legal = h.legal;
  taken = λ number.
      let more = goes_on (text_fed number events) (bytes_fed number (Bytes connection bytes)) in
      still_first (taken_of number history) (requests_of (text_fed number events)) (requests_of (text_fed number (events ++ Bytes connection bytes ∷ []))) more.0 (h.taken number)
      (ap requests_of (text_more number events (Bytes connection bytes)) ∙ more.1);
  granted = h.granted;
}

-- a turn finds none
grants_idle : (opening : CacheState) (events : List ServerEvent) (history : List ServedRequest) (connection moment : ℕ) → Grants opening events history → Grants opening (events ++ Turn connection moment ∷ []) history
grants_idle opening events history connection moment h = record {
  legal = h.legal;
  taken = λ number. h.taken number ∙ ap (λ (text : List ℕ). take (length (taken_of number history)) (requests_of text)) (sym (text_turn number connection moment events));
  granted = h.granted;
}

-- a turn takes the next request
grants_turn : (opening : CacheState) (events : List ServerEvent) (history : List ServedRequest) (connection moment : ℕ) (what : Parsed)
    → Grants opening events history
    → take (length (taken_of connection history) + 1) (requests_of (text_fed connection events)) ≡ take (length (taken_of connection history)) (requests_of (text_fed connection events)) ++ what ∷ []
    → Grants opening (events ++ Turn connection moment ∷ []) (history ++ (record { connection = connection; what = what; moment = moment; refused = false }) ∷ [])
grants_turn opening events history connection moment what h next =
    let e : ServedRequest = record { connection = connection; what = what; moment = moment; refused = false } in
    let longer = history ++ e ∷ [] in
    let own : taken_of connection longer ≡ taken_of connection history ++ what ∷ [] = taken-push connection history e ∙ rw (own_number connection) refl in
    let size : length (taken_of connection longer) ≡ length (taken_of connection history) + 1 = ap length own ∙ length-append (taken_of connection history) (what ∷ []) in
    let here : taken_of connection longer ≡ take (length (taken_of connection longer)) (requests_of (text_fed connection events)) =
    own ∙ ap (λ (ts : List Parsed). ts ++ what ∷ []) (h.taken connection) ∙ sym next ∙ ap (λ (n : ℕ). take n (requests_of (text_fed connection events))) (sym size) in
    let beside : (number : ℕ) → connection ≢ number → taken_of number longer ≡ take (length (taken_of number longer)) (requests_of (text_fed number events)) =
    λ number differ.
    let same : taken_of number longer ≡ taken_of number history = taken-push number history e ∙ rw (other_number connection number differ) (append-nil (taken_of number history)) in
    rw same (h.taken number) in
    record {
      legal = legal-push opening history e h.legal (granted_is_legal (replayed opening history) e refl);
      taken = λ number. ⊎_elim
          (λ is. subst (λ (n : ℕ). taken_of n longer ≡ take (length (taken_of n longer)) (requests_of (text_fed n events))) is.1 here)
          (λ is. beside number is.1)
          (eqb_tells connection number)
          ∙ ap (λ (text : List ℕ). take (length (taken_of number longer)) (requests_of text)) (sym (text_turn number connection moment events));
      granted = subst (λ (bs : List Bool). All (λ refused. refused ≡ false) bs) (sym (map-append (λ (x : ServedRequest). x.refused) history (e ∷ [])))
          (All-push (λ refused. refused ≡ false) (refusals_of history) false h.granted refl);
    }

-- a history grows by an event
record GoesOn (opening : CacheState) (events : List ServerEvent) (event : ServerEvent) (history : List ServedRequest) : Type 0 where
  longer : List ServedRequest
  grants : Grants opening (events ++ event ∷ []) longer
  turns : turns_of longer ≡ served_with events (turns_of history) event

turn_goes_on : (opening : CacheState) (events : List ServerEvent) (history : List ServedRequest) (connection moment : ℕ) (finds : Bool) → finds_one connection events (turns_of history) ≡ finds → Grants opening events history
    → GoesOn opening events (Turn connection moment) history
turn_goes_on opening events history connection moment false is h = record {
  longer = history;
  grants = grants_idle opening events history connection moment h;
  turns = sym (served_none events (turns_of history) connection moment is);
}
turn_goes_on opening events history connection moment true is h =
    let inside : length (taken_of connection history) < length (requests_of (text_fed connection events)) = grind (arith, nat_tests, is, taken_by connection history) in
    let next = next_one (requests_of (text_fed connection events)) (length (taken_of connection history)) inside in
    let e : ServedRequest = record { connection = connection; what = next.0; moment = moment; refused = false } in
    record {
      longer = history ++ e ∷ [];
      grants = grants_turn opening events history connection moment next.0 h next.1;
      turns = ◌∙◌ {b = turns_of history ++ (connection, moment) ∷ []} (map-append (λ (x : ServedRequest). (x.connection, x.moment)) history (e ∷ []))
          (sym (served_one events (turns_of history) connection moment is));
    }

event_goes_on : (opening : CacheState) (events : List ServerEvent) (event : ServerEvent) (history : List ServedRequest) → Grants opening events history → GoesOn opening events event history
event_goes_on opening events (Bytes connection bytes) history h = record { longer = history; grants = grants_bytes opening events history connection bytes h; turns = refl }
event_goes_on opening events (Turn connection moment) history h = turn_goes_on opening events history connection moment (finds_one connection events (turns_of history)) refl h

-- a history grows by all events that are left
record Ends (opening : CacheState) (before events : List ServerEvent) (history : List ServedRequest) : Type 0 where
  longer : List ServedRequest
  grants : Grants opening (before ++ events) longer
  turns : turns_of longer ≡ turns_served before (turns_of history) events

all_go_on : (opening : CacheState) (before events : List ServerEvent) (history : List ServedRequest) → Grants opening before history
    → Ends opening before events history
all_go_on opening before [] history h = record {
  longer = history;
  grants = subst (λ (es : List ServerEvent). Grants opening es history) (sym (append-nil before)) h;
  turns = refl;
}
all_go_on opening before (event ∷ events) history h =
    let first = event_goes_on opening before event history h in
    let rest = all_go_on opening (before ++ event ∷ []) events first.longer first.grants in
    record {
      longer = rest.longer;
      grants = subst (λ (es : List ServerEvent). Grants opening es rest.longer) (append_assoc before (event ∷ []) events) rest.grants;
      turns = rest.turns ∙ ap (λ (turns : List (ℕ × ℕ)). turns_served (before ++ event ∷ []) turns events) first.turns;
    }

-- some outputs answer a script, with memory refused to no store
pub some_answer : (script : ScriptSeen) → (outputs : List (List ℕ)) × AnswersUnrefused script outputs
some_answer script =
    let opening = cache_of script in
    let ends = all_go_on opening [] script.events [] (grants_none opening) in (
      map (λ number. answers_to number opening ends.longer) (range_with_len 0 script.connections),
      record {
        answers = record { history = ends.longer; legal = ends.grants.legal; taken = ends.grants.taken; turns = ends.turns; answered = refl };
        granted = ends.grants.granted;
      },
    )

-- turns of connections that exist
Below : ℕ → List (ℕ × ℕ) → Type 0
Below connections turns = All (λ turn. turn.0 < connections) turns

turns_below : (connections : ℕ) (before : List ServerEvent) (served : List (ℕ × ℕ)) (events : List ServerEvent) → Below connections served → All (IsEventOf connections) events → Below connections (turns_served before served events)
unfolding Below
turns_below connections before served [] below all = below
turns_below connections before served (Bytes connection bytes ∷ events) below all =
    turns_below connections (before ++ Bytes connection bytes ∷ []) served events below (All-tail (IsEventOf connections) (Bytes connection bytes) events all)
turns_below connections before served (Turn connection moment ∷ events) below all =
    let inside = (All-head (IsEventOf connections) (Turn connection moment) events all).0 in
    let longer = All-push (λ turn. turn.0 < connections) served (connection, moment) below inside in
    let next : Below connections (served_with before served (Turn connection moment)) =
    (elim (finds_one connection before served) as (λ v. Below connections (if v then served ++ (connection, moment) ∷ [] else served)) [ true ↦ longer | false ↦ below ]) in
    turns_below connections (before ++ Turn connection moment ∷ []) (served_with before served (Turn connection moment)) events next (All-tail (IsEventOf connections) (Turn connection moment) events all)

-- if a refused entry has a line as its answer, and no answer has that line as a part, memory was refused
-- to no entry
all_granted : (line : List ℕ) → ((s : CacheState) (e : ServedRequest) → IsLegalAt s e → e.refused ≡ true → answer_after s e ≡ line)
    → (connections : ℕ) (s : CacheState) (es : List ServedRequest) → IsLegalHistory s es → Below connections (turns_of es)
    → ((number : ℕ) → number < connections → HasPart (answers_to number s es) line → ⊥) → All (λ refused. refused ≡ false) (refusals_of es)
unfolding Below
all_granted line told connections s [] legal below never = λ k d inside. absurd (omega arith)
all_granted line told connections s (e ∷ es) legal below never =
    let inside = All-head (λ turn. turn.0 < connections) (e.connection, e.moment) (turns_of es) below in
    let rest = answers_to e.connection (cache_after s e) es in
    let shown : answers_to e.connection s (e ∷ es) ≡ answer_after s e ++ rest = rw (own_number e.connection) refl in
    let first : e.refused ≡ false =
    (elim (e.refused) as (λ v. e.refused ≡ v → v ≡ false) [
      | true ↦ λ is. absurd (never e.connection inside (record { before = []; after = rest; is = shown ∙ ap (λ (bytes : List ℕ). bytes ++ rest) (told s e legal.0 is) }))
      | false ↦ λ is. refl
    ]) refl in
    let others = all_granted line told connections (cache_after s e) es legal.1 (All-tail (λ turn. turn.0 < connections) (e.connection, e.moment) (turns_of es) below)
    (λ number lt part.
    let own = if e.connection == number then answer_after s e else [] in
    never number lt (record {
      before = own ++ part.before;
      after = part.after;
      is = ap (λ (bytes : List ℕ). own ++ bytes) part.is ∙ sym (append_assoc own (part.before ++ line) part.after)
          ∙ ap (λ (bytes : List ℕ). bytes ++ part.after) (sym (append_assoc own part.before line));
    })) in
    All-cons (λ refused. refused ≡ false) e.refused (refusals_of es) first others

-- outputs without the line are those of a history in which memory was refused to no store
pub no_refusal : (script : ScriptSeen) → All (IsEventOf script.connections) script.events → (outputs : List (List ℕ)) (x : Answers script outputs) → TellNoRefusal outputs
    → All (λ refused. refused ≡ false) (refusals_of x.history)
unfolding Below
no_refusal script all outputs x silent =
    let opening = cache_of script in
    let answer_of_number = λ (number : ℕ). answers_to number opening x.history in
    let below : Below script.connections (turns_of x.history) =
    subst (λ (turns : List (ℕ × ℕ)). Below script.connections turns) (sym x.turns) (turns_below script.connections [] [] script.events (λ k d inside. absurd (omega arith)) all) in
    let size : length outputs ≡ script.connections = ap (λ (os : List (List ℕ)). length os) x.answered ∙ length-map-range_with_len answer_of_number 0 script.connections in
    all_granted (fault_line OutOfMemory) refusal_is_told script.connections opening x.history x.legal below
    (λ number lt part.
    let here : get_or outputs number [] ≡ answers_to number opening x.history =
    ap (λ (os : List (List ℕ)). get_or os number []) x.answered ∙ get_or-map-range_with_len answer_of_number 0 script.connections number number [] lt (omega arith) in
    silent number [] (omega (arith, size, lt)) (subst (λ (bytes : List ℕ). HasPart bytes (fault_line OutOfMemory)) (sym here) part))

-- histories of the same turns, in which memory was refused to no store
none_refused : (a b : List ServedRequest) → turns_of a ≡ turns_of b → All (λ refused. refused ≡ false) (refusals_of a) → All (λ refused. refused ≡ false) (refusals_of b) → refusals_of a ≡ refusals_of b
none_refused [] [] turns first second = refl
none_refused [] (y ∷ ys) turns first second = absurd cc
none_refused (x ∷ xs) [] turns first second = absurd cc
none_refused (x ∷ xs) (y ∷ ys) turns first second =
    let others : turns_of xs ≡ turns_of ys = cc in
    let here : x.refused ≡ y.refused = All-head (λ refused. refused ≡ false) x.refused (refusals_of xs) first ∙ sym (All-head (λ refused. refused ≡ false) y.refused (refusals_of ys) second) in
    let again = none_refused xs ys others (All-tail (λ refused. refused ≡ false) x.refused (refusals_of xs) first) (All-tail (λ refused. refused ≡ false) y.refused (refusals_of ys) second) in
    ap (λ (b : Bool). b ∷ refusals_of xs) here ∙ ap (λ (bs : List Bool). y.refused ∷ bs) again

-- no other outputs answer it
pub only_answer : (script : ScriptSeen) → All (IsEventOf script.connections) script.events → (a b : List (List ℕ)) → AnswersUnrefused script a → Answers script b → TellNoRefusal b → b ≡ a
only_answer script all a b x y silent =
    one_answer script b a y x.answers (none_refused y.history x.answers.history (y.turns ∙ sym x.answers.turns) (no_refusal script all b y silent) x.granted)
