-- A server that plays events.
use Rattle.std.proofs.Common.{◌≡◌, ◌∙◌, ⊎_elim, ℕ, zero, suc, ◌+◌, ◌<◌, ◌≤◌, ◌==◌, true, false, if◌then◌else◌, nat_lt, List, [], ◌∷◌, ◌++◌, length, take, drop, get_or, map, Option, Some, None, IsSome, refl, sym, ap, subst, arith, length-append, add-one, drop-cons}
use Rattle.std.specs.List.{range_with_len}
use Rattle.std.proofs.lemmas.Bool.Decides.{nat_tests, eqb_tells}
use Rattle.std.proofs.lemmas.List.{map-append, append-nil, take_more, take_all, drop_all}
use Rattle.std.proofs.lemmas.List.Sums.{sum_by-cons}
use Rattle.std.proofs.lemmas.Grind.{flat_map-append}
use Rattle.mc_request.specs.declared.parts.Parsed.{Parsed}
use Rattle.mc_request.specs.Requests.{requests_of}
use Rattle.mc_request_reader.specs.Reader.{rest_of}
use Rattle.mc_cache.specs.CacheState.{CacheState}
use Rattle.mc_server.specs.Served.{ServedRequest}
use Rattle.mc_server.specs.Histories.{answers_to, taken_of, turns_of}
use Rattle.mc_server.specs.ServerState.{ConnectionState, ServerState, connection_at, connection_in, fresh_connection, output_of, updated}
use Rattle.mc_server.specs.Turns.{IsTurn, Steps}
use Rattle.mc_server.specs.Holds.{Holds, ServerHoldsAt, ServerHolds, grown}
use Rattle.mc_server.specs.declared.turns.Turn.{Turn as Turned}
use Rattle.mc_server.specs.declared.turns.Turn.TheVariants.{Took, Idle, Closing}
use Rattle.mc_server.proofs.HoldsLemmas.{at_each, stood, entry_taken, taken_is_first, ServerHolds-same, ServerHolds-new, ServerHolds-admitted, ServerHolds-fed, ServerHolds-took, ServerHolds-idle, ServerHolds-closing}
use Rattle.mc_script.specs.declared.events.ServerEvent.{ServerEvent}
use Rattle.mc_script.specs.declared.events.ServerEvent.TheVariants.{Bytes, Turn}
use Rattle.mc_script.specs.Answers.{bytes_fed, text_fed, turns_by, finds_one, served_with, turns_served, cache_of, Answers}
use Rattle.mc_script.specs.Plays.{Plays, opened, outputs_of}
use Rattle.mc_script.specs.Scripts.{ScriptSeen}
use Rattle.mc_script.proofs.OutputLemmas.{opened_more}

-- the texts of all connections
abbrev texts_fed : List ServerEvent → ℕ → List ℕ
texts_fed events number = text_fed number events

-- The state in which the first events leave a server: its connections are open, its state is that of a history, and
-- the remaining turns continue the turns of that history.
pub record Played (opening : CacheState) (connections : ℕ) (events : List ServerEvent) (i : ℕ) (server : ServerState) : Type 0 where
  pub history : List ServedRequest
  pub are_open : (number : ℕ) → number < connections → IsSome (connection_at server number)
  pub holds : ServerHolds opening (texts_fed (take i events)) (λ _. []) history server
  pub turns : turns_served (take i events) (turns_of history) (drop i events) ≡ turns_served [] [] events

-- the connections of a server that was just opened
fresh_open : (from count number : ℕ) → from ≤ number → number < from + count → IsSome (connection_in (map (λ n. (n, fresh_connection)) (range_with_len from count)) number)
fresh_open from zero number low high = absurd (omega arith)
fresh_open from (suc count) number low high =
    ⊎_elim (λ e. rw e.0 refl)
    (λ e. let above : from + 1 ≤ number = omega (arith, e.1) in rw e.0 (fresh_open (from + 1) count number above (omega arith)))
    (eqb_tells from number)

-- such a server has the state of an empty history
opened_holds : (opening : CacheState) (count : ℕ) → ServerHolds opening (λ _. []) (λ _. []) [] (opened opening count)
opened_holds opening zero = ServerHolds-new opening
opened_holds opening (suc count) =
    subst (λ (s : ServerState). ServerHolds opening (λ _. []) (λ _. []) [] s) (opened_more opening count ∙ ap (λ (n : ℕ). opened opening n) (add-one count))
    (ServerHolds-admitted opening (λ _. []) (λ _. []) [] (opened opening count) (opened_holds opening count))

pub played_none : (opening : CacheState) (connections : ℕ) (events : List ServerEvent) → Played opening connections events 0 (opened opening connections)
played_none opening connections events = record {
  history = [];
  are_open = λ number inside. fresh_open 0 connections number (omega arith) (omega arith);
  holds = opened_holds opening connections;
  turns = refl;
}

-- the events so far with one more, and those that are left
events_more : (events : List ServerEvent) (i : ℕ) (e : ServerEvent) → i < length events → get_or events i e ≡ e → take (i + 1) events ≡ take i events ++ e ∷ []
events_more events i e h is = take_more events i e h ∙ ap (λ (x : ServerEvent). take i events ++ x ∷ []) is

events_left : (events : List ServerEvent) (i : ℕ) (e : ServerEvent) → i < length events → get_or events i e ≡ e → drop i events ≡ e ∷ drop (i + 1) events
events_left events i e h is = drop-cons events i e h ∙ rw (is, add-one) refl

-- the text after one more event
pub text_more : (number : ℕ) (events : List ServerEvent) (e : ServerEvent) → text_fed number (events ++ e ∷ []) ≡ text_fed number events ++ bytes_fed number e
text_more number events e =
    flat_map-append (λ event. bytes_fed number event) events (e ∷ []) ∙ ap (λ (xs : List ℕ). text_fed number events ++ xs) (append-nil (bytes_fed number e))

pub text_turn : (number connection moment : ℕ) (events : List ServerEvent) → text_fed number (events ++ Turn connection moment ∷ []) ≡ text_fed number events
text_turn number connection moment events = text_more number events (Turn connection moment) ∙ append-nil (text_fed number events)

-- how many were taken of a connection, by the turns
pub taken_by : (number : ℕ) (history : List ServedRequest) → length (taken_of number history) ≡ turns_by number (turns_of history)
taken_by number [] = refl
taken_by number (e ∷ es) =
    let again = taken_by number es in
    (elim (e.connection == number) as (λ v. length (if v then e.what ∷ taken_of number es else taken_of number es) ≡ (if v then 1 else 0) + turns_by number (turns_of es)) [
      | true ↦ omega arith
      | false ↦ omega arith
    ]) ∙ sym (sum_by-cons (λ (turn : ℕ × ℕ). if turn.0 == number then 1 else 0) (e.connection, e.moment) (turns_of es))

-- whether its text has one more, by the text that is left
has_one : (opening : CacheState) (number : ℕ) (text : List ℕ) (history : List ServedRequest) (c : ConnectionState) (what : Parsed) (others : List Parsed)
    → Holds opening number text history [] c → rest_of c.reader [] ≡ what ∷ others → nat_lt (turns_by number (turns_of history)) (length (requests_of text)) ≡ true
has_one opening number text history c what others h e =
    let all : taken_of number history ++ (what ∷ others) ≡ requests_of text = rw (← e) (h.rest [] ∙ rw append-nil refl) in
    let len = ap (λ (ts : List Parsed). length ts) all in
    let below : turns_by number (turns_of history) < length (requests_of text) = omega (arith, len, length-append (taken_of number history) (what ∷ others), taken_by number history) in
    grind (arith, nat_tests, below)

has_none : (opening : CacheState) (number : ℕ) (text : List ℕ) (history : List ServedRequest) (c : ConnectionState)
    → Holds opening number text history [] c → rest_of c.reader [] ≡ [] → nat_lt (turns_by number (turns_of history)) (length (requests_of text)) ≡ false
has_none opening number text history c h e =
    let all : taken_of number history ++ [] ≡ requests_of text = rw (← e) (h.rest [] ∙ rw append-nil refl) in
    let len = ap (λ (ts : List Parsed). length ts) all in
    let past : length (requests_of text) ≤ turns_by number (turns_of history) = omega (arith, len, length-append (taken_of number history) [], taken_by number history) in
    grind (arith, nat_tests, past)

pub served_one : (before : List ServerEvent) (served : List (ℕ × ℕ)) (number moment : ℕ) → finds_one number before served ≡ true
    → served_with before served (Turn number moment) ≡ served ++ (number, moment) ∷ []
served_one before served number moment h = rw h refl

pub served_none : (before : List ServerEvent) (served : List (ℕ × ℕ)) (number moment : ℕ) → finds_one number before served ≡ false
    → served_with before served (Turn number moment) ≡ served
served_none before served number moment h = rw h refl

-- an event that was played, from what it leaves of the server
goes_on : (opening : CacheState) (connections : ℕ) (events : List ServerEvent) (i number : ℕ) (e : ServerEvent) (old new : ServerState) (before after : ConnectionState) (history : List ServedRequest)
    → i < length events → get_or events i e ≡ e → (h : Played opening connections events i old)
    → connection_at old number ≡ Some before → new.connections ≡ updated number after old.connections
    → ServerHolds opening (texts_fed (take i events ++ e ∷ [])) (λ _. []) history new
    → served_with (take i events) (turns_of h.history) e ≡ turns_of history
    → Played opening connections events (i + 1) new
goes_on opening connections events i number e old new before after history inside is h was updates holds served =
    let more = events_more events i e inside is in
    let left = events_left events i e inside is in
    record {
      history = history;
      are_open = at_each number before after old.connections new.connections was updates (λ m c. m < connections → IsSome c) (λ _. refl) (λ m differ. h.are_open m);
      holds = subst (λ (es : List ServerEvent). ServerHolds opening (texts_fed es) (λ _. []) history new) (sym more) holds;
      turns = ap (λ (es : List ServerEvent). turns_served es (turns_of history) (drop (i + 1) events)) more
          ∙ ap (λ (turns : List (ℕ × ℕ)). turns_served (take i events ++ e ∷ []) turns (drop (i + 1) events)) (sym served)
          ∙ ap (λ (es : List ServerEvent). turns_served (take i events) (turns_of h.history) es) (sym left)
          ∙ h.turns;
    }

-- a turn that finds none leaves the history
waits : (opening : CacheState) (connections : ℕ) (events : List ServerEvent) (i number moment : ℕ) (old new : ServerState) (before after : ConnectionState)
    → i < length events → get_or events i (Turn number moment) ≡ Turn number moment → (h : Played opening connections events i old)
    → connection_at old number ≡ Some before → new.connections ≡ updated number after old.connections
    → rest_of before.reader [] ≡ [] → ServerHolds opening (texts_fed (take i events)) (λ _. []) h.history new
    → Played opening connections events (i + 1) new
waits opening connections events i number moment old new before after inside is h was updates none holds =
    let so_far = texts_fed (take i events) in
    let finds = has_none opening number (so_far number) h.history before (stood opening so_far (λ _. []) h.history old number before h.holds was) none in
    goes_on opening connections events i number (Turn number moment) old new before after h.history inside is h was updates
    (ServerHolds-same opening so_far (texts_fed (take i events ++ Turn number moment ∷ [])) (λ _. []) (λ _. []) h.history new (λ m. text_turn m number moment (take i events)) (λ _. refl) holds)
    (served_none (take i events) (turns_of h.history) number moment finds)

-- a turn that takes one adds it to the history
takes : (opening : CacheState) (connections : ℕ) (events : List ServerEvent) (i number moment : ℕ) (old new : ServerState)
    → i < length events → get_or events i (Turn number moment) ≡ Turn number moment → Played opening connections events i old → Steps number old new (IsTurn number moment Took)
    → Played opening connections events (i + 1) new
takes opening connections events i number moment old new inside is h steps =
    let e : ServedRequest = entry_taken steps in
    let so_far = texts_fed (take i events) in
    let was = stood opening so_far (λ _. []) h.history old number steps.before h.holds steps.was in
    let finds = has_one opening number (so_far number) h.history steps.before e.what (rest_of steps.after.reader []) was (steps.step.1.first.rest []) in
    let turns : turns_of (h.history ++ e ∷ []) ≡ turns_of h.history ++ (number, moment) ∷ [] = map-append (λ (x : ServedRequest). (x.connection, x.moment)) h.history (e ∷ []) in
    goes_on opening connections events i number (Turn number moment) old new steps.before steps.after (h.history ++ e ∷ []) inside is h steps.was steps.is
    (ServerHolds-same opening so_far (texts_fed (take i events ++ Turn number moment ∷ [])) (λ _. []) (λ _. []) (h.history ++ e ∷ []) new (λ m. text_turn m number moment (take i events)) (λ _. refl)
    (ServerHolds-took opening so_far (λ _. []) h.history number moment old new h.holds steps))
    (served_one (take i events) (turns_of h.history) number moment finds ∙ sym turns)

closed_rest : (c : ConnectionState) → c.reader.closed ≡ true → rest_of c.reader [] ≡ []
closed_rest c h = rw h refl

turns : (opening : CacheState) (connections : ℕ) (events : List ServerEvent) (i number moment : ℕ) (old new : ServerState) (turned : Turned)
    → i < length events → get_or events i (Turn number moment) ≡ Turn number moment → Played opening connections events i old → Steps number old new (IsTurn number moment turned)
    → Played opening connections events (i + 1) new
turns opening connections events i number moment old new Took inside is h steps = takes opening connections events i number moment old new inside is h steps
turns opening connections events i number moment old new Idle inside is h steps =
    waits opening connections events i number moment old new steps.before steps.after inside is h steps.was steps.is steps.step.none.none
    (ServerHolds-idle opening (texts_fed (take i events)) (λ _. []) h.history number moment old new h.holds steps)
turns opening connections events i number moment old new Closing inside is h steps =
    waits opening connections events i number moment old new steps.before steps.after inside is h steps.was steps.is (closed_rest steps.before steps.step.0)
    (ServerHolds-closing opening (texts_fed (take i events)) (λ _. []) h.history number moment old new h.holds steps)

-- one event is played
pub plays : (opening : CacheState) (connections : ℕ) (events : List ServerEvent) (i : ℕ) (e : ServerEvent) (old new : ServerState)
    → i < length events → get_or events i e ≡ e → Played opening connections events i old → Plays e old new → Played opening connections events (i + 1) new
plays opening connections events i (Bytes number bytes) old new inside is h steps =
    let so_far = texts_fed (take i events) in
    goes_on opening connections events i number (Bytes number bytes) old new steps.before steps.after h.history inside is h steps.was steps.is
    (ServerHolds-same opening (grown number bytes so_far) (texts_fed (take i events ++ Bytes number bytes ∷ [])) (λ _. []) (λ _. []) h.history new
    (λ m. text_more m (take i events) (Bytes number bytes)) (λ _. refl) (ServerHolds-fed opening so_far (λ _. []) h.history number bytes old new h.holds steps))
    refl
plays opening connections events i (Turn number moment) old new inside is h steps = turns opening connections events i number moment old new steps.0 inside is h steps.1

-- functions that agree at each number of a range
same_map : (f g : ℕ → List ℕ) (from count : ℕ) → ((n : ℕ) → from ≤ n → n < from + count → f n ≡ g n) → map f (range_with_len from count) ≡ map g (range_with_len from count)
same_map f g from zero same = refl
same_map f g from (suc count) same =
    ap (λ (x : List ℕ). x ∷ map f (range_with_len (from + 1) count)) (same from (omega arith) (omega arith))
    ∙ ap (λ (xs : List (List ℕ)). g from ∷ xs) (same_map f g (from + 1) count (λ n low high. same n (omega arith) (omega arith)))

-- the output of an open connection is all answers to it
output_at : (opening : CacheState) (number : ℕ) (text : List ℕ) (history : List ServedRequest) (c : Option ConnectionState) → IsSome c → ServerHoldsAt opening number text history [] c → output_of c ≡ answers_to number opening history
output_at opening number text history None never h = absurd cc
output_at opening number text history (Some c) is_open h = h.answered

-- all events have been played
pub all_played : (script : ScriptSeen) (i : ℕ) (server : ServerState) → length script.events ≤ i → Played (cache_of script) script.connections script.events i server
    → Answers script (outputs_of script.connections server)
all_played script i server past h =
    let opening = cache_of script in
    let all : take i script.events ≡ script.events = take_all i script.events past in
    let none : drop i script.events ≡ [] = drop_all i script.events past in
    let holds : ServerHolds opening (texts_fed script.events) (λ _. []) h.history server =
    subst (λ (es : List ServerEvent). ServerHolds opening (texts_fed es) (λ _. []) h.history server) all h.holds in
    record {
      history = h.history;
      legal = holds.cache.legal;
      taken = λ number. taken_is_first opening (texts_fed script.events) (λ _. []) h.history server number holds;
      turns = ap (λ (es : List ServerEvent). turns_served (take i script.events) (turns_of h.history) es) (sym none) ∙ h.turns;
      answered = same_map (λ number. output_of (connection_at server number)) (λ number. answers_to number opening h.history) 0 script.connections
          (λ number low high. output_at opening number (text_fed number script.events) h.history (connection_at server number) (h.are_open number (omega arith)) (holds.each number));
    }
