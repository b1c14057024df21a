-- The parts of a round.
use Rattle.std.proofs.Common.{◌≡◌, ◌∙◌, ◌⊎◌, ◌≤◌, ◌<◌, inl, inr, ℕ, ◌==◌, ◌&&◌, Bool, true, false, Result, Ok, List, [], ◌∷◌, length, take, drop, Option, Some, None, IsSome, refl, sym, ap, subst, arith, length-drop}
use Rattle.std.proofs.lemmas.Bool.Decides.{nat_tests}
use Rattle.std.specs.Io.KnownBytes.{Appends}
use Rattle.mc_server.specs.ServerState.{ConnectionState, Connections, ServerState, connection_at, connection_in, output_of, updated, sent_by}
use Rattle.mc_server.specs.Turns.{IsTurn, Steps, waiting_of, is_closed_at, is_foreign_at}
use Rattle.mc_server.specs.declared.turns.Turn.TheVariants.{Idle, Closing}
use Rattle.mc_server.proofs.ConnectionLemmas.{updated_own}
use Rattle.mc_request_reader.specs.Reader.{rest_of}
use Rattle.mc_pump.specs.Stretches.{ConnectionStretch}
use Rattle.mc_stream.specs.Sides.{HowItCame, HowItWent}
use Rattle.mc_pump.specs.Counts.{Counted}
use Rattle.mc_pump.specs.Pumps.{IsBarred, IsOver, IsStuck}
use Rattle.mc_pump.specs.Rounds.{IsSentOf, Receives, Sends, StopsAt, ends_by, is_spent, reads_by}
use Rattle.mc_pump.specs.declared.limits.TheConstants.{UNSENT_MARK}
use Rattle.mc_pump.specs.declared.rounds.Stop.{Stop}
use Rattle.mc_pump.specs.declared.rounds.Stop.TheVariants as stops
use Rattle.mc_stream.specs.declared.outcomes.Pumped.{Pumped}
use Rattle.mc_pump.proofs.StretchLemmas.{none_takes_none, sent_takes_none, stretch_none, stretch_sent, stretch_open}

-- an open connection
pub the_open : (o : Option ConnectionState) → IsSome o → (c : ConnectionState) × (o ≡ Some c)
the_open None h = let clash : false ≡ true = h in absurd cc
the_open (Some c) h = (c, refl)

pub is_open : (o : Option ConnectionState) (c : ConnectionState) → o ≡ Some c → IsSome o
is_open None c e = absurd cc
is_open (Some d) c e = refl

pub not_none : (o : Option ConnectionState) → (o ≡ None → ⊥) → IsSome o
not_none None h = absurd (h refl)
not_none (Some c) h = refl

-- after a stretch the connection is open
pub stays_open : (number moment : ℕ) (a b : ServerState) (came went : List ℕ) → ConnectionStretch number moment a b came went → IsSome (connection_at b number)
stays_open number moment a b came went h = is_open (connection_at b number) h.after (stretch_open number moment a b came went h)

-- a turn that finds none leaves none, and as much unsent
pub found_none : (number moment : ℕ) (old new : ServerState) → Steps number old new (IsTurn number moment Idle) → length (output_of (connection_at old number)) < UNSENT_MARK
    → StopsAt stops.Idle (connection_at new number)
found_none number moment old new steps below =
    let now : connection_at new number ≡ Some steps.after = ap (λ (cs : Connections). connection_in cs number) steps.is ∙ updated_own number steps.before steps.after old.connections steps.was in
    let none : rest_of steps.after.reader [] ≡ [] = steps.step.none.rest [] ∙ steps.step.none.none in
    let few : length steps.before.output < UNSENT_MARK = subst (λ (c : Option ConnectionState). length (output_of c) < UNSENT_MARK) steps.was below in
    let same : length steps.after.output < UNSENT_MARK = subst (λ (bytes : List ℕ). length bytes < UNSENT_MARK) (sym steps.step.output) few in
    let P : Option ConnectionState → Type 0 = λ o. StopsAt stops.Idle o in
    subst P (sym now) (none, same, steps.step.none.is_open)

-- a closed reader has nothing
pub closed_has_none : (number moment : ℕ) (old new : ServerState) → Steps number old new (IsTurn number moment Closing) → (waiting_of (connection_at new number) ≡ []) × (is_closed_at (connection_at new number) ≡ true)
closed_has_none number moment old new steps =
    let now : connection_at new number ≡ Some steps.after = ap (λ (cs : Connections). connection_in cs number) steps.is ∙ updated_own number steps.before steps.after old.connections steps.was in
    let closed : steps.after.reader.closed ≡ true = ap (λ (c : ConnectionState). c.reader.closed) steps.step.2 ∙ steps.step.0 in
    let none : rest_of steps.after.reader [] ≡ [] = rw closed refl in
    let P : Option ConnectionState → Type 0 = λ o. (waiting_of o ≡ []) × (is_closed_at o ≡ true) in
    subst P (sym now) (none, closed)

-- nothing was sent
pub sends_still : (number moment : ℕ) (count : Counted) (side : Result Bool Pumped) (s : ServerState) (written written' : Option (List ℕ)) → IsSome (connection_at s number)
    → HowItWent side written written' [] (s ≡ s) → Sends number moment side s s written written' count count
sends_still number moment count side s written written' there how =
    let c = the_open (connection_at s number) there in
    record {
      went = [];
      stretch = stretch_none number moment s c.0 c.1;
      untaken = none_takes_none number moment s c.0 c.1;
      uncounted = refl;
      how = how;
      same = record { waits = refl; closed = refl; fewer = omega arith };
    }

-- the first bytes were sent
pub sends_some : (number moment : ℕ) (count : Counted) (sent : ℕ) (output : List ℕ) (old new : ServerState) (written written' : Option (List ℕ)) → IsSome (connection_at old number)
    → output ≡ output_of (connection_at old number) → new ≡ sent_by number sent (connection_at old number) old → Appends written written' (take sent output)
    → Sends number moment (Ok true) old new written written' count count
sends_some number moment count sent output old new written written' there unsent is appended =
    let c = the_open (connection_at old number) there in
    let own : output ≡ c.0.output = unsent ∙ ap output_of c.1 in
    let after : ConnectionState = record c.0 { output = drop sent c.0.output } in
    let there : new ≡ record old { connections = updated number after old.connections } = is ∙ ap (λ (o : Option ConnectionState). sent_by number sent o old) c.1 in
    let now : connection_at new number ≡ Some after = ap (λ (s : ServerState). connection_at s number) there ∙ updated_own number c.0 after old.connections c.1 in
    let fewer : length (drop sent c.0.output) ≤ length c.0.output = omega (arith, length-drop sent c.0.output) in
    let P : Option ConnectionState → Type 0 = λ o. IsSentOf (Some c.0) o in
    let Q : Option ConnectionState → Type 0 = λ o. IsSentOf o (connection_at new number) in
    record {
      went = take sent c.0.output;
      stretch = stretch_sent number moment sent c.0 old new c.1 is;
      untaken = sent_takes_none number moment sent c.0 old new c.1 is;
      uncounted = refl;
      how = subst (λ (bytes : List ℕ). Appends written written' (take sent bytes)) own appended;
      same = subst Q (sym c.1) (subst P (sym now) (record { waits = refl; closed = refl; fewer = fewer }));
    }

-- nothing arrived
pub receives_still : (number moment : ℕ) (count : Counted) (side : Result Bool Pumped) (s : ServerState) (unread unread' : Option (List ℕ)) (ended' : Bool) → IsSome (connection_at s number)
    → HowItCame side unread unread' ended' [] (s ≡ s) → Receives number moment side s s unread unread' ended' count count
receives_still number moment count side s unread unread' ended' there how =
    let c = the_open (connection_at s number) there in
    record {
      came = [];
      stretch = stretch_none number moment s c.0 c.1;
      untaken = none_takes_none number moment s c.0 c.1;
      uncounted = refl;
      how = how;
    }

no_bytes : (bytes : List ℕ) → length bytes ≡ 0 → bytes ≡ []
no_bytes [] e = refl
no_bytes (b ∷ bs) e = absurd (omega (arith, e))

-- both of two tests hold
both : (a b answer : Bool) → answer ≡ (a && b) → answer ≡ true → (a ≡ true) × (b ≡ true)
both true true answer is e = (refl, refl)
both true false answer is e = let clash : true ≡ false = sym e ∙ is in absurd cc
both false b answer is e = let clash : true ≡ false = sym e ∙ is in absurd cc

no_more : (stop : Stop) (ended : Bool) (o : Option ConnectionState) → StopsAt stop o → ends_by stop ended ≡ true → (waiting_of o ≡ []) × ((ended ≡ true) ⊎ (is_closed_at o ≡ true))
no_more stops.Idle ended o h e = (h.0, inl e)
no_more stops.Closing ended o h e = (h.0, inr h.1)
no_more stops.Marked ended o h e = absurd cc
no_more stops.Spent ended o h e = absurd cc

-- if all is sent and nothing more will arrive, the connection is over
pub over : (stop : Stop) (ended answer : Bool) (a b : Option ConnectionState) → StopsAt stop a → IsSentOf a b → answer ≡ ((length (output_of b) == 0) && ends_by stop ended) → answer ≡ true → IsOver ended b
over stop ended answer a b h same is e =
    let tests = both (length (output_of b) == 0) (ends_by stop ended) answer is e in
    let more = no_more stop ended a h tests.1 in
    record {
      none_waits = same.waits ∙ more.0;
      all_sent = no_bytes (output_of b) (grind (arith, nat_tests, tests.0));
      no_more = elim more.1 [
        | inl e ↦ inl e
        | inr e ↦ inr (same.closed ∙ e)
      ];
    }

-- if turns stopped, none is pending or too much is unsent
stopped_at : (stop : Stop) (o : Option ConnectionState) → is_spent stop ≡ false → StopsAt stop o → (waiting_of o ≡ []) ⊎ (UNSENT_MARK ≤ length (output_of o))
stopped_at stops.Idle o unspent h = inl h.0
stopped_at stops.Closing o unspent h = inl h.0
stopped_at stops.Marked o unspent h = inr h
stopped_at stops.Spent o unspent h = absurd cc

-- if nothing is unsent, and the input is read no further, it has ended
not_read : (stop : Stop) (ended : Bool) (o : Option ConnectionState) → is_spent stop ≡ false → StopsAt stop o → reads_by stop ended ≡ false → output_of o ≡ [] → ends_by stop ended ≡ true
not_read stops.Idle true o unspent h e none = refl
not_read stops.Idle false o unspent h e none = absurd cc
not_read stops.Closing ended o unspent h e none = refl
not_read stops.Marked ended o unspent h e none = let nothing : length (output_of o) ≡ 0 = ap (λ (bytes : List ℕ). length bytes) none in absurd (omega (arith, h, nothing))
not_read stops.Spent ended o unspent h e none = absurd cc

-- if the connection is not over, and the input is read no further, it is stuck
pub stuck : (stop : Stop) (ended answer : Bool) (o : Option ConnectionState) → is_spent stop ≡ false → StopsAt stop o → answer ≡ ((length (output_of o) == 0) && ends_by stop ended) → answer ≡ false
    → reads_by stop ended ≡ false → IsStuck ended o
stuck stop ended answer o unspent h is e unread = record {
  taken = stopped_at stop o unspent h;
  goes_on = λ all.
      let ends : ends_by stop ended ≡ true = not_read stop ended o unspent h unread all.all_sent in
      let sent : (length (output_of o) == 0) ≡ true = rw all.all_sent refl in
      let clash : true ≡ false = sym (rw sent (rw ends refl)) ∙ sym is ∙ e in
      absurd cc;
}

-- if the input is read on, no request is pending, and less is unsent than the mark
pub read_on : (stop : Stop) (ended answer : Bool) (o : Option ConnectionState) → StopsAt stop o → answer ≡ reads_by stop ended → answer ≡ true → (StopsAt stops.Idle o) × (ended ≡ false)
read_on stops.Idle true answer o h is e = let clash : true ≡ false = sym e ∙ is in absurd cc
read_on stops.Idle false answer o h is e = (h, refl)
read_on stops.Closing ended answer o h is e = let clash : true ≡ false = sym e ∙ is in absurd cc
read_on stops.Marked ended answer o h is e = let clash : true ≡ false = sym e ∙ is in absurd cc
read_on stops.Spent ended answer o h is e = let clash : true ≡ false = sym e ∙ is in absurd cc

-- a connection whose input is read on is not over
pub unheard : (ended : Bool) (o : Option ConnectionState) → waiting_of o ≡ [] → is_closed_at o ≡ false → ended ≡ false → IsStuck ended o
unheard ended o none closed goes_on = record {
  taken = inl none;
  goes_on = λ all. elim all.no_more [
    | inl e ↦ let clash : true ≡ false = sym e ∙ goes_on in absurd cc
    | inr e ↦ let clash : true ≡ false = sym e ∙ closed in absurd cc
  ];
}

-- if a turn is taken of a server that is as it was if its connection is barred, the connection is not
pub not_barred : (number left left' : ℕ) (a b : ServerState) (foreign : Bool) → (IsBarred (connection_at a number) → 0 < left → (b ≡ a) × (left' ≡ left))
    → foreign ≡ is_foreign_at (connection_at b number) → foreign ≡ false → IsBarred (connection_at a number) → 0 < left → ⊥
not_barred number left left' a b foreign same is passed barred some =
    let here : is_foreign_at (connection_at b number) ≡ true = ap (λ (s : ServerState). is_foreign_at (connection_at s number)) (same barred some).0 ∙ barred.0 in
    let clash : true ≡ false = sym here ∙ sym is ∙ passed in
    absurd cc
