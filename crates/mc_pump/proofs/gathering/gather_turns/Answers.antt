use Rattle.std.proofs.Common.{◌<◌, ◌≡◌, ℕ, List, rules, arith, refl, sym, ap, subst, length}
use Rattle.mc_server.specs.ServerState.{ServerState, connection_at, output_of}
use Rattle.mc_server.specs.Turns.{IsTurn, Steps}
use Rattle.mc_server.specs.Gathers.{TakesOut, IsGatheredTurn}
use Rattle.mc_server.specs.declared.turns.Turn.TheVariants.{Idle, Closing}
use Rattle.mc_server.specs.declared.turns.Limited.TheVariants.{Turned, Refused}
use Rattle.mc_stream.proofs.SideLemmas.{keeps_appends}
use Rattle.mc_pump.specs.Gathers.{GathersTurns}
use Rattle.mc_pump.specs.declared.limits.TheConstants.{UNSENT_MARK}
use Rattle.mc_pump.proofs.CountLemmas.{output_grows}
use Rattle.mc_pump.proofs.RoundLemmas.{closed_has_none, found_none, not_barred}
use Rattle.mc_pump.proofs.GatherLemmas.{gathers_none, gathers_still, gathers_idle, gathers_closing, gathers_took, gathers_showed, gathered_one, plain_took, plain_wrote, stepped}
use Rattle.mc_pump.specs.Counts.{counted_by}
use Rattle.mc_pump.proofs.UnsentLemmas.{taken_within, unsent_turn}
use Rattle.mc_server.specs.Rooms.{bound_of}
use Rattle.mc_server.specs.Turns.{waiting_of}
use Rattle.mc_server.specs.declared.limits.AnswerLimit.{AnswerLimit}
use Rattle.mc_pump.proofs.gathering.gather_turns.Goals as goal

pub loop-stop-init : goal.loop-stop-init
loop-stop-init g c = (gathers_none c.args.number c.args.moment (counted_by c.args.watch.now) c.args.server.now (g.W.Write.contents c.args.writer.now) c.requires.is_open, λ barred some. (refl, refl))

-- a value was shown, of which the writer took some
pub returns-then-went-gt0-clause-turns : goal.returns-then-went-gt0-clause-turns
returns-then-went-gt0-clause-turns g c =
    let steps : Steps c.args.number c.loop-stop.server c.turn_gathering.new.self (TakesOut c.args.number c.args.moment c.turn_gathering.new.went (g.W.Write.contents c.loop-stop.writer) (g.W.Write.contents c.turn_gathering.new.writer)) =
    rw c.in-Ok-Turned-Took.field-0-0-is at (rw c.in-Ok-Turned-Took.field-0-is at c.in-Ok-Turned-Took.ensures.within) in
    let below : length (output_of (connection_at c.loop-stop.server c.args.number)) < UNSENT_MARK = rw (← c.output-unsent.ensures) c.in_default.ensures.below in
    gathers_showed c.args.number c.args.moment c.turn_gathering.new.went c.turn_gathering.new.work (length c.output-unsent.result.now) c.len_of-kept.result (counted_by c.args.watch.now) (counted_by c.loop-stop.watch) (counted_by c.showed.new.self) c.args.server.now c.loop-stop.server c.turn_gathering.new.self _ _ _ c.loop-stop.invariant.0
    steps c.if-went-gt0.true below (search rules) (search rules) c.in_default.ensures.some_left c.stop_before.ensures.fits (search rules) c.showed.ensures.no_memory c.showed.ensures.left c.showed.ensures.most
    (unsent_turn (length (output_of (connection_at c.loop-stop.server c.args.number))) (length (output_of (connection_at c.turn_gathering.new.self c.args.number))) (length c.output-unsent.result.now) c.reserved.result c.limit_beside-limit.result.bytes c.loop-stop.watch.limit.bytes c.loop-stop.watch.most
    (bound_of (waiting_of (connection_at c.loop-stop.server c.args.number)) c.loop-stop.server.cache) (ap (λ (bytes : List ℕ). length bytes) c.output-unsent.ensures) c.reserved.ensures.output c.in-Ok-Turned-Took.ensures.bounded
    (taken_within c.limit_beside-limit.result.bytes _ c.in-Ok-Turned-Took.field-0-0 (rw c.in-Ok-Turned-Took.field-0-is at c.in-Ok-Turned-Took.ensures.refused)) (ap (λ (limit : AnswerLimit). limit.bytes) c.limit_beside-limit.ensures) (rw c.output-output.ensures at c.len_of-kept.ensures.fits))

-- something was taken, and its whole answer is in the output
pub loop-stop-smaller : goal.loop-stop-smaller
loop-stop-smaller g c =
    let steps : Steps c.args.number c.loop-stop.server c.turn_gathering.new.self (TakesOut c.args.number c.args.moment c.turn_gathering.new.went (g.W.Write.contents c.loop-stop.writer) (g.W.Write.contents c.turn_gathering.new.writer)) =
    rw c.in-Ok-Turned-Took.field-0-0-is at (rw c.in-Ok-Turned-Took.field-0-is at c.in-Ok-Turned-Took.ensures.within) in
    gathered_one c.args.number c.args.moment c.turn_gathering.new.went c.loop-stop.server c.turn_gathering.new.self _ _ steps

pub loop-stop-preserved : goal.loop-stop-preserved
loop-stop-preserved g c =
    let steps : Steps c.args.number c.loop-stop.server c.turn_gathering.new.self (TakesOut c.args.number c.args.moment c.turn_gathering.new.went (g.W.Write.contents c.loop-stop.writer) (g.W.Write.contents c.turn_gathering.new.writer)) =
    rw c.in-Ok-Turned-Took.field-0-0-is at (rw c.in-Ok-Turned-Took.field-0-is at c.in-Ok-Turned-Took.ensures.within) in
    let below : length (output_of (connection_at c.loop-stop.server c.args.number)) < UNSENT_MARK = rw (← c.output-unsent.ensures) c.in_default.ensures.below in
    let none : c.turn_gathering.new.went ≡ 0 = omega (arith, c.if-went-gt0.false) in (
      gathers_took c.args.number c.args.moment c.turn_gathering.new.work (counted_by c.args.watch.now) (counted_by c.loop-stop.watch) (counted_by c.took.new.self) c.split_at.result.1.now c.args.server.now c.loop-stop.server c.turn_gathering.new.self _ _ _ c.loop-stop.invariant.0
          (plain_took c.args.number c.args.moment c.turn_gathering.new.went c.loop-stop.server c.turn_gathering.new.self _ _ steps none) (plain_wrote c.args.number c.args.moment c.turn_gathering.new.went c.loop-stop.server c.turn_gathering.new.self _ _ steps none)
          below c.in_default.ensures.some_left c.stop_before.ensures.fits (search rules) (search rules) c.took.ensures.no_memory c.took.ensures.left c.took.ensures.most (unsent_turn (length (output_of (connection_at c.loop-stop.server c.args.number))) (length (output_of (connection_at c.turn_gathering.new.self c.args.number))) (length c.output-unsent.result.now) c.reserved.result c.limit_beside-limit.result.bytes c.loop-stop.watch.limit.bytes c.loop-stop.watch.most
          (bound_of (waiting_of (connection_at c.loop-stop.server c.args.number)) c.loop-stop.server.cache) (ap (λ (bytes : List ℕ). length bytes) c.output-unsent.ensures) c.reserved.ensures.output c.in-Ok-Turned-Took.ensures.bounded
          (taken_within c.limit_beside-limit.result.bytes _ c.in-Ok-Turned-Took.field-0-0 (rw c.in-Ok-Turned-Took.field-0-is at c.in-Ok-Turned-Took.ensures.refused)) (ap (λ (limit : AnswerLimit). limit.bytes) c.limit_beside-limit.ensures) (rw c.output-output.ensures at c.len_of-kept.ensures.fits)),
      λ barred some. absurd (not_barred c.args.number c.args.watch.now.left c.loop-stop.watch.left c.args.server.now c.loop-stop.server c.is_foreign.result c.loop-stop.invariant.1 c.is_foreign.ensures c.if-is_foreign.false barred some),
    )

pub split_at-requires : goal.split_at-requires
split_at-requires g c =
    let steps : Steps c.args.number c.loop-stop.server c.turn_gathering.new.self (TakesOut c.args.number c.args.moment c.turn_gathering.new.went (g.W.Write.contents c.loop-stop.writer) (g.W.Write.contents c.turn_gathering.new.writer)) =
    rw c.in-Ok-Turned-Took.field-0-0-is at (rw c.in-Ok-Turned-Took.field-0-is at c.in-Ok-Turned-Took.ensures.within) in
    let none : c.turn_gathering.new.went ≡ 0 = omega (arith, c.if-went-gt0.false) in
    let grows = output_grows c.args.number c.args.moment c.loop-stop.server c.turn_gathering.new.self (plain_took c.args.number c.args.moment c.turn_gathering.new.went c.loop-stop.server c.turn_gathering.new.self _ _ steps none) in
    let before : length c.output-unsent.result.now ≡ length (output_of (connection_at c.loop-stop.server c.args.number)) = ap (λ (bytes : List ℕ). length bytes) c.output-unsent.ensures in
    let after : length c.output-output.result.now ≡ length (output_of (connection_at c.turn_gathering.new.self c.args.number)) = ap (λ (bytes : List ℕ). length bytes) c.output-output.ensures in
    omega (arith, grows, before, after)

-- none is pending
pub returns-in-Ok-Turned-Idle-clause-turns : goal.returns-in-Ok-Turned-Idle-clause-turns
returns-in-Ok-Turned-Idle-clause-turns g c =
    let steps : Steps c.args.number c.loop-stop.server c.turn_gathering.new.self (IsGatheredTurn c.args.number c.args.moment (Turned Idle) c.turn_gathering.new.went (g.W.Write.contents c.loop-stop.writer) (g.W.Write.contents c.turn_gathering.new.writer)) =
    rw c.in-Ok-Turned-Idle.field-0-0-is at (rw c.in-Ok-Turned-Idle.field-0-is at c.in-Ok-Turned-Idle.ensures.within) in
    gathers_idle c.args.number c.args.moment (counted_by c.args.watch.now) (counted_by c.loop-stop.watch) c.args.server.now c.loop-stop.server c.turn_gathering.new.self _ _ _ c.loop-stop.invariant.0
    (stepped _ (IsTurn c.args.number c.args.moment Idle) c.args.number c.loop-stop.server c.turn_gathering.new.self steps steps.step.2) (keeps_appends _ _ steps.step.1)

pub returns-in-Ok-Turned-Idle-clause-stop : goal.returns-in-Ok-Turned-Idle-clause-stop
returns-in-Ok-Turned-Idle-clause-stop g c =
    let steps : Steps c.args.number c.loop-stop.server c.turn_gathering.new.self (IsGatheredTurn c.args.number c.args.moment (Turned Idle) c.turn_gathering.new.went (g.W.Write.contents c.loop-stop.writer) (g.W.Write.contents c.turn_gathering.new.writer)) =
    rw c.in-Ok-Turned-Idle.field-0-0-is at (rw c.in-Ok-Turned-Idle.field-0-is at c.in-Ok-Turned-Idle.ensures.within) in
    let below : length (output_of (connection_at c.loop-stop.server c.args.number)) < UNSENT_MARK = rw (← c.output-unsent.ensures) c.in_default.ensures.below in
    found_none c.args.number c.args.moment c.loop-stop.server c.turn_gathering.new.self (stepped _ (IsTurn c.args.number c.args.moment Idle) c.args.number c.loop-stop.server c.turn_gathering.new.self steps steps.step.2) below

-- nothing is read any more
pub returns-in-Ok-Turned-Closing-clause-turns : goal.returns-in-Ok-Turned-Closing-clause-turns
returns-in-Ok-Turned-Closing-clause-turns g c =
    let steps : Steps c.args.number c.loop-stop.server c.turn_gathering.new.self (IsGatheredTurn c.args.number c.args.moment (Turned Closing) c.turn_gathering.new.went (g.W.Write.contents c.loop-stop.writer) (g.W.Write.contents c.turn_gathering.new.writer)) =
    rw c.in-Ok-Turned-Closing.field-0-0-is at (rw c.in-Ok-Turned-Closing.field-0-is at c.in-Ok-Turned-Closing.ensures.within) in
    gathers_closing c.args.number c.args.moment (counted_by c.args.watch.now) (counted_by c.loop-stop.watch) c.args.server.now c.loop-stop.server c.turn_gathering.new.self _ _ _ c.loop-stop.invariant.0
    (stepped _ (IsTurn c.args.number c.args.moment Closing) c.args.number c.loop-stop.server c.turn_gathering.new.self steps steps.step.2) (keeps_appends _ _ steps.step.1)

pub returns-in-Ok-Turned-Closing-clause-stop : goal.returns-in-Ok-Turned-Closing-clause-stop
returns-in-Ok-Turned-Closing-clause-stop g c =
    let steps : Steps c.args.number c.loop-stop.server c.turn_gathering.new.self (IsGatheredTurn c.args.number c.args.moment (Turned Closing) c.turn_gathering.new.went (g.W.Write.contents c.loop-stop.writer) (g.W.Write.contents c.turn_gathering.new.writer)) =
    rw c.in-Ok-Turned-Closing.field-0-0-is at (rw c.in-Ok-Turned-Closing.field-0-is at c.in-Ok-Turned-Closing.ensures.within) in
    closed_has_none c.args.number c.args.moment c.loop-stop.server c.turn_gathering.new.self (stepped _ (IsTurn c.args.number c.args.moment Closing) c.args.number c.loop-stop.server c.turn_gathering.new.self steps steps.step.2)

-- the answer may be too large: nothing has changed
pub returns-in-Ok-Refused-clause-turns : goal.returns-in-Ok-Refused-clause-turns
returns-in-Ok-Refused-clause-turns g c =
    let kept : c.turn_gathering.new.self ≡ c.loop-stop.server = c.in-Ok-Refused.ensures.unchanged (rw c.in-Ok-Refused.field-0-is refl) in
    let steps : Steps c.args.number c.loop-stop.server c.turn_gathering.new.self (IsGatheredTurn c.args.number c.args.moment (Refused) c.turn_gathering.new.went (g.W.Write.contents c.loop-stop.writer) (g.W.Write.contents c.turn_gathering.new.writer)) = rw c.in-Ok-Refused.field-0-is at c.in-Ok-Refused.ensures.within in
    let P : ServerState → Type 0 = λ s. GathersTurns c.args.number c.args.moment c.args.server.now s (g.W.Write.contents c.args.writer.now) (g.W.Write.contents c.turn_gathering.new.writer) (counted_by c.args.watch.now) (counted_by c.loop-stop.watch) in
    rw c.refuse.ensures.counted (subst P (sym kept) (gathers_still c.args.number c.args.moment (counted_by c.args.watch.now) (counted_by c.loop-stop.watch) c.args.server.now c.loop-stop.server _ _ _ c.loop-stop.invariant.0 (keeps_appends _ _ steps.step.1)))

pub returns-then-went-gt0-clause-barred : goal.returns-then-went-gt0-clause-barred
returns-then-went-gt0-clause-barred g c = λ barred some. absurd (not_barred c.args.number c.args.watch.now.left c.loop-stop.watch.left c.args.server.now c.loop-stop.server c.is_foreign.result c.loop-stop.invariant.1 c.is_foreign.ensures c.if-is_foreign.false barred some)

pub returns-in-Ok-Turned-Idle-clause-barred : goal.returns-in-Ok-Turned-Idle-clause-barred
returns-in-Ok-Turned-Idle-clause-barred g c = λ barred some. absurd (not_barred c.args.number c.args.watch.now.left c.loop-stop.watch.left c.args.server.now c.loop-stop.server c.is_foreign.result c.loop-stop.invariant.1 c.is_foreign.ensures c.if-is_foreign.false barred some)

pub returns-in-Ok-Turned-Closing-clause-barred : goal.returns-in-Ok-Turned-Closing-clause-barred
returns-in-Ok-Turned-Closing-clause-barred g c = λ barred some. absurd (not_barred c.args.number c.args.watch.now.left c.loop-stop.watch.left c.args.server.now c.loop-stop.server c.is_foreign.result c.loop-stop.invariant.1 c.is_foreign.ensures c.if-is_foreign.false barred some)

pub returns-in-Ok-Refused-clause-barred : goal.returns-in-Ok-Refused-clause-barred
returns-in-Ok-Refused-clause-barred g c = λ barred some. absurd (not_barred c.args.number c.args.watch.now.left c.loop-stop.watch.left c.args.server.now c.loop-stop.server c.is_foreign.result c.loop-stop.invariant.1 c.is_foreign.ensures c.if-is_foreign.false barred some)

pub returns-in-Err-clause-barred : goal.returns-in-Err-clause-barred
returns-in-Err-clause-barred g c = λ barred some. absurd (not_barred c.args.number c.args.watch.now.left c.loop-stop.watch.left c.args.server.now c.loop-stop.server c.is_foreign.result c.loop-stop.invariant.1 c.is_foreign.ensures c.if-is_foreign.false barred some)

-- no turn may be taken
pub returns-in-Some-clause-barred : goal.returns-in-Some-clause-barred
returns-in-Some-clause-barred g c = λ barred some.
    let same = c.loop-stop.invariant.1 barred some in
    let few : length c.output-unsent.result.now < UNSENT_MARK = rw (c.output-unsent.ensures, same.0) barred.1 in
    let any : 0 < c.loop-stop.watch.left = rw same.1 some in
    let clash = c.in-Some.ensures.none few any in
    absurd cc

-- the next line is foreign
pub returns-then-is_foreign-clause-barred : goal.returns-then-is_foreign-clause-barred
returns-then-is_foreign-clause-barred g c = λ barred some. (refl, (c.loop-stop.invariant.1 barred some).0)
