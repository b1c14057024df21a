use Rattle.std.proofs.Common.{◌≡◌, ◌∙◌, ◌<◌, ◌-◌, ℕ, false, arith, refl, sym, ap, []}
use Rattle.mc_proxy.specs.FirstAndLast.{commands_of, is_foreign_at}
use Rattle.mc_proxy.specs.SessionTurns.{IsTurn}
use Rattle.mc_proxy.specs.declared.session_turns.SessionTurn.TheVariants.{Took, Idle, Waiting, Closing}
use Rattle.mc_proxy.specs.ProxyState.{session_at}
use Rattle.mc_proxy.specs.Turns.{Steps}
use Rattle.mc_proxy.proofs.StepLemmas.{steps_still}
use Rattle.mc_proxy_pump.specs.Tallies.{counts_of}
use Rattle.mc_proxy_pump.specs.Work.{request_work}
use Rattle.mc_proxy_pump.specs.declared.tallies.ClientTally.{ClientTally}
use Rattle.mc_proxy_pump.proofs.RoundLemmas.{closing_stops, early_kept, idle_stops, stretch_took, stretch_turned, took_one, waiting_stops}
use Rattle.mc_proxy_pump.proofs.StretchLemmas.{stretch_then}
use Rattle.mc_proxy_pump.proofs.clients.take_turns.Goals as goal

pub loop-tally-smaller : goal.loop-tally-smaller
loop-tally-smaller c =
    let steps : Steps c.args.session c.loop-tally.proxy c.turn.new.self (IsTurn c.args.session Took c.loop-tally.proxy.ring c.loop-tally.proxy.losses) = rw c.in-Took.is at c.in-Ok.ensures.turn in
    took_one c.args.session c.loop-tally.proxy c.turn.new.self steps

pub loop-tally-preserved : goal.loop-tally-preserved
loop-tally-preserved c =
    let steps : Steps c.args.session c.loop-tally.proxy c.turn.new.self (IsTurn c.args.session Took c.loop-tally.proxy.ring c.loop-tally.proxy.losses) = rw c.in-Took.is at c.in-Ok.ensures.turn in
    let own : is_foreign_at (session_at c.loop-tally.proxy c.args.session) ≡ false = sym c.is_foreign.ensures ∙ c.if-is_foreign.false in
    let same : c.charge_request.new.self.missed ≡ c.loop-tally.tally.missed = ap (λ (tally : ClientTally). tally.missed) c.charge_request.ensures in
    let some : 0 < c.loop-tally.tally.left = omega (arith, c.if-tally-eq0.false) in
    let spent : c.charge_request.new.self.left ≡ c.loop-tally.tally.left - request_work (commands_of (session_at c.turn.new.self c.args.session)) =
    ap (λ (tally : ClientTally). tally.left) c.charge_request.ensures ∙ ap (λ (n : ℕ). c.loop-tally.tally.left - request_work n) c.commands-commands.ensures in
    record {
      stretch = stretch_then c.args.session c.args.proxy.now c.loop-tally.proxy c.turn.new.self [] [] [] [] (counts_of c.args.tally.now) (counts_of c.loop-tally.tally) (counts_of c.charge_request.new.self) c.loop-tally.invariant.stretch
          (stretch_took c.args.session c.loop-tally.proxy c.turn.new.self c.loop-tally.tally.missed c.charge_request.new.self.missed c.loop-tally.tally.left c.charge_request.new.self.left steps own same some spent);
      uncounted = same ∙ c.loop-tally.invariant.uncounted;
      fewer = omega (arith, c.loop-tally.invariant.fewer, took_one c.args.session c.loop-tally.proxy c.turn.new.self steps);
    }

pub returns-in-Idle-clause-turns : goal.returns-in-Idle-clause-turns
returns-in-Idle-clause-turns c =
    let steps : Steps c.args.session c.loop-tally.proxy c.turn.new.self (IsTurn c.args.session Idle c.loop-tally.proxy.ring c.loop-tally.proxy.losses) = rw c.in-Idle.is at c.in-Ok.ensures.turn in
    let own : is_foreign_at (session_at c.loop-tally.proxy c.args.session) ≡ false = sym c.is_foreign.ensures ∙ c.if-is_foreign.false in
    record {
      stretch = stretch_then c.args.session c.args.proxy.now c.loop-tally.proxy c.turn.new.self [] [] [] [] (counts_of c.args.tally.now) (counts_of c.loop-tally.tally) (counts_of c.loop-tally.tally) c.loop-tally.invariant.stretch
          (stretch_turned c.args.session Idle c.loop-tally.proxy c.turn.new.self (counts_of c.loop-tally.tally) steps own refl);
      uncounted = c.loop-tally.invariant.uncounted;
      fewer = omega (arith, c.loop-tally.invariant.fewer, (idle_stops c.args.session c.loop-tally.proxy c.turn.new.self steps).1);
    }

pub returns-in-Idle-clause-stop : goal.returns-in-Idle-clause-stop
returns-in-Idle-clause-stop c =
    let steps : Steps c.args.session c.loop-tally.proxy c.turn.new.self (IsTurn c.args.session Idle c.loop-tally.proxy.ring c.loop-tally.proxy.losses) = rw c.in-Idle.is at c.in-Ok.ensures.turn in
    (idle_stops c.args.session c.loop-tally.proxy c.turn.new.self steps).0

pub returns-in-Waiting-clause-turns : goal.returns-in-Waiting-clause-turns
returns-in-Waiting-clause-turns c =
    let steps : Steps c.args.session c.loop-tally.proxy c.turn.new.self (IsTurn c.args.session Waiting c.loop-tally.proxy.ring c.loop-tally.proxy.losses) = rw c.in-Waiting.is at c.in-Ok.ensures.turn in
    let own : is_foreign_at (session_at c.loop-tally.proxy c.args.session) ≡ false = sym c.is_foreign.ensures ∙ c.if-is_foreign.false in
    record {
      stretch = stretch_then c.args.session c.args.proxy.now c.loop-tally.proxy c.turn.new.self [] [] [] [] (counts_of c.args.tally.now) (counts_of c.loop-tally.tally) (counts_of c.loop-tally.tally) c.loop-tally.invariant.stretch
          (stretch_turned c.args.session Waiting c.loop-tally.proxy c.turn.new.self (counts_of c.loop-tally.tally) steps own refl);
      uncounted = c.loop-tally.invariant.uncounted;
      fewer = omega (arith, c.loop-tally.invariant.fewer, (waiting_stops c.args.session c.loop-tally.proxy c.turn.new.self steps).1);
    }

pub returns-in-Waiting-clause-stop : goal.returns-in-Waiting-clause-stop
returns-in-Waiting-clause-stop c =
    let steps : Steps c.args.session c.loop-tally.proxy c.turn.new.self (IsTurn c.args.session Waiting c.loop-tally.proxy.ring c.loop-tally.proxy.losses) = rw c.in-Waiting.is at c.in-Ok.ensures.turn in
    (waiting_stops c.args.session c.loop-tally.proxy c.turn.new.self steps).0

pub returns-in-Closing-clause-turns : goal.returns-in-Closing-clause-turns
returns-in-Closing-clause-turns c =
    let steps : Steps c.args.session c.loop-tally.proxy c.turn.new.self (IsTurn c.args.session Closing c.loop-tally.proxy.ring c.loop-tally.proxy.losses) = rw c.in-Closing.is at c.in-Ok.ensures.turn in
    let own : is_foreign_at (session_at c.loop-tally.proxy c.args.session) ≡ false = sym c.is_foreign.ensures ∙ c.if-is_foreign.false in
    record {
      stretch = stretch_then c.args.session c.args.proxy.now c.loop-tally.proxy c.turn.new.self [] [] [] [] (counts_of c.args.tally.now) (counts_of c.loop-tally.tally) (counts_of c.loop-tally.tally) c.loop-tally.invariant.stretch
          (stretch_turned c.args.session Closing c.loop-tally.proxy c.turn.new.self (counts_of c.loop-tally.tally) steps own refl);
      uncounted = c.loop-tally.invariant.uncounted;
      fewer = omega (arith, c.loop-tally.invariant.fewer, (closing_stops c.args.session c.loop-tally.proxy c.turn.new.self steps).1);
    }

pub returns-in-Closing-clause-stop : goal.returns-in-Closing-clause-stop
returns-in-Closing-clause-stop c =
    let steps : Steps c.args.session c.loop-tally.proxy c.turn.new.self (IsTurn c.args.session Closing c.loop-tally.proxy.ring c.loop-tally.proxy.losses) = rw c.in-Closing.is at c.in-Ok.ensures.turn in
    (closing_stops c.args.session c.loop-tally.proxy c.turn.new.self steps).0

pub returns-in-Idle-clause-early : goal.returns-in-Idle-clause-early
returns-in-Idle-clause-early c =
    let steps : Steps c.args.session c.loop-tally.proxy c.turn.new.self (IsTurn c.args.session Idle c.loop-tally.proxy.ring c.loop-tally.proxy.losses) = rw c.in-Idle.is at c.in-Ok.ensures.turn in
    let own : is_foreign_at (session_at c.loop-tally.proxy c.args.session) ≡ false = sym c.is_foreign.ensures ∙ c.if-is_foreign.false in
    early_kept c.args.session c.loop-tally.tally.left c.loop-tally.tally.left c.loop-tally.proxy c.turn.new.self refl
    (steps_still c.args.session c.loop-tally.proxy c.turn.new.self (IsTurn c.args.session Idle c.loop-tally.proxy.ring c.loop-tally.proxy.losses) steps steps.step.1.1 steps.step.1.0)
    (omega (arith, c.if-tally-eq0.false), own)

pub returns-in-Waiting-clause-early : goal.returns-in-Waiting-clause-early
returns-in-Waiting-clause-early c =
    let steps : Steps c.args.session c.loop-tally.proxy c.turn.new.self (IsTurn c.args.session Waiting c.loop-tally.proxy.ring c.loop-tally.proxy.losses) = rw c.in-Waiting.is at c.in-Ok.ensures.turn in
    let own : is_foreign_at (session_at c.loop-tally.proxy c.args.session) ≡ false = sym c.is_foreign.ensures ∙ c.if-is_foreign.false in
    early_kept c.args.session c.loop-tally.tally.left c.loop-tally.tally.left c.loop-tally.proxy c.turn.new.self refl
    (steps_still c.args.session c.loop-tally.proxy c.turn.new.self (IsTurn c.args.session Waiting c.loop-tally.proxy.ring c.loop-tally.proxy.losses) steps steps.step.1.1 steps.step.1.0)
    (omega (arith, c.if-tally-eq0.false), own)

pub returns-in-Closing-clause-early : goal.returns-in-Closing-clause-early
returns-in-Closing-clause-early c =
    let steps : Steps c.args.session c.loop-tally.proxy c.turn.new.self (IsTurn c.args.session Closing c.loop-tally.proxy.ring c.loop-tally.proxy.losses) = rw c.in-Closing.is at c.in-Ok.ensures.turn in
    let own : is_foreign_at (session_at c.loop-tally.proxy c.args.session) ≡ false = sym c.is_foreign.ensures ∙ c.if-is_foreign.false in
    early_kept c.args.session c.loop-tally.tally.left c.loop-tally.tally.left c.loop-tally.proxy c.turn.new.self refl
    (steps_still c.args.session c.loop-tally.proxy c.turn.new.self (IsTurn c.args.session Closing c.loop-tally.proxy.ring c.loop-tally.proxy.losses) steps steps.step.1.1 steps.step.1.0)
    (omega (arith, c.if-tally-eq0.false), own)
