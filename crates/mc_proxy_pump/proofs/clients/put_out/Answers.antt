use Rattle.std.proofs.Common.{◌<◌, ◌≡◌, ◌∙◌, ◌-◌, ℕ, length, inl, ap, arith, []}
use Rattle.mc_proxy.specs.Emits.{IsEmit}
use Rattle.mc_proxy.specs.declared.session_limits.TheConstants.{UNSENT_MARK}
use Rattle.mc_proxy.specs.declared.session_turns.Emit.TheVariants.{Done, Idle}
use Rattle.mc_proxy.specs.ProxyState.{output_of, session_at}
use Rattle.mc_proxy.specs.Turns.{Alone, Steps}
use Rattle.mc_proxy_pump.specs.Tallies.{counted, counts_of}
use Rattle.mc_proxy_pump.specs.Work.{answer_work, emit_work}
use Rattle.mc_proxy_pump.specs.declared.tallies.ClientTally.{ClientTally}
use Rattle.mc_proxy_pump.proofs.RoundLemmas.{how_more, how_same, put_none, put_one, stretch_emitted, stretch_rested}
use Rattle.mc_proxy_pump.proofs.StretchLemmas.{stretch_then}
use Rattle.mc_proxy_pump.proofs.clients.put_out.Goals as goal

pub loop-session-smaller : goal.loop-session-smaller
loop-session-smaller c =
    let steps : Steps c.args.session c.loop-session.proxy c.emit.new.self (Alone (IsEmit Done)) = rw c.in-Done.is at c.in-Ok.ensures.emit in
    (put_one c.args.session c.loop-session.proxy c.emit.new.self steps).1

pub loop-session-preserved : goal.loop-session-preserved
loop-session-preserved c =
    let steps : Steps c.args.session c.loop-session.proxy c.emit.new.self (Alone (IsEmit Done)) = rw c.in-Done.is at c.in-Ok.ensures.emit in
    let below : length (output_of (session_at c.loop-session.proxy c.args.session)) < UNSENT_MARK = rw (← c.output-unsent.ensures) (omega (arith, c.if-unsent-ge-UNSENT_MARK.false)) in
    let is : c.charge_answer.new.self.missed ≡ counted c.is_counted-hides.result c.loop-session.tally.missed =
    ap (λ (tally : ClientTally). tally.missed) c.charge_answer.ensures ∙ ap (λ (tally : ClientTally). tally.missed) c.answered.ensures in
    let some : 0 < c.loop-session.tally.left = omega (arith, c.if-tally-eq0.false) in
    let bytes : c.saturating_sub.result ≡ length (output_of (session_at c.emit.new.self c.args.session)) - length (output_of (session_at c.loop-session.proxy c.args.session)) =
    rw (← c.output.ensures) (rw (← c.output-unsent.ensures) c.saturating_sub.ensures) in
    let spent : c.charge_answer.new.self.left ≡ c.loop-session.tally.left - emit_work (session_at c.loop-session.proxy c.args.session) (session_at c.emit.new.self c.args.session) =
    ap (λ (tally : ClientTally). tally.left) c.charge_answer.ensures
    ∙ ap (λ (tally : ClientTally). tally.left - answer_work c.saturating_sub.result) c.answered.ensures
    ∙ ap (λ (n : ℕ). c.loop-session.tally.left - answer_work n) bytes in (
      stretch_then c.args.session c.args.proxy.now c.loop-session.proxy c.emit.new.self [] [] [] [] (counts_of c.args.tally.now) (counts_of c.loop-session.tally) (counts_of c.charge_answer.new.self) c.loop-session.invariant.0
          (stretch_emitted c.args.session c.loop-session.proxy c.emit.new.self c.is_counted-hides.result c.loop-session.tally.missed c.charge_answer.new.self.missed c.loop-session.tally.left c.charge_answer.new.self.left
          steps below c.is_counted-hides.ensures is some spent),
      how_more c.loop-session.answered c.args.session c.args.proxy.now c.loop-session.proxy c.emit.new.self c.loop-session.invariant.1 (put_one c.args.session c.loop-session.proxy c.emit.new.self steps).0,
      λ none. absurd cc,
      ap (λ (tally : ClientTally). tally.foreign) c.charge_answer.ensures ∙ ap (λ (tally : ClientTally). tally.foreign) c.answered.ensures ∙ c.loop-session.invariant.3,
    )

pub returns-in-Idle-clause-calls : goal.returns-in-Idle-clause-calls
returns-in-Idle-clause-calls c =
    let steps : Steps c.args.session c.loop-session.proxy c.emit.new.self (Alone (IsEmit Idle)) = rw c.in-Idle.is at c.in-Ok.ensures.emit in
    let below : length (output_of (session_at c.loop-session.proxy c.args.session)) < UNSENT_MARK = rw (← c.output-unsent.ensures) (omega (arith, c.if-unsent-ge-UNSENT_MARK.false)) in
    stretch_then c.args.session c.args.proxy.now c.loop-session.proxy c.emit.new.self [] [] [] [] (counts_of c.args.tally.now) (counts_of c.loop-session.tally) (counts_of c.loop-session.tally) c.loop-session.invariant.0
    (stretch_rested c.args.session c.loop-session.proxy c.emit.new.self (counts_of c.loop-session.tally) steps below)

pub returns-in-Idle-clause-how : goal.returns-in-Idle-clause-how
returns-in-Idle-clause-how c =
    let steps : Steps c.args.session c.loop-session.proxy c.emit.new.self (Alone (IsEmit Idle)) = rw c.in-Idle.is at c.in-Ok.ensures.emit in
    how_same c.loop-session.answered c.args.session c.args.proxy.now c.loop-session.proxy c.emit.new.self c.loop-session.invariant.1 (put_none c.args.session c.loop-session.proxy c.emit.new.self steps).0

pub returns-in-Idle-clause-answered : goal.returns-in-Idle-clause-answered
returns-in-Idle-clause-answered c =
    let steps : Steps c.args.session c.loop-session.proxy c.emit.new.self (Alone (IsEmit Idle)) = rw c.in-Idle.is at c.in-Ok.ensures.emit in
    inl (put_none c.args.session c.loop-session.proxy c.emit.new.self steps).1
