use Rattle.std.proofs.Common.{◌≡◌, ◌∙◌, ℕ, ◌+◌, List, [], ◌∷◌, ◌++◌, take, true, false, sym, subst, arith}
use Rattle.std.specs.Result.{is_err}
use Rattle.mc_world.specs.Steps.{RunsTo}
use Rattle.mc_world.specs.declared.events.Event.{Event}
use Rattle.mc_world.proofs.Course.StepLemmas.{runs-more, take-next, tried, tried_in_vain}
use Rattle.mc_world.proofs.worlds.World.run.Goals as goal
use Rattle.mc_world.proofs.worlds.World.run.Goals.{then-is_err, else-is_err}

-- one more event was tried
pub loop-event-preserved : goal.loop-event-preserved
loop-event-preserved g c =
    let i = c.loop-event.event-index in
    let item = c.event-item.result in
    let taken : take (i + 1) c.args.events.now ≡ take i c.args.events.now ++ item ∷ [] = take-next c.args.events.now i item c.loop-event-test.true c.event-item.is in
    let step = c.step.ensures.opened in
    let before = c.loop-event.invariant.opened in
    let few = c.loop-event.invariant.few in
    elim c.if-is_err.branch [
      | then-is_err w ↦
          let failed : is_err c.step.result ≡ true = sym c.is_err.ensures.value ∙ w.if-is_err.true in
          let counted = w.refused-is in
          record {
            runs = subst (λ (es : List (Event (List ℕ))). RunsTo es c.args.self.now.course c.step.new.self.course c.if-is_err.refused) (sym taken)
                (subst (λ (n : ℕ). RunsTo (take i c.args.events.now ++ item ∷ []) c.args.self.now.course c.step.new.self.course n) (sym counted)
                (runs-more (take i c.args.events.now) item c.args.self.now.course c.loop-event.self.course c.step.new.self.course c.loop-event.refused 1 c.loop-event.invariant.runs
                (tried_in_vain item c.step.result c.loop-event.self c.step.new.self failed c.step.ensures.err)));
            few = omega (arith, few, counted);
            opened = (step.0 ∙ before.0, step.1 ∙ before.1, step.2 ∙ before.2, step.3 ∙ before.3);
          }
      | else-is_err w ↦
          let answered : is_err c.step.result ≡ false = sym c.is_err.ensures.value ∙ w.if-is_err.false in
          let counted = w.refused-is in
          let same : c.loop-event.refused + 0 ≡ c.if-is_err.refused = omega (arith, counted) in
          record {
            runs = subst (λ (es : List (Event (List ℕ))). RunsTo es c.args.self.now.course c.step.new.self.course c.if-is_err.refused) (sym taken)
                (subst (λ (n : ℕ). RunsTo (take i c.args.events.now ++ item ∷ []) c.args.self.now.course c.step.new.self.course n) same
                (runs-more (take i c.args.events.now) item c.args.self.now.course c.loop-event.self.course c.step.new.self.course c.loop-event.refused 0 c.loop-event.invariant.runs
                (tried item c.step.result c.loop-event.self.course c.step.new.self.course answered c.step.ensures.steps)));
            few = omega (arith, few, counted);
            opened = (step.0 ∙ before.0, step.1 ∙ before.1, step.2 ∙ before.2, step.3 ∙ before.3);
          }
    ]
