use Rattle.std.proofs.Common.{◌∙◌, ℕ, ◌+◌, List, ◌++◌, take, get_or, codes, sym, ap, append_assoc}
use Rattle.mc_script.specs.Escapes.{named_line}
use Rattle.mc_world.specs.declared.errors.Step.TheVariants.{Done}
use Rattle.mc_pool_script.specs.Printed.{event_lines, word_of}
use Rattle.mc_pool_script.proofs.PrintedLemmas.{event_lines_more}
use Rattle.mc_pool_script.proofs.printed.push_event_lines.Goals as goal

pub loop-step-preserved : goal.loop-step-preserved
loop-step-preserved c =
    let steps = c.args.steps.now in
    let i = c.loop-step.step-index in
    let line = named_line (codes "event") i (word_of (get_or steps i Done)) in
    record {
      number = ap (λ (n : ℕ). n + 1) c.loop-step.invariant.number;
      lines = c.in_ok-push_named_line.ensures.line
          ∙ ap (λ (n : ℕ). c.loop-step.out.items ++ named_line (codes "event") n c.word_of.result.now) c.loop-step.invariant.number
          ∙ ap (λ (word : List ℕ). c.loop-step.out.items ++ named_line (codes "event") i word) c.word_of.ensures
          ∙ ap (λ (xs : List ℕ). xs ++ line) c.loop-step.invariant.lines
          ∙ append_assoc c.args.out.now.items (event_lines (take i steps)) line
          ∙ ap (λ (xs : List ℕ). c.args.out.now.items ++ xs) (sym (event_lines_more steps i Done c.loop-step-test.true));
    }
