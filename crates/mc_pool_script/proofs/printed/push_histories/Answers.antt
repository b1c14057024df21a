use Rattle.std.proofs.Common.{◌∙◌, ℕ, List, ◌++◌, sym, ap, append_assoc}
use Rattle.mc_history.specs.declared.entries.Entry.{Entry}
use Rattle.mc_world.specs.Worlds.{history_of}
use Rattle.mc_pool_script.specs.Printed.{histories_lines, history_lines}
use Rattle.mc_pool_script.proofs.PrintedLemmas.{histories_lines_more}
use Rattle.mc_pool_script.proofs.printed.push_histories.Goals as goal

pub loop-place-preserved : goal.loop-place-preserved
loop-place-preserved g c =
    let course = c.args.world.now.course in
    let place = c.loop-place.place in
    let lines = history_lines place (history_of course place) in
    c.in_ok-push_history.ensures
    ∙ ap (λ (es : List Entry). c.loop-place.out.items ++ history_lines place es) c.history.ensures
    ∙ ap (λ (xs : List ℕ). xs ++ lines) c.loop-place.invariant
    ∙ append_assoc c.args.out.now.items (histories_lines place course) lines
    ∙ ap (λ (xs : List ℕ). c.args.out.now.items ++ xs) (sym (histories_lines_more course place))
