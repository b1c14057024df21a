use Rattle.std.proofs.Common.{◌∙◌, ℕ, ◌+◌, ap}
use Rattle.mc_threads.specs.Accounts.{Bytes}
use Rattle.mc_threads.proofs.AtLemmas.{at_push_nothing}
use Rattle.mc_threads.proofs.runs.empty_outputs.Goals as goal

pub loop-preserved : goal.loop-preserved
loop-preserved c = record {
  len = c.in_ok-add.ensures.len ∙ ap (λ (n : ℕ). n + 1) c.loop.invariant.len;
  empty = at_push_nothing (λ (v : Bytes). v.items) c.loop.outputs.items c.add.new.list.items c.new.result c.in_ok-add.ensures.items c.new.ensures.items c.loop.invariant.empty;
}
