use Rattle.std.proofs.Common.{◌≡◌, ◌++◌, take}
use Rattle.std.specs.List.{flat_map}
use Rattle.mc_admin.specs.Pages.{metric_lines}
use Rattle.mc_admin.proofs.pages.push_metrics.Given as goal

abbrev pub invariant-loop-figure : goal.invariant-loop-figure
invariant-loop-figure l = l.out.items ≡ l.fn.out.items ++ flat_map metric_lines (take l.figure-index l.figures)
