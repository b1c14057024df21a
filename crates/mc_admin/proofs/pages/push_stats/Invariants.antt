use Rattle.std.proofs.Common.{◌≡◌, ◌++◌, take}
use Rattle.std.specs.List.{flat_map}
use Rattle.mc_admin.specs.Pages.{figure_line}
use Rattle.mc_admin.proofs.pages.push_stats.Given as goal

abbrev pub invariant-loop-figure : goal.invariant-loop-figure
invariant-loop-figure l = l.out.items ≡ l.fn.out.items ++ flat_map figure_line (take l.figure-index l.figures)
