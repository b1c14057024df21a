use Rattle.std.proofs.Common.{◌≡◌, ◌++◌, true, drop}
use Rattle.mc_admin.specs.Lists.{of_each}
use Rattle.mc_admin.proofs.lists.push_of_each.Given as goal

abbrev pub invariant-loop-link : goal.invariant-loop-link
invariant-loop-link l =
    l.figures.items ++ of_each l.first l.name (drop l.link-index l.links) ≡ l.fn.figures.items ++ of_each true l.name l.links
