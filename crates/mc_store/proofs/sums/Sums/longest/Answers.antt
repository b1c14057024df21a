use Rattle.std.proofs.Common.{◌≡◌, arith}
use Rattle.mc_store.specs.Sums.{long_count}
use Rattle.mc_store.proofs.SumLemmas.{none_long}
use Rattle.mc_store.proofs.sums.Sums.longest.Goals as goal

pub returns-then-self-eq0-clause-bound : goal.returns-then-self-eq0-clause-bound
returns-then-self-eq0-clause-bound c = λ items is.
    let none : long_count items ≡ 0 = omega (arith, is.long, c.if-self-eq0.true) in
    omega (arith, none_long items none, is.longest, c.min.ensures)
