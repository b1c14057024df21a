use Rattle.std.proofs.Common.{rules, ◌≡◌, [], ◌∷◌, ◌++◌, Ok, Err, subst, sym}
use Rattle.mc_threads.specs.Causes.{IsLeast}
use Rattle.mc_threads.proofs.LeastLemmas.{least-err, least-ok}
use Rattle.mc_threads.proofs.errors.with_worker.Goals as goal

pub returns-in-Ok : goal.returns-in-Ok
returns-in-Ok g c own results least =
    let is : c.args.joined.now ≡ Ok c.in-Ok._done = search rules in
    subst (λ r. IsLeast own (results ++ r ∷ []) c.args.least) (sym is) (least-ok own results c.in-Ok._done c.args.least least)

pub returns-in-Err : goal.returns-in-Err
returns-in-Err g c own results least =
    let is : c.args.joined.now ≡ Err c.in-Err.ended = search rules in
    subst (λ r. IsLeast own (results ++ r ∷ []) (Err c.lesser.result)) (sym is) (least-err own results c.in-Err.ended c.lesser.result c.args.least least c.lesser.ensures.one_of_them c.lesser.ensures.least)
