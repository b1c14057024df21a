use Rattle.std.proofs.Common.{◌≡◌, ◌∷◌, ℕ, List, arith, refl, sym, ap, ◌∙◌}
use Rattle.mc_text.specs.Words.{without_spaces}
use Rattle.mc_text.proofs.WordLemmas.{one_space}
use Rattle.mc_text.proofs.word_iter.without_few.Goals as goal

pub loop-more-preserved : goal.loop-more-preserved
loop-more-preserved c =
    let more = c.in-Some-eq32-default.more.now in
    let is : c.loop-more.rest.now ≡ 32 ∷ more = grind (arith, c.in-Some-eq32-default.ensures) in
    sym (one_space 32 more refl) ∙ ap (λ (t : List ℕ). without_spaces t) (sym is) ∙ c.loop-more.invariant
