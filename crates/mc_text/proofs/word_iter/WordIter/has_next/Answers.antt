use Rattle.std.proofs.Common.{◌≡◌, ℕ, ◌==◌, not, nat_lt, List, zero, suc, length, refl, ap, sym, ◌∙◌, arith}
use Rattle.std.proofs.lemmas.Bool.{lt-ltb, ne_eqb}
use Rattle.mc_text.proofs.WordLemmas.{words-some, words_same, first_other}
use Rattle.mc_text.proofs.word_iter.WordIter.has_next.Goals as goal

some : (n : ℕ) → not (n == 0) ≡ nat_lt 0 n
some zero = refl
some (suc n) = ap not (ne_eqb (suc n) 0 (omega arith)) ∙ sym (lt-ltb 0 (suc n) (omega arith))

pub returns : goal.returns
returns c =
    let rest = c.without_spaces.result.now in
    let is = c.without_spaces.ensures in
    ap not c.is_empty.ensures ∙ some (length rest) ∙ sym (words-some rest (first_other c.self.inside.rest.now rest is))
    ∙ ap (λ (ws : List (List ℕ)). nat_lt 0 (length ws)) (words_same c.self.inside.rest.now rest is ∙ c.self.view_is)
