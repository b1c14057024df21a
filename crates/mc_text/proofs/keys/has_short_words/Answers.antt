use Rattle.std.proofs.Common.{◌≡◌, ℕ, ◌<◌, true, List, length, take, get_or, eqb, sym, ap, ◌∙◌, arith}
use Rattle.std.proofs.lemmas.List.{get_or-take, length-take}
use Rattle.std.specs.List.{list_all}
use Rattle.mc_text.specs.Keys.{is_short}
use Rattle.mc_text.specs.Words.{words}
use Rattle.mc_text.proofs.PlainLemmas.{short_words, short_after}
use Rattle.mc_text.proofs.keys.has_short_words.Goals as goal

pub loop-rest-preserved : goal.loop-rest-preserved
loop-rest-preserved c =
    let rest = c.loop-rest.rest.now in
    let window = c.split_at.result.0.now in
    let at = c.in-Some.space in
    let found = rw c.in-Some.is at c.memrchr.ensures in
    let front : window ≡ take 251 rest = c.split_at.ensures.front in
    let size : length window ≡ length (take 251 rest) = ap length front in
    let inside : at < length window = found.0.high in
    let taken = length-take 251 rest in
    let same : get_or window at 0 ≡ get_or rest at 0 = ap (λ (w : List ℕ). get_or w at 0) front ∙ get_or-take 251 rest at 0 (omega (arith, inside, size, taken)) in
    let is : eqb (get_or rest at 0) 32 ≡ true = ap (λ (b : ℕ). eqb b 32) (sym same) ∙ found.1 in
    c.loop-rest.invariant ∙ short_after rest at (omega (arith, inside, size, taken)) (omega (arith, inside, size, taken)) is
    ∙ ap (λ (t : List ℕ). list_all is_short (words t)) (sym c.split_at-in-loop-rest.ensures.back)

pub returns : goal.returns
returns c = sym (c.loop-rest.invariant ∙ short_words c.loop-rest.rest.now (omega (arith, c.loop-rest-test.false)))
