use Rattle.std.proofs.Common.{◌≡◌, ◌==◌, ℕ, List, drop, take, arith, ap, ◌∙◌}
use Rattle.std.proofs.lemmas.List.{length-take}
use Rattle.std.proofs.lemmas.List.Sums.{prefix_len-le-length}
use Rattle.std.specs.List.{prefix_len}
use Rattle.mc_text.specs.Words.{without_spaces}
use Rattle.mc_text.proofs.WordLemmas.{some_spaces}
use Rattle.mc_text.proofs.word_iter.without_many.Goals as goal

pub loop-rest-preserved : goal.loop-rest-preserved
loop-rest-preserved c =
    let rest = c.loop-rest.rest.now in
    let few = prefix_len-le-length (λ b. b == 32) (take 16 rest) in
    let all : 16 ≡ prefix_len (λ b. b == 32) (take 16 rest) =
    omega (arith, few, length-take 16 rest, c.spaces_in_lanes-spaces.ensures, c.if-spaces-lt-LANES.false) in
    let more = c.split_at-in-loop-rest.ensures.back ∙ ap (λ (n : ℕ). drop n rest) all in
    ap (λ (t : List ℕ). without_spaces t) more ∙ some_spaces 16 rest ∙ c.loop-rest.invariant
