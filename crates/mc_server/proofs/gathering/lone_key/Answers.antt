use Rattle.std.proofs.Common.{List, ℕ, ◌∷◌, ◌∙◌, sym, ap}
use Rattle.mc_server.proofs.GatherLemmas.{none_left}
use Rattle.mc_server.proofs.gathering.lone_key.Goals as goal

-- it is the first, and none is left
pub returns : goal.returns
returns c =
    let none = none_left c.next.new.self c.has_next.result c.has_next.ensures c.if-has_next.false in
    sym c.again-keys.ensures ∙ c.in_ok-key.ensures.steps ∙ ap (λ (keys : List (List ℕ)). c.in_ok-key.key.now ∷ keys) none
