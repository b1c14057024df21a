-- How often a tag is in lists that grow.
use Rattle.std.proofs.Common.{◌≡◌, ◌∙◌, ℕ, zero, suc, ◌+◌, List, [], ◌∷◌, ◌++◌, Some, slice_get, slice_set, ap, arith}
use Rattle.std.proofs.lemmas.List.{map-append}
use Rattle.std.proofs.lemmas.Option.{none-some, same_Some}
use Rattle.mc_link.specs.declared.turns.Tag.{Tag}
use Rattle.mc_account.specs.Orders.{Tagged}
use Rattle.mc_history.specs.Made.{Made}
use Rattle.mc_world.specs.Sites.{untaken_times}
use Rattle.mc_world.specs.WorldState.{StaleState}
use Rattle.mc_history.specs.Named.{tags_made, tags_of, times}

pub times-append : (tag : Tag) (xs ys : List Tag) → times tag (xs ++ ys) ≡ times tag xs + times tag ys
times-append tag [] ys = omega arith
times-append tag (x ∷ xs) ys = omega (arith, times-append tag xs ys)

pub times-made : (tag : Tag) (made : List Made) (m : Made) → times tag (tags_made (made ++ m ∷ [])) ≡ times tag (tags_made made) + times tag (m.command.1 ∷ [])
times-made tag made m =
    ap (λ (ts : List Tag). times tag ts) (map-append (λ (x : Made). x.command.1) made (m ∷ [])) ∙ times-append tag (tags_made made) (m.command.1 ∷ [])

pub times-tags : (tag : Tag) (cs ds : List Tagged) → times tag (tags_of (cs ++ ds)) ≡ times tag (tags_of cs) + times tag (tags_of ds)
times-tags tag cs ds = ap (λ (ts : List Tag). times tag ts) (map-append (λ (c : Tagged). c.1) cs ds) ∙ times-append tag (tags_of cs) (tags_of ds)

pub untaken-push : (tag : Tag) (ways : List StaleState) (way : StaleState)
    → untaken_times tag (ways ++ way ∷ []) ≡ untaken_times tag ways + times tag way.untaken
untaken-push tag [] way = omega arith
untaken-push tag (w ∷ ws) way = omega (arith, untaken-push tag ws way)

-- one way is replaced
pub untaken-set : (tag : Tag) (ways : List StaleState) (i : ℕ) (way now : StaleState) → slice_get ways i ≡ Some way
    → untaken_times tag (slice_set ways i now) + times tag way.untaken ≡ untaken_times tag ways + times tag now.untaken
untaken-set tag [] zero way now at = absurd (none-some way at)
untaken-set tag [] (suc i) way now at = absurd (none-some way at)
untaken-set tag (w ∷ ws) zero way now at =
    let same : times tag w.untaken ≡ times tag way.untaken = ap (λ (x : StaleState). times tag x.untaken) (same_Some w way at) in
    omega (arith, same)
untaken-set tag (w ∷ ws) (suc i) way now at = omega (arith, untaken-set tag ws i way now at)
