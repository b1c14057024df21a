-- Worlds that play a script's lines.
use Rattle.std.proofs.Common.{◌≡◌, ◌∙◌, ℕ, ◌+◌, ◌<◌, List, [], ◌∷◌, ◌++◌, length, take, get_or, refl, sym, ap, subst}
use Rattle.std.proofs.lemmas.List.{take_more}
use Rattle.mc_cache.specs.CacheState.{CacheState, opening_cache}
use Rattle.mc_pool_script.specs.PoolScripts.{PoolSeen}
use Rattle.mc_pool_script.specs.declared.lines.PoolLine.{PoolLine}
use Rattle.mc_pool_script.specs.Plays.{IsOpenedFor, KeepsOpening, Plays, PlaysAll, cache_of}
use Rattle.mc_world.specs.Steps.{GivesAccount}
use Rattle.mc_world.specs.Worlds.{CourseState, WorldState}
use Rattle.mc_world.specs.declared.errors.Step.{Step}

-- a world has played the first lines of a script
pub record PlayedTo (script : PoolSeen) (count : ℕ) (steps : List Step) (world : WorldState) : Type 0 where
  pub first : WorldState
  pub opened : IsOpenedFor script first
  pub keeps : KeepsOpening first world
  pub played : PlaysAll (cache_of script) (take count script.lines) steps first.course world.course
  pub account : GivesAccount world

-- it has the bounds of the script
pub played_items : {script : PoolSeen} {count : ℕ} {steps : List Step} {world : WorldState} → PlayedTo script count steps world → world.items ≡ script.items
played_items h = h.keeps.items ∙ ap (λ (w : WorldState). w.items) h.opened.is

pub played_budget : {script : PoolSeen} {count : ℕ} {steps : List Step} {world : WorldState} → PlayedTo script count steps world → world.budget ≡ script.budget
played_budget h = h.keeps.budget ∙ ap (λ (w : WorldState). w.budget) h.opened.is

-- one more line after others
plays_after : (opening : CacheState) (lines : List PoolLine) (steps : List Step) (line : PoolLine) (step : Step) (old now new : CourseState)
    → PlaysAll opening lines steps old now → Plays opening line step now new → PlaysAll opening (lines ++ line ∷ []) (steps ++ step ∷ []) old new
plays_after opening [] [] line step old now new is plays = (new, subst (λ (c : CourseState). Plays opening line step c new) is plays, refl)
plays_after opening [] (s ∷ ss) line step old now new never plays = absurd never
plays_after opening (l ∷ ls) [] line step old now new never plays = absurd never
plays_after opening (l ∷ ls) (s ∷ ss) line step old now new h plays =
    (h.0, h.1, plays_after opening ls ss line step h.0 now new h.2 plays)

keeps_both : (first old new : WorldState) → KeepsOpening first old → KeepsOpening old new → KeepsOpening first new
keeps_both first old new a b = record { ring = b.ring ∙ a.ring; losses = b.losses ∙ a.losses; budget = b.budget ∙ a.budget; items = b.items ∙ a.items }

-- one more of the script's lines
pub plays_one : (script : PoolSeen) (i : ℕ) (steps : List Step) (line : PoolLine) (step : Step) (old new : WorldState) → i < length script.lines
    → get_or script.lines i line ≡ line → PlayedTo script i steps old → Plays (opening_cache old.budget old.items 0) line step old.course new.course
    → KeepsOpening old new → GivesAccount new → PlayedTo script (i + 1) (steps ++ step ∷ []) new
plays_one script i steps line step old new inside is h plays keeps account =
    let all : take (i + 1) script.lines ≡ take i script.lines ++ line ∷ [] = take_more script.lines i line inside ∙ ap (λ (l : PoolLine). take i script.lines ++ l ∷ []) is in
    let cache : opening_cache old.budget old.items 0 ≡ cache_of script =
    ap (λ (b : ℕ). opening_cache b old.items 0) (played_budget h) ∙ ap (λ (n : ℕ). opening_cache script.budget n 0) (played_items h) in
    let one : Plays (cache_of script) line step old.course new.course = subst (λ (c : CacheState). Plays c line step old.course new.course) cache plays in
    let more = plays_after (cache_of script) (take i script.lines) steps line step h.first.course old.course new.course h.played one in
    record {
      first = h.first;
      opened = h.opened;
      keeps = keeps_both h.first old new h.keeps keeps;
      played = subst (λ (ls : List PoolLine). PlaysAll (cache_of script) ls (steps ++ step ∷ []) h.first.course new.course) (sym all) more;
      account = account;
    }
