-- Outcomes that are pending.
use Rattle.std.proofs.Common.{◌≡◌, ℕ, zero, suc, ◌+◌, ◌<◌, ◌≤◌, ◌==◌, [], ◌∷◌, List, length, get_or, set, refl, arith}
use Rattle.std.specs.List.{list_all}
use Rattle.std.proofs.lemmas.Bool.Decides.{nat_tests}
use Rattle.mc_route.specs.declared.outcomes.Outcome.{Outcome}
use Rattle.mc_route.specs.declared.outcomes.Outcome.TheVariants.{Awaited, Reply, Lost}
use Rattle.mc_proxy.specs.Emits.{is_noted, count_awaited, awaited_in}
use Rattle.mc_proxy.specs.SessionNoting.{set_outcome}

-- if none is pending, the outcome of each command is known
pub none_awaited : (outcomes : List Outcome) → (awaited_in outcomes == 0) ≡ list_all is_noted outcomes
none_awaited [] = refl
none_awaited (Awaited ∷ outcomes) = grind (arith, nat_tests)
none_awaited (Reply reply ∷ outcomes) = grind (arith, none_awaited outcomes)
none_awaited (Lost ∷ outcomes) = grind (arith, none_awaited outcomes)

-- no more are pending than there are
pub awaited_bound : (outcomes : List Outcome) → awaited_in outcomes ≤ length outcomes
awaited_bound [] = omega arith
awaited_bound (Awaited ∷ outcomes) = omega (arith, awaited_bound outcomes)
awaited_bound (Reply reply ∷ outcomes) = omega (arith, awaited_bound outcomes)
awaited_bound (Lost ∷ outcomes) = omega (arith, awaited_bound outcomes)

-- if there is no outcome of that number nothing changes
pub set_outcome_outside : (at : ℕ) (outcome : Outcome) (outcomes : List Outcome) → length outcomes ≤ at → set_outcome at outcome outcomes ≡ outcomes
set_outcome_outside at outcome [] outside = refl
set_outcome_outside zero outcome (slot ∷ slots) outside = absurd (omega arith)
set_outcome_outside (suc at) outcome (slot ∷ slots) outside = rw (set_outcome_outside at outcome slots (omega arith)) refl

-- that outcome is counted among them
pub counted_bound : (at : ℕ) (before : Outcome) (outcomes : List Outcome) → at < length outcomes → before ≡ get_or outcomes at before
    → count_awaited before ≤ awaited_in outcomes
counted_bound at before [] inside is = absurd (omega arith)
counted_bound zero before (slot ∷ slots) inside is = rw (← is) (omega arith)
counted_bound (suc at) before (slot ∷ slots) inside is = omega (arith, counted_bound at before slots (omega arith) is)

-- an outcome counts for one at most
pub counts_one : (outcome : Outcome) → count_awaited outcome ≤ 1
counts_one Awaited = omega arith
counts_one (Reply reply) = omega arith
counts_one Lost = omega arith

-- if an outcome is set, the number of pending ones changes by that one
pub awaited_in_set : (at : ℕ) (outcome before : Outcome) (outcomes : List Outcome) → at < length outcomes → before ≡ get_or outcomes at before
    → awaited_in (set outcomes at outcome) + count_awaited before ≡ awaited_in outcomes + count_awaited outcome
awaited_in_set at outcome before [] inside is = absurd (omega arith)
awaited_in_set zero outcome before (slot ∷ slots) inside is = rw (← is) (omega arith)
awaited_in_set (suc at) outcome before (slot ∷ slots) inside is = omega (arith, awaited_in_set at outcome before slots (omega arith) is)
