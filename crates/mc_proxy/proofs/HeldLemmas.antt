-- What is kept for requests that are not answered.
use Rattle.std.proofs.Common.{◌≡◌, ℕ, zero, suc, ◌+◌, ◌<◌, ◌≤◌, [], ◌∷◌, List, length, drop, get_or, set, refl, arith}
use Rattle.std.specs.Prelude.{slice_index_or}
use Rattle.mc_route.specs.declared.outcomes.Outcome.{Outcome}
use Rattle.mc_proxy.specs.Held.{keys_len, kept_by, kept_by_all}

-- if an outcome is set, what is kept changes by what that one keeps
pub kept_by_set : (at : ℕ) (outcome before : Outcome) (outcomes : List Outcome) → at < length outcomes → before ≡ get_or outcomes at before
    → kept_by_all (set outcomes at outcome) + kept_by before ≡ kept_by_all outcomes + kept_by outcome
kept_by_set at outcome before [] inside is = absurd (omega arith)
kept_by_set zero outcome before (slot ∷ slots) inside is = rw (← is) (omega arith)
kept_by_set (suc at) outcome before (slot ∷ slots) inside is = omega (arith, kept_by_set at outcome before slots (omega arith) is)

-- the keys from a place on are the key there and those after it
pub keys_len_step : (at : ℕ) (keys : List (List ℕ)) → at < length keys
    → keys_len (drop at keys) ≡ length (slice_index_or keys at []) + keys_len (drop (at + 1) keys)
keys_len_step at [] inside = absurd (omega arith)
keys_len_step zero (key ∷ keys) inside = refl
keys_len_step (suc at) (key ∷ keys) inside =
    let same : suc at + 1 ≡ suc (at + 1) = omega arith in rw same (keys_len_step at keys (omega arith))
