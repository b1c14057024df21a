-- How many requests a text has.
use Rattle.std.proofs.Common.{ℕ, zero, suc, ◌≤◌, Bool, true, false, if◌then◌else◌, List, [], length, Option, Some, None, arith}
use Rattle.mc_request.specs.Requests.{next_request, requests_from, requests_of, requests_within}
use Rattle.mc_request.specs.declared.parts.Parsed.{Parsed}

-- those of what is left, or none after the last
ends_or_goes_on : (n : ℕ) (last : Bool) (others : List Parsed) → length others ≤ n → length (if last then [] else others) ≤ n
ends_or_goes_on n true others few = omega arith
ends_or_goes_on n false others few = few

step_counts : (n : ℕ) (first : Option (Parsed × ℕ)) (text : List ℕ) (more : List ℕ → List Parsed) → ((rest : List ℕ) → length (more rest) ≤ n)
    → length (requests_from first text more) ≤ suc n
step_counts n None text more few = omega arith
step_counts n (Some x) text more few = grind (arith, ends_or_goes_on)

within_counts : (n : ℕ) (text : List ℕ) → length (requests_within n text) ≤ n
unfolding requests_within
within_counts zero text = omega arith
within_counts (suc n) text = step_counts n (next_request text) text (requests_within n) (within_counts n)

-- each request takes a byte at least
pub no_more_than_bytes : (text : List ℕ) → length (requests_of text) ≤ length text
unfolding requests_of
no_more_than_bytes text = within_counts (length text) text
