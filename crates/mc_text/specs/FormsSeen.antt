-- What the code reads, as definitions see it.
use Rattle.std.specs.Prelude.{ℕ, Bool, true, false, List, Option, Some, None, Result, Ok, Err}
use Rattle.mc_text.specs.Forms.{text_at, number_at, ◌>>=◌}
use Rattle.mc_text.specs.declared.unready.Unready.{Unready}

-- a reading, by what is seen of it
abbrev pub seen_by : {X Y : Type 0} → (X → Y) → Result X Unready → Result Y Unready
seen_by view (Ok x) = Ok (view x)
seen_by view (Err e) = Err e

-- a number after a text, if it is asked for, and the bytes after it
abbrev pub number_if_at : Bool → List ℕ → ℕ → List ℕ → Result (Option ℕ × List ℕ) Unready
number_if_at true text most u = text_at text u >>= λ rest. number_at most rest >>= λ x. Ok (Some x.0, x.1)
number_if_at false text most u = Ok (None, u)
