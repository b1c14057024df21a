-- What is taken alone, and how a storage command's line goes by what is after its length.
use Rattle.std.proofs.Common.{◌≡◌, ℕ, Bool, true, false, List, ◌∷◌, Option, None, Result, Err, refl, sym, ap, if◌then◌else◌}
use Rattle.mc_text.specs.Numbers.{read_len}
use Rattle.mc_request.specs.declared.faults.Fault.{Fault}
use Rattle.mc_request.specs.declared.faults.Fault.TheVariants.{UnknownCommand}
use Rattle.mc_request.specs.declared.parts.StoreMode.{StoreMode}
use Rattle.mc_request.specs.declared.parts.Parsed.{Parsed}
use Rattle.mc_request.specs.declared.parts.Parsed.TheVariants.{Whole, Faulty}
use Rattle.mc_request.specs.Faults.{◌>>=◌}
use Rattle.mc_request.specs.Names.{at_most, between}
use Rattle.mc_request.specs.Meanings.{Line, Alone, meaning_from, fourth_len, after_length, storing_by, store_line}
use Rattle.mc_request.specs.LinesSeen.{line_of_taken}

-- the line of what is taken means that alone
pub taken_alone : (taken : Parsed) → meaning_from None (line_of_taken taken) ≡ Alone taken
taken_alone (Whole request) = refl
taken_alone (Faulty fault) = refl

by_rest : (b : Bool) (f : Option ℕ × Bool → Result Line Fault) (rest after : Result (Option ℕ × Bool) Fault) → rest ≡ (if b then after else Err UnknownCommand)
    → (if b then after >>= f else Err UnknownCommand) ≡ rest >>= f
by_rest true f rest after is = ap (λ (r : Result (Option ℕ × Bool) Fault). r >>= f) (sym is)
by_rest false f rest after is = ap (λ (r : Result (Option ℕ × Bool) Fault). r >>= f) (sym is)

-- the line of a storage command, by what is after its length
pub store_line_by : (mode : StoreMode) (compares : Bool) (key flags exptime len : List ℕ) (more words : List (List ℕ)) (rest : Result (Option ℕ × Bool) Fault)
    → words ≡ key ∷ flags ∷ exptime ∷ len ∷ more
    → rest ≡ (if (if compares then between 1 2 more else at_most 1 more) then after_length compares more else Err UnknownCommand)
    → meaning_from (fourth_len words) (if (if compares then between 5 6 words else between 4 5 words) then store_line mode compares words else Err UnknownCommand)
    ≡ meaning_from (read_len len) (rest >>= (λ r. storing_by mode r.0 key flags exptime (read_len len) r.1))
store_line_by mode compares key flags exptime len more words rest are is =
    rw are (ap (λ (line : Result Line Fault). meaning_from (read_len len) line)
    (by_rest (if compares then between 1 2 more else at_most 1 more) (λ r. storing_by mode r.0 key flags exptime (read_len len) r.1) rest (after_length compares more) is))
