use Rattle.std.proofs.Common.{◌≡◌, ◌<◌, ◌^◌, drop}
use Rattle.std.specs.Char.{is_ascii_digit}
use Rattle.std.specs.List.{list_all}
use Rattle.std.specs.Str.Parse.{digits_value, digits_value_after}
use Rattle.mc_text.proofs.numbers.read_digits.Given as goal

-- what is read so far are digits, and their value goes on to that of all
abbrev pub invariant-loop-byte : goal.invariant-loop-byte
invariant-loop-byte l =
    (list_all is_ascii_digit (drop l.byte-index l.word) ≡ list_all is_ascii_digit l.word)
    × (digits_value_after 10 l.value (drop l.byte-index l.word) ≡ digits_value 10 l.word) × (l.value < 2 ^ 64)
