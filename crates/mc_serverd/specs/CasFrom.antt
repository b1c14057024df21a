-- The number from which on a server counts its items. Source: this project's own.
use Rattle.std.specs.Prelude.{ℕ, ◌^◌, ◌*◌, ◌-◌, nat_lt, min, List, codes, Option, Some, None, if◌then◌else◌}
use Rattle.std.specs.Str.{bytes_eq}
use Rattle.mc_text.specs.Numbers.{read_u64}
use Rattle.mc_serverd.specs.declared.cas_from.CasFrom.{CasFrom}
use Rattle.mc_serverd.specs.declared.cas_from.CasFrom.TheVariants.{Last, Now}

-- a number below 2^63
abbrev pub last_of : Option ℕ → Option CasFrom
last_of None = None
last_of (Some number) = if nat_lt number (2 ^ 63) then Some (Last number) else None

-- what a word of `--cas-from` stands for: `now`, or a number; any other word gives none
abbrev pub cas_from_named : List ℕ → Option CasFrom
cas_from_named word = if bytes_eq word (codes "now") then Some Now else last_of (read_u64 word)

-- the number above which items are counted, by a server that starts in a second: the one that was given, or 2^30 for each second since
-- 1970, up to 2^63 - 2^30
abbrev pub last_number : CasFrom → ℕ → ℕ
last_number (Last number) second = number
last_number Now second = min second (2 ^ 33 - 1) * 2 ^ 30
