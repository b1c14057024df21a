-- Tests of the bytes of a text.
use Rattle.std.specs.Prelude.{ℕ, ◌==◌, ◌&&◌, Bool, not, nat_le}

-- a byte that is not below a least one, and is not 127
abbrev pub is_from : ℕ → ℕ → Bool
is_from least b = nat_le least b && not (b == 127)
