-- Addresses of servers.
use Rattle.std.specs.Prelude.{ℕ, ◌==◌, ◌&&◌, ◌||◌, Bool, false, not, nat_lt, nat_le, List, [], ◌∷◌, length}
use Rattle.std.specs.Char.{is_ascii_alphanumeric}
use Rattle.std.specs.List.{list_all, before_first, after_first}
use Rattle.std.specs.Option.{option_map_or}
use Rattle.mc_text.specs.Numbers.{read_u64}

-- a byte of a host: a letter, a digit, a dot (46) or a hyphen (45)
abbrev pub is_host_byte : ℕ → Bool
is_host_byte b = is_ascii_alphanumeric b || b == 46 || b == 45

-- a host has 1 to 255 of them
-- source: RFC 1123, section 2.1, for the length; this project's own
abbrev pub is_host : List ℕ → Bool
is_host word = nat_lt 0 (length word) && nat_le (length word) 255 && list_all is_host_byte word

-- a word begins with the digit 0
abbrev pub begins_with_zero : List ℕ → Bool
begins_with_zero [] = false
begins_with_zero (b ∷ bs) = b == 48

-- a port is a number from 1 to 65535 in digits, without a leading zero
-- source: RFC 793, section 3.1, for the range; this project's own
abbrev pub is_port : List ℕ → Bool
is_port word = not (begins_with_zero word) && option_map_or (λ n. nat_lt 0 n && nat_le n 65535) (read_u64 word) false

-- an address is a host, a colon (58) and a port
-- source: libketama's server list, whose lines begin so
abbrev pub is_address : List ℕ → Bool
is_address text = is_host (before_first (λ b. b == 58) text) && is_port (after_first (λ b. b == 58) text)
