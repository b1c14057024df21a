-- How many bytes a word says. Source: this project's own; memcached's -I has the letters K and M in either case, systemd's MemoryMax K, M and G.
use Rattle.std.specs.Prelude.{ℕ, ◌^◌, ◌*◌, ◌-◌, ◌==◌, ◌||◌, ◌&&◌, nat_lt, nat_le, List, length, take, slice_index, Option, Some, None, if◌then◌else◌}
use Rattle.mc_text.specs.Numbers.{read_u64}

-- how many bytes the unit of a letter has: K, M or G, small or capital
abbrev pub unit_of : ℕ → Option ℕ
unit_of letter =
    if letter == 75 || letter == 107 then Some (2 ^ 10)
    else if letter == 77 || letter == 109 then Some (2 ^ 20)
    else if letter == 71 || letter == 103 then Some (2 ^ 30)
    else None

-- this number of units, if 64 bits can hold it
abbrev pub times : ℕ → Option ℕ → Option ℕ
times unit None = None
times unit (Some count) = if nat_lt (count * unit) (2 ^ 64) then Some (count * unit) else None

-- a word that ends with a unit's letter says a number of units, and any other is a number of bytes, or says nothing
abbrev pub size_by : Option ℕ → List ℕ → Option ℕ
size_by (Some unit) word = times unit (read_u64 (take (length word - 1) word))
size_by None word = read_u64 word

abbrev pub size_of : List ℕ → Option ℕ
size_of word = size_by (unit_of (slice_index word (length word - 1))) word

-- this number of bytes, if it is within limits
abbrev pub within : ℕ → ℕ → Option ℕ → Option ℕ
within least most None = None
within least most (Some size) = if nat_le least size && nat_le size most then Some size else None

-- how many bytes a word says, if that is within limits
abbrev pub size_within : List ℕ → ℕ → ℕ → Option ℕ
size_within word least most = within least most (size_of word)
