-- What the word of a server says: this project's own.
use Rattle.std.specs.Prelude.{ℕ, ◌==◌, ◌&&◌, Bool, nat_lt, List, length, if◌then◌else◌}
use Rattle.std.specs.List.{before_first, after_first, position_or_len}
use Rattle.mc_text.specs.Addresses.{is_address}

-- a byte `=`, which no address has
abbrev pub is_equals : ℕ → Bool
is_equals b = b == 61

-- whether a word has a name of its own: there is an `=` in it
abbrev pub is_named : List ℕ → Bool
is_named word = nat_lt (position_or_len is_equals word) (length word)

-- the name of a server: the text before the first `=`; without one, the whole word
abbrev pub name_of : List ℕ → List ℕ
name_of word = before_first is_equals word

-- its address: the text after the first `=`; without one, the whole word
abbrev pub address_of : List ℕ → List ℕ
address_of word = if is_named word then after_first is_equals word else word

-- a word is a server's if its name and its address are both addresses
abbrev pub is_server : List ℕ → Bool
is_server word = is_address (name_of word) && is_address (address_of word)
