-- Keys in base64.
use Rattle.std.specs.Prelude.{ℕ, ◌||◌, Bool, false, nat_lt, List, length, Option, Some, None, if◌then◌else◌}
use Rattle.std.specs.Option.{option_and_then}
use Rattle.base64.specs.Engines.{standard}
use Rattle.base64.specs.GeneralPurpose.{encode_of, decoded_of}
use Rattle.mc_text.specs.Keys.{is_key}
use Rattle.mc_text.specs.declared.keys.TheConstants.{KEY_LIMIT}
use Rattle.mc_text.specs.declared.coded_keys.TheConstants.{CODED_LIMIT}

-- the word of a key in base64, with the standard alphabet and with padding
-- source: RFC 4648, section 4
unfoldable pub coded_of : List ℕ → List ℕ
coded_of key = encode_of standard key

-- the bytes that a word encodes in base64, if it is base64: whole groups of four symbols, the last one padded, with no
-- bit set after the last byte
-- source: RFC 4648, sections 3.2, 3.5 and 4
unfoldable pub bytes_of_base64 : List ℕ → Option (List ℕ)
bytes_of_base64 word = decoded_of standard word

-- bytes, if they are a key
abbrev pub where_key : List ℕ → Option (List ℕ)
where_key bytes = if is_key bytes then Some bytes else None

-- the key that a word encodes in base64, if it encodes one: source protocol.txt, "Meta Commands", flag b
unfoldable pub coded_key : List ℕ → Option (List ℕ)
coded_key word = option_and_then where_key (bytes_of_base64 word)

-- a word encodes more bytes than a key has
abbrev pub says_too_many : Option (List ℕ) → Bool
says_too_many None = false
says_too_many (Some bytes) = nat_lt KEY_LIMIT (length bytes)

-- a word is longer than that of any key, or encodes more bytes than a key has: this project's own order of the causes
abbrev pub is_coded_too_long : List ℕ → Bool
is_coded_too_long word = nat_lt CODED_LIMIT (length word) || says_too_many (bytes_of_base64 word)
