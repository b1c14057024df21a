-- Escapes: how arbitrary bytes are written in a line of printable ones. Source: this project's own.
use Rattle.std.specs.Prelude.{◌≡◌, ℕ, ◌+◌, ◌-◌, ◌*◌, ◌/◌, ◌%◌, ◌==◌, ◌&&◌, Bool, not, nat_lt, nat_le, List, [], ◌∷◌, ◌++◌, Option, Some, None, is_some, codes, decimal, if◌then◌else◌}
use Rattle.std.specs.List.{flat_map, enumerate_from}
use Rattle.std.specs.Option.{option_map, option_map_or}

-- the small hexadecimal digit of a number below 16
abbrev pub hex_digit : ℕ → ℕ
hex_digit n = if nat_lt n 10 then 48 + n else 87 + n

-- a byte from 32 to 126 stands for itself, except the backslash; 13 and 10 have letters; any other has two
-- digits
unfoldable pub escape_of : ℕ → List ℕ
escape_of b =
    if b == 92 then codes "\\\\"
    else if b == 13 then codes "\\r"
    else if b == 10 then codes "\\n"
    else if nat_le 32 b && nat_le b 126 then b ∷ []
    else codes "\\x" ++ hex_digit (b / 16) ∷ hex_digit (b % 16) ∷ []

-- a byte that stands for itself in an escaped text
abbrev pub is_plain : ℕ → Bool
is_plain b = nat_le 32 b && nat_le b 126 && not (b == 92)

-- bytes, each escaped
abbrev pub escaped : List ℕ → List ℕ
escaped bytes = flat_map escape_of bytes

-- a line with the bytes of a thing that has a name and a number
abbrev pub named_line : List ℕ → ℕ → List ℕ → List ℕ
named_line name number bytes = name ++ codes " " ++ decimal number ++ codes ": " ++ escaped bytes ++ codes "\n"

-- lines of one name, in order, the first of number 0
abbrev pub named_lines : List ℕ → List (List ℕ) → List ℕ
named_lines name texts = flat_map (λ text. named_line name text.0 text.1) (enumerate_from 0 texts)

-- what is printed for a client
abbrev pub client_line : ℕ → List ℕ → List ℕ
client_line client bytes = named_line (codes "client") client bytes

-- what is printed for all clients, in order, the first of number 0
abbrev pub client_lines : List (List ℕ) → List ℕ
client_lines outputs = named_lines (codes "client") outputs

-- the value of a hexadecimal digit, small or capital
unfoldable pub hex_value : ℕ → Option ℕ
hex_value c =
    if nat_le 48 c && nat_le c 57 then Some (c - 48)
    else if nat_le 97 c && nat_le c 102 then Some (c - 87)
    else if nat_le 65 c && nat_le c 70 then Some (c - 55)
    else None

-- the byte that a letter after a backslash stands for
unfoldable pub letter_value : ℕ → Option ℕ
letter_value c = if c == 92 then Some 92 else if c == 114 then Some 13 else if c == 110 then Some 10 else None

-- the state of a reader of escapes
pub data Place : Type 0 where
  -- after a whole byte, or at the beginning
  Between : Place
  -- after a backslash
  Backslash : Place
  -- after a backslash and x
  NoDigit : Place
  -- after a backslash, x and a digit of this value
  OneDigit : ℕ → Place
  -- after bytes that are no escape
  Lost : Place

-- its state after one more byte
abbrev pub place_after : Place → ℕ → Place
place_after Between b = if b == 92 then Backslash else Between
place_after Backslash b = if b == 120 then NoDigit else if is_some (letter_value b) then Between else Lost
place_after NoDigit b = option_map_or OneDigit (hex_value b) Lost
place_after (OneDigit high) b = if is_some (hex_value b) then Between else Lost
place_after Lost b = Lost

-- the byte that is completed by it
abbrev pub completed : Place → ℕ → List ℕ
completed Between b = if b == 92 then [] else b ∷ []
completed Backslash b = option_map_or (λ c. c ∷ []) (letter_value b) []
completed NoDigit b = []
completed (OneDigit high) b = option_map_or (λ low. (16 * high + low) ∷ []) (hex_value b) []
completed Lost b = []

-- a text ends after a whole byte
abbrev pub at_end : Place → Option (List ℕ)
at_end Between = Some []
at_end place = None

-- the bytes that a text stands for, from a state on
unfoldable pub text_from : Place → List ℕ → Option (List ℕ)
text_from place [] = at_end place
text_from place (b ∷ bs) = option_map (λ text. completed place b ++ text) (text_from (place_after place b) bs)

-- the bytes that an escaped text stands for, if each escape is one
abbrev pub text_of : List ℕ → Option (List ℕ)
text_of text = text_from Between text

-- a text read from a state on stands for a byte first, and then for the bytes of the rest
abbrev pub GivesByte : Place → List ℕ → ℕ → List ℕ → Type 0
GivesByte place text byte rest = text_from place text ≡ option_map (λ bytes. byte ∷ bytes) (text_of rest)

-- a text read from a state on stands for no bytes
abbrev pub GivesNoByte : Place → List ℕ → Type 0
GivesNoByte place text = text_from place text ≡ None

-- some bytes, followed by the bytes that a text stands for from a state on, are other bytes, followed by the
-- bytes of the rest
abbrev pub ReadsFront : List ℕ → Place → List ℕ → List ℕ → List ℕ → Type 0
ReadsFront before place text after rest = option_map (λ more. before ++ more) (text_from place text) ≡ option_map (λ more. after ++ more) (text_of rest)
