-- The first mistake in a list of servers: this project's own.
use Rattle.std.specs.Borrow.{Bor}
use Rattle.std.specs.Prelude.{ℕ, ◌+◌, ◌++◌, List, [], ◌∷◌, map, filter, length, nat_lt, nat_le, Option, Some, None, if◌then◌else◌}
use Rattle.std.specs.List.{list_any, slice_split}
use Rattle.std.specs.Option.{option_or}
use Rattle.std.specs.Str.{bytes_eq}
use Rattle.mc_ring.specs.declared.rings.TheConstants.{SERVER_LIMIT}
use Rattle.mc_proxyd.specs.Files.{is_line_feed, is_some_word, word_of}
use Rattle.mc_proxyd.specs.Servers.{is_server, name_of}
use Rattle.mc_proxyd.specs.declared.lists.Mistake.{Mistake}
use Rattle.mc_proxyd.specs.declared.lists.Mistake.TheVariants.{NoServer, Doubled, TooMany, Unended, NoneAtAll}

-- a server of a name, after those of earlier names: its name is one of these, or it is one too many for a ring
abbrev pub name_mistake : (number : ℕ) → (names : List (List ℕ)) → List ℕ → Option Mistake
name_mistake number names name =
    if list_any (λ other. bytes_eq other name) names then Some (Doubled number)
    else (if nat_le SERVER_LIMIT (length names) then Some (TooMany number) else None)

-- a word is no server's, or its server has such a mistake
abbrev pub word_mistake : (number : ℕ) → (names : List (List ℕ)) → List ℕ → Option Mistake
word_mistake number names word = if is_server word then name_mistake number names (name_of word) else Some (NoServer number)

-- The first mistake of words from that of a number on, after servers of these names.
abbrev pub mistake_among : (number : ℕ) → (names words : List (List ℕ)) → Option Mistake
mistake_among number names [] = None
mistake_among number names (word ∷ words) =
    option_or (word_mistake number names word) (mistake_among (number + 1) (names ++ name_of word ∷ []) words)

-- the first mistake of all words, or that there is no word
abbrev pub mistake_of_words : List (List ℕ) → Option Mistake
mistake_of_words words = if nat_lt 0 (length words) then mistake_among 1 [] words else Some NoneAtAll

-- the mistake of the word of a server that joins those of these names, if there is a word
abbrev pub join_mistake : (names : List (List ℕ)) → Option (Bor (List ℕ)) → Option Mistake
join_mistake names None = Some NoneAtAll
join_mistake names (Some word) = word_mistake (length names + 1) names word.now

-- a line without a word has no mistake
unfoldable pub line_mistake : (number : ℕ) → (names : List (List ℕ)) → List ℕ → Option Mistake
line_mistake number names word = if is_some_word word then word_mistake number names word else None

-- the names of servers after a line with this word
abbrev pub names_after : (names : List (List ℕ)) → List ℕ → List (List ℕ)
names_after names word = names ++ map name_of (filter is_some_word (word ∷ []))

-- the text after the last line end has a word, or no line has one
abbrev pub end_mistake : (number : ℕ) → (names : List (List ℕ)) → List ℕ → Option Mistake
end_mistake number names word =
    if is_some_word word then Some (Unended number) else (if nat_lt 0 (length names) then None else Some NoneAtAll)

-- The first mistake of lines from that of a number on, after servers of these names. The last part is the text after the last line end.
abbrev pub mistake_from : (number : ℕ) → (names parts : List (List ℕ)) → Option Mistake
mistake_from number names [] = None
mistake_from number names (rest ∷ []) = end_mistake number names (word_of rest)
mistake_from number names (line ∷ next ∷ parts) =
    option_or (line_mistake number names (word_of line)) (mistake_from (number + 1) (names_after names (word_of line)) (next ∷ parts))

-- the first mistake of a text from the line of a number on, after servers of these names; and that of a whole text
unfoldable pub mistake_after : (number : ℕ) → (names : List (List ℕ)) → List ℕ → Option Mistake
mistake_after number names text = mistake_from number names (slice_split is_line_feed text)

abbrev pub mistake_in : List ℕ → Option Mistake
mistake_in text = mistake_after 1 [] text
