-- What a list of servers in a file says: this project's own.
use Rattle.std.specs.Prelude.{ℕ, ◌==◌, ◌-◌, Bool, List, map, filter, length, nat_lt, take, drop}
use Rattle.std.specs.Char.{is_ascii_whitespace}
use Rattle.std.specs.List.{before_first, prefix_len, suffix_len, slice_split}

-- a byte `#`, with which a comment begins
abbrev pub is_hash : ℕ → Bool
is_hash b = b == 35

-- a line feed, with which a line ends
abbrev pub is_line_feed : ℕ → Bool
is_line_feed b = b == 10

-- a text without the white space behind it, and without that on both sides
abbrev pub without_end : List ℕ → List ℕ
without_end text = take (length text - suffix_len is_ascii_whitespace text) text

abbrev pub trimmed : List ℕ → List ℕ
trimmed text = without_end (drop (prefix_len is_ascii_whitespace text) text)

-- the word of a line: the text before a `#`, without the white space around it
unfoldable pub word_of : List ℕ → List ℕ
word_of line = trimmed (before_first is_hash line)

-- whether a line has a word; one without names no server
abbrev pub is_some_word : List ℕ → Bool
is_some_word word = nat_lt 0 (length word)

-- the words that name servers, of a text's lines in their order
unfoldable pub words_of : List ℕ → List (List ℕ)
words_of text = filter is_some_word (map word_of (slice_split is_line_feed text))
