-- Words of a text's lines, taken from the front.
use Rattle.std.proofs.Common.{◌≡◌, ◌<◌, ◌∷◌, ◌++◌, [], ◌∙◌, ℕ, List, length, map, ap, sym, true, false, nat_lt, arith}
use Rattle.std.specs.List.{before_first, after_first, position_or_len, slice_split}
use Rattle.std.specs.Prelude.{filter}
use Rattle.std.proofs.lemmas.List.{append_assoc, append-nil, map-append}
use Rattle.std.proofs.lemmas.List.Splits.{slice_split_first, slice_split_none}
use Rattle.std.proofs.lemmas.List.Sums.{fails_before_first}
use Rattle.std.proofs.lemmas.List.Elements.{filter-append}
use Rattle.mc_proxyd.specs.Files.{is_line_feed, is_some_word, word_of, words_of}
use Rattle.mc_proxyd.specs.declared.servers.NamedServer.{NamedServer}

-- the word of the first line, if it has one, and then those of the others
pub words_first : (text : List ℕ) → position_or_len is_line_feed text < length text
    → words_of text ≡ filter is_some_word (word_of (before_first is_line_feed text) ∷ []) ++ words_of (after_first is_line_feed text)
unfolding words_of
words_first text some =
    ap (λ (lines : List (List ℕ)). filter is_some_word (map word_of lines)) (slice_split_first is_line_feed text 0 some)
    ∙ filter-append is_some_word (word_of (before_first is_line_feed text) ∷ []) (map word_of (slice_split is_line_feed (after_first is_line_feed text)))

-- one more server, of a word
pub adds : {B : Type 0} (f : List ℕ → B) (g : NamedServer → B) (servers : List NamedServer) (server : NamedServer) (word : List ℕ)
    → nat_lt 0 (length word) ≡ true
    → g server ≡ f word → map g (servers ++ server ∷ []) ≡ map g servers ++ map f (filter is_some_word (word ∷ []))
adds f g servers server word some same = map-append g servers (server ∷ []) ∙ grind (arith, filter)

-- a text without a line feed and without a word names no server
pub words_none : (text : List ℕ) → position_or_len is_line_feed text ≡ length text → is_some_word (word_of text) ≡ false → words_of text ≡ []
unfolding words_of
words_none text past none = grind (arith, filter, slice_split_none, fails_before_first)

-- the servers of the first line, and of those after it, are those of all
pub goes_on : {B : Type 0} (f : List ℕ → B) (before now whole : List B) (text : List ℕ)
    → position_or_len is_line_feed text < length text → before ++ map f (words_of text) ≡ whole
    → now ≡ before ++ map f (filter is_some_word (word_of (before_first is_line_feed text) ∷ []))
    → now ++ map f (words_of (after_first is_line_feed text)) ≡ whole
goes_on f before now whole text some so_far is =
    let word = filter is_some_word (word_of (before_first is_line_feed text) ∷ []) in
    let rest = words_of (after_first is_line_feed text) in
    ap (λ all. all ++ map f rest) is ∙ append_assoc before (map f word) (map f rest) ∙ ap (λ all. before ++ all) (sym (map-append f word rest))
    ∙ ap (λ words. before ++ map f words) (sym (words_first text some)) ∙ so_far

-- if no line is left, the servers found are those of all
pub all_found : {B : Type 0} (f : List ℕ → B) (before whole : List B) (text : List ℕ)
    → words_of text ≡ [] → before ++ map f (words_of text) ≡ whole → before ≡ whole
all_found f before whole text none so_far =
    sym (append-nil before) ∙ sym (ap (λ (words : List (List ℕ)). before ++ map f words) none) ∙ so_far
