-- The first mistake of a text's lines, taken from the front.
use Rattle.std.proofs.Common.{◌≡◌, ◌<◌, ◌≤◌, ◌+◌, ◌∷◌, ◌∙◌, [], ℕ, List, length, nat_lt, ap, refl, sym, Bool, true, false, Option, Some, None, ◌⊎◌, inl, inr, arith}
use Rattle.std.specs.Prelude.{if◌then◌else◌}
use Rattle.std.specs.List.{before_first, after_first, position_or_len, slice_split}
use Rattle.std.specs.Option.{option_or}
use Rattle.std.proofs.lemmas.List.{length-drop}
use Rattle.std.proofs.lemmas.List.Splits.{length-slice_split, slice_split_first, slice_split_none}
use Rattle.std.proofs.lemmas.List.Sums.{fails_before_first}
use Rattle.mc_proxyd.specs.Files.{is_line_feed, is_some_word, word_of}
use Rattle.mc_proxyd.specs.Mistakes.{end_mistake, line_mistake, mistake_after, mistake_from, name_mistake, names_after, word_mistake}
use Rattle.mc_proxyd.specs.Servers.{is_server, name_of}
use Rattle.mc_proxyd.specs.declared.lists.Mistake.{Mistake}
use Rattle.mc_proxyd.specs.declared.lists.Mistake.TheVariants.{Memory, NoServer, NoneAtAll, Unended}

-- the cut of a line with parts behind it
cut_first : (number : ℕ) (names : List (List ℕ)) (line : List ℕ) (parts : List (List ℕ)) → 0 < length parts
    → mistake_from number names (line ∷ parts)
    ≡ option_or (line_mistake number names (word_of line)) (mistake_from (number + 1) (names_after names (word_of line)) parts)
cut_first number names line [] some = absurd (omega arith)
cut_first number names line (next ∷ parts) some = refl

-- the first mistake is that of the first line, or the first of those after it
pub mistake_first : (number : ℕ) (names : List (List ℕ)) (text : List ℕ) → position_or_len is_line_feed text < length text
    → mistake_after number names text
    ≡ option_or (line_mistake number names (word_of (before_first is_line_feed text)))
    (mistake_after (number + 1) (names_after names (word_of (before_first is_line_feed text))) (after_first is_line_feed text))
unfolding mistake_after
mistake_first number names text some =
    ap (λ (parts : List (List ℕ)). mistake_from number names parts) (slice_split_first is_line_feed text 0 some)
    ∙ cut_first number names (before_first is_line_feed text) (slice_split is_line_feed (after_first is_line_feed text))
    (omega (arith, length-slice_split is_line_feed (after_first is_line_feed text)))

-- a text without a line end is the text after the last one
pub mistake_last : (number : ℕ) (names : List (List ℕ)) (text : List ℕ) → position_or_len is_line_feed text ≡ length text
    → mistake_after number names text ≡ end_mistake number names (word_of text)
unfolding mistake_after
mistake_last number names text past =
    ap (λ (parts : List (List ℕ)). mistake_from number names parts) (slice_split_none is_line_feed text (grind (arith, fails_before_first)))

-- a line without a word has no mistake
pub no_word : (number : ℕ) (names : List (List ℕ)) (word : List ℕ) → is_some_word word ≡ false → line_mistake number names word ≡ None
unfolding line_mistake
no_word number names word none = ap (λ (some : Bool). if some then word_mistake number names word else None) none

-- a line with a word has the mistake of the word
pub of_word : (number : ℕ) (names : List (List ℕ)) (word : List ℕ) → is_some_word word ≡ true
    → line_mistake number names word ≡ word_mistake number names word
unfolding line_mistake
of_word number names word some = ap (λ (is : Bool). if is then word_mistake number names word else None) some

pub wrong_line : (number : ℕ) (names : List (List ℕ)) (word : List ℕ) (mistake : Mistake) → is_some_word word ≡ true
    → (mistake ≡ Memory) ⊎ (word_mistake number names word ≡ Some mistake) → (mistake ≡ Memory) ⊎ (line_mistake number names word ≡ Some mistake)
wrong_line number names word mistake some (inl memory) = inl memory
wrong_line number names word mistake some (inr wrong) = inr (of_word number names word some ∙ wrong)

-- a word that is a server's has the mistake of its name
pub of_name : (number : ℕ) (names : List (List ℕ)) (word : List ℕ) → is_server word ≡ true
    → word_mistake number names word ≡ name_mistake number names (name_of word)
of_name number names word server = ap (λ (is : Bool). if is then name_mistake number names (name_of word) else Some (NoServer number)) server

-- a test that is not false is true
pub is_true : (b : Bool) → (b ≡ false → ⊥) → b ≡ true
is_true true never = refl
is_true false never = absurd (never refl)

-- if no server is made of a word, the word names none, and that is its mistake, or there was no memory
wrong_word : (number : ℕ) (names : List (List ℕ)) (word : List ℕ) (server : Bool) (mistake : Mistake) → is_server word ≡ server
    → (server ≡ false → mistake ≡ NoServer number) → (server ≡ true → mistake ≡ Memory)
    → (mistake ≡ Memory) ⊎ (word_mistake number names word ≡ Some mistake)
wrong_word number names word true mistake is wrong memory = inl (memory refl)
wrong_word number names word false mistake is wrong memory =
    inr (ap (λ (is : Bool). if is then name_mistake number names (name_of word) else Some (NoServer number)) is ∙ ap Some (sym (wrong refl)))

pub no_server : (number : ℕ) (names : List (List ℕ)) (word : List ℕ) (mistake : Mistake)
    → (is_server word ≡ false → mistake ≡ NoServer number) → (is_server word ≡ true → mistake ≡ Memory)
    → (mistake ≡ Memory) ⊎ (word_mistake number names word ≡ Some mistake)
no_server number names word mistake wrong memory = wrong_word number names word (is_server word) mistake refl wrong memory

-- past a line without a mistake the first one is that of the lines after it
pub mistake_goes_on : (number : ℕ) (names later : List (List ℕ)) (word text : List ℕ) (whole : Option Mistake)
    → position_or_len is_line_feed text < length text → word ≡ word_of (before_first is_line_feed text)
    → line_mistake number names word ≡ None → later ≡ names_after names word → mistake_after number names text ≡ whole
    → mistake_after (number + 1) later (after_first is_line_feed text) ≡ whole
mistake_goes_on number names later word text whole some is right after so_far =
    let rest = after_first is_line_feed text in
    ap (λ (all : List (List ℕ)). mistake_after (number + 1) all rest) (after ∙ ap (λ (w : List ℕ). names_after names w) is)
    ∙ sym (mistake_first number names text some
    ∙ ap (λ (first : Option Mistake). option_or first (mistake_after (number + 1) (names_after names (word_of (before_first is_line_feed text))) rest))
    (sym (ap (λ (w : List ℕ). line_mistake number names w) is) ∙ right))
    ∙ so_far

-- the mistake of a line is that of the text
pub mistake_here : (number : ℕ) (names : List (List ℕ)) (word text : List ℕ) (whole : Option Mistake) (mistake : Mistake)
    → position_or_len is_line_feed text < length text → word ≡ word_of (before_first is_line_feed text)
    → (mistake ≡ Memory) ⊎ (line_mistake number names word ≡ Some mistake) → mistake_after number names text ≡ whole
    → (mistake ≡ Memory) ⊎ (whole ≡ Some mistake)
mistake_here number names word text whole mistake some is (inl memory) so_far = inl memory
mistake_here number names word text whole mistake some is (inr wrong) so_far =
    let rest = mistake_after (number + 1) (names_after names (word_of (before_first is_line_feed text))) (after_first is_line_feed text) in
    inr (sym so_far ∙ mistake_first number names text some
    ∙ ap (λ (first : Option Mistake). option_or first rest) (sym (ap (λ (w : List ℕ). line_mistake number names w) is) ∙ wrong))

-- the text after the last line end decides at last
pub mistake_at_end : (number : ℕ) (names : List (List ℕ)) (word text : List ℕ) (whole end : Option Mistake)
    → position_or_len is_line_feed text ≡ length text → word ≡ word_of text → end_mistake number names word ≡ end
    → mistake_after number names text ≡ whole → whole ≡ end
mistake_at_end number names word text whole end past is ends so_far =
    sym so_far ∙ mistake_last number names text past ∙ sym (ap (λ (w : List ℕ). end_mistake number names w) is) ∙ ends

-- the mistake there: a word has no line end, and without one there are servers or none
pub unended : (number : ℕ) (names : List (List ℕ)) (word : List ℕ) → is_some_word word ≡ true → end_mistake number names word ≡ Some (Unended number)
unended number names word some =
    ap (λ (is : Bool). if is then Some (Unended number) else (if nat_lt 0 (length names) then None else Some NoneAtAll)) some

pub ended : (number : ℕ) (names : List (List ℕ)) (word : List ℕ) (any : Bool) → is_some_word word ≡ false → nat_lt 0 (length names) ≡ any
    → end_mistake number names word ≡ (if any then None else Some NoneAtAll)
ended number names word any none is =
    ap (λ (some : Bool). if some then Some (Unended number) else (if nat_lt 0 (length names) then None else Some NoneAtAll)) none
    ∙ ap (λ (some : Bool). if some then None else Some NoneAtAll) is

-- the text after the first line is shorter
pub shorter : (text : List ℕ) → position_or_len is_line_feed text < length text → length (after_first is_line_feed text) + 1 ≤ length text
shorter text some = omega (arith, length-drop (position_or_len is_line_feed text + 1) text, some)
