use Rattle.std.proofs.Common.{◌≡◌, ℕ, Bool, ◌&&◌, List, refl, sym, ap, ◌∙◌}
use Rattle.std.specs.List.{list_all}
use Rattle.mc_text.specs.Keys.{is_line_byte, is_plain_key, is_short}
use Rattle.mc_text.specs.Words.{words}
use Rattle.mc_text.proofs.PlainLemmas.{words_plain}
use Rattle.mc_text.proofs.keys.are_plain_keys.Goals as goal

-- by the bytes of a text and its words
by_parts : (text : List ℕ) (all : List (List ℕ)) (line : Bool) → words text ≡ all → line ≡ list_all is_line_byte text
    → list_all is_plain_key all ≡ (line && list_all is_short all)
by_parts text all line is seen =
    ap (list_all is_plain_key) (sym is) ∙ words_plain text ∙ ap (λ (v : Bool). v && list_all is_short (words text)) (sym seen)
    ∙ ap (λ (ws : List (List ℕ)). line && list_all is_short ws) is

pub returns-then-are_line_bytes : goal.returns-then-are_line_bytes
returns-then-are_line_bytes c =
    c.has_short_words.ensures ∙ ap (list_all is_short) c.text-text.ensures
    ∙ sym (by_parts c.text-text.result.now c.args.words.now c.are_line_bytes.result c.text-text.ensures c.are_line_bytes.ensures
    ∙ rw c.if-are_line_bytes.true refl)

pub returns-else-are_line_bytes : goal.returns-else-are_line_bytes
returns-else-are_line_bytes c =
    c.if-are_line_bytes.false
    ∙ sym (by_parts c.text-text.result.now c.args.words.now c.are_line_bytes.result c.text-text.ensures c.are_line_bytes.ensures
    ∙ rw c.if-are_line_bytes.false refl)
