use Rattle.std.proofs.Common.{◌∙◌, ℕ, List, ap, refl, drop}
use Rattle.std.specs.Char.{is_ascii_whitespace}
use Rattle.std.specs.List.{prefix_len}
use Rattle.std.proofs.lemmas.Str.Ascii.{trim_ascii_is}
use Rattle.mc_proxyd.specs.Files.{trimmed, word_of}
use Rattle.mc_proxyd.proofs.lists.word_of.Goals as goal

pub returns : goal.returns
unfolding word_of
returns c =
    let front = c.without_comment.result.now in
    trim_ascii_is front c.trim_ascii.result.now (drop (prefix_len is_ascii_whitespace front) front) refl c.trim_ascii.ensures.value
    ∙ ap (λ (text : List ℕ). trimmed text) c.without_comment.ensures
