use Rattle.std.proofs.Common.{◌≡◌, ◌++◌, true}
use Rattle.std.specs.List.{list_all}
use Rattle.mc_text.specs.Keys.{is_plain_key}
use Rattle.mc_request.proofs.owned.keys_of.Given as goal

abbrev pub invariant-loop-word : goal.invariant-loop-word
invariant-loop-word l =
    (list_all is_plain_key l.word-iterator ≡ true) ×
    (l.keys ++ l.word-iterator ≡ l.fn.words)
