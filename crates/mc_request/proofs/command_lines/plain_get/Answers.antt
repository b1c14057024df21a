use Rattle.std.proofs.Common.{◌∙◌, sym}
use Rattle.mc_request.proofs.PartLemmas.{left, right}
use Rattle.mc_request.proofs.RetrievalLemmas.{good_keys}
use Rattle.mc_request.proofs.command_lines.plain_get.Goals as goal

pub returns-then-has_plain_keys : goal.returns-then-has_plain_keys
returns-then-has_plain_keys c =
    let both = sym c.has_plain_keys.ensures ∙ c.if-has_plain_keys.true in
    c.in_ok-keys.ensures ∙ good_keys c.in_ok-keys.with_cas c.in_ok-keys.keys (left _ _ both) (right _ _ both)
