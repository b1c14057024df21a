use Rattle.std.proofs.Common.{◌++◌, ◌∙◌, ℕ, List, ap, sym}
use Rattle.mc_script.proofs.EscapeLemmas.{escape_of-plain}
use Rattle.mc_script.proofs.escapes.push_escape.Goals as goal

pub returns-then-is_plain-clause-escape : goal.returns-then-is_plain-clause-escape
returns-then-is_plain-clause-escape c =
    c.in_ok-push.ensures.items
    ∙ ap (λ (escape : List ℕ). c.args.out.now.items ++ escape) (sym (escape_of-plain c.args.byte (sym c.is_plain.ensures ∙ c.if-is_plain.true)))
