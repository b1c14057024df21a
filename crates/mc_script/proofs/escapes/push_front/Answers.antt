use Rattle.std.proofs.Common.{◌++◌, ◌∙◌, ℕ, List, ap, sym, arith}
use Rattle.std.proofs.lemmas.List.Sums.{prefix_len-le-length}
use Rattle.mc_script.specs.Escapes.{is_plain}
use Rattle.mc_script.proofs.EscapeLemmas.{escaped_run}
use Rattle.mc_script.proofs.escapes.push_front.Goals as goal

pub split_at-requires : goal.split_at-requires
split_at-requires c = omega (arith, c.plain_blocks-count.ensures, prefix_len-le-length is_plain c.args.bytes.now)

pub returns-clause-escaped : goal.returns-clause-escaped
returns-clause-escaped c =
    c.in_ok-extend_from_slice.ensures.items
    ∙ ap (λ (run : List ℕ). c.args.out.now.items ++ run) (c.split_at.ensures.front ∙ sym (escaped_run c.plain_blocks-count.result c.args.bytes.now c.plain_blocks-count.ensures))
