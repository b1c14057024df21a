use Rattle.std.proofs.Common.{◌≡◌, ℕ, ◌-◌, true, length, take, drop, sym, ap, ◌∙◌, arith}
use Rattle.std.proofs.lemmas.List.{length-drop, take_all}
use Rattle.std.specs.List.{list_all}
use Rattle.mc_text.specs.ByteTests.{is_from}
use Rattle.mc_text.proofs.TestLemmas.{overlap, second_part}
use Rattle.mc_text.proofs.byte_tests.are_few_from.Goals as goal

pub returns-then-are_half_from : goal.returns-then-are_half_from
returns-then-are_half_from c =
    let p = is_from c.args.least in
    let text = c.args.text.now in
    let from : ℕ = length text - 8 in
    let last = c.split_at.result.1.now in
    let is : last ≡ drop from text = c.split_at.ensures.back in
    let whole : take 8 last ≡ drop from text = take_all 8 last (omega (arith, ap length is, length-drop from text, c.if-text-lt-HALF.false)) ∙ is in
    let first : list_all p (take 8 text) ≡ true = sym c.are_half_from.ensures ∙ c.if-are_half_from.true in
    c.are_half_from-then-are_half_from.ensures ∙ ap (list_all p) whole
    ∙ second_part (list_all p (take 8 text)) (list_all p (drop from text)) (list_all p text) first
    (overlap p text 8 from (omega (arith, c.requires)))
