use Rattle.std.proofs.Common.{◌≡◌, ℕ, ◌+◌, ◌-◌, true, false, List, length, take, drop, sym, ap, ◌∙◌, arith, refl, take-add}
use Rattle.std.proofs.lemmas.List.{length-take, length-drop, drop-drop, take_all}
use Rattle.std.proofs.lemmas.List.Folds.{list_all-append}
use Rattle.std.specs.List.{list_all}
use Rattle.mc_text.specs.ByteTests.{is_from}
use Rattle.mc_text.proofs.TestLemmas.{overlap, fails_later, first_part, second_part}
use Rattle.mc_text.proofs.byte_tests.are_from.Goals as goal

-- the first of a front of 16 bytes are that front
front : (rest lanes : List ℕ) → lanes ≡ take 16 rest → take 16 lanes ≡ take 16 rest
front rest lanes is = take_all 16 lanes (omega (arith, ap length is, length-take 16 rest)) ∙ is

pub returns-then-not-are_lanes_from : goal.returns-then-not-are_lanes_from
returns-then-not-are_lanes_from c =
    let p = is_from c.args.least in
    let text = c.args.text.now in
    let rest = c.loop-rest.rest.now in
    let passed : ℕ = length text - length rest in
    let lanes : list_all p (take 16 rest) ≡ false =
    ap (list_all p) (sym (front rest c.split_at.result.0.now c.split_at.ensures.front)) ∙ sym c.are_lanes_from.ensures ∙ c.if-not-are_lanes_from.true in
    let no : list_all p rest ≡ false =
    sym (first_part (list_all p (take 16 rest)) (list_all p (drop 16 rest)) (list_all p rest) lanes (overlap p rest 16 16 (omega arith))) ∙ lanes in
    sym (fails_later p text passed (ap (list_all p) (sym c.loop-rest.invariant.1) ∙ no))

pub loop-rest-preserved : goal.loop-rest-preserved
loop-rest-preserved c =
    let p = is_from c.args.least in
    let text = c.args.text.now in
    let rest = c.loop-rest.rest.now in
    let more = c.split_at.result.1.now in
    let passed : ℕ = length text - length rest in
    let size : length more ≡ length rest - 16 = ap length c.split_at.ensures.back ∙ length-drop 16 rest in
    let further : passed + 16 ≡ length text - length more = omega (arith, size, c.loop-rest.invariant.0, c.loop-rest-test.true) in
    let lanes : list_all p (take 16 rest) ≡ true =
    ap (list_all p) (sym (front rest c.split_at.result.0.now c.split_at.ensures.front)) ∙ sym c.are_lanes_from.ensures ∙ c.if-not-are_lanes_from.false in
    let next : list_all p (take 16 (drop passed text)) ≡ true = ap (λ (r : List ℕ). list_all p (take 16 r)) (sym c.loop-rest.invariant.1) ∙ lanes in (
      omega (arith, size, c.loop-rest.invariant.0),
      c.split_at.ensures.back ∙ ap (drop 16) c.loop-rest.invariant.1 ∙ drop-drop 16 passed text ∙ ap (λ (i : ℕ). drop i text) further,
      ap (λ (i : ℕ). list_all p (take i text)) (sym further) ∙ ap (list_all p) (take-add passed 16 text)
          ∙ list_all-append p (take passed text) (take 16 (drop passed text)) ∙ rw (c.loop-rest.invariant.2, next) refl,
    )

pub returns : goal.returns
returns c =
    let p = is_from c.args.least in
    let text = c.args.text.now in
    let passed : ℕ = length text - length c.loop-rest.rest.now in
    let from : ℕ = length text - 16 in
    let last = c.split_at-2.result.1.now in
    let is : last ≡ drop from text = c.split_at-2.ensures.back in
    let whole : take 16 last ≡ drop from text =
    take_all 16 last (omega (arith, ap length is, length-drop from text)) ∙ is in
    c.are_lanes_from-2.ensures ∙ ap (list_all p) whole
    ∙ second_part (list_all p (take passed text)) (list_all p (drop from text)) (list_all p text) c.loop-rest.invariant.2
    (overlap p text passed from (omega (arith, c.loop-rest-test.false)))
