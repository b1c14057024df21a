use Rattle.std.proofs.Common.{◌≡◌, ◌-◌, length, drop, ap, ◌∙◌, arith}
use Rattle.std.proofs.lemmas.List.{length-drop, drop-drop}
use Rattle.memchr.specs.Find.{Nowhere, Passes, is_byte}
use Rattle.mc_text.proofs.LaneLemmas.{first_further, none_further, nowhere_further, nowhere_in_lanes, first_in_lanes}
use Rattle.mc_text.proofs.places.first_place.Goals as goal

pub returns-then-place-lt-LANES : goal.returns-then-place-lt-LANES
returns-then-place-lt-LANES c =
    first_further c.args.byte c.args.text.now c.loop-rest.passed c.place_in_lanes-place.result c.loop-rest.invariant.0 c.loop-rest.invariant.2
    (rw (← c.loop-rest.invariant.1) (first_in_lanes c.args.byte c.loop-rest.rest.now c.place_in_lanes-place.result (omega (arith, c.loop-rest-test.true))
    c.place_in_lanes-place.ensures (omega (arith, c.if-place-lt-LANES.true))))

pub loop-rest-preserved : goal.loop-rest-preserved
loop-rest-preserved c =
    let rest_is = c.loop-rest.invariant.1 in
    let size : length c.loop-rest.rest.now ≡ length c.args.text.now - c.loop-rest.passed
    = ap length rest_is ∙ length-drop c.loop-rest.passed c.args.text.now in
    let none : Nowhere (Passes (is_byte c.args.byte) c.loop-rest.rest.now) 0 16
    = (λ k low high. nowhere_in_lanes c.args.byte c.loop-rest.rest.now c.place_in_lanes-place.result (omega (arith, c.loop-rest-test.true))
    c.place_in_lanes-place.ensures k low (omega (arith, high, c.if-place-lt-LANES.false))) in (
      omega (arith, size, c.loop-rest.invariant.0, c.loop-rest-test.true),
      c.split_at.ensures.back ∙ ap (drop 16) rest_is ∙ drop-drop 16 c.loop-rest.passed c.args.text.now,
      nowhere_further c.args.byte c.args.text.now c.loop-rest.passed 16 c.loop-rest.invariant.2 (rw (← rest_is) none),
    )

pub returns-in-Some : goal.returns-in-Some
returns-in-Some c =
    first_further c.args.byte c.args.text.now c.loop-rest.passed c.in-Some.place c.loop-rest.invariant.0 c.loop-rest.invariant.2
    (rw (c.loop-rest.invariant.1, c.in-Some.is) at c.memchr.ensures)

pub returns-in-None : goal.returns-in-None
returns-in-None c =
    none_further c.args.byte c.args.text.now c.loop-rest.passed c.loop-rest.invariant.0 c.loop-rest.invariant.2
    (rw (c.loop-rest.invariant.1, c.in-None.is) at c.memchr.ensures)
