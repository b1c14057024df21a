use Rattle.std.proofs.Common.{◌≡◌, ◌≤◌, ℕ, ◌-◌, length, drop, ap, arith}
use Rattle.std.proofs.lemmas.List.{length-drop}
use Rattle.memchr.specs.Find.{Nowhere, Passes, is_byte}
use Rattle.mc_text.proofs.LaneLemmas.{first_further, none_further, first_in_lanes, nowhere_in_lanes}
use Rattle.mc_text.proofs.places.place_in_last.Goals as goal

pub returns-then-place-lt-LANES : goal.returns-then-place-lt-LANES
returns-then-place-lt-LANES c =
    let text = c.args.text.now in
    let from : ℕ = length text - 16 in
    let last = c.split_at.result.1.now in
    let is : last ≡ drop from text = c.split_at.ensures.back in
    let long : 16 ≤ length last = omega (arith, ap length is, length-drop from text, c.requires.long) in
    first_further c.args.byte text from c.place_in_lanes-place.result (omega arith) c.requires.before
    (rw is at (first_in_lanes c.args.byte last c.place_in_lanes-place.result long c.place_in_lanes-place.ensures (omega (arith, c.if-place-lt-LANES.true))))

pub returns-else-place-lt-LANES : goal.returns-else-place-lt-LANES
returns-else-place-lt-LANES c =
    let text = c.args.text.now in
    let from : ℕ = length text - 16 in
    let last = c.split_at.result.1.now in
    let is : last ≡ drop from text = c.split_at.ensures.back in
    let size : length last ≡ 16 = omega (arith, ap length is, length-drop from text, c.requires.long) in
    let none : Nowhere (Passes (is_byte c.args.byte) last) 0 (length last)
    = (λ k low high. nowhere_in_lanes c.args.byte last c.place_in_lanes-place.result (omega (arith, size)) c.place_in_lanes-place.ensures
    k low (omega (arith, high, size, c.if-place-lt-LANES.false))) in
    none_further c.args.byte text from (omega arith) c.requires.before (rw is at none)
