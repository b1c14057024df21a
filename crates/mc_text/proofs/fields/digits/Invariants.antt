use Rattle.std.proofs.Common.{◌≡◌, ◌≤◌, drop}
use Rattle.mc_text.specs.Forms.{digits_at}
use Rattle.mc_text.proofs.fields.digits.Given as goal

abbrev pub invariant-loop-at : goal.invariant-loop-at
invariant-loop-at l =
    (digits_at l.most l.value (drop l.at l.unread) ≡ digits_at l.most l.begun l.unread) × (l.value ≤ l.most)
