use Rattle.std.specs.Prelude.{◌≡◌, ◌-◌, ◌/◌, ◌%◌, ◌≤◌}
use Rattle.mc_table.specs.Hashes.{after_words}
use Rattle.mc_table.proofs.key_hashers.KeyHasherHasher.write.Given as goal

abbrev pub invariant-loop-at : goal.invariant-loop-at
invariant-loop-at l = (l.at % 8 ≡ 0) × (l.at ≤ l.len) × (l.state ≡ after_words l.bytes l.initial.self (l.at / 8))

abbrev pub decreases-loop-at : goal.decreases-loop-at
decreases-loop-at l = l.len - l.at
