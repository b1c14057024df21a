-- The sums over items that a store keeps: this project's own.
use Rattle.std.specs.Prelude.{◌≡◌, ℕ, ◌+◌, ◌-◌, ◌<◌, ◌≤◌, ◌^◌, max, nat_lt, [], ◌∷◌, length, if◌then◌else◌}
use Rattle.mc_store.specs.declared.sums.TheConstants.{LONG}
use Rattle.mc_store.specs.declared.sums.Sums.{Sums}
use Rattle.mc_store.specs.Items.{Items, cost_sum, longest_of}

-- one for a length of more than LONG bytes
abbrev pub long_one : ℕ → ℕ
long_one length = if nat_lt LONG length then 1 else 0

-- the number of values that are longer than LONG
abbrev pub long_count : Items → ℕ
long_count [] = 0
long_count (item ∷ items) = long_one (length item.1.value) + long_count items

-- the sums of items
pub record IsSumOf (sums : Sums) (items : Items) : Type 0 where
  pub used : sums.used ≡ cost_sum items
  pub fits : sums.used < 2 ^ 63
  pub long : sums.long ≡ long_count items
  pub longest : longest_of items ≤ sums.longest

-- the sums with one more value, by its length and its item's cost
abbrev pub with_value : ℕ → ℕ → Sums → Sums
with_value price length sums = record {
  used = sums.used + price;
  long = sums.long + long_one length;
  longest = max sums.longest length;
}

-- the sums with one such value less
abbrev pub without_value : ℕ → ℕ → Sums → Sums
without_value price length sums = record {
  used = sums.used - price;
  long = sums.long - long_one length;
  longest = sums.longest;
}
