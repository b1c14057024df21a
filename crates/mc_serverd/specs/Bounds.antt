-- The bounds of a server's cache, as its operator states them. Source: this project's own.
use Rattle.std.specs.Prelude.{ℕ, ◌*◌, ◌/◌, ◌||◌, ◌&&◌, nat_le, nat_lt, min, max, List, codes, Option, Some, None, if◌then◌else◌}
use Rattle.std.specs.Str.{bytes_eq}
use Rattle.mc_text.specs.Numbers.{read_u64}
use Rattle.mc_cache.specs.declared.caches.TheConstants.{MAX_ITEMS}
use Rattle.mc_serverd.specs.declared.items.TheConstants.{BYTES_AN_ITEM, USUAL_ITEMS}
use Rattle.mc_serverd.specs.declared.items.Items.{Items}
use Rattle.mc_serverd.specs.declared.items.Items.TheVariants.{Auto, Most}
use Rattle.mc_serverd.specs.declared.items.Advice.{Advice}
use Rattle.mc_serverd.specs.declared.items.Advice.TheVariants.{Another, Auto as WriteAuto}

-- a number of items, if a cache may have that many
abbrev pub most_of : Option ℕ → Option Items
most_of None = None
most_of (Some items) = if nat_lt 0 items && nat_le items MAX_ITEMS then Some (Most items) else None

-- what a word of `--items` stands for: `auto`, or a number; any other word gives none
abbrev pub items_named : List ℕ → Option Items
items_named word = if bytes_eq word (codes "auto") then Some Auto else most_of (read_u64 word)

-- how many items there may be: the number that was given, or one for each 120 bytes of the budget, but no fewer than the default, and no
-- more than a cache may have
abbrev pub items_for : Items → ℕ → ℕ
items_for (Most items) budget = items
items_for Auto budget = max USUAL_ITEMS (min (budget / BYTES_AN_ITEM) MAX_ITEMS)

-- The advice for a server that has this many items, which cost this much, under these limits: if the items are at their limit, while more
-- than half of the budget is free, what lets it have more.
abbrev pub advice_of : ℕ → ℕ → ℕ → ℕ → Option Advice
advice_of held used items budget =
    if nat_lt held items || nat_le budget (used * 2) then None
    else Some (if nat_lt items (items_for Auto budget) then WriteAuto else Another)
