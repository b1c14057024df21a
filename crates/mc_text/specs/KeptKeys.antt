-- Where the bytes of a key are stored.
use Rattle.std.specs.Prelude.{ℕ, ◌<◌, ◌≤◌, List, length, take}
use Rattle.mc_text.specs.declared.keys.TheConstants.{INLINE, KEY_LIMIT}
use Rattle.mc_text.specs.declared.keys.Bytes.{Bytes}
use Rattle.mc_text.specs.declared.keys.Bytes.TheVariants.{Inline, Heap}

-- the bytes that are stored
abbrev pub kept_bytes : Bytes → List ℕ
kept_bytes (Inline len bytes) = take len bytes
kept_bytes (Heap bytes) = bytes.items

-- their number is within its bounds: in the key, no more than it has room for
abbrev pub IsKept : Bytes → Type 0
IsKept (Inline len bytes) = (0 < len) × (len ≤ INLINE)
IsKept (Heap bytes) = (0 < length bytes.items) × (length bytes.items ≤ KEY_LIMIT)
