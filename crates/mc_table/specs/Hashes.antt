-- The hash of a key under three secret numbers: this project's own.
use Rattle.std.specs.Prelude.{ℕ, zero, suc, ◌+◌, ◌-◌, ◌*◌, ◌/◌, ◌%◌, ◌^◌, List, length, if◌then◌else◌, nat_le, nat_lt, slice_index, bit_and, bit_or, bit_xor, Result, Ok, Err}
use Rattle.mc_table.specs.declared.key_hashers.KeyHasher.{KeyHasher}
use Rattle.mc_table.specs.declared.key_hashers.SecretState.{SecretState}

-- the two halves of the 128 bits of a product, joined by exclusive or; first the addend is added to the low half
unfoldable pub folded_product : ℕ → ℕ → ℕ → ℕ
folded_product word factor addend = bit_xor ((bit_and (word * factor) (2 ^ 64 - 1) + addend) % 2 ^ 64) (word * factor / 2 ^ 64)

-- four bytes from an index on, the lowest first
unfoldable pub half_at : List ℕ → ℕ → ℕ
half_at bytes at = slice_index bytes at + slice_index bytes (at + 1) * 256 + slice_index bytes (at + 2) * 65536 + slice_index bytes (at + 3) * 16777216

-- a number that is shifted up by n bits, of 64
abbrev pub moved_up : ℕ → ℕ → ℕ
moved_up x by = (x * 2 ^ by) % 2 ^ 64

-- eight bytes from an index on, the lowest first
unfoldable pub word_at : List ℕ → ℕ → ℕ
word_at bytes at = bit_or (half_at bytes at) (moved_up (half_at bytes (at + 4)) 32)

-- the bytes from an index on, of which there are at most seven: four and four of them that may overlap, or three, or none
unfoldable pub rest_from : List ℕ → ℕ → ℕ
rest_from bytes at =
    let n = length bytes in
    if nat_le 4 (n - at) then bit_or (half_at bytes at) (moved_up (half_at bytes (n - 4)) 32)
    else (if nat_lt 0 (n - at)
    then bit_or (bit_or (slice_index bytes at) (moved_up (slice_index bytes (at + (n - at) / 2)) 8)) (moved_up (slice_index bytes (n - 1)) 16)
    else 0)

-- a state after n words
unfoldable pub after_words : List ℕ → KeyHasher → ℕ → ℕ
after_words bytes h zero = h.state
after_words bytes h (suc n) = folded_product (bit_xor (after_words bytes h n) (word_at bytes (8 * n))) h.factor h.addend

-- a hasher after a text: its words, its rest, and its length
unfoldable pub write : KeyHasher → List ℕ → KeyHasher
write h bytes =
    let words = length bytes / 8 in
    let last = folded_product (bit_xor (after_words bytes h words) (rest_from bytes (8 * words))) h.factor h.addend in
    record h { state = folded_product (bit_xor last (length bytes)) h.factor h.addend }

-- the hash that a hasher returns
abbrev pub finish : KeyHasher → ℕ
finish h = h.state

-- the hasher of a key
abbrev pub first_hasher : SecretState → KeyHasher
first_hasher s = record { state = s.state; factor = s.factor; addend = s.addend }

-- three secret numbers of 24 bytes, the factor an odd one; if the bytes could not be filled, that error
unfoldable pub seeded : {U E : Type 0} → List ℕ → Result U E → Result SecretState E
seeded bytes (Ok filled) = Ok (record { state = word_at bytes 0; factor = bit_or (word_at bytes 8) 1; addend = word_at bytes 16 })
seeded bytes (Err error) = Err error
