-- Chains: the places of each bucket, from the greatest down. This project's own.
use Rattle.std.specs.Prelude.{◌≡◌, ◌≢◌, ℕ, ◌-◌, ◌*◌, ◌^◌, ◌<◌, ◌≤◌, ◌==◌, List, length, slice_index_or, slice_set, if◌then◌else◌, min, bit_and}

-- the bucket of a tag, among n buckets
unfoldable pub bucket_of : ℕ → ℕ → ℕ
bucket_of buckets tag = bit_and tag (buckets - 1)

-- the number of buckets for n entries: a power of two, at least 16 and at least n (or 2^31 if n is more), and less than
-- twice that if it is above 16
pub record IsBucketCount (entries buckets : ℕ) : Type 0 where
  pub power : (k : ℕ) × (buckets ≡ 2 ^ k)
  pub some : 2 ^ 4 ≤ buckets
  pub enough : min entries (2 ^ 31) ≤ buckets
  pub most : 2 ^ 4 < buckets → buckets < 2 * min entries (2 ^ 31)

-- the number of a place, the first of which is 1
abbrev pub at_place : List ℕ → ℕ → ℕ
at_place numbers place = slice_index_or numbers (place - 1) 0

-- the bucket that a place falls to
abbrev pub falls : ℕ → List ℕ → ℕ → ℕ
falls buckets tags place = bucket_of buckets (at_place tags place)

-- a place is the last of a bucket up to another, or 0 if there is none. One place is ignored: it is out of its chain
pub record IsLast (bucket_at : ℕ → ℕ) (out bucket most place : ℕ) : Type 0 where
  pub within : place ≤ most
  pub own : 0 < place → bucket_at place ≡ bucket
  pub chained : 0 < place → place ≢ out
  pub last : (q : ℕ) → place < q → q ≤ most → q ≢ out → bucket_at q ≢ bucket

-- each head leads to the last place of its bucket, and each place to the last of the same bucket before it
pub record IsChained (heads tags nexts : List ℕ) (out most : ℕ) : Type 0 where
  pub first : (bucket : ℕ) → bucket < length heads → IsLast (falls (length heads) tags) out bucket most (slice_index_or heads bucket 0)
  pub further : (place : ℕ) → 0 < place → place ≤ most → place ≢ out
      → IsLast (falls (length heads) tags) out (falls (length heads) tags place) (place - 1) (at_place nexts place)

-- the place that a bucket's head leads to, or that a place leads to
abbrev pub link : List ℕ → List ℕ → ℕ → ℕ → ℕ
link heads nexts bucket place = if place == 0 then slice_index_or heads bucket 0 else at_place nexts place

-- the heads, and the next of each place, once a bucket's head leads to another place, or a place does
abbrev pub heads_with : ℕ → ℕ → ℕ → List ℕ → List ℕ
heads_with bucket place to heads = if place == 0 then slice_set heads bucket to else heads

abbrev pub nexts_with : ℕ → ℕ → List ℕ → List ℕ
nexts_with place to nexts = if place == 0 then nexts else slice_set nexts (place - 1) to

-- a place of a bucket is above another, and leads to it or past it; or its head does, at 0
pub record IsAbove (heads tags nexts : List ℕ) (bucket most place above : ℕ) : Type 0 where
  pub within : above ≤ most
  pub over : 0 < above → place < above
  pub own : 0 < above → falls (length heads) tags above ≡ bucket
  pub past : link heads nexts bucket above ≤ place
