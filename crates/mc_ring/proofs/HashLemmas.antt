-- Hashes worked out: for examples, here and in crates above.
use Rattle.std.proofs.Common.{◌≡◌, codes, refl}
use Rattle.md5.specs.Md5.{block_words, rounds, compress, hash_after, digest_bytes, md5}
use Rattle.mc_ring.specs.Points.{hash_of}

pub hash_of-a : hash_of (codes "a") ≡ 0xb975c10c
unfolding block_words rounds compress hash_after digest_bytes md5 hash_of
hash_of-a = refl

pub hash_of-abc : hash_of (codes "abc") ≡ 0x98500190
unfolding block_words rounds compress hash_after digest_bytes md5 hash_of
hash_of-abc = refl
