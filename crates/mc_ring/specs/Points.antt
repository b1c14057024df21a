-- The points of a server, and the hash of a key.
use Rattle.std.specs.Prelude.{ℕ, zero, suc, List, [], ◌∷◌, ◌++◌, map, codes, decimal}
use Rattle.md5.specs.Md5.{md5, word_at}
use Rattle.mc_ring.specs.declared.points.Point.{Point}

-- the text of a server's digest of number k: the address, a hyphen, and k in decimal
-- source: libketama, ketama_create_continuum
abbrev pub label : List ℕ → ℕ → List ℕ
label address k = address ++ codes "-" ++ decimal k

-- the four numbers of a digest: bytes 0 to 3, 4 to 7, 8 to 11 and 12 to 15, each with its least byte first
-- source: libketama, ketama_create_continuum
unfoldable pub points_of_digest : List ℕ → List ℕ
points_of_digest digest = word_at digest 0 ∷ word_at digest 4 ∷ word_at digest 8 ∷ word_at digest 12 ∷ []

-- the points of a server's first digests
unfoldable pub first_points : List ℕ → ℕ → List ℕ
first_points address zero = []
first_points address (suc k) = first_points address k ++ points_of_digest (md5 (label address k))

-- the points of a server: four of each of 40 digests
-- source: libketama with equal weights; that it is 40 for every number of servers is this project's own
abbrev pub points_of : List ℕ → List ℕ
points_of address = first_points address 40

-- the hash of a key: bytes 0 to 3 of its digest, the least first
-- source: libketama, ketama_hashi
unfoldable pub hash_of : List ℕ → ℕ
hash_of key = word_at (md5 key) 0

-- a point of the server at a place of the list: this and the definitions below are this project's own
abbrev pub pair_at : ℕ → ℕ → Point
pair_at place point = record { point = point; place = place }

-- points that are all of that server
abbrev pub pairs_at : ℕ → List ℕ → List Point
pairs_at place points = map (pair_at place) points

-- the pairs of servers, the first of which is at a place
abbrev pub pairs_from : ℕ → List (List ℕ) → List Point
pairs_from place [] = []
pairs_from place (server ∷ servers) = pairs_at place (points_of server) ++ pairs_from (suc place) servers

-- the pairs of a list of servers: each point with the place of its server
abbrev pub pairs_of : List (List ℕ) → List Point
pairs_of servers = pairs_from 0 servers
