-- Which pair of a ring holds a hash, and so which server owns a key.
use Rattle.std.specs.Prelude.{ℕ, ◌==◌, ◌&&◌, ◌||◌, Bool, nat_lt, nat_le, List, [], ◌∷◌, filter, Option, Some, None, if◌then◌else◌}
use Rattle.std.specs.Option.{option_or, option_map_or}
use Rattle.mc_ring.specs.declared.points.Point.{Point}

-- a pair is before another: its point is less, or the points are equal and its place is less
-- source: libketama sorts by points; the rule for equal points is this project's own
abbrev pub is_before : Point → Point → Bool
is_before p q = nat_lt p.point q.point || p.point == q.point && nat_lt p.place q.place

-- the one of two pairs that is before the other, or the only pair
abbrev pub lesser : Point → Option Point → Point
lesser p None = p
lesser p (Some q) = if is_before q p then q else p

-- the least of some pairs, listed in any order
abbrev pub least : List Point → Option Point
least [] = None
least (p ∷ ps) = Some (lesser p (least ps))

-- the least pair whose point is not below the hash or, if there is none, the least of all
-- source: libketama, ketama_get_server
unfoldable pub holder_of : List Point → ℕ → Option Point
holder_of pairs hash = option_or (least (filter (λ p. nat_le hash p.point) pairs)) (least pairs)

-- the place of the server that owns a hash (0 if there are no pairs)
abbrev pub owner_of : List Point → ℕ → ℕ
owner_of pairs hash = option_map_or (λ p. p.place) (holder_of pairs hash) 0
