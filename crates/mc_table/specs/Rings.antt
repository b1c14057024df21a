-- A ring of links: the places of an order, and the place 0, which is before the first and after the last. This
-- project's own.
use Rattle.std.specs.Prelude.{◌≡◌, ℕ, zero, suc, ◌-◌, ◌≤◌, ◌^◌, List, [], ◌∷◌, length, slice_index_or, slice_set}
use Rattle.mc_table.specs.declared.lru_nodes.LruNode.{LruNode}
use Rattle.mc_table.specs.Places.{AreAll}

-- a link that leads to the place 0 both ways
abbrev pub no_link : LruNode
no_link = record { before = 0; after = 0 }

-- the link of a place
abbrev pub link_at : List LruNode → ℕ → LruNode
link_at links place = slice_index_or links place no_link

-- links in which a place is after another
abbrev pub with_after : List LruNode → ℕ → ℕ → List LruNode
with_after links place next = slice_set links place (record { before = (link_at links place).before; after = next })

-- links in which a place is before another
abbrev pub with_before : List LruNode → ℕ → ℕ → List LruNode
with_before links place previous = slice_set links place (record { before = previous; after = (link_at links place).after })

-- links in which one place follows another
unfoldable pub joined : List LruNode → ℕ → ℕ → List LruNode
joined links previous next = with_before (with_after links previous next) next previous

-- links in which nothing leads to a place: its neighbours are joined
unfoldable pub unlinked : List LruNode → ℕ → List LruNode
unlinked links place = joined links (link_at links place).before (link_at links place).after

-- links in which a place is right before another
unfoldable pub linked_before : List LruNode → ℕ → ℕ → List LruNode
linked_before links place next = joined (joined links (link_at links next).before place) place next

-- n places, each after the last, from one on
unfoldable pub walk : List LruNode → ℕ → ℕ → List ℕ
walk links zero place = []
walk links (suc count) place = (link_at links place).after ∷ walk links count (link_at links place).after

-- the places of a ring, from the first on
unfoldable pub places_of : List LruNode → List ℕ
places_of links = walk links (length links - 1) 0

-- the links lead from a place through places to another, and back
abbrev pub Leads : List LruNode → ℕ → List ℕ → ℕ → Type 0
Leads links from [] to = ((link_at links from).after ≡ to) × ((link_at links to).before ≡ from)
Leads links from (p ∷ ps) to = ((link_at links from).after ≡ p) × ((link_at links p).before ≡ from) × Leads links p ps to

-- the links lead from 0 through all places to 0, and back
pub record IsRing (links : List LruNode) (places : List ℕ) : Type 0 where
  pub leads : Leads links 0 places 0
  pub are_all : AreAll places
  pub count : length links ≡ suc (length places)
  pub small : length links ≤ 2 ^ 32
