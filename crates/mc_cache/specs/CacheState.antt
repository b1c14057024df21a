-- The state of a cache: this project's own.
use Rattle.std.specs.Prelude.{◌≡◌, ℕ, ◌≤◌, ◌<◌, IfSome, List, [], length, Option, None, unwrap_or}
use Rattle.std.specs.Option.{option_map}
use Rattle.mc_cache.specs.declared.caches.TheConstants.{MAX_BUDGET, MAX_ITEMS}
use Rattle.mc_store.specs.Items.{Items, body_at, front_body, without, cost_sum}

-- the items, the last number that one of them got, the moment of a pending flush, and the bounds: bytes, and items
pub record CacheState : Type 0 where
  pub items : Items
  pub counter : ℕ
  pub pending : Option ℕ
  pub budget : ℕ
  pub limit : ℕ

-- bounds that a cache may have: a budget of up to 1 TiB, and up to 16,777,216 items
pub record IsWithinBounds (budget limit : ℕ) : Type 0 where
  pub some_bytes : 1 ≤ budget
  pub not_too_many_bytes : budget ≤ MAX_BUDGET
  pub some_items : 1 ≤ limit
  pub not_too_many_items : limit ≤ MAX_ITEMS

-- items that a cache of these bounds may hold, at most one under each key
pub record IsHeldWithin (budget limit : ℕ) (items : Items) : Type 0 where
  pub bounds : IsWithinBounds budget limit
  pub affordable : cost_sum items ≤ budget
  pub few : length items ≤ limit
  pub distinct : (key : List ℕ) → body_at key (without key items) ≡ None

-- a store of this greatest length, if it has one, holds one item more than the limit
abbrev pub HasRoom : ℕ → Option ℕ → Type 0
HasRoom limit most = IfSome most (λ most. limit < most)

-- a cache without items
abbrev pub opening_cache : ℕ → ℕ → ℕ → CacheState
opening_cache budget limit counter = record { items = []; counter = counter; pending = None; budget = budget; limit = limit }

-- the value under a key, if it is stored
abbrev pub held_value : List ℕ → Items → Option (List ℕ)
held_value key items = option_map (λ body. body.value) (body_at key items)

-- the value under a key, or no bytes if it is not stored
abbrev pub value_at : List ℕ → Items → List ℕ
value_at key items = unwrap_or (held_value key items) []

-- the value of the first item, or no bytes if there is none
abbrev pub front_value : Items → List ℕ
front_value items = unwrap_or (option_map (λ body. body.value) (front_body items)) []
