-- The room of keys, one by one.
use Rattle.std.proofs.Common.{◌≡◌, ℕ, ◌+◌, ◌*◌, Some, None, refl, ◌<◌, ◌≤◌, ◌&&◌, Bool, true, false, cond, nat_lt, List, [], ◌∷◌, length, arith}
use Rattle.std.proofs.Math.Nat.{mul_comm, mul-le-mul_right}
use Rattle.std.specs.List.{count_by}
use Rattle.std.specs.Prelude.{◌==◌}
use Rattle.std.proofs.lemmas.List.Sums.{count_by-le-length}
use Rattle.std.proofs.lemmas.Bool.Decides.{nat_tests}
use Rattle.mc_text.specs.Words.{words}
use Rattle.mc_text.proofs.WordLemmas.{length-words}
use Rattle.mc_request.specs.declared.parts.Request.TheVariants.{Get, Update, Meta, MetaNoop, Version, Quit}
use Rattle.mc_request.specs.declared.parts.Parsed.{Parsed}
use Rattle.mc_request.specs.declared.parts.Parsed.TheVariants.{Whole, Faulty}
use Rattle.mc_request.specs.WellFormed.{is_well_formed}
use Rattle.mc_cache.specs.CacheState.{CacheState, value_at}
use Rattle.mc_item.specs.declared.bodies.Body.{Body}
use Rattle.mc_store.specs.Items.{Items, body_at, longest_of}
use Rattle.mc_store.proofs.LongestLemmas.{longest_of-held}
use Rattle.std.specs.Option.{option_map}
use Rattle.std.specs.Prelude.{unwrap_or}
use Rattle.mc_request.specs.declared.meta.MetaGet.{MetaGet}
use Rattle.mc_request.specs.declared.meta.MetaCommand.TheVariants as metas
use Rattle.mc_server.specs.Rooms.{keys_room, meta_value_room, room_of, taken_bound}

-- if no value gets longer, no more room is needed
pub keys_room-shrinks : (beside : ℕ) (keys : List (List ℕ)) (s t : CacheState)
    → ((other : List ℕ) → length (value_at other t.items) ≤ length (value_at other s.items)) → keys_room beside keys t ≤ keys_room beside keys s
keys_room-shrinks beside [] s t shrinks = omega arith
keys_room-shrinks beside (key ∷ keys) s t shrinks = omega (arith, shrinks key, keys_room-shrinks beside keys s t shrinks)

-- a stored value is no longer than the longest
pub value_at-longest : (key : List ℕ) (items : Items) → length (value_at key items) ≤ longest_of items
value_at-longest key items =
    (elim (body_at key items) as (λ held. body_at key items ≡ held → length (unwrap_or (option_map (λ (b : Body). b.value) held) []) ≤ longest_of items) [
      | None ↦ λ e. omega arith
      | Some body ↦ λ e. longest_of-held key items body e
    ]) refl

-- the longest for each key is room enough
keys_room-longest : (beside each : ℕ) (keys : List (List ℕ)) (s : CacheState) → longest_of s.items + beside ≤ each
    → keys_room beside keys s ≤ length keys * each
keys_room-longest beside each [] s le = omega arith
keys_room-longest beside each (key ∷ keys) s le =
    omega (arith, le, value_at-longest key s.items, keys_room-longest beside each keys s le)

-- likewise for as many keys or more
pub keys_room-most : (beside each most : ℕ) (keys : List (List ℕ)) (s : CacheState) → longest_of s.items + beside ≤ each → length keys ≤ most
    → keys_room beside keys s ≤ each * most
keys_room-most beside each most keys s le few =
    let there : keys_room beside keys s ≤ length keys * each = keys_room-longest beside each keys s le in
    let more : length keys * each ≤ most * each = mul-le-mul_right each few in
    rw (mul_comm each most) (omega (arith, there, more))

-- words are no more than the bytes of their text and one
pub few_words : (text : List ℕ) (keys : List (List ℕ)) → words text ≡ keys → length keys ≤ length text + 1
few_words text keys are =
    let bytes : count_by (λ b. b == 32) text ≤ length text = count_by-le-length (λ b. b == 32) text in
    rw (← are) (omega (arith, length-words text, bytes))

-- likewise for the value that `mg` shows
pub get_room-longest : (key : List ℕ) (get : MetaGet) (s : CacheState) → meta_value_room (metas.Get key get) s ≤ longest_of s.items
get_room-longest key get s = elim get.show.value as (λ v. cond v (length (value_at key s.items)) 0 ≤ longest_of s.items) [
  | true ↦ value_at-longest key s.items
  | false ↦ omega arith
]

-- with more beside each key, there is more room
keys_room-wider : (beside wider : ℕ) (keys : List (List ℕ)) (s : CacheState) → beside ≤ wider → keys_room beside keys s ≤ keys_room wider keys s
keys_room-wider beside wider [] s le = omega arith
keys_room-wider beside wider (key ∷ keys) s le = omega (arith, le, keys_room-wider beside wider keys s le)

some_keys : (b c : Bool) → (b && c) ≡ true → b ≡ true
some_keys true c h = cc
some_keys false c h = absurd cc

-- the room of an answer is within the reported bound
keys_within : (keys : List (List ℕ)) (s : CacheState) → 0 < length keys → 64 + keys_room 384 keys s ≤ keys_room 1024 keys s
keys_within [] s some = absurd (omega arith)
keys_within (key ∷ keys) s some = omega (arith, keys_room-wider 384 1024 keys s (omega arith))

pub room_within : (what : Parsed) (s : CacheState) → is_well_formed what ≡ true → room_of what s ≤ taken_bound what s
room_within (Faulty fault) s good = omega arith
room_within (Whole (Get keys exptime with_cas)) s good =
    let some : nat_lt 0 (length keys) ≡ true = some_keys (nat_lt 0 (length keys)) _ (some_keys (nat_lt 0 (length keys) && _) _ good) in
    keys_within keys s (grind (arith, nat_tests, some))
room_within (Whole (Update update noreply)) s good = omega arith
room_within (Whole (Meta command form)) s good = omega arith
room_within (Whole MetaNoop) s good = omega arith
room_within (Whole Version) s good = omega arith
room_within (Whole Quit) s good = omega arith

-- the reported bound is at most sixteen times that room
keys_bound : (keys : List (List ℕ)) (s : CacheState) → keys_room 1024 keys s ≤ 16 * keys_room 384 keys s
keys_bound [] s = omega arith
keys_bound (key ∷ keys) s = omega (arith, keys_bound keys s)

pub bound_within : (what : Parsed) (s : CacheState) → taken_bound what s ≤ 16 * room_of what s
bound_within (Faulty fault) s = omega arith
bound_within (Whole (Get keys exptime with_cas)) s = omega (arith, keys_bound keys s)
bound_within (Whole (Update update noreply)) s = omega arith
bound_within (Whole (Meta command form)) s = omega arith
bound_within (Whole MetaNoop) s = omega arith
bound_within (Whole Version) s = omega arith
bound_within (Whole Quit) s = omega arith
