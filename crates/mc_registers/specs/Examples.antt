-- Small histories of one key, in short: this project's own.
use Rattle.std.specs.Prelude.{ℕ, pos, true, List, [], Some, None, codes}
use Rattle.mc_request.specs.Meanings.{plain_counting}
use Rattle.mc_request.specs.declared.parts.Atom.{Atom}
use Rattle.mc_request.specs.declared.parts.Direction.TheVariants.{Up}
use Rattle.mc_request.specs.declared.parts.StoreMode.{StoreMode}
use Rattle.mc_request.specs.declared.parts.StoreMode.TheVariants.{Set, Add}
use Rattle.mc_reply.specs.declared.replies.Marks.{Marks}
use Rattle.mc_reply.specs.declared.replies.Marks.TheVariants.{Won}
use Rattle.mc_reply.specs.declared.replies.Reply.{Reply}
use Rattle.mc_reply.specs.declared.replies.Reply.TheVariants.{Hit, Meta, Stored}
use Rattle.mc_reply.specs.Replies.{nothing_shown}
use Rattle.mc_cache_laws.specs.Examples.{get_of, get_with_number, store_of, cas_of, delete_of, incr_of, ma_of, mg_making, mg_recaching, md_of, done, marked}
use Rattle.mc_registers.specs.Registers.{Done, IsRun}

-- the key of the examples
abbrev pub the_key : List ℕ
the_key = codes "k"

-- a command that had this answer, at moment 0 and at another
abbrev pub answered : Atom (List ℕ) → Reply (List ℕ) → Done
answered atom reply = record { atom = atom; moment = 0; reply = reply }

abbrev pub answered_at : ℕ → Atom (List ℕ) → Reply (List ℕ) → Done
answered_at moment atom reply = record { atom = atom; moment = moment; reply = reply }

-- commands on the key: a storage command of an item that never dies, and the others
abbrev pub storing : StoreMode → List ℕ → Reply (List ℕ) → Done
storing mode value reply = answered (store_of mode (pos 0) the_key value) reply

abbrev pub comparing : ℕ → List ℕ → Reply (List ℕ) → Done
comparing number value reply = answered (cas_of number the_key value) reply

abbrev pub getting : Reply (List ℕ) → Done
getting reply = answered (get_of the_key) reply

abbrev pub getting_number : Reply (List ℕ) → Done
getting_number reply = answered (get_with_number the_key) reply

abbrev pub deleting : Reply (List ℕ) → Done
deleting reply = answered (delete_of the_key) reply

abbrev pub counting_up : ℕ → Reply (List ℕ) → Done
counting_up delta reply = answered (incr_of the_key delta) reply

-- `ma` that makes a counter of this number if there is none, and else counts up by 1
abbrev pub making_counter : ℕ → Done
making_counter initial =
    answered (ma_of (record (plain_counting Up 1) { create = Some (record { exptime = pos 0; initial = initial }) }) the_key (codes "")) (Meta nothing_shown None)

-- `ma` that makes such a counter, and compares a number before it counts if there is an item
abbrev pub making_counter_comparing : ℕ → Done
making_counter_comparing number =
    answered (ma_of (record (plain_counting Up 1) { compare = Some number; create = Some (record { exptime = pos 0; initial = 1 }) }) the_key (codes "")) (Meta nothing_shown None)

-- `ma` with `v` that counts up, and shows this value
abbrev pub showing_count : ℕ → List ℕ → Done
showing_count delta value = answered (ma_of (plain_counting Up delta) the_key (codes "v")) (Meta nothing_shown (Some value))

-- `ma` that at a moment makes a counter of 1 which dies 10 seconds later, or counts up by 1, and shows this value
abbrev pub limiting_at : ℕ → List ℕ → Done
limiting_at moment value =
    answered_at moment (ma_of (record (plain_counting Up 1) { create = Some (record { exptime = pos 10; initial = 1 }) }) the_key (codes "v")) (Meta nothing_shown (Some value))

-- `mg` that makes an item which never dies, if there is none; and one that asks, at a moment, to fill an item that ends within 30 seconds.
-- Each is shown these marks, and nothing else
abbrev pub making : Marks → Done
making marks = answered (mg_making the_key (pos 0) []) (Meta (marked marks) None)

abbrev pub recaching_at : ℕ → Marks → Done
recaching_at moment marks = answered_at moment (mg_recaching the_key 30 []) (Meta (marked marks) None)

-- `mg` that makes such an item, and shows its value
abbrev pub making_shown : Done
making_shown = answered (mg_making the_key (pos 0) (codes "v")) (Meta (marked Won) (Some []))

-- at a moment `mg`, or `add`, makes an item which dies 10 seconds later
abbrev pub making_at : ℕ → Done
making_at moment = answered_at moment (mg_making the_key (pos 10) []) (Meta (marked Won) None)

abbrev pub adding_at : ℕ → List ℕ → Done
adding_at moment value = answered_at moment (store_of Add (pos 10) the_key value) Stored

-- a value that dies 20 seconds later is stored at a moment; and the stored item is called stale
abbrev pub storing_at : ℕ → Done
storing_at moment = answered_at moment (store_of Set (pos 20) the_key (codes "v")) Stored

abbrev pub invalidating_at : ℕ → Done
invalidating_at moment = answered_at moment (md_of None true the_key) done

-- a hit that shows a value, and one that shows a number too
abbrev pub a_hit : List ℕ → Reply (List ℕ)
a_hit value = Hit 0 None value

abbrev pub a_numbered_hit : ℕ → List ℕ → Reply (List ℕ)
a_numbered_hit number value = Hit 0 (Some number) value

-- an empty register that has given no number may have these commands and replies; and none may, whatever it forgets and whatever numbers it
-- gives
abbrev pub IsLife : List Done → Type 0
IsLife history = IsRun 0 None history

abbrev pub IsNoLife : List Done → Type 0
IsNoLife history = IsLife history → ⊥
