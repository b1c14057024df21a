-- One key as a register that may forget: its item, or none. A command does and answers what protocol.txt says of that one item. Before it
-- the item may be forgotten, by an eviction or a flush, and a dead one is. There is no budget here, no order of use, no other key and no
-- flush. A server that restarts begins a life: nothing is stored, and its numbers begin anew. This project's own.
use Rattle.std.specs.Prelude.{◌≡◌, ℕ, ◌||◌, nat_lt, ℤ, Bool, true, false, List, [], ◌∷◌, Option, Some, None, Result, Ok, Err, if◌then◌else◌}
use Rattle.std.specs.Fmt.{decimal}
use Rattle.std.specs.Option.{option_map_or}
use Rattle.mc_text.specs.Numbers.{read_u64}
use Rattle.mc_item.specs.declared.bodies.Body.{Body}
use Rattle.mc_item.specs.declared.deadlines.Deadline.{Deadline}
use Rattle.mc_item.specs.Deadlines.{deadline_of}
use Rattle.mc_request.specs.declared.faults.Fault as faults
use Rattle.mc_request.specs.declared.faults.Fault.TheVariants.{NonNumeric}
use Rattle.mc_request.specs.declared.meta.Counting.{Counting}
use Rattle.mc_request.specs.declared.meta.MetaCommand.TheVariants as metas
use Rattle.mc_request.specs.declared.meta.MetaGet.{MetaGet}
use Rattle.mc_request.specs.declared.parts.Atom.{Atom}
use Rattle.mc_request.specs.declared.parts.Atom.TheVariants as atoms
use Rattle.mc_request.specs.declared.parts.StoreMode.{StoreMode}
use Rattle.mc_request.specs.declared.parts.Update.{Update}
use Rattle.mc_request.specs.declared.parts.Update.TheVariants.{Store, Touch, Delete, Count, FlushAll}
use Rattle.mc_reply.specs.CanHave.{is_store_fault}
use Rattle.mc_reply.specs.declared.replies.Marks.TheVariants.{Plain, Won}
use Rattle.mc_reply.specs.declared.replies.Reply.{Reply}
use Rattle.mc_reply.specs.declared.replies.Reply.TheVariants.{Stored, NotFound, Deleted, Flushed, Number, Miss, Hit, Fault}
use Rattle.mc_cache.specs.Settling.{is_dead_at}
use Rattle.mc_cache.specs.Showing.{item_shown, marks_of}
use Rattle.mc_cache.specs.Step.{Content, numbered, compared, unstored, content_by, touched, expiry_by, counted, made_by, looked_at}
use Rattle.mc_cache_laws.specs.OneMap.{KeyOutcome, touch_key, as_meta}

-- the outcome of a store: the number that its item gets, or why it is refused
abbrev pub Given : Type 0
Given = Result ℕ faults.Fault

-- a body is stored from here on, under the number that is given; if that is refused, the item before stays
abbrev pub put_as : Given → Option Body → Body → Reply (List ℕ) → KeyOutcome
put_as (Ok number) held body reply = (Some (record body { cas = number }), reply)
put_as (Err fault) held body reply = (held, Fault fault)

-- a command that its conditions answer changes nothing; any other does this
abbrev pub unless : Option Body → Option (Reply (List ℕ)) → KeyOutcome → KeyOutcome
unless held (Some reply) outcome = (held, reply)
unless held None outcome = outcome

-- a storage command: source protocol.txt, "Storage commands"
abbrev pub store_as : Given → Option Body → Option ℕ → StoreMode → Content → KeyOutcome
store_as given held compare mode new = unless held (unstored compare mode held) (put_as given held (numbered (content_by mode held new) 0) Stored)

-- a key of a retrieval command: source protocol.txt, "Retrieval command", "Get And Touch"
abbrev pub get_as : Option Body → Option ℤ → Bool → ℕ → KeyOutcome
get_as None exptime with_cas moment = (None, Miss)
get_as (Some body) exptime with_cas moment = (Some (touched exptime moment body), Hit body.flags (if with_cas then Some body.cas else None) body.value)

-- `delete` and `md`: the item is removed, or stays, stale, under a new number: source protocol.txt, "Deletion", "Meta Delete"
abbrev pub delete_as : Given → Option Body → Option ℕ → Bool → KeyOutcome
delete_as given None compare invalidate = (None, NotFound)
delete_as given (Some body) compare invalidate =
    unless (Some body) (compared compare (Some body)) (if invalidate then put_as given (Some body) (record body { stale = true; won = false }) Deleted else (None, Deleted))

-- a number is stored as text
abbrev pub number_as : Given → Option Body → ℕ → Deadline → ℕ → KeyOutcome
number_as given held flags expiry number =
    put_as given held (numbered (record { flags = flags; expiry = expiry; won = false; value = decimal number }) 0) (Number number)

-- `incr`, `decr` and `ma`: source protocol.txt, "Increment/Decrement", "Meta Arithmetic"
abbrev pub count_as : Given → Option Body → Counting → ℕ → KeyOutcome
count_as given None counting moment =
    option_map_or (λ creation. number_as given None 0 (deadline_of creation.exptime moment) creation.initial) counting.create (None, NotFound)
count_as given (Some body) counting moment = unless (Some body) (compared counting.compare (Some body)) (option_map_or
    (λ number. number_as given (Some body) body.flags (expiry_by counting.exptime moment body.expiry) (counted counting.direction counting.delta number))
    (read_u64 body.value) (Some body, Fault NonNumeric))

-- `mg`: source protocol.txt, "Meta Get"
abbrev pub meta_get_as : Given → Option Body → MetaGet → ℕ → KeyOutcome
meta_get_as given None get moment =
    option_map_or (λ create. as_meta get.show moment Won (put_as given None (numbered (made_by get.exptime create moment) 0) Stored)) get.create (None, Miss)
meta_get_as given (Some body) get moment = (Some (looked_at get moment body), item_shown get.show moment (marks_of get.recache moment body) (Some (looked_at get moment body)))

-- a command on the key, by the stored item: the item after it, and the reply. A flush has no key
abbrev pub update_as : Given → Option Body → Update (List ℕ) (List ℕ) → ℕ → KeyOutcome
update_as given held (Store mode compare key flags exptime value) moment =
    store_as given held compare mode (record { flags = flags; expiry = deadline_of exptime moment; won = false; value = value })
update_as given held (Touch key exptime) moment = touch_key held exptime moment
update_as given held (Delete key compare invalidate) moment = delete_as given held compare invalidate
update_as given held (Count key counting) moment = count_as given held counting moment
update_as given held (FlushAll delay) moment = (held, Flushed)

abbrev pub register_step : Given → Option Body → Atom (List ℕ) → ℕ → KeyOutcome
register_step given held (atoms.Get key exptime with_cas) moment = get_as held exptime with_cas moment
register_step given held (atoms.Update update) moment = update_as given held update moment
register_step given held (atoms.Meta (metas.Get key get)) moment = meta_get_as given held get moment
register_step given held (atoms.Meta (metas.Update update show)) moment = as_meta show moment Plain (update_as given held update moment)

-- a command on the key that was executed: which, when, and what it was answered
pub record Done : Type 0 where
  pub atom : Atom (List ℕ)
  pub moment : ℕ
  pub reply : Reply (List ℕ)

-- what it left: it found no item if that was forgotten before it, or was dead
abbrev pub turn : Bool → Given → Option Body → Done → KeyOutcome
turn forgotten given held e = register_step given (if forgotten || is_dead_at held e.moment then None else held) e.atom e.moment

-- a number is above the last that was given; a store is refused as too large, since no number is left, or since memory is missing
abbrev pub may_give : ℕ → Given → Bool
may_give last (Ok number) = nat_lt last number
may_give last (Err fault) = is_store_fault fault

-- the last number that was given: a stored item has it
abbrev pub last_by : ℕ → Option Body → ℕ
last_by last None = last
last_by last (Some body) = body.cas

-- Commands on the key, in the order in which its server executed them, are a run of the register. Each was answered what the register
-- answers, whether or not it had forgotten its item, and whatever numbers it gave.
abbrev pub IsRun : ℕ → Option Body → List Done → Type 0
IsRun last held [] = Unit {0}
IsRun last held (e ∷ es) =
    (forgotten : Bool) × (given : Given) × (may_give last given ≡ true) × (e.reply ≡ (turn forgotten given held e).1)
    × IsRun (last_by last (turn forgotten given held e).0) (turn forgotten given held e).0 es
