-- What a command on the key leaves of the stored item: the same item, none, or one under the number that it was
-- given.
use Rattle.std.proofs.Common.{◌≡◌, ◌∙◌, ℕ, ◌&&◌, ◌||◌, ◌==◌, ℤ, inl, inr, ◌⊎◌, Bool, true, false, cond, List, Option, Some, None, Ok, Err, refl, sym, ap, subst}
use Rattle.std.specs.Fmt.{decimal}
use Rattle.std.specs.Option.{option_map_or, option_or, is_some}
use Rattle.mc_text.specs.Numbers.{read_u64}
use Rattle.mc_item.specs.declared.bodies.Body.{Body}
use Rattle.mc_item.specs.declared.deadlines.Deadline.{Deadline}
use Rattle.mc_item.specs.Deadlines.{deadline_of}
use Rattle.mc_request.specs.declared.faults.Fault.TheVariants.{NonNumeric}
use Rattle.mc_request.specs.declared.meta.Counting.{Counting}
use Rattle.mc_request.specs.declared.meta.Creation.{Creation}
use Rattle.mc_request.specs.declared.meta.MetaCommand.TheVariants as metas
use Rattle.mc_request.specs.declared.meta.MetaGet.{MetaGet}
use Rattle.mc_request.specs.declared.meta.Show.{Show}
use Rattle.mc_request.specs.declared.parts.Atom.{Atom}
use Rattle.mc_request.specs.declared.parts.Atom.TheVariants as atoms
use Rattle.mc_request.specs.declared.parts.StoreMode.{StoreMode}
use Rattle.mc_request.specs.declared.parts.StoreMode.TheVariants.{Set, Add, Replace, Append, Prepend}
use Rattle.mc_request.specs.declared.parts.Update.{Update}
use Rattle.mc_request.specs.declared.parts.Update.TheVariants.{Store, Touch, Delete, Count, FlushAll}
use Rattle.mc_reply.specs.declared.replies.Marks.{Marks}
use Rattle.mc_reply.specs.declared.replies.Marks.TheVariants.{Plain, Won}
use Rattle.mc_reply.specs.declared.replies.Reply.{Reply}
use Rattle.mc_reply.specs.declared.replies.Reply.TheVariants.{Stored, NotStored, Exists, NotFound, Deleted, Touched, Flushed, Number, Miss, Hit, Meta, Fault}
use Rattle.mc_cache.specs.Showing.{meta_reply_of, needs_filling}
use Rattle.mc_cache.specs.Step.{Content, numbered, compared, unmet, unstored, content_by, expiry_by, counted, made_by, looked_at}
use Rattle.mc_cache_laws.specs.OneMap.{KeyOutcome, touch_key, as_meta}
use Rattle.mc_registers.specs.Registers.{Given, put_as, unless, delete_as, number_as, count_as, update_as, register_step}
use Rattle.mc_registers.specs.Guarantees.{is_done, has_written, may_have_written}

-- the item is as it was, except its expiry; and a client may have been asked to fill it
pub record IsSame (before after : Body) : Type 0 where
  pub flags : after.flags ≡ before.flags
  pub cas : after.cas ≡ before.cas
  pub value : after.value ≡ before.value
  pub won : before.won ≡ true → after.won ≡ true

abbrev pub IsKept : Option Body → Option Body → Type 0
IsKept None None = Unit {0}
IsKept None (Some after) = ⊥
IsKept (Some before) None = ⊥
IsKept (Some before) (Some after) = IsSame before after

kept-same : (held : Option Body) → IsKept held held
kept-same None = tt
kept-same (Some body) = record { flags = refl; cas = refl; value = refl; won = λ won. won }

-- the item is as it was, or is gone
abbrev pub IsLeft : Option Body → Option Body → Type 0
IsLeft before None = Unit {0}
IsLeft None (Some after) = ⊥
IsLeft (Some before) (Some after) = IsSame before after

pub left-same : (held : Option Body) → IsLeft held held
left-same None = tt
left-same (Some body) = record { flags = refl; cas = refl; value = refl; won = λ won. won }

pub kept-left : (before after : Option Body) → IsKept before after → IsLeft before after
kept-left None None kept = tt
kept-left None (Some after) kept = kept
kept-left (Some before) None kept = tt
kept-left (Some before) (Some after) kept = kept

pub left-both : (before between after : Option Body) → IsLeft before between → IsLeft between after → IsLeft before after
left-both before between None first second = tt
left-both before None (Some after) first second = absurd second
left-both None (Some between) (Some after) first second = absurd first
left-both (Some before) (Some between) (Some after) first second = record {
  flags = second.flags ∙ first.flags;
  cas = second.cas ∙ first.cas;
  value = second.value ∙ first.value;
  won = λ won. second.won (first.won won);
}

pub left-found : (gone : Bool) (held : Option Body) → IsLeft held (cond gone None held)
left-found true held = tt
left-found false held = left-same held

-- the stored item has the number that was given
abbrev pub IsFresh : Given → Option Body → Type 0
IsFresh given None = Unit {0}
IsFresh given (Some body) = given ≡ Ok body.cas

-- an update that was not done leaves the stored item; one that was done leaves none, or a fresh one
abbrev pub Leaves : Given → Option Body → KeyOutcome → Type 0
Leaves given held o = (IsKept held o.0 × (is_done o.1 ≡ false)) ⊎ (IsFresh given o.0 × (is_done o.1 ≡ true))

stays : (given : Given) (held : Option Body) (reply : Reply (List ℕ)) → is_done reply ≡ false → Leaves given held (held, reply)
stays given held reply undone = inl (kept-same held, undone)

put-leaves : (given : Given) (held : Option Body) (body : Body) (reply : Reply (List ℕ)) → is_done reply ≡ true → Leaves given held (put_as given held body reply)
put-leaves (Ok number) held body reply done = inr (refl, done)
put-leaves (Err fault) held body reply done = stays (Err fault) held (Fault fault) refl

-- an update that its conditions answer was not done
abbrev pub IsUndone : Option (Reply (List ℕ)) → Type 0
IsUndone None = Unit {0}
IsUndone (Some reply) = is_done reply ≡ false

pub compared-undone : (compare : Option ℕ) (held : Option Body) → IsUndone (compared compare held)
compared-undone None held = tt
compared-undone (Some number) None = refl
compared-undone (Some number) (Some body) =
    elim (body.cas == number) as (λ v. IsUndone (cond v None (Some Exists))) [ true ↦ tt | false ↦ refl ]

unmet-undone : (mode : StoreMode) (held : Option Body) → IsUndone (unmet mode held)
unmet-undone Set None = tt
unmet-undone Set (Some body) = tt
unmet-undone Add None = tt
unmet-undone Add (Some body) = refl
unmet-undone Replace None = refl
unmet-undone Replace (Some body) = tt
unmet-undone Append None = refl
unmet-undone Append (Some body) = tt
unmet-undone Prepend None = refl
unmet-undone Prepend (Some body) = tt

or-undone : (first second : Option (Reply (List ℕ))) → IsUndone first → IsUndone second → IsUndone (option_or first second)
or-undone None second a b = b
or-undone (Some reply) second a b = a

pub unstored-undone : (compare : Option ℕ) (mode : StoreMode) (held : Option Body) → IsUndone (unstored compare mode held)
unstored-undone compare mode held = or-undone (compared compare held) (unmet mode held) (compared-undone compare held) (unmet-undone mode held)

unless-leaves : (given : Given) (held : Option Body) (answer : Option (Reply (List ℕ))) (o : KeyOutcome) → IsUndone answer → Leaves given held o → Leaves given held (unless held answer o)
unless-leaves given held None o undone leaves = leaves
unless-leaves given held (Some reply) o undone leaves = stays given held reply undone

-- what each command leaves
delete-leaves : (given : Given) (held : Option Body) (compare : Option ℕ) (invalidate : Bool) → Leaves given held (delete_as given held compare invalidate)
delete-leaves given None compare invalidate = stays given None NotFound refl
delete-leaves given (Some body) compare true =
    unless-leaves given (Some body) (compared compare (Some body)) (put_as given (Some body) (record body { stale = true; won = false }) Deleted) (compared-undone compare (Some body))
    (put-leaves given (Some body) (record body { stale = true; won = false }) Deleted refl)
delete-leaves given (Some body) compare false =
    unless-leaves given (Some body) (compared compare (Some body)) (None, Deleted) (compared-undone compare (Some body)) (inr (tt, refl))

touch-leaves : (given : Given) (held : Option Body) (exptime : ℤ) (moment : ℕ) → Leaves given held (touch_key held exptime moment)
touch-leaves given None exptime moment = stays given None NotFound refl
touch-leaves given (Some body) exptime moment = inl (record { flags = refl; cas = refl; value = refl; won = λ won. won }, refl)

abbrev pub number_body : ℕ → Deadline → ℕ → Body
number_body flags expiry number = numbered (record { flags = flags; expiry = expiry; won = false; value = decimal number }) 0

count_none-leaves : (given : Given) (create : Option Creation) (moment : ℕ)
    → Leaves given None (option_map_or (λ creation. number_as given None 0 (deadline_of creation.exptime moment) creation.initial) create (None, NotFound))
count_none-leaves given None moment = stays given None NotFound refl
count_none-leaves given (Some creation) moment =
    put-leaves given None (number_body 0 (deadline_of creation.exptime moment) creation.initial) (Number creation.initial) refl

count_held-leaves : (given : Given) (body : Body) (counting : Counting) (moment : ℕ) (read : Option ℕ)
    → Leaves given (Some body) (option_map_or
    (λ number. number_as given (Some body) body.flags (expiry_by counting.exptime moment body.expiry) (counted counting.direction counting.delta number)) read (Some body, Fault NonNumeric))
count_held-leaves given body counting moment None = stays given (Some body) (Fault NonNumeric) refl
count_held-leaves given body counting moment (Some number) =
    let next : ℕ = counted counting.direction counting.delta number in
    put-leaves given (Some body) (number_body body.flags (expiry_by counting.exptime moment body.expiry) next) (Number next) refl

count-leaves : (given : Given) (held : Option Body) (counting : Counting) (moment : ℕ) → Leaves given held (count_as given held counting moment)
count-leaves given None counting moment = count_none-leaves given counting.create moment
count-leaves given (Some body) counting moment =
    unless-leaves given (Some body) (compared counting.compare (Some body)) (option_map_or
    (λ number. number_as given (Some body) body.flags (expiry_by counting.exptime moment body.expiry) (counted counting.direction counting.delta number))
    (read_u64 body.value) (Some body, Fault NonNumeric)) (compared-undone counting.compare (Some body)) (count_held-leaves given body counting moment (read_u64 body.value))

pub update-leaves : (given : Given) (held : Option Body) (update : Update (List ℕ) (List ℕ)) (moment : ℕ) → Leaves given held (update_as given held update moment)
update-leaves given held (Store mode compare key flags exptime value) moment =
    let new : Content = record { flags = flags; expiry = deadline_of exptime moment; won = false; value = value } in
    let body : Body = numbered (content_by mode held new) 0 in
    unless-leaves given held (unstored compare mode held) (put_as given held body Stored) (unstored-undone compare mode held) (put-leaves given held body Stored refl)
update-leaves given held (Touch key exptime) moment = touch-leaves given held exptime moment
update-leaves given held (Delete key compare invalidate) moment = delete-leaves given held compare invalidate
update-leaves given held (Count key counting) moment = count-leaves given held counting moment
update-leaves given held (FlushAll delay) moment = stays given held Flushed refl

-- the reply to a meta command says that it was done if its update was
pub meta_reply_of-done : (show : Show) (moment : ℕ) (marks : Marks) (held : Option Body) (reply : Reply (List ℕ)) → is_done (meta_reply_of show moment marks held reply) ≡ is_done reply
meta_reply_of-done show moment marks None Stored = refl
meta_reply_of-done show moment marks (Some body) Stored = refl
meta_reply_of-done show moment marks None (Number number) = refl
meta_reply_of-done show moment marks (Some body) (Number number) = refl
meta_reply_of-done show moment marks held Deleted = refl
meta_reply_of-done show moment marks held NotStored = refl
meta_reply_of-done show moment marks held Exists = refl
meta_reply_of-done show moment marks held NotFound = refl
meta_reply_of-done show moment marks held Touched = refl
meta_reply_of-done show moment marks held Flushed = refl
meta_reply_of-done show moment marks held Miss = refl
meta_reply_of-done show moment marks held (Hit flags cas value) = refl
meta_reply_of-done show moment marks held (Meta shown value) = refl
meta_reply_of-done show moment marks held (Fault fault) = refl

-- what each command leaves, as its client knows
abbrev pub LeavesBy : Given → Option Body → Atom (List ℕ) → KeyOutcome → Type 0
LeavesBy given held atom o = (IsKept held o.0 × (has_written atom o.1 ≡ false)) ⊎ (IsFresh given o.0 × (may_have_written atom o.1 ≡ true))

make-leaves : (given : Given) (key : List ℕ) (get : MetaGet) (create : Option ℤ) (moment : ℕ) → get.create ≡ create
    → LeavesBy given None (atoms.Meta (metas.Get key get))
    (option_map_or (λ create. as_meta get.show moment Won (put_as given None (numbered (made_by get.exptime create moment) 0) Stored)) create (None, Miss))
make-leaves given key get None moment is = inl (tt, refl)
make-leaves (Err fault) key get (Some create) moment is = inl (tt, refl)
make-leaves (Ok number) key get (Some create) moment is = inr (refl, ap (λ (c : Option ℤ). is_some c && true) is)

-- `mg` finds an item
pub looked-same : (get : MetaGet) (moment : ℕ) (body : Body) → IsSame body (looked_at get moment body)
looked-same get moment body = record {
  flags = refl;
  cas = refl;
  value = refl;
  won = λ won. ap (λ v. v || needs_filling get.recache moment body) won;
}

pub step-leaves : (given : Given) (held : Option Body) (atom : Atom (List ℕ)) (moment : ℕ) → LeavesBy given held atom (register_step given held atom moment)
step-leaves given None (atoms.Get key exptime with_cas) moment = inl (tt, refl)
step-leaves given (Some body) (atoms.Get key exptime with_cas) moment = inl (record { flags = refl; cas = refl; value = refl; won = λ won. won }, refl)
step-leaves given held (atoms.Update update) moment = update-leaves given held update moment
step-leaves given None (atoms.Meta (metas.Get key get)) moment = make-leaves given key get get.create moment refl
step-leaves given (Some body) (atoms.Meta (metas.Get key get)) moment = inl (looked-same get moment body, refl)
step-leaves given held (atoms.Meta (metas.Update update show)) moment =
    let o : KeyOutcome = update_as given held update moment in
    subst (λ v. (IsKept held o.0 × (v ≡ false)) ⊎ (IsFresh given o.0 × (v ≡ true))) (sym (meta_reply_of-done show moment Plain o.0 o.1)) (update-leaves given held update moment)
