-- Which commands are answered the line for want of memory.
use Rattle.std.proofs.Common.{◌≡◌, ◌∙◌, ℕ, ℤ, ◌+◌, ◌^◌, ◌==◌, ◌||◌, nat_le, Bool, true, false, if◌then◌else◌, List, [], ◌∷◌, length, map, Option, Some, None, Result, Ok, Err, refl, sym, ap, subst}
use Rattle.mc_item.specs.declared.bodies.Body.{Body}
use Rattle.mc_text.specs.Numbers.{read_u64}
use Rattle.mc_request.specs.Atoms.{gets_of, atoms_taken}
use Rattle.mc_request.specs.Faults.{fault_line}
use Rattle.mc_request.specs.declared.faults.Fault as faults
use Rattle.mc_request.specs.declared.faults.Fault.TheVariants.{TooLarge, CasUsedUp, OutOfMemory}
use Rattle.mc_request.specs.declared.parts.Atom.{Atom}
use Rattle.mc_request.specs.declared.parts.Atom.TheVariants as atoms
use Rattle.mc_request.specs.Hides.{hides_of}
use Rattle.mc_request.specs.Parts.{key_in}
use Rattle.mc_request.specs.declared.hides.Hides.{Hides}
use Rattle.mc_request.specs.declared.hides.Hides.TheVariants.{Nothing, ReplyLine, Misses, Success, SuccessAndMisses}
use Rattle.mc_request.specs.declared.meta.Counting.{Counting}
use Rattle.mc_request.specs.declared.meta.Creation.{Creation}
use Rattle.mc_request.specs.declared.meta.MetaCommand.{MetaCommand}
use Rattle.mc_request.specs.declared.meta.MetaCommand.TheVariants as metas
use Rattle.mc_request.specs.declared.meta.MetaForm.{MetaForm}
use Rattle.mc_request.specs.declared.meta.MetaGet.{MetaGet}
use Rattle.mc_request.specs.declared.meta.Show.{Show}
use Rattle.mc_request.specs.declared.parts.Request.TheVariants.{Get, Meta, MetaNoop, Version, Quit, Update as AnUpdate}
use Rattle.mc_request.specs.declared.parts.StoreMode.{StoreMode}
use Rattle.mc_request.specs.declared.parts.StoreMode.TheVariants.{Set, Add, Replace, Append, Prepend}
use Rattle.mc_request.specs.declared.parts.Parsed.{Parsed}
use Rattle.mc_request.specs.declared.parts.Parsed.TheVariants.{Whole, Faulty}
use Rattle.mc_request.specs.declared.parts.Update.{Update}
use Rattle.mc_request.specs.declared.parts.Update.TheVariants.{Store, Touch, Delete, Count, FlushAll}
use Rattle.mc_reply.specs.Spelling.{answer, is_hidden}
use Rattle.mc_reply.specs.declared.replies.Marks.{Marks}
use Rattle.mc_reply.specs.declared.replies.Marks.TheVariants.{Plain, Won}
use Rattle.mc_reply.specs.declared.replies.Reply.{Reply}
use Rattle.mc_reply.specs.declared.replies.Reply.TheVariants.{Stored, NotStored, Exists, NotFound, Deleted, Touched, Flushed, Number, Miss, Hit, Meta as ShownMeta, Fault}
use Rattle.std.specs.Option.{option_or}
use Rattle.mc_store.specs.Items.{body_at}
use Rattle.mc_cache.specs.CacheState.{CacheState}
use Rattle.mc_cache.specs.Refusals.{is_refusal}
use Rattle.mc_cache.specs.Replay.{Command, replies, AreAllowed}
use Rattle.mc_cache.specs.Settling.{settled}
use Rattle.mc_cache.specs.Showing.{item_shown, meta_reply_of}
use Rattle.mc_cache.specs.Step.{step_of, get_step, update_step, touch_step, delete_step, delete_by, count_step, count_by, count_number, count_none, meta_step, meta_get_step, meta_get_none, made_by, held_under, unmet, unstored, compared, store_by, stored, stored_by, is_too_large, Content, StepResult}
use Rattle.mc_server.specs.Served.{ServedRequest, answer_after, tells_refusal, IsLegalAt}

-- the commands of some atoms at a moment, refused memory or not
abbrev commands : ℕ → Bool → List (Atom (List ℕ)) → List Command
commands moment refused atoms = map (λ atom. record { atom = atom; moment = moment; refused = refused }) atoms

-- a retrieval is never answered the line
get_tells_none : (s : CacheState) (key : List ℕ) (held : Option Body) (exptime : Option ℤ) (with_cas : Bool) (moment : ℕ) → is_refusal (get_step s key held exptime with_cas moment).1 ≡ false
get_tells_none s key None exptime with_cas moment = refl
get_tells_none s key (Some body) exptime with_cas moment = refl

pub gets_tell_none : (s : CacheState) (exptime : Option ℤ) (with_cas : Bool) (moment : ℕ) (refused : Bool) (keys : List (List ℕ))
    → tells_refusal (replies s (commands moment refused (gets_of exptime with_cas keys))) ≡ false
gets_tell_none s exptime with_cas moment refused [] = refl
gets_tell_none s exptime with_cas moment refused (key ∷ keys) =
    let t = settled s (Some key) moment in
    let first : is_refusal (step_of s (atoms.Get key exptime with_cas) moment refused).1 ≡ false = get_tells_none t key (body_at key t.items) exptime with_cas moment in
    rw first (gets_tell_none (step_of s (atoms.Get key exptime with_cas) moment refused).0 exptime with_cas moment refused keys)

-- what is true of two is true of the one that is chosen
either : {A : Type 0} (P : A → Type 0) (test : Bool) (x y : A) → P x → P y → P (if test then x else y)
either P true x y first second = first
either P false x y first second = second

-- if memory is not refused, the reply to a store is not that line
stored_tells_none : (s : CacheState) (key : List ℕ) (content : Content) (reply : Reply (List ℕ)) → is_refusal reply ≡ false → is_refusal (stored s key content false reply).1 ≡ false
stored_tells_none s key content reply other =
    let P : Result ℕ faults.Fault → Type 0 = λ r. is_refusal (stored_by s key content false reply r).1 ≡ false in
    either P (is_too_large s.budget key (length content.value)) (Err TooLarge) (if nat_le (2 ^ 64) (s.counter + 1) then Err CasUsedUp else Ok (s.counter + 1)) refl
    (either P (nat_le (2 ^ 64) (s.counter + 1)) (Err CasUsedUp) (Ok (s.counter + 1)) refl other)

-- nor is the reply if nothing is stored
abbrev tells : Option (Reply (List ℕ)) → Bool
tells None = false
tells (Some reply) = is_refusal reply

unmet_tells_none : (mode : StoreMode) (held : Option Body) → tells (unmet mode held) ≡ false
unmet_tells_none Set held = refl
unmet_tells_none Add None = refl
unmet_tells_none Add (Some body) = refl
unmet_tells_none Replace None = refl
unmet_tells_none Replace (Some body) = refl
unmet_tells_none Append None = refl
unmet_tells_none Append (Some body) = refl
unmet_tells_none Prepend None = refl
unmet_tells_none Prepend (Some body) = refl

unstored_tells_none : (compare : Option ℕ) (mode : StoreMode) (held : Option Body) → tells (unstored compare mode held) ≡ false
unstored_tells_none None mode held = unmet_tells_none mode held
unstored_tells_none (Some number) mode None = refl
unstored_tells_none (Some number) mode (Some body) =
    let P : Option (Reply (List ℕ)) → Type 0 = λ first. tells (option_or first (unmet mode (Some body))) ≡ false in
    either P (body.cas == number) None (Some Exists) (unmet_tells_none mode (Some body)) refl

store_tells_none : (s : CacheState) (key : List ℕ) (first : Option (Reply (List ℕ))) (content : Content) → tells first ≡ false → is_refusal (store_by s key first content false).1 ≡ false
store_tells_none s key (Some reply) content other = other
store_tells_none s key None content other = stored_tells_none s key content Stored refl

compared_tells_none : (compare : Option ℕ) (body : Body) → tells (compared compare (Some body)) ≡ false
compared_tells_none None body = refl
compared_tells_none (Some number) body =
    let P : Option (Reply (List ℕ)) → Type 0 = λ first. tells first ≡ false in
    either P (body.cas == number) None (Some Exists) refl refl

-- nor is a count
number_tells_none : (s : CacheState) (key : List ℕ) (body : Body) (counting : Counting) (moment : ℕ) (number : Option ℕ) → is_refusal (count_number s key body counting moment false number).1 ≡ false
number_tells_none s key body counting moment None = refl
number_tells_none s key body counting moment (Some number) = stored_tells_none s key _ _ refl

count_tells_none : (s : CacheState) (key : List ℕ) (body : Body) (first : Option (Reply (List ℕ))) (counting : Counting) (moment : ℕ) → tells first ≡ false → is_refusal (count_by s key body first counting moment false).1 ≡ false
count_tells_none s key body (Some reply) counting moment other = other
count_tells_none s key body None counting moment other = number_tells_none s key body counting moment (read_u64 body.value)

made_tells_none : (s : CacheState) (key : List ℕ) (create : Option Creation) (moment : ℕ) → is_refusal (count_none s key create moment false).1 ≡ false
made_tells_none s key None moment = refl
made_tells_none s key (Some creation) moment = stored_tells_none s key _ _ refl

held_tells_none : (s : CacheState) (key : List ℕ) (held : Option Body) (counting : Counting) (moment : ℕ) → is_refusal (count_step s key held counting moment false).1 ≡ false
held_tells_none s key None counting moment = made_tells_none s key counting.create moment
held_tells_none s key (Some body) counting moment = count_tells_none s key body _ counting moment (compared_tells_none counting.compare body)

touch_tells_none : (s : CacheState) (key : List ℕ) (held : Option Body) (exptime : ℤ) (moment : ℕ) → is_refusal (touch_step s key held exptime moment).1 ≡ false
touch_tells_none s key None exptime moment = refl
touch_tells_none s key (Some body) exptime moment = refl

deleted_tells_none : (s : CacheState) (key : List ℕ) (body : Body) (first : Option (Reply (List ℕ))) (invalidate : Bool) → tells first ≡ false → is_refusal (delete_by s key body first invalidate).1 ≡ false
deleted_tells_none s key body (Some reply) invalidate other = other
deleted_tells_none s key body None false other = refl
deleted_tells_none s key body None true other =
    let P : StepResult → Type 0 = λ o. is_refusal o.1 ≡ false in
    either P (nat_le (2 ^ 64) (s.counter + 1)) _ _ refl refl

delete_tells_none : (s : CacheState) (key : List ℕ) (held : Option Body) (compare : Option ℕ) (invalidate : Bool) → is_refusal (delete_step s key held compare invalidate).1 ≡ false
delete_tells_none s key None compare invalidate = refl
delete_tells_none s key (Some body) compare invalidate = deleted_tells_none s key body _ invalidate (compared_tells_none compare body)

update_tells_none : (s : CacheState) (update : Update (List ℕ) (List ℕ)) (moment : ℕ) → is_refusal (update_step s update moment false).1 ≡ false
update_tells_none s (Store mode compare key flags exptime value) moment = store_tells_none s key _ _ (unstored_tells_none compare mode (body_at key s.items))
update_tells_none s (Touch key exptime) moment = touch_tells_none s key (body_at key s.items) exptime moment
update_tells_none s (Delete key compare invalidate) moment = delete_tells_none s key (body_at key s.items) compare invalidate
update_tells_none s (Count key counting) moment = held_tells_none s key (body_at key s.items) counting moment
update_tells_none s (FlushAll delay) moment = refl

-- nor is the reply to a meta command
shown_tells_none : (show : Show) (moment : ℕ) (marks : Marks) (held : Option Body) → is_refusal (item_shown show moment marks held) ≡ false
shown_tells_none show moment marks None = refl
shown_tells_none show moment marks (Some body) = refl

meta_reply_of_refuses_none : (show : Show) (moment : ℕ) (marks : Marks) (held : Option Body) (reply : Reply (List ℕ)) → is_refusal reply ≡ false → is_refusal (meta_reply_of show moment marks held reply) ≡ false
meta_reply_of_refuses_none show moment marks held Stored other = shown_tells_none show moment marks held
meta_reply_of_refuses_none show moment marks held (Number number) other = shown_tells_none show moment marks held
meta_reply_of_refuses_none show moment marks held Deleted other = refl
meta_reply_of_refuses_none show moment marks held NotStored other = refl
meta_reply_of_refuses_none show moment marks held Exists other = refl
meta_reply_of_refuses_none show moment marks held NotFound other = refl
meta_reply_of_refuses_none show moment marks held Touched other = refl
meta_reply_of_refuses_none show moment marks held Flushed other = refl
meta_reply_of_refuses_none show moment marks held Miss other = refl
meta_reply_of_refuses_none show moment marks held (Hit flags cas value) other = refl
meta_reply_of_refuses_none show moment marks held (ShownMeta shown value) other = refl
meta_reply_of_refuses_none show moment marks held (Fault fault) other = other

looked_tells_none : (s : CacheState) (key : List ℕ) (get : MetaGet) (create : Option ℤ) (moment : ℕ) → is_refusal (meta_get_none s key get create moment false).1 ≡ false
looked_tells_none s key get None moment = refl
looked_tells_none s key get (Some create) moment =
    let made = stored s key (made_by get.exptime create moment) false Stored in
    meta_reply_of_refuses_none get.show moment Won (held_under (Some key) made.0) made.1
    (stored_tells_none s key (made_by get.exptime create moment) Stored refl)

meta_get_tells_none : (s : CacheState) (key : List ℕ) (held : Option Body) (get : MetaGet) (moment : ℕ) → is_refusal (meta_get_step s key held get moment false).1 ≡ false
meta_get_tells_none s key None get moment = looked_tells_none s key get get.create moment
meta_get_tells_none s key (Some body) get moment = refl

meta_tells_none : (s : CacheState) (command : MetaCommand (List ℕ) (List ℕ)) (moment : ℕ) → is_refusal (meta_step s command moment false).1 ≡ false
meta_tells_none s (metas.Get key get) moment = meta_get_tells_none s key (body_at key s.items) get moment
meta_tells_none s (metas.Update update show) moment =
    let made = update_step s update moment false in
    meta_reply_of_refuses_none show moment Plain (held_under (key_in update) made.0) made.1 (update_tells_none s update moment)

step_tells_none : (s : CacheState) (atom : Atom (List ℕ)) (moment : ℕ) → is_refusal (step_of s atom moment false).1 ≡ false
step_tells_none s (atoms.Get key exptime with_cas) moment =
    let t = settled s (Some key) moment in get_tells_none t key (body_at key t.items) exptime with_cas moment
step_tells_none s (atoms.Update update) moment = update_tells_none _ update moment
step_tells_none s (atoms.Meta command) moment = meta_tells_none _ command moment

-- commands that were not refused memory are legal, and none is answered the line
granted_tell_none : (s : CacheState) (moment : ℕ) (atoms : List (Atom (List ℕ))) → tells_refusal (replies s (commands moment false atoms)) ≡ false
granted_tell_none s moment [] = refl
granted_tell_none s moment (atom ∷ atoms) = rw (step_tells_none s atom moment) (granted_tell_none (step_of s atom moment false).0 moment atoms)

granted_are_legal : (s : CacheState) (moment : ℕ) (atoms : List (Atom (List ℕ))) → AreAllowed s (commands moment false atoms)
granted_are_legal s moment [] = tt
granted_are_legal s moment (atom ∷ atoms) = (λ refused. absurd cc, granted_are_legal (step_of s atom moment false).0 moment atoms)

-- so an entry that was not refused memory may be anywhere
pub granted_is_legal : (s : CacheState) (e : ServedRequest) → e.refused ≡ false → IsLegalAt s e
granted_is_legal s e granted =
    let atoms = atoms_taken e.what in
    subst (λ (refused : Bool). AreAllowed s (commands e.moment refused atoms) × (refused ≡ tells_refusal (replies s (commands e.moment refused atoms)))) (sym granted)
    (granted_are_legal s e.moment atoms, sym (granted_tell_none s e.moment atoms))

-- the only reply that is the line
only_refusal : (reply : Reply (List ℕ)) → is_refusal reply ≡ true → reply ≡ Fault OutOfMemory
only_refusal Stored h = absurd cc
only_refusal NotStored h = absurd cc
only_refusal Exists h = absurd cc
only_refusal NotFound h = absurd cc
only_refusal Deleted h = absurd cc
only_refusal Touched h = absurd cc
only_refusal Flushed h = absurd cc
only_refusal (Number number) h = absurd cc
only_refusal Miss h = absurd cc
only_refusal (Hit flags cas value) h = absurd cc
only_refusal (ShownMeta shown value) h = absurd cc
only_refusal (Fault OutOfMemory) h = refl
only_refusal (Fault fault) h = absurd cc

-- an error line is shown, by `noreply` too
fault_is_shown : (update : Update (List ℕ) (List ℕ)) (noreply : Bool) (fault : faults.Fault) → answer (Whole (AnUpdate update noreply)) (Fault fault ∷ []) ≡ fault_line fault
fault_is_shown update true fault = refl
fault_is_shown update false fault = refl

abbrev error_line : faults.Fault → Reply (List ℕ)
error_line fault = Fault fault

not_hidden : (hides : Hides) (fault : faults.Fault) → is_hidden hides (error_line fault) ≡ false
not_hidden Nothing fault = refl
not_hidden ReplyLine fault = refl
not_hidden Misses fault = refl
not_hidden Success fault = refl
not_hidden SuccessAndMisses fault = refl

-- a quiet meta command shows it too
meta_fault_is_shown : (command : MetaCommand (List ℕ) (List ℕ)) (form : MetaForm (List (List ℕ))) (fault : faults.Fault) → answer (Whole (Meta command form)) (Fault fault ∷ []) ≡ fault_line fault
meta_fault_is_shown command form fault = rw (not_hidden (hides_of (Meta command form)) fault) refl

or_nothing : (test : Bool) → (test || false) ≡ test
or_nothing true = refl
or_nothing false = refl

told_by : (s : CacheState) (what : Parsed) (moment : ℕ) (refused : Bool) → IsLegalAt s (record { connection = 0; what = what; moment = moment; refused = refused }) → refused ≡ true
    → answer_after s (record { connection = 0; what = what; moment = moment; refused = refused }) ≡ fault_line OutOfMemory
told_by s (Faulty fault) moment refused legal is = let never : true ≡ false = sym is ∙ legal.1 in absurd cc
told_by s (Whole (Get keys exptime with_cas)) moment refused legal is = let never : true ≡ false = sym is ∙ legal.1 ∙ gets_tell_none s exptime with_cas moment refused keys in absurd cc
told_by s (Whole MetaNoop) moment refused legal is = let never : true ≡ false = sym is ∙ legal.1 in absurd cc
told_by s (Whole (Meta command form)) moment refused legal is =
    let reply = (step_of s (atoms.Meta command) moment refused).1 in
    let tells : is_refusal reply ≡ true = sym (or_nothing (is_refusal reply)) ∙ sym legal.1 ∙ is in
    ap (λ (r : Reply (List ℕ)). answer (Whole (Meta command form)) (r ∷ [])) (only_refusal reply tells) ∙ meta_fault_is_shown command form OutOfMemory
told_by s (Whole Version) moment refused legal is = let never : true ≡ false = sym is ∙ legal.1 in absurd cc
told_by s (Whole Quit) moment refused legal is = let never : true ≡ false = sym is ∙ legal.1 in absurd cc
told_by s (Whole (AnUpdate update noreply)) moment refused legal is =
    let reply = (step_of s (atoms.Update update) moment refused).1 in
    let tells : is_refusal reply ≡ true = sym (or_nothing (is_refusal reply)) ∙ sym legal.1 ∙ is in
    ap (λ (r : Reply (List ℕ)). answer (Whole (AnUpdate update noreply)) (r ∷ [])) (only_refusal reply tells) ∙ fault_is_shown update noreply OutOfMemory

-- an entry that was refused memory is answered the line, and nothing else
pub refusal_is_told : (s : CacheState) (e : ServedRequest) → IsLegalAt s e → e.refused ≡ true → answer_after s e ≡ fault_line OutOfMemory
refusal_is_told s e legal is = told_by s e.what e.moment e.refused legal is
