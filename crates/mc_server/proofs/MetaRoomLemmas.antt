-- How many bytes of a value a meta command shows.
use Rattle.std.proofs.Common.{◌≡◌, ◌||◌, ℕ, ℤ, ◌+◌, ◌^◌, ◌<◌, ◌≤◌, ◌==◌, ◌&&◌, nat_le, nat_lt, if◌then◌else◌, cond, Bool, true, false, List, [], ◌∷◌, length, Option, Some, None, Result, Ok, Err, refl, ap, arith}
use Rattle.std.proofs.lemmas.Bool.Decides.{nat_tests}
use Rattle.std.specs.Prelude.{IfSome, IfOk}
use Rattle.std.specs.Option.{option_or}
use Rattle.mc_text.specs.Numbers.{read_u64}
use Rattle.mc_item.specs.declared.bodies.Body.{Body}
use Rattle.mc_request.specs.WellFormed.{is_u64, is_i64, is_where_some, is_good_creation, is_good_counting, is_good_update, is_good_block, is_meta_key}
use Rattle.mc_request.proofs.PartLemmas.{number_good}
use Rattle.mc_request.specs.Parts.{key_in}
use Rattle.mc_request.specs.declared.faults.Fault as faults
use Rattle.mc_request.specs.declared.faults.Fault.TheVariants.{TooLarge, CasUsedUp}
use Rattle.mc_request.specs.declared.meta.Counting.{Counting}
use Rattle.mc_request.specs.declared.meta.Creation.{Creation}
use Rattle.mc_request.specs.declared.meta.Show.{Show}
use Rattle.mc_request.specs.declared.parts.Direction.{Direction}
use Rattle.mc_request.specs.declared.parts.Direction.TheVariants.{Up, Down}
use Rattle.mc_request.specs.declared.parts.StoreMode.{StoreMode}
use Rattle.mc_request.specs.declared.parts.StoreMode.TheVariants.{Set, Add, Replace, Append, Prepend}
use Rattle.mc_request.specs.declared.parts.Update.{Update}
use Rattle.mc_request.specs.declared.parts.Update.TheVariants.{Store, Touch, Delete, Count, FlushAll}
use Rattle.mc_reply.specs.declared.replies.Marks.{Marks}
use Rattle.mc_reply.specs.declared.replies.Marks.TheVariants.{Plain}
use Rattle.mc_reply.specs.declared.replies.Reply.{Reply}
use Rattle.mc_reply.specs.declared.replies.Reply.TheVariants.{Stored, NotStored, Exists, NotFound, Deleted, Touched, Flushed, Number, Miss, Hit, Meta, Fault}
use Rattle.mc_reply.specs.Seen.{value_len}
use Rattle.mc_reply.proofs.SpellingLemmas.{length-number}
use Rattle.mc_store.specs.Items.{Items, body_at}
use Rattle.mc_cache.specs.CacheState.{CacheState}
use Rattle.mc_cache.specs.Showing.{meta_reply_of, item_shown}
use Rattle.mc_cache.specs.Step.{StepResult, Content, admission, numbered, stored_by, compared, unmet, unstored, content_by, store_by, touch_step, delete_by, delete_step, counted, count_number, count_by, count_none, count_step, update_step, step_of, held_under}
use Rattle.mc_cache.specs.Settling.{settled}
use Rattle.mc_cache.proofs.StoredLemmas.{own_key}
use Rattle.mc_reply.specs.Replies.{filled}
use Rattle.mc_request.specs.declared.meta.MetaCommand.TheVariants as metas
use Rattle.mc_request.specs.declared.parts.Atom.TheVariants as atoms
use Rattle.mc_server.specs.Rooms.{update_value_room}

first : (a b : Bool) → (a && b) ≡ true → a ≡ true
first true b h = refl
first false b h = absurd cc

second : (a b : Bool) → (a && b) ≡ true → b ≡ true
second true b h = h
second false b h = absurd cc

-- a stored value of at most n bytes
abbrev AtMost : ℕ → Option Body → Type 0
AtMost n held = IfSome held (λ body. length body.value ≤ n)

-- a reply that becomes a meta reply with a value of at most n bytes, if this is stored: no reply to an update is a hit
abbrev IsShort : ℕ → Option Body → Reply (List ℕ) → Type 0
IsShort n held Stored = AtMost n held
IsShort n held (Number number) = AtMost n held
IsShort n held (Hit flags cas value) = ⊥
IsShort n held (Meta shown value) = ⊥
IsShort n held reply = Unit {0}

abbrev Short : ℕ → List ℕ → StepResult → Type 0
Short n key o = IsShort n (body_at key o.0.items) o.1

-- what is before a store, if it does
abbrev Tells : Option (Reply (List ℕ)) → Type 0
Tells answer = IfSome answer (λ reply. (n : ℕ) → (held : Option Body) → IsShort n held reply)

put_short : (n : ℕ) (key : List ℕ) (body : Body) (keeps : Bool) (rest : Items) → length body.value ≤ n → AtMost n (body_at key (cond keeps ((key, body) ∷ rest) []))
put_short n key body true rest le = rw (own_key key) le
put_short n key body false rest le = tt

stored_by-short : (n : ℕ) (s : CacheState) (key : List ℕ) (content : Content) (refused : Bool) (number : ℕ) (admitted : Result ℕ faults.Fault) → length content.value ≤ n
    → Short n key (stored_by s key content refused (Number number) admitted) × Short n key (stored_by s key content refused Stored admitted)
stored_by-short n s key content refused number (Err fault) le = (tt, tt)
stored_by-short n s key content true number (Ok cas) le = (tt, tt)
stored_by-short n s key content false number (Ok cas) le =
    let put = put_short n key (numbered content cas) _ _ le in (put, put)

compared_tells : (b : Bool) → Tells (cond b None (Some Exists))
compared_tells true = tt
compared_tells false = λ n held. tt

compared-tells : (compare : Option ℕ) (held : Option Body) → Tells (compared compare held)
compared-tells None held = tt
compared-tells (Some number) None = λ n held. tt
compared-tells (Some number) (Some body) = compared_tells (body.cas == number)

unmet-tells : (mode : StoreMode) (held : Option Body) → Tells (unmet mode held)
unmet-tells Set None = tt
unmet-tells Set (Some body) = tt
unmet-tells Add None = tt
unmet-tells Add (Some body) = λ n held. tt
unmet-tells Replace None = λ n held. tt
unmet-tells Replace (Some body) = tt
unmet-tells Append None = λ n held. tt
unmet-tells Append (Some body) = tt
unmet-tells Prepend None = λ n held. tt
unmet-tells Prepend (Some body) = tt

unstored_tells : (mode : StoreMode) (held : Option Body) (b : Bool) → Tells (option_or (cond b None (Some Exists)) (unmet mode held))
unstored_tells mode held true = unmet-tells mode held
unstored_tells mode held false = λ n held. tt

unstored-tells : (compare : Option ℕ) (mode : StoreMode) (held : Option Body) → Tells (unstored compare mode held)
unstored-tells None mode held = unmet-tells mode held
unstored-tells (Some number) mode None = λ n held. tt
unstored-tells (Some number) mode (Some body) = unstored_tells mode (Some body) (body.cas == number)

-- what is admitted has no more bytes than a value may have
admitted_by : (a b c : Bool) (number cas : ℕ) → cond (a || b) (Err TooLarge) (cond c (Err CasUsedUp) (Ok number)) ≡ Ok cas → a ≡ false
admitted_by true b c number cas is = absurd cc
admitted_by false b c number cas is = refl

admitted_small : (s : CacheState) (key : List ℕ) (bytes cas : ℕ) → admission s key bytes ≡ Ok cas → bytes ≤ 1048576
admitted_small s key bytes cas is =
    let few : nat_lt 1048576 bytes ≡ false = admitted_by (nat_lt 1048576 bytes) _ _ _ cas is in
    grind (arith, nat_tests, few)

whole-short : (s : CacheState) (key : List ℕ) (content : Content) (refused : Bool) (admitted : Result ℕ faults.Fault) → admission s key (length content.value) ≡ admitted
    → Short 1048576 key (stored_by s key content refused Stored admitted)
whole-short s key content refused (Err fault) is = tt
whole-short s key content true (Ok cas) is = tt
whole-short s key content false (Ok cas) is = put_short 1048576 key (numbered content cas) _ _ (admitted_small s key (length content.value) cas is)

store_by-short : (s : CacheState) (key : List ℕ) (answer : Option (Reply (List ℕ))) (content : Content) (refused : Bool) → Tells answer
    → Short 1048576 key (store_by s key answer content refused)
store_by-short s key None content refused tells = whole-short s key content refused (admission s key (length content.value)) refl
store_by-short s key (Some reply) content refused tells = tells 1048576 _

touch_step-short : (n : ℕ) (s : CacheState) (key : List ℕ) (held : Option Body) (exptime : ℤ) (moment : ℕ) → Short n key (touch_step s key held exptime moment)
touch_step-short n s key None exptime moment = tt
touch_step-short n s key (Some body) exptime moment = tt

invalidated-short : (n : ℕ) (key : List ℕ) (s t : CacheState) (b : Bool) → Short n key (cond b (s, Fault CasUsedUp) (t, Deleted))
invalidated-short n key s t true = tt
invalidated-short n key s t false = tt

delete_by-short : (n : ℕ) (s : CacheState) (key : List ℕ) (body : Body) (answer : Option (Reply (List ℕ))) (invalidate : Bool) → Tells answer
    → Short n key (delete_by s key body answer invalidate)
delete_by-short n s key body (Some reply) invalidate tells = tells n _
delete_by-short n s key body None false tells = tt
delete_by-short n s key body None true tells = invalidated-short n key s _ (nat_le (2 ^ 64) (s.counter + 1))

delete_step-short : (n : ℕ) (s : CacheState) (key : List ℕ) (held : Option Body) (compare : Option ℕ) (invalidate : Bool) → Short n key (delete_step s key held compare invalidate)
delete_step-short n s key None compare invalidate = tt
delete_step-short n s key (Some body) compare invalidate = delete_by-short n s key body _ invalidate (compared-tells compare (Some body))

-- a number of 64 bits stays one
counted-small : (direction : Direction) (delta number : ℕ) → number < 2 ^ 64 → counted direction delta number < 2 ^ 64
counted-small Up delta number small = omega arith
counted-small Down delta number small = omega (arith, small)

small : (n : ℕ) → is_u64 n ≡ true → n < 2 ^ 64
small n good = grind (arith, nat_tests, good)

count_number-short : (s : CacheState) (key : List ℕ) (body : Body) (counting : Counting) (moment : ℕ) (refused : Bool) (number : Option ℕ) → is_where_some is_u64 number ≡ true
    → Short 20 key (count_number s key body counting moment refused number)
count_number-short s key body counting moment refused None good = tt
count_number-short s key body counting moment refused (Some number) good =
    let after = counted counting.direction counting.delta number in
    (stored_by-short 20 s key _ refused after _ (length-number after (counted-small counting.direction counting.delta number (small number good)))).0

count_by-short : (s : CacheState) (key : List ℕ) (body : Body) (answer : Option (Reply (List ℕ))) (counting : Counting) (moment : ℕ) (refused : Bool) → Tells answer
    → Short 20 key (count_by s key body answer counting moment refused)
count_by-short s key body (Some reply) counting moment refused tells = tells 20 _
count_by-short s key body None counting moment refused tells = count_number-short s key body counting moment refused (read_u64 body.value) (number_good 20 (2 ^ 64) body.value)

count_none-short : (s : CacheState) (key : List ℕ) (create : Option Creation) (moment : ℕ) (refused : Bool) → is_where_some is_good_creation create ≡ true
    → Short 20 key (count_none s key create moment refused)
count_none-short s key None moment refused good = tt
count_none-short s key (Some creation) moment refused good =
    (stored_by-short 20 s key _ refused creation.initial _ (length-number creation.initial (small creation.initial (second (is_i64 creation.exptime) _ good)))).0

count_step-short : (s : CacheState) (key : List ℕ) (held : Option Body) (counting : Counting) (moment : ℕ) (refused : Bool) → is_where_some is_good_creation counting.create ≡ true
    → Short 20 key (count_step s key held counting moment refused)
count_step-short s key None counting moment refused good = count_none-short s key counting.create moment refused good
count_step-short s key (Some body) counting moment refused good = count_by-short s key body _ counting moment refused (compared-tells counting.compare (Some body))

-- what is made if a key is not stored
good_create : (counting : Counting) → is_good_counting counting ≡ true → is_where_some is_good_creation counting.create ≡ true
good_create counting good = second (is_u64 counting.delta && is_where_some is_u64 counting.compare) _ (first (is_u64 counting.delta && is_where_some is_u64 counting.compare && is_where_some is_good_creation counting.create) _ good)

update_step-short : (s : CacheState) (update : Update (List ℕ) (List ℕ)) (coded : Bool) (moment : ℕ) (refused : Bool) → is_good_update (is_meta_key coded) is_good_block update ≡ true
    → IsShort (update_value_room update) (held_under (key_in update) (update_step s update moment refused).0) (update_step s update moment refused).1
update_step-short s (Store mode compare key flags exptime value) coded moment refused good =
    store_by-short s key _ (content_by mode (body_at key s.items) _) refused (unstored-tells compare mode (body_at key s.items))
update_step-short s (Touch key exptime) coded moment refused good = touch_step-short 0 s key (body_at key s.items) exptime moment
update_step-short s (Delete key compare invalidate) coded moment refused good = delete_step-short 0 s key (body_at key s.items) compare invalidate
update_step-short s (Count key counting) coded moment refused good = count_step-short s key (body_at key s.items) counting moment refused (good_create counting (second (is_meta_key coded key) _ good))
update_step-short s (FlushAll delay) coded moment refused good = tt

-- a meta reply shows a value only if it is asked to
shown_fits : (n : ℕ) (show : Show) (moment : ℕ) (marks : Marks) (held : Option Body) (v : Bool) → show.value ≡ v → AtMost n held → value_len (item_shown show moment marks held) ≤ (if v then n else 0)
shown_fits n show moment marks None v is le = omega arith
shown_fits n show moment marks (Some body) true is le = rw is le
shown_fits n show moment marks (Some body) false is le = rw is (omega arith)

pub meta_reply_of_fits : (n : ℕ) (show : Show) (moment : ℕ) (marks : Marks) (held : Option Body) (reply : Reply (List ℕ)) → IsShort n held reply
    → value_len (meta_reply_of show moment marks held reply) ≤ (if show.value then n else 0)
meta_reply_of_fits n show moment marks held Stored le = shown_fits n show moment marks held show.value refl le
meta_reply_of_fits n show moment marks held (Number number) le = shown_fits n show moment marks held show.value refl le
meta_reply_of_fits n show moment marks held Deleted le = omega arith
meta_reply_of_fits n show moment marks held NotStored le = omega arith
meta_reply_of_fits n show moment marks held Exists le = omega arith
meta_reply_of_fits n show moment marks held NotFound le = omega arith
meta_reply_of_fits n show moment marks held Touched le = omega arith
meta_reply_of_fits n show moment marks held Flushed le = omega arith
meta_reply_of_fits n show moment marks held Miss le = omega arith
meta_reply_of_fits n show moment marks held (Hit flags cas value) le = absurd le
meta_reply_of_fits n show moment marks held (Meta shown value) le = absurd le
meta_reply_of_fits n show moment marks held (Fault fault) le = omega arith

-- an update shows at most what it stored
pub update_fits : {V : Type 0} (s t : CacheState) (update : Update (List ℕ) (List ℕ)) (show : Show) (coded : Bool) (moment : ℕ) (refused : Bool) (reply : Reply V) (front : List ℕ)
    → is_good_update (is_meta_key coded) is_good_block update ≡ true
    → step_of s (atoms.Meta (metas.Update update show)) moment refused ≡ (t, filled reply front)
    → value_len (filled reply front) ≤ (if show.value then update_value_room update else 0)
update_fits s t update show coded moment refused reply front good by_front =
    let at = settled s (key_in update) moment in
    let shown : (step_of s (atoms.Meta (metas.Update update show)) moment refused).1 ≡ filled reply front = ap (λ (o : StepResult). o.1) by_front in
    rw shown at (meta_reply_of_fits (update_value_room update) show moment Plain _ _ (update_step-short at update coded moment refused good))

-- what is true of a result that is no error
pub if_ok_then : {A E : Type 0} (r : Result A E) (P Q : A → Type 0) → ((a : A) → P a → Q a) → IfOk r P → IfOk r Q
if_ok_then (Ok a) P Q next h = next a h
if_ok_then (Err e) P Q next h = tt
