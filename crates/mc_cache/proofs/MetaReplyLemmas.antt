-- The meta reply to an update: the item that it shows is first.
use Rattle.std.proofs.Common.{◌≡◌, ℕ, ℤ, ◌+◌, ◌^◌, ◌∙◌, nat_le, ◌==◌, Bool, true, false, cond, List, [], ◌∷◌, length, Option, Some, None, Result, Ok, Err, refl, sym, ap, subst}
use Rattle.std.specs.Prelude.{IfSome, unwrap_or}
use Rattle.std.specs.Option.{option_map, option_or}
use Rattle.mc_text.specs.Numbers.{read_u64}
use Rattle.mc_item.specs.declared.bodies.Body.{Body}
use Rattle.mc_request.specs.Parts.{key_in}
use Rattle.mc_request.specs.declared.faults.Fault as faults
use Rattle.mc_request.specs.declared.faults.Fault.TheVariants.{CasUsedUp}
use Rattle.mc_request.specs.declared.meta.Counting.{Counting}
use Rattle.mc_request.specs.declared.meta.Creation.{Creation}
use Rattle.mc_request.specs.declared.meta.Show.{Show}
use Rattle.mc_request.specs.declared.parts.StoreMode.{StoreMode}
use Rattle.mc_request.specs.declared.parts.StoreMode.TheVariants.{Set, Add, Replace, Append, Prepend}
use Rattle.mc_request.specs.declared.parts.Update.{Update}
use Rattle.mc_request.specs.declared.parts.Update.TheVariants.{Store, Touch, Delete, Count, FlushAll}
use Rattle.mc_reply.specs.Replies.{filled}
use Rattle.mc_reply.specs.declared.replies.Marks.TheVariants.{Plain}
use Rattle.mc_reply.specs.declared.replies.Reply.{Reply}
use Rattle.mc_reply.specs.declared.replies.Reply.TheVariants.{Stored, NotStored, Exists, NotFound, Deleted, Touched, Flushed, Number, Miss, Hit, Meta, Fault}
use Rattle.mc_store.specs.Items.{Items, body_at, front_body}
use Rattle.mc_cache.specs.CacheState.{CacheState, value_at, front_value}
use Rattle.mc_cache.specs.Showing.{meta_reply_of, item_shown}
use Rattle.mc_cache.specs.Step.{StepResult, Content, admission, numbered, with_item, stored_by, stored, compared, unmet, unstored, content_by, store_by, touch_step, delete_by, delete_step, count_number, count_by, count_none, count_step, update_step, held_under, meta_result}
use Rattle.mc_cache.specs.Refusals.{value_under}
use Rattle.mc_cache.specs.Admissions.{IsMetaReply}
use Rattle.mc_cache.proofs.StoredLemmas.{own_key}

-- whether a reply says that an item was stored
abbrev stores : {V : Type 0} → Reply V → Bool
stores Stored = true
stores (Number number) = true
stores other = false

-- if an outcome says so, the key's item is first
abbrev IsFirst : List ℕ → StepResult → Type 0
IsFirst key outcome = stores outcome.1 ≡ true → body_at key outcome.0.items ≡ front_body outcome.0.items

-- what is put in front is first, if it is kept
kept-front : (key : List ℕ) (body : Body) (keeps : Bool) (rest : Items)
    → body_at key (cond keeps ((key, body) ∷ rest) []) ≡ front_body (cond keeps ((key, body) ∷ rest) [])
kept-front key body true rest = ap (λ own. cond own (Some body) (body_at key rest)) (own_key key)
kept-front key body false rest = refl

pub with_item-front : (s : CacheState) (key : List ℕ) (body : Body) → body_at key (with_item s key body).items ≡ front_body (with_item s key body).items
with_item-front s key body = kept-front key body _ _

stored_by-first : (s : CacheState) (key : List ℕ) (content : Content) (refused : Bool) (reply : Reply (List ℕ)) (admitted : Result ℕ faults.Fault)
    → IsFirst key (stored_by s key content refused reply admitted)
stored_by-first s key content refused reply (Err fault) = λ is. absurd cc
stored_by-first s key content true reply (Ok number) = λ is. absurd cc
stored_by-first s key content false reply (Ok number) = λ is. with_item-front s key (numbered content number)

-- if nothing is stored, no reply says so
abbrev StoresNone : Option (Reply (List ℕ)) → Type 0
StoresNone answer = IfSome answer (λ reply. stores reply ≡ false)

compared_by : (b : Bool) → StoresNone (cond b None (Some Exists))
compared_by true = tt
compared_by false = refl

compared-none : (compare : Option ℕ) (held : Option Body) → StoresNone (compared compare held)
compared-none None held = tt
compared-none (Some number) None = refl
compared-none (Some number) (Some body) = compared_by (body.cas == number)

unmet-none : (mode : StoreMode) (held : Option Body) → StoresNone (unmet mode held)
unmet-none Set None = tt
unmet-none Set (Some body) = tt
unmet-none Add None = tt
unmet-none Add (Some body) = refl
unmet-none Replace None = refl
unmet-none Replace (Some body) = tt
unmet-none Append None = refl
unmet-none Append (Some body) = tt
unmet-none Prepend None = refl
unmet-none Prepend (Some body) = tt

unstored_by : (mode : StoreMode) (held : Option Body) (b : Bool) → StoresNone (option_or (cond b None (Some Exists)) (unmet mode held))
unstored_by mode held true = unmet-none mode held
unstored_by mode held false = refl

unstored-none : (compare : Option ℕ) (mode : StoreMode) (held : Option Body) → StoresNone (unstored compare mode held)
unstored-none None mode held = unmet-none mode held
unstored-none (Some number) mode None = refl
unstored-none (Some number) mode (Some body) = unstored_by mode (Some body) (body.cas == number)

store_by-first : (s : CacheState) (key : List ℕ) (answer : Option (Reply (List ℕ))) (content : Content) (refused : Bool) → StoresNone answer
    → IsFirst key (store_by s key answer content refused)
store_by-first s key None content refused none = stored_by-first s key content refused Stored (admission s key (length content.value))
store_by-first s key (Some reply) content refused none = λ is. absurd cc

touch_step-first : (s : CacheState) (key : List ℕ) (held : Option Body) (exptime : ℤ) (moment : ℕ) → IsFirst key (touch_step s key held exptime moment)
touch_step-first s key None exptime moment = λ is. absurd cc
touch_step-first s key (Some body) exptime moment = λ is. absurd cc

invalidated-first : (key : List ℕ) (s t : CacheState) (b : Bool) → IsFirst key (cond b (s, Fault CasUsedUp) (t, Deleted))
invalidated-first key s t true = λ is. absurd cc
invalidated-first key s t false = λ is. absurd cc

delete_by-first : (s : CacheState) (key : List ℕ) (body : Body) (answer : Option (Reply (List ℕ))) (invalidate : Bool) → StoresNone answer
    → IsFirst key (delete_by s key body answer invalidate)
delete_by-first s key body (Some reply) invalidate none = λ is. absurd cc
delete_by-first s key body None false none = λ is. absurd cc
delete_by-first s key body None true none = invalidated-first key s _ (nat_le (2 ^ 64) (s.counter + 1))

delete_step-first : (s : CacheState) (key : List ℕ) (held : Option Body) (compare : Option ℕ) (invalidate : Bool) → IsFirst key (delete_step s key held compare invalidate)
delete_step-first s key None compare invalidate = λ is. absurd cc
delete_step-first s key (Some body) compare invalidate =
    delete_by-first s key body (compared compare (Some body)) invalidate (compared-none compare (Some body))

count_number-first : (s : CacheState) (key : List ℕ) (body : Body) (counting : Counting) (moment : ℕ) (refused : Bool) (number : Option ℕ)
    → IsFirst key (count_number s key body counting moment refused number)
count_number-first s key body counting moment refused None = λ is. absurd cc
count_number-first s key body counting moment refused (Some number) = stored_by-first s key _ refused _ _

count_by-first : (s : CacheState) (key : List ℕ) (body : Body) (answer : Option (Reply (List ℕ))) (counting : Counting) (moment : ℕ) (refused : Bool) → StoresNone answer
    → IsFirst key (count_by s key body answer counting moment refused)
count_by-first s key body (Some reply) counting moment refused none = λ is. absurd cc
count_by-first s key body None counting moment refused none = count_number-first s key body counting moment refused (read_u64 body.value)

count_none-first : (s : CacheState) (key : List ℕ) (create : Option Creation) (moment : ℕ) (refused : Bool) → IsFirst key (count_none s key create moment refused)
count_none-first s key None moment refused = λ is. absurd cc
count_none-first s key (Some creation) moment refused = stored_by-first s key _ refused _ _

count_step-first : (s : CacheState) (key : List ℕ) (held : Option Body) (counting : Counting) (moment : ℕ) (refused : Bool) → IsFirst key (count_step s key held counting moment refused)
count_step-first s key None counting moment refused = count_none-first s key counting.create moment refused
count_step-first s key (Some body) counting moment refused =
    count_by-first s key body (compared counting.compare (Some body)) counting moment refused (compared-none counting.compare (Some body))

-- the item that an update stores is first
update_step-first : (s : CacheState) (update : Update (List ℕ) (List ℕ)) (moment : ℕ) (refused : Bool) → stores (update_step s update moment refused).1 ≡ true
    → held_under (key_in update) (update_step s update moment refused).0 ≡ front_body (update_step s update moment refused).0.items
update_step-first s (Store mode compare key flags exptime value) moment refused =
    store_by-first s key (unstored compare mode (body_at key s.items)) (content_by mode (body_at key s.items) _) refused (unstored-none compare mode (body_at key s.items))
update_step-first s (Touch key exptime) moment refused = touch_step-first s key (body_at key s.items) exptime moment
update_step-first s (Delete key compare invalidate) moment refused = delete_step-first s key (body_at key s.items) compare invalidate
update_step-first s (Count key counting) moment refused = count_step-first s key (body_at key s.items) counting moment refused
update_step-first s (FlushAll delay) moment refused = λ is. absurd cc

-- likewise of an outcome that is known
first_of : (s : CacheState) (update : Update (List ℕ) (List ℕ)) (moment : ℕ) (refused : Bool) (after : CacheState) (reply : Reply (List ℕ))
    → update_step s update moment refused ≡ (after, reply) → stores reply ≡ true → held_under (key_in update) after ≡ front_body after.items
first_of s update moment refused after reply is says =
    subst (λ (o : StepResult). stores o.1 ≡ true → held_under (key_in update) o.0 ≡ front_body o.0.items) is (update_step-first s update moment refused) says

-- the value under a key is that of its item
value_of_held : (key : Option (List ℕ)) (s : CacheState) → held_under key s ≡ front_body s.items → value_under key s ≡ front_value s.items
value_of_held (Some key) s is = ap (λ (held : Option Body). unwrap_or (option_map (λ (b : Body). b.value) held) []) is
value_of_held None s is = ap (λ (held : Option Body). unwrap_or (option_map (λ (b : Body). b.value) held) []) is

-- the meta reply by an outcome that is known
told_is : (key : Option (List ℕ)) (show : Show) (moment : ℕ) (o : StepResult) (after : CacheState) (reply answer : Reply (List ℕ)) → o ≡ (after, reply)
    → meta_reply_of show moment Plain (held_under key after) reply ≡ answer → meta_result show moment Plain key o ≡ (after, answer)
told_is key show moment o after reply answer is says = ap (meta_result show moment Plain key) is ∙ ap (λ (r : Reply (List ℕ)). (after, r)) says

-- an update whose reply becomes a meta reply: the outcome of the meta command, and that either value
-- fills its reply
pub told_outcome : (s : CacheState) (update : Update (List ℕ) (List ℕ)) (moment : ℕ) (refused : Bool) (after : CacheState) (show : Show) (reply result : Reply (Unit {0}))
    → ((value : List ℕ) → update_step s update moment refused ≡ (after, filled reply value)) → IsMetaReply show moment after reply result
    → meta_result show moment Plain (key_in update) (update_step s update moment refused) ≡ (after, filled result (front_value after.items))
told_outcome s update moment refused after show Stored result is says =
    let first : held_under (key_in update) after ≡ front_body after.items = first_of s update moment refused after Stored (is []) refl in
    told_is (key_in update) show moment _ after Stored _ (is []) (ap (item_shown show moment Plain) first ∙ sym says)
told_outcome s update moment refused after show (Number number) result is says =
    let first : held_under (key_in update) after ≡ front_body after.items = first_of s update moment refused after (Number number) (is []) refl in
    told_is (key_in update) show moment _ after (Number number) _ (is []) (ap (item_shown show moment Plain) first ∙ sym says)
told_outcome s update moment refused after show Deleted result is says = rw says (told_is (key_in update) show moment _ after Deleted _ (is []) refl)
told_outcome s update moment refused after show NotStored result is says = rw says (told_is (key_in update) show moment _ after _ _ (is (front_value after.items)) refl)
told_outcome s update moment refused after show Exists result is says = rw says (told_is (key_in update) show moment _ after _ _ (is (front_value after.items)) refl)
told_outcome s update moment refused after show NotFound result is says = rw says (told_is (key_in update) show moment _ after _ _ (is (front_value after.items)) refl)
told_outcome s update moment refused after show Touched result is says = rw says (told_is (key_in update) show moment _ after _ _ (is (front_value after.items)) refl)
told_outcome s update moment refused after show Flushed result is says = rw says (told_is (key_in update) show moment _ after _ _ (is (front_value after.items)) refl)
told_outcome s update moment refused after show Miss result is says = rw says (told_is (key_in update) show moment _ after _ _ (is (front_value after.items)) refl)
told_outcome s update moment refused after show (Hit flags cas value) result is says = rw says (told_is (key_in update) show moment _ after _ _ (is (front_value after.items)) refl)
told_outcome s update moment refused after show (Meta shown None) result is says = rw says (told_is (key_in update) show moment _ after _ _ (is (front_value after.items)) refl)
told_outcome s update moment refused after show (Meta shown (Some value)) result is says = rw says (told_is (key_in update) show moment _ after _ _ (is (front_value after.items)) refl)
told_outcome s update moment refused after show (Fault fault) result is says = rw says (told_is (key_in update) show moment _ after _ _ (is (front_value after.items)) refl)

-- either value fills a reply that shows none
same_by : (o : StepResult) (after : CacheState) (reply : Reply (Unit {0})) → ((value : List ℕ) → o ≡ (after, filled reply value)) → (a b : List ℕ) → filled reply a ≡ filled reply b
same_by o after reply is a b = ap (λ (p : StepResult). p.1) (sym (is a) ∙ is b)

-- the value under the key fills the meta reply as that of the first item does
pub told_same : (s : CacheState) (update : Update (List ℕ) (List ℕ)) (moment : ℕ) (refused : Bool) (after : CacheState) (show : Show) (reply result : Reply (Unit {0}))
    → ((value : List ℕ) → update_step s update moment refused ≡ (after, filled reply value)) → IsMetaReply show moment after reply result
    → filled result (front_value after.items) ≡ filled result (value_under (key_in update) after)
told_same s update moment refused after show Stored result is says =
    ap (filled result) (sym (value_of_held (key_in update) after (first_of s update moment refused after Stored (is []) refl)))
told_same s update moment refused after show (Number number) result is says =
    ap (filled result) (sym (value_of_held (key_in update) after (first_of s update moment refused after (Number number) (is []) refl)))
told_same s update moment refused after show Deleted result is says = rw says refl
told_same s update moment refused after show NotStored result is says = rw says refl
told_same s update moment refused after show Exists result is says = rw says refl
told_same s update moment refused after show NotFound result is says = rw says refl
told_same s update moment refused after show Touched result is says = rw says refl
told_same s update moment refused after show Flushed result is says = rw says refl
told_same s update moment refused after show Miss result is says = rw says refl
told_same s update moment refused after show (Hit flags cas value) result is says = rw says (same_by _ after (Hit flags cas value) is _ _)
told_same s update moment refused after show (Meta shown value) result is says = rw says (same_by _ after (Meta shown value) is _ _)
told_same s update moment refused after show (Fault fault) result is says = rw says refl

-- both, in one
pub told_under : (s : CacheState) (update : Update (List ℕ) (List ℕ)) (moment : ℕ) (refused : Bool) (after : CacheState) (show : Show) (reply result : Reply (Unit {0}))
    → ((value : List ℕ) → update_step s update moment refused ≡ (after, filled reply value)) → IsMetaReply show moment after reply result
    → meta_result show moment Plain (key_in update) (update_step s update moment refused) ≡ (after, filled result (value_under (key_in update) after))
told_under s update moment refused after show reply result is says =
    told_outcome s update moment refused after show reply result is says
    ∙ ap (λ (r : Reply (List ℕ)). (after, r)) (told_same s update moment refused after show reply result is says)

-- what is made is first
pub made_value : (s after : CacheState) (key : List ℕ) (content : Content) (refused : Bool) → stored s key content refused Stored ≡ (after, Stored)
    → value_at key after.items ≡ front_value after.items
made_value s after key content refused is =
    let first : IsFirst key (after, Stored) =
    subst (λ (o : StepResult). IsFirst key o) is (stored_by-first s key content refused Stored (admission s key (length content.value))) in
    ap (λ (held : Option Body). unwrap_or (option_map (λ (b : Body). b.value) held) []) (first refl)
