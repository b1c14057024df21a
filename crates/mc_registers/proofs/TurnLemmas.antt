-- What a command on a key does to a cache, it does to the register.
use Rattle.std.proofs.Common.{◌≡◌, ◌∙◌, ℕ, ◌+◌, ◌^◌, ◌≤◌, nat_lt, nat_le, ℤ, Bool, true, false, List, ◌∷◌, length, Option, Some, None, Ok, Err, refl, sym, ap, arith, subst}
use Rattle.std.specs.Prelude.{if◌then◌else◌}
use Rattle.std.proofs.lemmas.Bool.{cond_both}
use Rattle.std.specs.Option.{option_map_or}
use Rattle.std.proofs.lemmas.Bool.Decides.{nat_tests}
use Rattle.mc_text.specs.Numbers.{read_u64}
use Rattle.mc_item.specs.declared.bodies.Body.{Body}
use Rattle.mc_item.specs.declared.deadlines.Deadline.{Deadline}
use Rattle.mc_item.specs.Deadlines.{deadline_of}
use Rattle.mc_request.specs.Parts.{key_in}
use Rattle.mc_request.specs.declared.faults.Fault.TheVariants.{TooLarge, CasUsedUp, OutOfMemory, NonNumeric}
use Rattle.mc_request.specs.declared.meta.Counting.{Counting}
use Rattle.mc_request.specs.declared.meta.Creation.{Creation}
use Rattle.mc_request.specs.declared.meta.MetaCommand.TheVariants as metas
use Rattle.mc_request.specs.declared.meta.MetaGet.{MetaGet}
use Rattle.mc_request.specs.declared.meta.Show.{Show}
use Rattle.mc_request.specs.declared.parts.Atom.{Atom}
use Rattle.mc_request.specs.declared.parts.Atom.TheVariants as atoms
use Rattle.mc_request.specs.declared.parts.StoreMode.{StoreMode}
use Rattle.mc_request.specs.declared.parts.Update.{Update}
use Rattle.mc_request.specs.declared.parts.Update.TheVariants.{Store, Touch, Delete, Count, FlushAll}
use Rattle.mc_reply.specs.declared.replies.Marks.{Marks}
use Rattle.mc_reply.specs.declared.replies.Marks.TheVariants.{Plain, Won}
use Rattle.mc_reply.specs.declared.replies.Reply.{Reply}
use Rattle.mc_reply.specs.declared.replies.Reply.TheVariants.{Stored, NotFound, Deleted, Touched, Number, Miss, Fault}
use Rattle.mc_store.specs.Items.{Items, body_at, without, brought}
use Rattle.mc_store.proofs.ItemLemmas.{body_at-brought}
use Rattle.mc_cache.specs.CacheState.{CacheState, IsHeldWithin}
use Rattle.mc_cache.specs.Showing.{meta_reply_of}
use Rattle.mc_cache.specs.Step.{StepResult, Content, numbered, unstored, content_by, compared, fronted, store_step, touched, expiry_by, get_step, touch_step, delete_by, delete_step, counted, number_stored, count_number, count_by, count_none, count_step, update_step, made_by, looked_at, meta_get_none, meta_get_step, held_under, settled_step, stored, atom_key}
use Rattle.mc_cache.proofs.HeldLemmas.{body_at-own, held-without, held-changed, held-brought, held-put}
use Rattle.mc_cache.proofs.StoredLemmas.{own_key}
use Rattle.mc_cache_laws.specs.OneMap.{KeyOutcome, touch_key, as_meta}
use Rattle.mc_cache_laws.proofs.OutcomeLemmas.{EndsStored, IsAdmitted, with_content, number_content, stored-ends, store-ends}
use Rattle.mc_cache_laws.proofs.ShownLemmas.{first_item}
use Rattle.mc_registers.specs.Registers.{Given, put_as, unless, store_as, get_as, delete_as, number_as, count_as, meta_get_as, update_as, register_step, may_give, last_by}

-- an outcome is that of a register that is given a number, or a refusal, which a cache may give
pub record Turns (s : CacheState) (key : List ℕ) (expected : Given → KeyOutcome) (o : StepResult) : Type 0 where
  pub given : Given
  pub may : may_give s.counter given ≡ true
  pub reply : o.1 ≡ (expected given).1
  pub own : body_at key o.0.items ≡ (expected given).0
  pub counter : s.counter ≤ o.0.counter
  pub next : o.0.counter ≤ s.counter + 1
  pub last : last_by s.counter (body_at key s.items) ≤ s.counter → last_by o.0.counter (expected given).0 ≤ o.0.counter
  pub within : IsHeldWithin o.0.budget o.0.limit o.0.items

abbrev pub IsGood : CacheState → Type 0
IsGood s = IsHeldWithin s.budget s.limit s.items

-- the next number may be given
next_may : (n : ℕ) → nat_lt n (n + 1) ≡ true
next_may n = grind (arith, nat_tests)

-- nothing changes
same-turns : (s : CacheState) (key : List ℕ) (expected : Given → KeyOutcome) (given : Given) (reply : Reply (List ℕ)) → IsGood s → may_give s.counter given ≡ true
    → expected given ≡ (body_at key s.items, reply) → Turns s key expected (s, reply)
same-turns s key expected given reply good may is = record {
  given = given;
  may = may;
  reply = sym (ap (λ (o : KeyOutcome). o.1) is);
  own = sym (ap (λ (o : KeyOutcome). o.0) is);
  counter = omega arith;
  next = omega arith;
  last = λ before. subst (λ (o : KeyOutcome). last_by s.counter o.0 ≤ s.counter) (sym is) before;
  within = good;
}

fronted-turns : (s : CacheState) (key : List ℕ) (expected : Given → KeyOutcome) (reply : Reply (List ℕ)) → IsGood s
    → expected (Ok (s.counter + 1)) ≡ (body_at key s.items, reply) → Turns s key expected (fronted s key, reply)
fronted-turns s key expected reply good is = record {
  given = Ok (s.counter + 1);
  may = next_may s.counter;
  reply = sym (ap (λ (o : KeyOutcome). o.1) is);
  own = body_at-brought key key s.items ∙ sym (ap (λ (o : KeyOutcome). o.0) is);
  counter = omega arith;
  next = omega arith;
  last = λ before. subst (λ (o : KeyOutcome). last_by s.counter o.0 ≤ s.counter) (sym is) before;
  within = held-brought s.budget s.limit s.items (brought key (body_at key s.items) s.items) key refl good;
}

-- a stored body is changed, and its value is no longer
put-turns : (s : CacheState) (key : List ℕ) (expected : Given → KeyOutcome) (old new : Body) (counter : ℕ) (reply : Reply (List ℕ)) → IsGood s → body_at key s.items ≡ Some old
    → length new.value ≤ length old.value → s.counter ≤ counter → counter ≤ s.counter + 1 → (old.cas ≤ s.counter → new.cas ≤ counter)
    → expected (Ok (s.counter + 1)) ≡ (Some new, reply) → Turns s key expected (record s { items = brought key (Some new) s.items; counter = counter }, reply)
put-turns s key expected old new counter reply good held shorter more next number is = record {
  given = Ok (s.counter + 1);
  may = next_may s.counter;
  reply = sym (ap (λ (o : KeyOutcome). o.1) is);
  own = body_at-own key (key, new) (without key s.items) (own_key key) ∙ sym (ap (λ (o : KeyOutcome). o.0) is);
  counter = more;
  next = next;
  last = λ before. subst (λ (o : KeyOutcome). last_by counter o.0 ≤ counter) (sym is)
      (number (subst (λ (h : Option Body). last_by s.counter h ≤ s.counter) held before));
  within = held-changed s.budget s.limit s.items key old new held shorter good;
}

taken-turns : (s : CacheState) (key : List ℕ) (expected : Given → KeyOutcome) (reply : Reply (List ℕ)) → IsGood s
    → expected (Ok (s.counter + 1)) ≡ (None, reply) → Turns s key expected (record s { items = without key s.items }, reply)
taken-turns s key expected reply good is = record {
  given = Ok (s.counter + 1);
  may = next_may s.counter;
  reply = sym (ap (λ (o : KeyOutcome). o.1) is);
  own = good.distinct key ∙ sym (ap (λ (o : KeyOutcome). o.0) is);
  counter = omega arith;
  next = omega arith;
  last = λ before. subst (λ (o : KeyOutcome). last_by s.counter o.0 ≤ s.counter) (sym is) (omega arith);
  within = held-without s.budget s.limit s.items (without key s.items) key refl good;
}

-- a content is stored
content-turns : (s : CacheState) (key : List ℕ) (content : Content) (reply : Reply (List ℕ)) → IsGood s → IsAdmitted s key content
    → Turns s key (λ given. put_as given (body_at key s.items) (numbered content 0) reply) (with_content s key content, reply)
content-turns s key content reply good admitted =
    let body : Body = numbered content (s.counter + 1) in
    let all : Items = (key, body) ∷ without key s.items in
    record {
      given = Ok (s.counter + 1);
      may = next_may s.counter;
      reply = refl;
      own = first_item s key body good.bounds.some_items admitted.small;
      counter = omega arith;
      next = omega arith;
      last = λ before. omega arith;
      within = held-put s.budget s.limit s.items all (with_content s key content).items key body refl refl good;
    }

content-ends : (s : CacheState) (key : List ℕ) (content : Content) (reply : Reply (List ℕ)) → IsGood s
    → EndsStored (Turns s key (λ given. put_as given (body_at key s.items) (numbered content 0) reply)) s key content reply
content-ends s key content reply good =
    let expected : Given → KeyOutcome = λ given. put_as given (body_at key s.items) (numbered content 0) reply in
    record {
      too_large = same-turns s key expected (Err TooLarge) (Fault TooLarge) good refl refl;
      used_up = same-turns s key expected (Err CasUsedUp) (Fault CasUsedUp) good refl refl;
      out_of_memory = same-turns s key expected (Err OutOfMemory) (Fault OutOfMemory) good refl refl;
      done = content-turns s key content reply good;
    }

-- a storage command
store-turns : (s : CacheState) (compare : Option ℕ) (mode : StoreMode) (key : List ℕ) (new : Content) (refused : Bool) → IsGood s
    → Turns s key (λ given. store_as given (body_at key s.items) compare mode new) (store_step s compare mode key (body_at key s.items) new refused)
store-turns s compare mode key new refused good =
    let held : Option Body = body_at key s.items in
    let content : Content = content_by mode held new in
    let by : Option (Reply (List ℕ)) → Given → KeyOutcome = λ answer given. unless held answer (put_as given held (numbered content 0) Stored) in
    store-ends (Turns s key (by (unstored compare mode held))) s compare mode key held new refused
    (λ reply is. subst (λ a. Turns s key (by a) (fronted s key, reply)) (sym is) (fronted-turns s key (by (Some reply)) reply good refl))
    (λ is. subst (λ a. EndsStored (Turns s key (by a)) s key content Stored) (sym is) (content-ends s key content Stored good))

-- the other commands, by the stored item
get-turns : (s : CacheState) (key : List ℕ) (held : Option Body) (exptime : Option ℤ) (with_cas : Bool) (moment : ℕ) → body_at key s.items ≡ held → IsGood s
    → Turns s key (λ given. get_as held exptime with_cas moment) (get_step s key held exptime with_cas moment)
get-turns s key None exptime with_cas moment is good =
    same-turns s key (λ given. (None, Miss)) (Ok (s.counter + 1)) Miss good (next_may s.counter) (ap (λ (h : Option Body). (h, Miss)) (sym is))
get-turns s key (Some body) exptime with_cas moment is good =
    put-turns s key (λ given. get_as (Some body) exptime with_cas moment) body (touched exptime moment body) s.counter _ good is (omega arith) (omega arith) (omega arith) (λ before. before) refl

touch-turns : (s : CacheState) (key : List ℕ) (held : Option Body) (exptime : ℤ) (moment : ℕ) → body_at key s.items ≡ held → IsGood s
    → Turns s key (λ given. touch_key held exptime moment) (touch_step s key held exptime moment)
touch-turns s key None exptime moment is good =
    same-turns s key (λ given. (None, NotFound)) (Ok (s.counter + 1)) NotFound good (next_may s.counter) (ap (λ (h : Option Body). (h, NotFound)) (sym is))
touch-turns s key (Some body) exptime moment is good =
    put-turns s key (λ given. touch_key (Some body) exptime moment) body (touched (Some exptime) moment body) s.counter Touched good is (omega arith) (omega arith) (omega arith) (λ before. before) refl

delete_by-turns : (s : CacheState) (key : List ℕ) (body : Body) (answer : Option (Reply (List ℕ))) (invalidate : Bool) → body_at key s.items ≡ Some body → IsGood s
    → Turns s key (λ given. unless (Some body) answer (if invalidate then put_as given (Some body) (record body { stale = true; won = false }) Deleted else (None, Deleted)))
    (delete_by s key body answer invalidate)
delete_by-turns s key body (Some reply) invalidate is good = fronted-turns s key (λ given. (Some body, reply)) reply good (ap (λ (h : Option Body). (h, reply)) (sym is))
delete_by-turns s key body None false is good = taken-turns s key (λ given. (None, Deleted)) Deleted good refl
delete_by-turns s key body None true is good =
    let expected : Given → KeyOutcome = λ given. put_as given (Some body) (record body { stale = true; won = false }) Deleted in
    let stale : Body = record body { stale = true; won = false; cas = s.counter + 1 } in
    cond_both (nat_le (2 ^ 64) (s.counter + 1)) (s, Fault CasUsedUp) (record s { items = brought key (Some stale) s.items; counter = s.counter + 1 }, Deleted) (Turns s key expected)
    (λ used. same-turns s key expected (Err CasUsedUp) (Fault CasUsedUp) good refl (ap (λ (h : Option Body). (h, Fault CasUsedUp)) (sym is)))
    (λ fresh. put-turns s key expected body stale (s.counter + 1) Deleted good is (omega arith) (omega arith) (omega arith) (λ before. omega arith) refl)

delete-turns : (s : CacheState) (key : List ℕ) (held : Option Body) (compare : Option ℕ) (invalidate : Bool) → body_at key s.items ≡ held → IsGood s
    → Turns s key (λ given. delete_as given held compare invalidate) (delete_step s key held compare invalidate)
delete-turns s key None compare invalidate is good =
    same-turns s key (λ given. (None, NotFound)) (Ok (s.counter + 1)) NotFound good (next_may s.counter) (ap (λ (h : Option Body). (h, NotFound)) (sym is))
delete-turns s key (Some body) compare invalidate is good = delete_by-turns s key body (compared compare (Some body)) invalidate is good

-- a number is stored
number-turns : (s : CacheState) (key : List ℕ) (held : Option Body) (flags : ℕ) (expiry : Deadline) (number : ℕ) (refused : Bool) → body_at key s.items ≡ held → IsGood s
    → Turns s key (λ given. number_as given held flags expiry number) (number_stored s key flags expiry number refused)
number-turns s key held flags expiry number refused is good =
    let content : Content = number_content flags expiry number in
    let expected : Option Body → Given → KeyOutcome = λ h given. put_as given h (numbered content 0) (Number number) in
    stored-ends (Turns s key (expected held)) s key content refused (Number number)
    (subst (λ (h : Option Body). EndsStored (Turns s key (expected h)) s key content (Number number)) is (content-ends s key content (Number number) good))

count_number-turns : (s : CacheState) (key : List ℕ) (body : Body) (counting : Counting) (moment : ℕ) (refused : Bool) (read : Option ℕ) → body_at key s.items ≡ Some body → IsGood s
    → Turns s key (λ given. option_map_or
    (λ number. number_as given (Some body) body.flags (expiry_by counting.exptime moment body.expiry) (counted counting.direction counting.delta number)) read (Some body, Fault NonNumeric))
    (count_number s key body counting moment refused read)
count_number-turns s key body counting moment refused None is good =
    same-turns s key (λ given. (Some body, Fault NonNumeric)) (Ok (s.counter + 1)) (Fault NonNumeric) good (next_may s.counter) (ap (λ (h : Option Body). (h, Fault NonNumeric)) (sym is))
count_number-turns s key body counting moment refused (Some number) is good =
    number-turns s key (Some body) body.flags (expiry_by counting.exptime moment body.expiry) (counted counting.direction counting.delta number) refused is good

count_by-turns : (s : CacheState) (key : List ℕ) (body : Body) (answer : Option (Reply (List ℕ))) (counting : Counting) (moment : ℕ) (refused : Bool) → body_at key s.items ≡ Some body → IsGood s
    → Turns s key (λ given. unless (Some body) answer (option_map_or
    (λ number. number_as given (Some body) body.flags (expiry_by counting.exptime moment body.expiry) (counted counting.direction counting.delta number))
    (read_u64 body.value) (Some body, Fault NonNumeric)))
    (count_by s key body answer counting moment refused)
count_by-turns s key body (Some reply) counting moment refused is good = fronted-turns s key (λ given. (Some body, reply)) reply good (ap (λ (h : Option Body). (h, reply)) (sym is))
count_by-turns s key body None counting moment refused is good = count_number-turns s key body counting moment refused (read_u64 body.value) is good

count_none-turns : (s : CacheState) (key : List ℕ) (create : Option Creation) (moment : ℕ) (refused : Bool) → body_at key s.items ≡ None → IsGood s
    → Turns s key (λ given. option_map_or (λ creation. number_as given None 0 (deadline_of creation.exptime moment) creation.initial) create (None, NotFound))
    (count_none s key create moment refused)
count_none-turns s key None moment refused is good =
    same-turns s key (λ given. (None, NotFound)) (Ok (s.counter + 1)) NotFound good (next_may s.counter) (ap (λ (h : Option Body). (h, NotFound)) (sym is))
count_none-turns s key (Some creation) moment refused is good = number-turns s key None 0 (deadline_of creation.exptime moment) creation.initial refused is good

count-turns : (s : CacheState) (key : List ℕ) (held : Option Body) (counting : Counting) (moment : ℕ) (refused : Bool) → body_at key s.items ≡ held → IsGood s
    → Turns s key (λ given. count_as given held counting moment) (count_step s key held counting moment refused)
count-turns s key None counting moment refused is good = count_none-turns s key counting.create moment refused is good
count-turns s key (Some body) counting moment refused is good = count_by-turns s key body (compared counting.compare (Some body)) counting moment refused is good

-- an update, of its own key
update-turns : (s : CacheState) (update : Update (List ℕ) (List ℕ)) (moment : ℕ) (refused : Bool) (key : List ℕ) → key_in update ≡ Some key → IsGood s
    → Turns s key (λ given. update_as given (body_at key s.items) update moment) (update_step s update moment refused)
update-turns s (Store mode compare at flags exptime value) moment refused key is good =
    let its : at ≡ key = cc in
    subst (λ (k : List ℕ). Turns s k (λ given. update_as given (body_at k s.items) (Store mode compare at flags exptime value) moment) (update_step s (Store mode compare at flags exptime value) moment refused)) its
    (store-turns s compare mode at (record { flags = flags; expiry = deadline_of exptime moment; won = false; value = value }) refused good)
update-turns s (Touch at exptime) moment refused key is good =
    let its : at ≡ key = cc in
    subst (λ (k : List ℕ). Turns s k (λ given. touch_key (body_at k s.items) exptime moment) (touch_step s at (body_at at s.items) exptime moment)) its
    (touch-turns s at (body_at at s.items) exptime moment refl good)
update-turns s (Delete at compare invalidate) moment refused key is good =
    let its : at ≡ key = cc in
    subst (λ (k : List ℕ). Turns s k (λ given. delete_as given (body_at k s.items) compare invalidate) (delete_step s at (body_at at s.items) compare invalidate)) its
    (delete-turns s at (body_at at s.items) compare invalidate refl good)
update-turns s (Count at counting) moment refused key is good =
    let its : at ≡ key = cc in
    subst (λ (k : List ℕ). Turns s k (λ given. count_as given (body_at k s.items) counting moment) (count_step s at (body_at at s.items) counting moment refused)) its
    (count-turns s at (body_at at s.items) counting moment refused refl good)
update-turns s (FlushAll delay) moment refused key is good = absurd cc

-- a reply as a meta command shows it
meta_reply_of-turns : (s : CacheState) (key : List ℕ) (show : Show) (moment : ℕ) (marks : Marks) (expected : Given → KeyOutcome) (o : StepResult)
    → Turns s key expected o
    → Turns s key (λ given. as_meta show moment marks (expected given)) (o.0, meta_reply_of show moment marks (body_at key o.0.items) o.1)
meta_reply_of-turns s key show moment marks expected o turns = record {
  given = turns.given;
  may = turns.may;
  reply = ap (λ (h : Option Body). meta_reply_of show moment marks h o.1) turns.own ∙ ap (λ (r : Reply (List ℕ)). meta_reply_of show moment marks (expected turns.given).0 r) turns.reply;
  own = turns.own;
  counter = turns.counter;
  next = turns.next;
  last = turns.last;
  within = turns.within;
}

-- `mg`
meta_get_none-turns : (s : CacheState) (key : List ℕ) (get : MetaGet) (create : Option ℤ) (moment : ℕ) (refused : Bool) → body_at key s.items ≡ None → IsGood s
    → Turns s key (λ given. option_map_or (λ create. as_meta get.show moment Won (put_as given None (numbered (made_by get.exptime create moment) 0) Stored)) create (None, Miss))
    (meta_get_none s key get create moment refused)
meta_get_none-turns s key get None moment refused is good =
    same-turns s key (λ given. (None, Miss)) (Ok (s.counter + 1)) Miss good (next_may s.counter) (ap (λ (h : Option Body). (h, Miss)) (sym is))
meta_get_none-turns s key get (Some create) moment refused is good =
    let content : Content = made_by get.exptime create moment in
    let expected : Option Body → Given → KeyOutcome = λ h given. put_as given h (numbered content 0) Stored in
    meta_reply_of-turns s key get.show moment Won (expected None) (stored s key content refused Stored)
    (stored-ends (Turns s key (expected None)) s key content refused Stored
    (subst (λ (h : Option Body). EndsStored (Turns s key (expected h)) s key content Stored) is (content-ends s key content Stored good)))

meta_get-turns : (s : CacheState) (key : List ℕ) (held : Option Body) (get : MetaGet) (moment : ℕ) (refused : Bool) → body_at key s.items ≡ held → IsGood s
    → Turns s key (λ given. meta_get_as given held get moment) (meta_get_step s key held get moment refused)
meta_get-turns s key None get moment refused is good = meta_get_none-turns s key get get.create moment refused is good
meta_get-turns s key (Some body) get moment refused is good =
    put-turns s key (λ given. meta_get_as given (Some body) get moment) body (looked_at get moment body) s.counter _ good is (omega arith) (omega arith) (omega arith) (λ before. before) refl

-- a command on a settled cache
pub settled_step-turns : (s : CacheState) (atom : Atom (List ℕ)) (moment : ℕ) (refused : Bool) (key : List ℕ) → atom_key atom ≡ Some key → IsGood s
    → Turns s key (λ given. register_step given (body_at key s.items) atom moment) (settled_step s atom moment refused)
settled_step-turns s (atoms.Get at exptime with_cas) moment refused key is good =
    let its : at ≡ key = cc in
    subst (λ (k : List ℕ). Turns s k (λ given. get_as (body_at k s.items) exptime with_cas moment) (get_step s at (body_at at s.items) exptime with_cas moment)) its
    (get-turns s at (body_at at s.items) exptime with_cas moment refl good)
settled_step-turns s (atoms.Update update) moment refused key is good = update-turns s update moment refused key is good
settled_step-turns s (atoms.Meta (metas.Get at get)) moment refused key is good =
    let its : at ≡ key = cc in
    subst (λ (k : List ℕ). Turns s k (λ given. meta_get_as given (body_at k s.items) get moment) (meta_get_step s at (body_at at s.items) get moment refused)) its
    (meta_get-turns s at (body_at at s.items) get moment refused refl good)
settled_step-turns s (atoms.Meta (metas.Update update show)) moment refused key is good =
    let o : StepResult = update_step s update moment refused in
    let expected : Given → KeyOutcome = λ given. update_as given (body_at key s.items) update moment in
    subst (λ (k : Option (List ℕ)). Turns s key (λ given. as_meta show moment Plain (expected given)) (o.0, meta_reply_of show moment Plain (held_under k o.0) o.1)) (sym is)
    (meta_reply_of-turns s key show moment Plain expected o (update-turns s update moment refused key is good))
