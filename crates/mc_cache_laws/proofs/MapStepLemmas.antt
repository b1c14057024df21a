-- A step is one of the map.
use Rattle.std.proofs.Common.{◌≡◌, ◌∙◌, ℕ, ◌+◌, ◌-◌, ◌≤◌, nat_lt, ℤ, not, Bool, true, false, List, [], ◌∷◌, ◌++◌, length, append-nil, length-append, Option, Some, None, refl, sym, ap, arith, subst}
use Rattle.std.specs.Option.{is_none, option_map}
use Rattle.std.specs.Str.{bytes_eq}
use Rattle.std.proofs.lemmas.Bool.{and_parts, or_parts, ltb-false, not-true}
use Rattle.mc_text.specs.Numbers.{read_u64}
use Rattle.mc_text.specs.declared.blocks.TheConstants.{VALUE_LIMIT}
use Rattle.mc_item.specs.declared.bodies.Body.{Body}
use Rattle.mc_item.specs.Costs.{cost_at}
use Rattle.mc_item.specs.Deadlines.{deadline_of}
use Rattle.mc_request.specs.Parts.{key_in}
use Rattle.mc_request.specs.declared.faults.Fault.TheVariants.{NonNumeric}
use Rattle.mc_request.specs.declared.meta.Counting.{Counting}
use Rattle.mc_request.specs.declared.meta.Creation.{Creation}
use Rattle.mc_request.specs.declared.meta.MetaCommand.TheVariants as metas
use Rattle.mc_request.specs.declared.meta.MetaGet.{MetaGet}
use Rattle.mc_request.specs.declared.meta.Show.{Show}
use Rattle.mc_request.specs.declared.parts.Atom.{Atom}
use Rattle.mc_request.specs.declared.parts.Atom.TheVariants as atoms
use Rattle.mc_request.specs.declared.parts.StoreMode.{StoreMode}
use Rattle.mc_request.specs.declared.parts.StoreMode.TheVariants.{Set, Add, Replace, Append, Prepend}
use Rattle.mc_request.specs.declared.parts.Update.{Update}
use Rattle.mc_request.specs.declared.parts.Update.TheVariants.{Store, Touch, Delete, Count, FlushAll}
use Rattle.mc_reply.specs.declared.replies.Marks.{Marks}
use Rattle.mc_reply.specs.declared.replies.Marks.TheVariants.{Plain, Won}
use Rattle.mc_reply.specs.declared.replies.Reply.{Reply}
use Rattle.mc_reply.specs.declared.replies.Reply.TheVariants.{Stored, NotFound, Deleted, Touched, Number, Miss, Hit, Meta, Fault}
use Rattle.mc_store.specs.Items.{Items, body_at, without, brought, kept, item_cost}
use Rattle.mc_store.proofs.ItemLemmas.{body_at-without, body_at-brought}
use Rattle.mc_store.proofs.KeptLemmas.{kept-first, kept-begins}
use Rattle.mc_cache.specs.CacheState.{CacheState, IsHeldWithin}
use Rattle.mc_cache.specs.Showing.{item_shown, marks_of, meta_reply_of}
use Rattle.mc_cache.specs.Step.{StepResult, Content, numbered, unmet, content_by, compared, fronted, store_step, touched, expiry_by, get_step, touch_step, delete_step, counted, count_none, count_step, update_step, made_by, looked_at, meta_get_none, meta_get_step, held_under, settled_step, stored, atom_key}
use Rattle.mc_cache.proofs.HeldLemmas.{body_at-own, body_at-other, without-own, held-without, held-changed, held-brought, held-put}
use Rattle.mc_cache.proofs.StoredLemmas.{own_key}
use Rattle.mc_cache_laws.specs.OneMap.{KeyOutcome, put, store_key, get_key, touch_key, delete_key, count_no_key, count_held, count_key, update_key, as_meta, meta_get_no_key, meta_get_key, key_step}
use Rattle.mc_cache_laws.specs.MapLaws.{is_unnumbered, is_of_map, is_refused_store, IsUnflushed, unnumbered, map_of}
use Rattle.mc_cache_laws.proofs.OutcomeLemmas.{EndsStored, IsAdmitted, with_content, number_content, stored-ends, store-ends, deleted-ends, counted-ends}
use Rattle.mc_cache_laws.proofs.ShownLemmas.{first_item}

-- an outcome is that of the map on this key
pub record Matches (s : CacheState) (key : List ℕ) (expected : KeyOutcome) (o : StepResult) : Type 0 where
  pub reply : o.1 ≡ expected.1
  pub own : map_of o.0.items key ≡ expected.0
  pub others : (other : List ℕ) → bytes_eq key other ≡ false → body_at other o.0.items ≡ body_at other s.items
  pub within : IsHeldWithin o.0.budget o.0.limit o.0.items
  pub pending : o.0.pending ≡ None

-- an outcome that is not refused and evicts nothing is that of the map
abbrev pub Follows : CacheState → List ℕ → KeyOutcome → StepResult → Type 0
Follows s key expected o = is_refused_store o.1 ≡ false → length (without key o.0.items) ≡ length (without key s.items) → Matches s key expected o

-- nothing changes
same-matches : (s : CacheState) (key : List ℕ) (reply : Reply (List ℕ)) → IsUnflushed s → Matches s key (map_of s.items key, reply) (s, reply)
same-matches s key reply good = record { reply = refl; own = refl; others = λ other differ. refl; within = good.within; pending = good.pending }

fronted-matches : (s : CacheState) (key : List ℕ) (reply : Reply (List ℕ)) → IsUnflushed s → Matches s key (map_of s.items key, reply) (fronted s key, reply)
fronted-matches s key reply good = record {
  reply = refl;
  own = ap (option_map unnumbered) (body_at-brought key key s.items);
  others = λ other differ. body_at-brought key other s.items;
  within = held-brought s.budget s.limit s.items (brought key (body_at key s.items) s.items) key refl good.within;
  pending = good.pending;
}

-- a stored body is changed, and its value is no longer
put-matches : (s : CacheState) (key : List ℕ) (old new : Body) (counter : ℕ) (reply : Reply (List ℕ)) → IsUnflushed s → body_at key s.items ≡ Some old
    → length new.value ≤ length old.value
    → Matches s key (Some (unnumbered new), reply) (record s { items = brought key (Some new) s.items; counter = counter }, reply)
put-matches s key old new counter reply good held shorter = record {
  reply = refl;
  own = ap (option_map unnumbered) (body_at-own key (key, new) (without key s.items) (own_key key));
  others = λ other differ. body_at-other other (key, new) (without key s.items) differ ∙ body_at-without key other s.items differ;
  within = held-changed s.budget s.limit s.items key old new held shorter good.within;
  pending = good.pending;
}

taken-matches : (s : CacheState) (key : List ℕ) (reply : Reply (List ℕ)) → IsUnflushed s → Matches s key (None, reply) (record s { items = without key s.items }, reply)
taken-matches s key reply good = record {
  reply = refl;
  own = ap (option_map unnumbered) (good.within.distinct key);
  others = λ other differ. body_at-without key other s.items differ;
  within = held-without s.budget s.limit s.items (without key s.items) key refl good.within;
  pending = good.pending;
}

-- all items are kept if their number stays
kept-all : (budget limit : ℕ) (items : Items) → length (kept budget limit items) ≡ length items → kept budget limit items ≡ items
kept-all budget limit items same =
    let begins = kept-begins budget limit items in
    (elim begins.0 as (λ (rest : Items). items ≡ kept budget limit items ++ rest → kept budget limit items ≡ items) [
      | [] ↦ λ is. sym (is ∙ append-nil (kept budget limit items))
      | item ∷ rest ↦ λ is. absurd (let longer : length items ≡ length (kept budget limit items) + length (item ∷ rest) = ap length is ∙ length-append (kept budget limit items) (item ∷ rest) in omega arith)
    ]) begins.1

-- a content is stored
content-matches : (s : CacheState) (key : List ℕ) (content : Content) (reply : Reply (List ℕ)) → IsUnflushed s → IsAdmitted s key content
    → Follows s key (put content reply) (with_content s key content, reply)
content-matches s key content reply good admitted answered many =
    let body : Body = numbered content (s.counter + 1) in
    let item : List ℕ × Body = (key, body) in
    let rest : Items = without key s.items in
    let cost : item_cost item ≤ s.budget =
    ltb-false s.budget (item_cost item) (or_parts (nat_lt VALUE_LIMIT (length content.value)) (nat_lt s.budget (cost_at (length key) (length content.value))) admitted.small).1 in
    let fewer : Items = kept (s.budget - item_cost item) (s.limit - 1) rest in
    let first : kept s.budget s.limit (item ∷ rest) ≡ item ∷ fewer = kept-first s.budget s.limit item rest cost good.within.bounds.some_items in
    let under : without key (kept s.budget s.limit (item ∷ rest)) ≡ fewer = ap (without key) first ∙ without-own key item fewer (own_key key) in
    let as_many : length fewer ≡ length rest = sym (ap length under) ∙ many in
    let all : fewer ≡ rest = kept-all (s.budget - item_cost item) (s.limit - 1) rest as_many in
    record {
      reply = refl;
      own = ap (option_map unnumbered) (first_item s key body good.within.bounds.some_items admitted.small);
      others = λ other differ. ap (body_at other) first ∙ body_at-other other item fewer differ ∙ ap (body_at other) all ∙ body_at-without key other s.items differ;
      within = held-put s.budget s.limit s.items (item ∷ rest) (kept s.budget s.limit (item ∷ rest)) key body refl refl good.within;
      pending = good.pending;
    }

content-ends : (s : CacheState) (key : List ℕ) (content : Content) (reply : Reply (List ℕ)) → IsUnflushed s → EndsStored (Follows s key (put content reply)) s key content reply
content-ends s key content reply good = record {
  too_large = λ answered many. absurd cc;
  used_up = λ answered many. absurd cc;
  out_of_memory = λ answered many. absurd cc;
  done = content-matches s key content reply good;
}

-- the number plays no part in what a storage command does
unmet-unnumbered : (mode : StoreMode) (held : Option Body) → unmet mode (option_map unnumbered held) ≡ unmet mode held
unmet-unnumbered Set None = refl
unmet-unnumbered Set (Some body) = refl
unmet-unnumbered Add None = refl
unmet-unnumbered Add (Some body) = refl
unmet-unnumbered Replace None = refl
unmet-unnumbered Replace (Some body) = refl
unmet-unnumbered Append None = refl
unmet-unnumbered Append (Some body) = refl
unmet-unnumbered Prepend None = refl
unmet-unnumbered Prepend (Some body) = refl

content_by-unnumbered : (mode : StoreMode) (held : Option Body) (new : Content) → content_by mode (option_map unnumbered held) new ≡ content_by mode held new
content_by-unnumbered Set None new = refl
content_by-unnumbered Set (Some body) new = refl
content_by-unnumbered Add None new = refl
content_by-unnumbered Add (Some body) new = refl
content_by-unnumbered Replace None new = refl
content_by-unnumbered Replace (Some body) new = refl
content_by-unnumbered Append None new = refl
content_by-unnumbered Append (Some body) new = refl
content_by-unnumbered Prepend None new = refl
content_by-unnumbered Prepend (Some body) new = refl

store-follows : (s : CacheState) (compare : Option ℕ) (mode : StoreMode) (key : List ℕ) (new : Content) (refused : Bool) → compare ≡ None → IsUnflushed s
    → Follows s key (store_key (map_of s.items key) (unmet mode (map_of s.items key)) (content_by mode (map_of s.items key) new))
    (store_step s compare mode key (body_at key s.items) new refused)
store-follows s compare mode key new refused plain good =
    let held : Option Body = body_at key s.items in
    rw (unmet-unnumbered mode held, content_by-unnumbered mode held new, plain)
    (store-ends (Follows s key (store_key (map_of s.items key) (unmet mode held) (content_by mode held new))) s None mode key held new refused
    (λ reply is answered many. subst (λ a. Matches s key (store_key (map_of s.items key) a (content_by mode held new)) (fronted s key, reply)) (sym is) (fronted-matches s key reply good))
    (λ is. subst (λ a. EndsStored (Follows s key (store_key (map_of s.items key) a (content_by mode held new))) s key (content_by mode held new) Stored) (sym is)
    (content-ends s key (content_by mode held new) Stored good)))

-- the other commands, by the stored item
get-follows : (s : CacheState) (key : List ℕ) (held : Option Body) (exptime : Option ℤ) (moment : ℕ) → body_at key s.items ≡ held → IsUnflushed s
    → Follows s key (get_key (option_map unnumbered held) exptime moment) (get_step s key held exptime false moment)
get-follows s key None exptime moment is good answered many = subst (λ h. Matches s key (option_map unnumbered h, Miss) (s, Miss)) is (same-matches s key Miss good)
get-follows s key (Some body) exptime moment is good answered many = put-matches s key body (touched exptime moment body) s.counter (Hit body.flags None body.value) good is (omega arith)

touch-follows : (s : CacheState) (key : List ℕ) (held : Option Body) (exptime : ℤ) (moment : ℕ) → body_at key s.items ≡ held → IsUnflushed s
    → Follows s key (touch_key (option_map unnumbered held) exptime moment) (touch_step s key held exptime moment)
touch-follows s key None exptime moment is good answered many = subst (λ h. Matches s key (option_map unnumbered h, NotFound) (s, NotFound)) is (same-matches s key NotFound good)
touch-follows s key (Some body) exptime moment is good answered many = put-matches s key body (touched (Some exptime) moment body) s.counter Touched good is (omega arith)

delete-follows : (s : CacheState) (key : List ℕ) (held : Option Body) (compare : Option ℕ) (invalidate : Bool) → compare ≡ None → body_at key s.items ≡ held → IsUnflushed s
    → Follows s key (delete_key (option_map unnumbered held) invalidate) (delete_step s key held compare invalidate)
delete-follows s key None compare invalidate plain is good = λ answered many. subst (λ h. Matches s key (option_map unnumbered h, NotFound) (s, NotFound)) is (same-matches s key NotFound good)
delete-follows s key (Some body) compare false plain is good = rw plain (λ answered many. taken-matches s key Deleted good)
delete-follows s key (Some body) compare true plain is good =
    rw plain (deleted-ends (Follows s key (Some (record (unnumbered body) { stale = true; won = false }), Deleted)) s key body None true None refl
    (λ invalidates answered many. absurd cc)
    (λ reply compares. absurd cc)
    (λ takes answered many. absurd cc)
    (λ numbers invalidates answered many. put-matches s key body (record body { stale = true; won = false; cas = s.counter + 1 }) (s.counter + 1) Deleted good is (omega arith)))

-- counts
count_none-follows : (s : CacheState) (key : List ℕ) (create : Option Creation) (moment : ℕ) (refused : Bool) → body_at key s.items ≡ None → IsUnflushed s
    → Follows s key (count_no_key create moment) (count_none s key create moment refused)
count_none-follows s key None moment refused is good = λ answered many. subst (λ h. Matches s key (option_map unnumbered h, NotFound) (s, NotFound)) is (same-matches s key NotFound good)
count_none-follows s key (Some creation) moment refused is good =
    let content : Content = number_content 0 (deadline_of creation.exptime moment) creation.initial in
    stored-ends (Follows s key (put content (Number creation.initial))) s key content refused (Number creation.initial) (content-ends s key content (Number creation.initial) good)

count-follows : (s : CacheState) (key : List ℕ) (held : Option Body) (counting : Counting) (moment : ℕ) (refused : Bool) → counting.compare ≡ None → body_at key s.items ≡ held → IsUnflushed s
    → Follows s key (count_key (option_map unnumbered held) counting moment) (count_step s key held counting moment refused)
count-follows s key None counting moment refused plain is good = count_none-follows s key counting.create moment refused is good
count-follows s key (Some body) counting moment refused plain is good =
    let expected : Option ℕ → KeyOutcome = λ (n : Option ℕ). count_held (unnumbered body) n counting moment in
    counted-ends (Follows s key (expected (read_u64 body.value))) s key body counting moment refused
    (λ reply compares. absurd (let none : None ≡ Some reply = subst (λ c. compared c (Some body) ≡ Some reply) plain compares in cc))
    (λ reads answered many. subst (λ n. Matches s key (expected n) (s, Fault NonNumeric)) (sym reads)
    (subst (λ h. Matches s key (option_map unnumbered h, Fault NonNumeric) (s, Fault NonNumeric)) is (same-matches s key (Fault NonNumeric) good)))
    (λ number compares reads.
    let content : Content = number_content body.flags (expiry_by counting.exptime moment body.expiry) (counted counting.direction counting.delta number) in
    subst (λ n. EndsStored (Follows s key (expected n)) s key content (Number (counted counting.direction counting.delta number))) (sym reads)
    (content-ends s key content (Number (counted counting.direction counting.delta number)) good))

-- a test that something is none
none_is : {A : Type 0} (part : Option A) → is_none part ≡ true → part ≡ None
none_is None is = refl
none_is (Some x) is = absurd cc

update-follows : (s : CacheState) (update : Update (List ℕ) (List ℕ)) (moment : ℕ) (refused : Bool) (key : List ℕ) → is_unnumbered update ≡ true → key_in update ≡ Some key → IsUnflushed s
    → Follows s key (update_key (map_of s.items key) update moment) (update_step s update moment refused)
update-follows s (Store mode compare at flags exptime value) moment refused key plain is good = grind (arith, store-follows, none_is)
update-follows s (Touch at exptime) moment refused key plain is good = grind (arith, touch-follows)
update-follows s (Delete at compare invalidate) moment refused key plain is good = grind (arith, delete-follows, none_is)
update-follows s (Count at counting) moment refused key plain is good = grind (arith, count-follows, none_is)
update-follows s (FlushAll delay) moment refused key plain is good = absurd cc

-- what is shown of an item whose number is not asked for
shown-unnumbered : (show : Show) (moment : ℕ) (marks : Marks) (body : Body) → show.cas ≡ false
    → item_shown show moment marks (Some body) ≡ item_shown show moment marks (Some (unnumbered body))
shown-unnumbered show moment marks body hides = rw hides refl

meta_reply_of-unnumbered : (show : Show) (moment : ℕ) (marks : Marks) (held : Option Body) (reply : Reply (List ℕ)) → show.cas ≡ false
    → meta_reply_of show moment marks held reply ≡ meta_reply_of show moment marks (option_map unnumbered held) reply
meta_reply_of-unnumbered show moment marks None reply hides = refl
meta_reply_of-unnumbered show moment marks (Some body) reply hides = grind (arith, shown-unnumbered)

-- an error line is shown as it is
meta_reply_of-refusal : (show : Show) (moment : ℕ) (marks : Marks) (held : Option Body) (reply : Reply (List ℕ)) → is_refused_store (meta_reply_of show moment marks held reply) ≡ false → is_refused_store reply ≡ false
meta_reply_of-refusal show moment marks held reply answered = grind arith

-- a meta command follows if its update does
meta_reply_of-follows : (s : CacheState) (key : List ℕ) (show : Show) (moment : ℕ) (marks : Marks) (expected : KeyOutcome) (o : StepResult) → show.cas ≡ false
    → Follows s key expected o → Follows s key (as_meta show moment marks expected) (o.0, meta_reply_of show moment marks (body_at key o.0.items) o.1)
meta_reply_of-follows s key show moment marks expected o hides follows answered many = grind (arith, meta_reply_of-unnumbered, meta_reply_of-refusal)

-- `mg`
meta_get_none-follows : (s : CacheState) (key : List ℕ) (get : MetaGet) (create : Option ℤ) (moment : ℕ) (refused : Bool) → get.show.cas ≡ false → body_at key s.items ≡ None → IsUnflushed s
    → Follows s key (meta_get_no_key get create moment) (meta_get_none s key get create moment refused)
meta_get_none-follows s key get None moment refused hides is good = λ answered many. subst (λ h. Matches s key (option_map unnumbered h, Miss) (s, Miss)) is (same-matches s key Miss good)
meta_get_none-follows s key get (Some create) moment refused hides is good =
    let content : Content = made_by get.exptime create moment in
    meta_reply_of-follows s key get.show moment Won (put content Stored) (stored s key content refused Stored) hides
    (stored-ends (Follows s key (put content Stored)) s key content refused Stored (content-ends s key content Stored good))

meta_get-follows : (s : CacheState) (key : List ℕ) (held : Option Body) (get : MetaGet) (moment : ℕ) (refused : Bool) → get.show.cas ≡ false → body_at key s.items ≡ held → IsUnflushed s
    → Follows s key (meta_get_key (option_map unnumbered held) get moment) (meta_get_step s key held get moment refused)
meta_get-follows s key None get moment refused hides is good = meta_get_none-follows s key get get.create moment refused hides is good
meta_get-follows s key (Some body) get moment refused hides is good = λ answered many.
    let marks : Marks = marks_of get.recache moment body in
    let shows : item_shown get.show moment marks (Some (looked_at get moment body)) ≡ item_shown get.show moment marks (Some (unnumbered (looked_at get moment body))) =
    shown-unnumbered get.show moment marks (looked_at get moment body) hides in
    subst (λ r. Matches s key (Some (unnumbered (looked_at get moment body)), r)
    (record s { items = brought key (Some (looked_at get moment body)) s.items }, item_shown get.show moment marks (Some (looked_at get moment body)))) shows
    (put-matches s key body (looked_at get moment body) s.counter (item_shown get.show moment marks (Some (looked_at get moment body))) good is (omega arith))

-- a command on a settled cache
pub settled_step-follows : (s : CacheState) (atom : Atom (List ℕ)) (moment : ℕ) (refused : Bool) (key : List ℕ) → is_of_map atom ≡ true → atom_key atom ≡ Some key → IsUnflushed s
    → Follows s key (key_step (map_of s.items key) atom moment) (settled_step s atom moment refused)
settled_step-follows s (atoms.Get at exptime with_cas) moment refused key plain is good = grind (arith, not-true, get-follows)
settled_step-follows s (atoms.Update update) moment refused key plain is good = update-follows s update moment refused key plain is good
settled_step-follows s (atoms.Meta (metas.Get at get)) moment refused key plain is good = grind (arith, not-true, meta_get-follows)
settled_step-follows s (atoms.Meta (metas.Update update show)) moment refused key plain is good =
    let parts = and_parts (is_unnumbered update) (not show.cas) plain in
    subst (λ (k : Option (List ℕ)). Follows s key (as_meta show moment Plain (update_key (map_of s.items key) update moment))
    ((update_step s update moment refused).0, meta_reply_of show moment Plain (held_under k (update_step s update moment refused).0) (update_step s update moment refused).1)) (sym is)
    (meta_reply_of-follows s key show moment Plain (update_key (map_of s.items key) update moment) (update_step s update moment refused) (not-true show.cas parts.1)
    (update-follows s update moment refused key parts.0 is good))
