-- What a step of a good cache leaves, and what it answers.
use Rattle.std.proofs.Common.{◌≡◌, ℕ, ◌+◌, ◌-◌, ◌<◌, ◌≤◌, ◌^◌, ◌&&◌, ◌==◌, nat_lt, not, ℤ, pos, negsuc, Bool, true, false, cond, List, [], ◌∷◌, length, Option, Some, None, is_some, IfSome, refl, arith, subst}
use Rattle.std.specs.Bool.{then_some}
use Rattle.std.specs.Option.{is_none, option_map, option_or, unwrap_or}
use Rattle.std.specs.Str.Parse.{digits_value}
use Rattle.std.proofs.lemmas.Bool.{cond_both, and_parts, ltb-true, lt-ltb, le-leb, not-true}
use Rattle.std.proofs.lemmas.Option.{cond_some}
use Rattle.mc_text.specs.Keys.{is_plain_key}
use Rattle.mc_text.specs.Numbers.{read_u64, has_digits}
use Rattle.mc_text.specs.declared.blocks.TheConstants.{VALUE_LIMIT}
use Rattle.mc_item.specs.declared.bodies.Body.{Body}
use Rattle.mc_item.specs.declared.deadlines.Deadline.{Deadline}
use Rattle.mc_item.specs.declared.deadlines.TheConstants.{NEVER}
use Rattle.mc_item.specs.Deadlines.{due_at, deadline_of, left_of}
use Rattle.mc_request.specs.WellFormed.{is_good_block, is_good_counting, is_good_creation, is_good_get, is_good_update, is_i64, is_u64, is_where_some}
use Rattle.mc_request.specs.declared.meta.Counting.{Counting}
use Rattle.mc_request.specs.declared.meta.Creation.{Creation}
use Rattle.mc_request.specs.declared.meta.MetaCommand.TheVariants as metas
use Rattle.mc_request.specs.declared.meta.MetaGet.{MetaGet}
use Rattle.mc_request.specs.declared.meta.Show.{Show}
use Rattle.mc_request.specs.declared.parts.Atom.{Atom}
use Rattle.mc_request.specs.declared.parts.Atom.TheVariants as atoms
use Rattle.mc_request.specs.declared.parts.Direction.{Direction}
use Rattle.mc_request.specs.declared.parts.Direction.TheVariants.{Up, Down}
use Rattle.mc_request.specs.declared.parts.StoreMode.{StoreMode}
use Rattle.mc_request.specs.declared.parts.StoreMode.TheVariants.{Set, Add, Replace, Append, Prepend}
use Rattle.mc_request.specs.declared.parts.Update.{Update}
use Rattle.mc_request.specs.declared.parts.Update.TheVariants.{Store, Touch, Delete, Count, FlushAll}
use Rattle.mc_reply.specs.CanHave.{can_have, can_have_meta, can_have_update, is_as_asked, is_done, is_done_unmarked, is_size, is_u32}
use Rattle.mc_reply.specs.Replies.{nothing_shown}
use Rattle.mc_reply.specs.declared.replies.Marks.{Marks}
use Rattle.mc_reply.specs.declared.replies.Marks.TheVariants.{Plain, Won}
use Rattle.mc_reply.specs.declared.replies.Reply.TheVariants.{Stored, Exists, Number}
use Rattle.mc_codec.specs.Spellings.{is_askable, is_byte_key, is_classic, is_good_atom}
use Rattle.mc_codec.proofs.GoodPartLemmas.{store_parts, count_parts, get_parts}
use Rattle.mc_store.specs.Items.{body_at, brought}
use Rattle.mc_cache.specs.CacheState.{CacheState, opening_cache}
use Rattle.mc_cache.specs.Replay.{Command, command_step}
use Rattle.mc_cache.specs.Settling.{settled, emptied}
use Rattle.mc_cache.specs.Showing.{shown_of, marks_of, meta_reply_of}
use Rattle.mc_cache.specs.Step.{StepResult, Content, numbered, unstored, unmet, compared, content_by, fronted, stored, store_step, touched, expiry_by, get_step, touch_step, delete_step, counted, count_step, count_none, flush_step, update_step, made_by, looked_at, meta_get_none, meta_get_step, meta_step, settled_step, step_of, atom_key}
use Rattle.mc_cache_laws.specs.GoodCaches.{IsGoodBody, IsGoodCache, IsGoodCommand, StaysGood, AnswersAsItCan, AnswersEachAsItCan}
use Rattle.std.specs.List.{All}
use Rattle.std.proofs.lemmas.List.Elements.{All-nil, All-head, All-tail}
use Rattle.mc_cache_laws.proofs.OutcomeLemmas.{EndsStored, IsAdmitted, with_content, number_content, stored-ends, store-ends, deleted-ends, counted-ends}
use Rattle.mc_cache_laws.proofs.GoodBodyLemmas.{IsGoodHeld, IsGoodContent, IsGoodDeadline, held_is_good, put_is_good, marked_is_good, taken_is_good, fronted_is_good, emptied_is_good, settled_is_good, numbered_is_good, stored_is_good, deadline_is_good, expiry_is_good, content_is_good}
use Rattle.mc_cache_laws.proofs.ShownLemmas.{first_item}

-- what holds of a part that exists
at_some : {A : Type 0} (P : A → Type 0) (part : Option A) (x : A) → part ≡ Some x → IfSome part P → P x
at_some P part x is holds = subst (λ o. IfSome o P) is holds

-- a part that is none
none_is : {A : Type 0} (part : Option A) → is_none part ≡ true → part ≡ None
none_is None is = refl
none_is (Some x) is = absurd cc

-- a part that exists if it is asked for
asked_is : {A : Type 0} (test : A → Bool) (is_asked : Bool) (part : A) → test part ≡ true → is_as_asked test is_asked (then_some is_asked part) ≡ true
asked_is test true part passes = passes
asked_is test false part passes = refl

left_is : (deadline : Deadline) (moment : ℕ) → IsGoodDeadline deadline → is_where_some is_u64 (left_of deadline moment) ≡ true
left_is deadline moment fits =
    cond_both (deadline.moment == NEVER) None (Some deadline.moment) (λ (due : Option ℕ). is_where_some is_u64 (option_map (λ d. d - moment) due) ≡ true)
    (λ never. refl) (λ comes. lt-ltb (deadline.moment - moment) (2 ^ 64) (omega arith))

-- what is shown of such an item, whatever its marks are
shown_is_done : (counter : ℕ) (show : Show) (moment : ℕ) (marks : Marks) (body : Body) → counter < 2 ^ 64 → IsGoodBody counter body
    → is_done show (shown_of show moment marks body) (then_some show.value body.value) ≡ true
shown_is_done counter show moment marks body few good =
    let cas : is_as_asked is_u64 show.cas (then_some show.cas body.cas) ≡ true = asked_is is_u64 show.cas body.cas (lt-ltb body.cas (2 ^ 64) (omega (arith, good.cas))) in
    let flags : is_as_asked is_u32 show.flags (then_some show.flags body.flags) ≡ true = asked_is is_u32 show.flags body.flags (lt-ltb body.flags (2 ^ 32) good.flags) in
    let size : is_as_asked is_size show.size (then_some show.size (length body.value)) ≡ true =
    asked_is is_size show.size (length body.value) (le-leb (length body.value) VALUE_LIMIT good.value) in
    let left : is_as_asked (is_where_some is_u64) show.left (then_some show.left (left_of body.expiry moment)) ≡ true =
    asked_is (is_where_some is_u64) show.left (left_of body.expiry moment) (left_is body.expiry moment good.expiry) in
    let value : is_as_asked is_good_block show.value (then_some show.value body.value) ≡ true =
    asked_is is_good_block show.value body.value (le-leb (length body.value) VALUE_LIMIT good.value) in
    rw (cas, flags, size, left, value) refl

-- the item that was stored comes first
content_first : (s : CacheState) (key : List ℕ) (content : Content) → IsGoodCache s → IsAdmitted s key content
    → body_at key (with_content s key content).items ≡ Some (numbered content (s.counter + 1))
content_first s key content good admitted = first_item s key (numbered content (s.counter + 1)) good.some_items admitted.small

-- an outcome of an update that a classic command may have, and one that a meta command may have
record IsGoodEnd (update : Update (List ℕ) (List ℕ)) (o : StepResult) : Type 0 where
  cache : IsGoodCache o.0
  reply : can_have_update update o.1 ≡ true

record IsGoodMetaEnd (update : Update (List ℕ) (List ℕ)) (show : Show) (moment : ℕ) (key : List ℕ) (o : StepResult) : Type 0 where
  cache : IsGoodCache o.0
  reply : can_have_meta (metas.Update update show) (meta_reply_of show moment Plain (body_at key o.0.items) o.1) ≡ true

-- what a storage command answers if it stores nothing
unmet_is : (mode : StoreMode) (held : Option Body) (key : List ℕ) (compare : Option ℕ) (flags : ℕ) (exptime : ℤ) (block : List ℕ)
    → IfSome (unmet mode held) (λ reply. can_have_update (Store mode compare key flags exptime block) reply ≡ true)
unmet_is Set None key compare flags exptime block = tt
unmet_is Set (Some body) key compare flags exptime block = tt
unmet_is Add None key compare flags exptime block = tt
unmet_is Add (Some body) key compare flags exptime block = refl
unmet_is Replace None key compare flags exptime block = refl
unmet_is Replace (Some body) key compare flags exptime block = tt
unmet_is Append None key compare flags exptime block = refl
unmet_is Append (Some body) key compare flags exptime block = tt
unmet_is Prepend None key compare flags exptime block = refl
unmet_is Prepend (Some body) key compare flags exptime block = tt

answer_is : (mode : StoreMode) (compare : Option ℕ) (held : Option Body) (key : List ℕ) (flags : ℕ) (exptime : ℤ) (block : List ℕ)
    → IfSome (unstored compare mode held) (λ reply. can_have_update (Store mode compare key flags exptime block) reply ≡ true)
answer_is mode None held key flags exptime block = unmet_is mode held key None flags exptime block
answer_is mode (Some number) None key flags exptime block = refl
answer_is mode (Some number) (Some body) key flags exptime block =
    cond_both (body.cas == number) None (Some Exists)
    (λ a. IfSome (option_or a (unmet mode (Some body))) (λ reply. can_have_update (Store mode (Some number) key flags exptime block) reply ≡ true))
    (λ same. unmet_is mode (Some body) key (Some number) flags exptime block) (λ other. refl)

-- a meta command is answered so too
told_answer_is : (mode : StoreMode) (compare : Option ℕ) (held after : Option Body) (key : List ℕ) (flags : ℕ) (exptime : ℤ) (block : List ℕ) (show : Show) (moment : ℕ)
    → IfSome (unstored compare mode held) (λ reply. can_have_meta (metas.Update (Store mode compare key flags exptime block) show) (meta_reply_of show moment Plain after reply) ≡ true)
told_answer_is mode (Some number) None after key flags exptime block show moment = refl
told_answer_is mode (Some number) (Some body) after key flags exptime block show moment =
    cond_both (body.cas == number) None (Some Exists)
    (λ a. IfSome (option_or a (unmet mode (Some body)))
    (λ reply. can_have_meta (metas.Update (Store mode (Some number) key flags exptime block) show) (meta_reply_of show moment Plain after reply) ≡ true))
    (λ same. elim mode as (λ m. IfSome (unmet m (Some body))
    (λ reply. can_have_meta (metas.Update (Store m (Some number) key flags exptime block) show) (meta_reply_of show moment Plain after reply) ≡ true))
    [ Set ↦ tt | Add ↦ refl | Replace ↦ tt | Append ↦ tt | Prepend ↦ tt ])
    (λ other. refl)
told_answer_is mode None None after key flags exptime block show moment =
    elim mode as (λ m. IfSome (unmet m None)
    (λ reply. can_have_meta (metas.Update (Store m None key flags exptime block) show) (meta_reply_of show moment Plain after reply) ≡ true))
    [ Set ↦ tt | Add ↦ tt | Replace ↦ refl | Append ↦ refl | Prepend ↦ refl ]
told_answer_is mode None (Some body) after key flags exptime block show moment =
    elim mode as (λ m. IfSome (unmet m (Some body))
    (λ reply. can_have_meta (metas.Update (Store m None key flags exptime block) show) (meta_reply_of show moment Plain after reply) ≡ true))
    [ Set ↦ tt | Add ↦ refl | Replace ↦ tt | Append ↦ tt | Prepend ↦ tt ]

-- storage commands
store_is_good : (s : CacheState) (mode : StoreMode) (compare : Option ℕ) (key : List ℕ) (held : Option Body) (new : Content) (refused : Bool) (flags : ℕ) (exptime : ℤ) (block : List ℕ)
    → IsGoodCache s → IsGoodHeld s.counter held → IsGoodContent new
    → IsGoodEnd (Store mode compare key flags exptime block) (store_step s compare mode key held new refused)
store_is_good s mode compare key held new refused flags exptime block good was fits =
    let update : Update (List ℕ) (List ℕ) = Store mode compare key flags exptime block in
    let content : Content = content_by mode held new in
    store-ends (IsGoodEnd update) s compare mode key held new refused
    (λ reply is. record { cache = fronted_is_good s key good; reply = at_some (λ r. can_have_update update r ≡ true) (unstored compare mode held) reply is (answer_is mode compare held key flags exptime block) })
    (λ is. record {
      too_large = record { cache = good; reply = refl };
      used_up = record { cache = good; reply = refl };
      out_of_memory = record { cache = good; reply = refl };
      done = λ admitted. record { cache = stored_is_good s key content good admitted (content_is_good s.counter mode held new was fits); reply = refl };
    })

store_is_good_for_meta : (s : CacheState) (mode : StoreMode) (compare : Option ℕ) (key : List ℕ) (held : Option Body) (new : Content) (refused : Bool) (flags : ℕ) (exptime : ℤ) (block : List ℕ)
    (show : Show) (moment : ℕ) → IsGoodCache s → IsGoodHeld s.counter held → IsGoodContent new
    → IsGoodMetaEnd (Store mode compare key flags exptime block) show moment key (store_step s compare mode key held new refused)
store_is_good_for_meta s mode compare key held new refused flags exptime block show moment good was fits =
    let update : Update (List ℕ) (List ℕ) = Store mode compare key flags exptime block in
    let content : Content = content_by mode held new in
    let fit : IsGoodContent content = content_is_good s.counter mode held new was fits in
    store-ends (IsGoodMetaEnd update show moment key) s compare mode key held new refused
    (λ reply is. record {
      cache = fronted_is_good s key good;
      reply = at_some (λ r. can_have_meta (metas.Update update show) (meta_reply_of show moment Plain (body_at key (fronted s key).items) r) ≡ true) (unstored compare mode held) reply is
          (told_answer_is mode compare held (body_at key (fronted s key).items) key flags exptime block show moment);
    })
    (λ is. record {
      too_large = record { cache = good; reply = refl };
      used_up = record { cache = good; reply = refl };
      out_of_memory = record { cache = good; reply = refl };
      done = λ admitted. record {
        cache = stored_is_good s key content good admitted fit;
        reply = rw (content_first s key content good admitted)
            (shown_is_done (s.counter + 1) show moment Plain (numbered content (s.counter + 1)) admitted.numbers (numbered_is_good s key content admitted fit));
      };
    })

-- a touched item is good
touched_is_good : (counter : ℕ) (exptime : Option ℤ) (moment : ℕ) (body : Body) → is_where_some is_i64 exptime ≡ true → moment < 2 ^ 63 → IsGoodBody counter body
    → IsGoodBody counter (touched exptime moment body)
touched_is_good counter exptime moment body fits early good =
    record { flags = good.flags; expiry = expiry_is_good exptime moment body.expiry fits early good.expiry; cas = good.cas; value = good.value }

touch_is_good : (s : CacheState) (key : List ℕ) (held : Option Body) (exptime : ℤ) (moment : ℕ) → is_i64 exptime ≡ true → moment < 2 ^ 63
    → IsGoodCache s → IsGoodHeld s.counter held → IsGoodEnd (Touch key exptime) (touch_step s key held exptime moment)
touch_is_good s key None exptime moment fits early good was = record { cache = good; reply = refl }
touch_is_good s key (Some body) exptime moment fits early good was = record {
  cache = put_is_good s key (touched (Some exptime) moment body) good (touched_is_good s.counter (Some exptime) moment body fits early was);
  reply = refl;
}

-- retrieval commands
record IsGoodAnswer (atom : Atom (List ℕ)) (o : StepResult) : Type 0 where
  cache : IsGoodCache o.0
  reply : can_have atom o.1 ≡ true

get_is_good : (s : CacheState) (key : List ℕ) (held : Option Body) (exptime : Option ℤ) (with_cas : Bool) (moment : ℕ) → is_where_some is_i64 exptime ≡ true
    → moment < 2 ^ 63 → IsGoodCache s → IsGoodHeld s.counter held → IsGoodAnswer (atoms.Get key exptime with_cas) (get_step s key held exptime with_cas moment)
get_is_good s key None exptime with_cas moment fits early good was = record { cache = good; reply = refl }
get_is_good s key (Some body) exptime with_cas moment fits early good was =
    let flags : is_u32 body.flags ≡ true = lt-ltb body.flags (2 ^ 32) was.flags in
    let number : is_u64 body.cas ≡ true = lt-ltb body.cas (2 ^ 64) (omega (arith, was.cas, good.counter)) in
    let block : is_good_block body.value ≡ true = le-leb (length body.value) VALUE_LIMIT was.value in
    record {
      cache = put_is_good s key (touched exptime moment body) good (touched_is_good s.counter exptime moment body fits early was);
      reply = elim with_cas as (λ c. (is_u32 body.flags && is_as_asked is_u64 c (cond c (Some body.cas) None) && is_good_block body.value) ≡ true)
          [ true ↦ rw (flags, number, block) refl | false ↦ rw (flags, block) refl ];
    }

-- deletions
stale_is_good : (s : CacheState) (key : List ℕ) (body : Body) → IsGoodCache s → s.counter + 1 < 2 ^ 64 → IsGoodBody s.counter body
    → IsGoodCache (record s { items = brought key (Some (record body { stale = true; won = false; cas = s.counter + 1 })) s.items; counter = s.counter + 1 })
stale_is_good s key body good numbers was =
    marked_is_good s key (record body { stale = true; won = false; cas = s.counter + 1 }) good numbers
    (record { flags = was.flags; expiry = was.expiry; cas = omega arith; value = was.value })

delete_is_good : (s : CacheState) (key : List ℕ) (held : Option Body) → IsGoodCache s → IsGoodHeld s.counter held
    → IsGoodEnd (Delete key None false) (delete_step s key held None false)
delete_is_good s key None good was = record { cache = good; reply = refl }
delete_is_good s key (Some body) good was = record { cache = taken_is_good s key good; reply = refl }

-- a command asks for nothing to be shown
record AsksNothing (show : Show) : Type 0 where
  cas : show.cas ≡ false
  flags : show.flags ≡ false
  size : show.size ≡ false
  left : show.left ≡ false
  value : show.value ≡ false

nothing_is_done : (show : Show) → AsksNothing show → is_done_unmarked show nothing_shown None ≡ true
nothing_is_done show asks = rw (asks.cas, asks.flags, asks.size, asks.left, asks.value) refl

asks_nothing : (show : Show) → (not show.cas && not show.flags && not show.size && not show.left && not show.value) ≡ true → AsksNothing show
asks_nothing show is =
    let a = and_parts (not show.cas && not show.flags && not show.size && not show.left) (not show.value) is in
    let b = and_parts (not show.cas && not show.flags && not show.size) (not show.left) a.0 in
    let c = and_parts (not show.cas && not show.flags) (not show.size) b.0 in
    let d = and_parts (not show.cas) (not show.flags) c.0 in
    record { cas = not-true show.cas d.0; flags = not-true show.flags d.1; size = not-true show.size c.1; left = not-true show.left b.1; value = not-true show.value a.1 }

compared_is : (compare : Option ℕ) (body : Body) → IfSome (compared compare (Some body)) (λ reply. reply ≡ Exists)
compared_is None body = tt
compared_is (Some number) body = cond_both (body.cas == number) None (Some Exists) (λ a. IfSome a (λ reply. reply ≡ Exists)) (λ same. tt) (λ other. refl)

delete_is_good_for_meta : (s : CacheState) (key : List ℕ) (held : Option Body) (compare : Option ℕ) (invalidate : Bool) (show : Show) (moment : ℕ) → AsksNothing show
    → IsGoodCache s → IsGoodHeld s.counter held → IsGoodMetaEnd (Delete key compare invalidate) show moment key (delete_step s key held compare invalidate)
delete_is_good_for_meta s key None compare invalidate show moment asks good was = record { cache = good; reply = refl }
delete_is_good_for_meta s key (Some body) compare invalidate show moment asks good was =
    let update : Update (List ℕ) (List ℕ) = Delete key compare invalidate in
    deleted-ends (IsGoodMetaEnd update show moment key) s key body compare invalidate (compared compare (Some body)) refl
    (λ is. record { cache = good; reply = rw is refl })
    (λ reply is. record {
      cache = fronted_is_good s key good;
      reply = let exists : reply ≡ Exists = at_some (λ r. r ≡ Exists) (compared compare (Some body)) reply is (compared_is compare body) in rw exists refl;
    })
    (λ is. record { cache = taken_is_good s key good; reply = nothing_is_done show asks })
    (λ numbers is. record { cache = stale_is_good s key body good numbers was; reply = nothing_is_done show asks })

-- counts: a number that is read is one of 64 bits, and so is the one that is left
read_is_u64 : (value : List ℕ) (number : ℕ) → read_u64 value ≡ Some number → number < 2 ^ 64
read_is_u64 value number is =
    let passes = cond_some (has_digits 20 value && nat_lt (digits_value 10 value) (2 ^ 64)) (digits_value 10 value) number is in
    let both = and_parts (has_digits 20 value) (nat_lt (digits_value 10 value) (2 ^ 64)) passes.0 in
    subst (λ n. n < 2 ^ 64) passes.1 (ltb-true (digits_value 10 value) (2 ^ 64) both.1)

counted_is_u64 : (direction : Direction) (delta number : ℕ) → number < 2 ^ 64 → counted direction delta number < 2 ^ 64
counted_is_u64 Up delta number few = omega arith
counted_is_u64 Down delta number few = omega arith

count_is_good : (s : CacheState) (key : List ℕ) (held : Option Body) (counting : Counting) (moment : ℕ) (refused : Bool) → counting.compare ≡ None → counting.create ≡ None
    → is_where_some is_i64 counting.exptime ≡ true → moment < 2 ^ 63
    → IsGoodCache s → IsGoodHeld s.counter held → IsGoodEnd (Count key counting) (count_step s key held counting moment refused)
count_is_good s key None counting moment refused no_number makes_none fits early good was = rw makes_none (record { cache = good; reply = refl })
count_is_good s key (Some body) counting moment refused no_number makes_none fits early good was =
    counted-ends (IsGoodEnd (Count key counting)) s key body counting moment refused
    (λ reply is. absurd (let none : None ≡ Some reply = subst (λ c. compared c (Some body) ≡ Some reply) no_number is in cc))
    (λ reads. record { cache = good; reply = refl })
    (λ number is reads.
    let after : ℕ = counted counting.direction counting.delta number in
    let content : Content = number_content body.flags (expiry_by counting.exptime moment body.expiry) after in
    let fit : IsGoodContent content = record { flags = was.flags; expiry = expiry_is_good counting.exptime moment body.expiry fits early was.expiry } in
    record {
      too_large = record { cache = good; reply = refl };
      used_up = record { cache = good; reply = refl };
      out_of_memory = record { cache = good; reply = refl };
      done = λ admitted. record {
        cache = stored_is_good s key content good admitted fit;
        reply = lt-ltb after (2 ^ 64) (counted_is_u64 counting.direction counting.delta number (read_is_u64 body.value number reads));
      };
    })

-- a number that is stored for a meta command
number_is_good_for_meta : (s : CacheState) (key : List ℕ) (counting : Counting) (show : Show) (moment : ℕ) (content : Content) (number : ℕ) → IsGoodCache s → IsGoodContent content
    → EndsStored (IsGoodMetaEnd (Count key counting) show moment key) s key content (Number number)
number_is_good_for_meta s key counting show moment content number good fit = record {
  too_large = record { cache = good; reply = refl };
  used_up = record { cache = good; reply = refl };
  out_of_memory = record { cache = good; reply = refl };
  done = λ admitted. record {
    cache = stored_is_good s key content good admitted fit;
    reply = rw (content_first s key content good admitted)
        (shown_is_done (s.counter + 1) show moment Plain (numbered content (s.counter + 1)) admitted.numbers (numbered_is_good s key content admitted fit));
  };
}

made_is_good : (s : CacheState) (key : List ℕ) (counting : Counting) (create : Option Creation) (show : Show) (moment : ℕ) (refused : Bool)
    → is_where_some is_good_creation create ≡ true → moment < 2 ^ 63 → IsGoodCache s
    → IsGoodMetaEnd (Count key counting) show moment key (count_none s key create moment refused)
made_is_good s key counting None show moment refused fits early good = record { cache = good; reply = refl }
made_is_good s key counting (Some creation) show moment refused fits early good =
    let content : Content = number_content 0 (deadline_of creation.exptime moment) creation.initial in
    let time = and_parts (is_i64 creation.exptime) (is_u64 creation.initial) fits in
    stored-ends (IsGoodMetaEnd (Count key counting) show moment key) s key content refused (Number creation.initial)
    (number_is_good_for_meta s key counting show moment content creation.initial good
    (record { flags = omega arith; expiry = deadline_is_good creation.exptime moment time.0 early }))

count_is_good_for_meta : (s : CacheState) (key : List ℕ) (held : Option Body) (counting : Counting) (show : Show) (moment : ℕ) (refused : Bool)
    → is_where_some is_good_creation counting.create ≡ true → is_where_some is_i64 counting.exptime ≡ true → moment < 2 ^ 63
    → IsGoodCache s → IsGoodHeld s.counter held → IsGoodMetaEnd (Count key counting) show moment key (count_step s key held counting moment refused)
count_is_good_for_meta s key None counting show moment refused makes fits early good was = made_is_good s key counting counting.create show moment refused makes early good
count_is_good_for_meta s key (Some body) counting show moment refused makes fits early good was =
    counted-ends (IsGoodMetaEnd (Count key counting) show moment key) s key body counting moment refused
    (λ reply is. record {
      cache = fronted_is_good s key good;
      reply = let exists : reply ≡ Exists = at_some (λ r. r ≡ Exists) (compared counting.compare (Some body)) reply is (compared_is counting.compare body) in rw exists refl;
    })
    (λ reads. record { cache = good; reply = refl })
    (λ number is reads. number_is_good_for_meta s key counting show moment
    (number_content body.flags (expiry_by counting.exptime moment body.expiry) (counted counting.direction counting.delta number)) (counted counting.direction counting.delta number) good
    (record { flags = was.flags; expiry = expiry_is_good counting.exptime moment body.expiry fits early was.expiry }))

-- a flush
flush_is_good : (s : CacheState) (delay : ℤ) (moment : ℕ) → IsGoodCache s → IsGoodCache (flush_step s delay moment)
flush_is_good s (negsuc delay) moment good = emptied_is_good s good
flush_is_good s (pos delay) moment good =
    cond_both (delay == 0) (emptied s) (record s { pending = due_at (deadline_of (pos delay) moment) }) IsGoodCache (λ now. emptied_is_good s good)
    (λ later. record { some_items = good.some_items; counter = good.counter; items = good.items })

-- a classic update
update_is_good : (s : CacheState) (update : Update (List ℕ) (List ℕ)) (moment : ℕ) (refused : Bool) → is_classic update ≡ true
    → is_good_update is_plain_key is_good_block update ≡ true → moment < 2 ^ 63 → IsGoodCache s → IsGoodEnd update (update_step s update moment refused)
update_is_good s (Store mode compare key flags exptime block) moment refused classic fits early good =
    let parts = store_parts is_plain_key mode compare key flags exptime block fits in
    store_is_good s mode compare key (body_at key s.items) (record { flags = flags; expiry = deadline_of exptime moment; won = false; value = block }) refused flags exptime block
    good (held_is_good s key good) (record { flags = parts.flags_fit; expiry = deadline_is_good exptime moment parts.time early })
update_is_good s (Touch key exptime) moment refused classic fits early good =
    let parts = and_parts (is_plain_key key) (is_i64 exptime) fits in
    touch_is_good s key (body_at key s.items) exptime moment parts.1 early good (held_is_good s key good)
update_is_good s (Delete key None false) moment refused classic fits early good = delete_is_good s key (body_at key s.items) good (held_is_good s key good)
update_is_good s (Delete key None true) moment refused classic fits early good = absurd cc
update_is_good s (Delete key (Some number) invalidate) moment refused classic fits early good = absurd cc
update_is_good s (Count key counting) moment refused classic fits early good =
    let parts = and_parts (is_plain_key key) (is_good_counting counting) fits in
    let count = count_parts counting parts.1 in
    let a = and_parts (is_none counting.compare && is_none counting.create) (is_none counting.exptime) classic in
    let b = and_parts (is_none counting.compare) (is_none counting.create) a.0 in
    count_is_good s key (body_at key s.items) counting moment refused (none_is counting.compare b.0) (none_is counting.create b.1) count.exptime early good (held_is_good s key good)
update_is_good s (FlushAll delay) moment refused classic fits early good = record { cache = flush_is_good s delay moment good; reply = refl }

-- `ms`, `md` and `ma`
meta_update_is_good : (s : CacheState) (update : Update (List ℕ) (List ℕ)) (show : Show) (moment : ℕ) (refused : Bool) → is_askable (metas.Update update show) ≡ true
    → is_good_update is_byte_key is_good_block update ≡ true → moment < 2 ^ 63 → IsGoodCache s
    → IsGoodAnswer (atoms.Meta (metas.Update update show)) (meta_step s (metas.Update update show) moment refused)
meta_update_is_good s (Store mode compare key flags exptime block) show moment refused asks fits early good =
    let parts = store_parts is_byte_key mode compare key flags exptime block fits in
    let end = store_is_good_for_meta s mode compare key (body_at key s.items) (record { flags = flags; expiry = deadline_of exptime moment; won = false; value = block }) refused flags exptime block
    show moment good (held_is_good s key good) (record { flags = parts.flags_fit; expiry = deadline_is_good exptime moment parts.time early }) in
    record { cache = end.cache; reply = end.reply }
meta_update_is_good s (Delete key compare invalidate) show moment refused asks fits early good =
    let end = delete_is_good_for_meta s key (body_at key s.items) compare invalidate show moment (asks_nothing show asks) good (held_is_good s key good) in
    record { cache = end.cache; reply = end.reply }
meta_update_is_good s (Count key counting) show moment refused asks fits early good =
    let parts = and_parts (is_byte_key key) (is_good_counting counting) fits in
    let count = count_parts counting parts.1 in
    let end = count_is_good_for_meta s key (body_at key s.items) counting show moment refused count.create count.exptime early good (held_is_good s key good) in
    record { cache = end.cache; reply = end.reply }
meta_update_is_good s (Touch key exptime) show moment refused asks fits early good = absurd cc
meta_update_is_good s (FlushAll delay) show moment refused asks fits early good = absurd cc

-- `mg`
looked_at_is_good : (counter : ℕ) (get : MetaGet) (moment : ℕ) (body : Body) → is_where_some is_i64 get.exptime ≡ true → moment < 2 ^ 63 → IsGoodBody counter body
    → IsGoodBody counter (looked_at get moment body)
looked_at_is_good counter get moment body fits early good =
    record { flags = good.flags; expiry = expiry_is_good get.exptime moment body.expiry fits early good.expiry; cas = good.cas; value = good.value }

made_expiry : (exptime : Option ℤ) (create : ℤ) (moment : ℕ) → is_i64 create ≡ true → is_where_some is_i64 exptime ≡ true → moment < 2 ^ 63
    → IsGoodDeadline (deadline_of (unwrap_or exptime create) moment)
made_expiry None create moment makes fits early = deadline_is_good create moment makes early
made_expiry (Some exptime) create moment makes fits early = deadline_is_good exptime moment fits early

record IsGoodMadeEnd (key : List ℕ) (get : MetaGet) (moment : ℕ) (o : StepResult) : Type 0 where
  cache : IsGoodCache o.0
  reply : can_have_meta {K = List ℕ} {B = List ℕ} (metas.Get key get) (meta_reply_of get.show moment Won (body_at key o.0.items) o.1) ≡ true

meta_made_is_good : (s : CacheState) (key : List ℕ) (get : MetaGet) (create : Option ℤ) (moment : ℕ) (refused : Bool) → get.create ≡ create → is_where_some is_i64 create ≡ true
    → is_where_some is_i64 get.exptime ≡ true → moment < 2 ^ 63 → IsGoodCache s
    → IsGoodAnswer (atoms.Meta (metas.Get key get)) (meta_get_none s key get create moment refused)
meta_made_is_good s key get None moment refused is makes fits early good = record { cache = good; reply = refl }
meta_made_is_good s key get (Some create) moment refused is makes fits early good =
    let content : Content = made_by get.exptime create moment in
    let some : is_some get.create ≡ true = rw is refl in
    let fit : IsGoodContent content = record { flags = omega arith; expiry = made_expiry get.exptime create moment makes fits early } in
    let end : IsGoodMadeEnd key get moment (stored s key content refused Stored) =
    stored-ends (IsGoodMadeEnd key get moment) s key content refused Stored (record {
      too_large = record { cache = good; reply = rw some refl };
      used_up = record { cache = good; reply = rw some refl };
      out_of_memory = record { cache = good; reply = rw some refl };
      done = λ admitted. record {
        cache = stored_is_good s key content good admitted fit;
        reply = rw (content_first s key content good admitted)
            (shown_is_done (s.counter + 1) get.show moment Won (numbered content (s.counter + 1)) admitted.numbers (numbered_is_good s key content admitted fit));
      };
    }) in
    record { cache = end.cache; reply = end.reply }

meta_get_is_good : (s : CacheState) (key : List ℕ) (held : Option Body) (get : MetaGet) (moment : ℕ) (refused : Bool) → is_good_get get ≡ true → moment < 2 ^ 63
    → IsGoodCache s → IsGoodHeld s.counter held → IsGoodAnswer (atoms.Meta (metas.Get key get)) (meta_get_step s key held get moment refused)
meta_get_is_good s key None get moment refused fits early good was =
    let parts = get_parts get fits in
    meta_made_is_good s key get get.create moment refused refl parts.create parts.exptime early good
meta_get_is_good s key (Some body) get moment refused fits early good was =
    let parts = get_parts get fits in
    let after : IsGoodBody s.counter (looked_at get moment body) = looked_at_is_good s.counter get moment body parts.exptime early was in
    record {
      cache = put_is_good s key (looked_at get moment body) good after;
      reply = shown_is_done s.counter get.show moment (marks_of get.recache moment body) (looked_at get moment body) good.counter after;
    }

-- a command on a settled cache
settled_step_is_good : (s : CacheState) (atom : Atom (List ℕ)) (moment : ℕ) (refused : Bool) → is_good_atom atom ≡ true → moment < 2 ^ 63 → IsGoodCache s
    → IsGoodAnswer atom (settled_step s atom moment refused)
settled_step_is_good s (atoms.Get key exptime with_cas) moment refused fits early good =
    let parts = and_parts (is_plain_key key) (is_where_some is_i64 exptime) fits in
    get_is_good s key (body_at key s.items) exptime with_cas moment parts.1 early good (held_is_good s key good)
settled_step_is_good s (atoms.Update update) moment refused fits early good =
    let parts = and_parts (is_classic update) (is_good_update is_plain_key is_good_block update) fits in
    let end = update_is_good s update moment refused parts.0 parts.1 early good in
    record { cache = end.cache; reply = end.reply }
settled_step_is_good s (atoms.Meta (metas.Get key get)) moment refused fits early good =
    let parts = and_parts (is_byte_key key) (is_good_get get) fits in
    meta_get_is_good s key (body_at key s.items) get moment refused parts.1 early good (held_is_good s key good)
settled_step_is_good s (atoms.Meta (metas.Update update show)) moment refused fits early good =
    let parts = and_parts (is_askable (metas.Update update show)) (is_good_update is_byte_key is_good_block update) fits in
    meta_update_is_good s update show moment refused parts.0 parts.1 early good

step_is_good : (s : CacheState) (atom : Atom (List ℕ)) (moment : ℕ) (refused : Bool) → is_good_atom atom ≡ true → moment < 2 ^ 63 → IsGoodCache s
    → IsGoodAnswer atom (step_of s atom moment refused)
step_is_good s atom moment refused fits early good =
    settled_step_is_good (settled s (atom_key atom) moment) atom moment refused fits early (settled_is_good s (atom_key atom) moment good)

pub opening_is_good : (budget limit counter : ℕ) → 1 ≤ limit → counter < 2 ^ 64 → IsGoodCache (opening_cache budget limit counter)
opening_is_good budget limit counter some few = record { some_items = some; counter = few; items = All-nil (λ (item : List ℕ × Body). IsGoodBody counter item.1) }

pub stays_good : (s : CacheState) → IsGoodCache s → StaysGood s
stays_good s good atom fits moment early refused = (step_is_good s atom moment refused fits early good).cache

pub answers_as_it_can : (s : CacheState) → IsGoodCache s → AnswersAsItCan s
answers_as_it_can s good atom fits moment early refused = (step_is_good s atom moment refused fits early good).reply

-- along commands
pub answers_each_as_it_can : (s : CacheState) (commands : List Command) → IsGoodCache s → All IsGoodCommand commands → AnswersEachAsItCan s commands
answers_each_as_it_can s [] good each = (good, tt)
answers_each_as_it_can s (command ∷ commands) good each =
    let this : IsGoodCommand command = All-head IsGoodCommand command commands each in
    let step : IsGoodAnswer command.atom (command_step s command) = step_is_good s command.atom command.moment command.refused this.atom this.moment good in
    let rest : AnswersEachAsItCan (command_step s command).0 commands = answers_each_as_it_can (command_step s command).0 commands step.cache (All-tail IsGoodCommand command commands each) in
    (rest.0, (step.reply, rest.1))
