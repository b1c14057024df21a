-- The forms of the replies to meta commands cover their spellings.
use Rattle.std.proofs.Common.{◌≡◌, ℕ, Bool, true, false, List, Option, ℤ, refl, arith}
use Rattle.std.specs.Option.{is_some}
use Rattle.mc_text.specs.Forms.{Or, Path, or_if}
use Rattle.mc_text.proofs.CoverLaws.{Holds, Spells, Covers, of_line, of_or, of_or_if, to_line, to_left, to_right, to_if, to_after}
use Rattle.mc_request.specs.declared.faults.Fault.{Fault}
use Rattle.mc_request.specs.declared.faults.Fault.TheVariants.{CasUsedUp}
use Rattle.mc_request.specs.declared.meta.Counting.{Counting}
use Rattle.mc_request.specs.declared.meta.MetaCommand.{MetaCommand}
use Rattle.mc_request.specs.declared.meta.MetaCommand.TheVariants as metas
use Rattle.mc_request.specs.declared.meta.MetaGet.{MetaGet}
use Rattle.mc_request.specs.declared.meta.Show.{Show}
use Rattle.mc_request.specs.declared.parts.Atom.TheVariants as atoms
use Rattle.mc_request.specs.declared.parts.StoreMode.{StoreMode}
use Rattle.mc_request.specs.declared.parts.Update.TheVariants as updates
use Rattle.mc_reply.specs.declared.replies.Reply.TheVariants as replies
use Rattle.mc_reply.specs.declared.replies.Shown.{Shown}
use Rattle.mc_reply.specs.CanHave.{can_have, is_cas_fault, is_done, is_done_unmarked, is_store_fault, is_unmarked}
use Rattle.mc_reply.specs.MetaSpelling.{meta_spelling}
use Rattle.mc_reply.specs.Spelling.{reply_line, spelling_of}
use Rattle.mc_codec.specs.ReplyForms.{Answer, update_line, store_faults, count_faults}
use Rattle.mc_codec.specs.MetaForms.{code_line, shown_form, unmet_form, meta_get_form, meta_store_form, meta_delete_form, meta_count_form}
use Rattle.mc_codec.proofs.ClassicLemmas.{Head, of_store_faults, of_count_faults, to_store_fault, to_count_fault}
use Rattle.mc_codec.proofs.ClearLemmas.{clear_meta_get, clear_meta_store, clear_meta_delete, clear_meta_count}
use Rattle.mc_codec.proofs.LimitLemmas.{all_two, two_of}
use Rattle.mc_codec.proofs.ShownLemmas.{may_mark, of_meta, to_meta}

abbrev meta_head : MetaCommand (List ℕ) (Unit {0}) → Head
meta_head command = atoms.Meta command

-- what is shown

of_shown : (head : Head) (marked : Bool) (show : Show)
    → ((shown : Shown) (value : Option (List ℕ)) → is_done show shown value ≡ true → may_mark marked shown.marks ≡ true → can_have head (replies.Meta shown value) ≡ true)
    → ((shown : Shown) (value : Option (List ℕ)) → spelling_of head (replies.Meta shown value) ≡ meta_spelling (replies.Meta shown value))
    → (p : Path (shown_form marked show show.value)) → Holds (shown_form marked show show.value) (can_have head) (spelling_of head) p
of_shown head marked show can same p =
    let m = of_meta marked show show.value p in
    grind (arith, all_two)

to_shown : (marked : Bool) (show : Show) (shown : Shown) (value : Option (List ℕ)) → is_done show shown value ≡ true → may_mark marked shown.marks ≡ true
    → Spells (shown_form marked show show.value) (replies.Meta shown value) (meta_spelling (replies.Meta shown value))
to_shown marked show shown value done marks = grind (arith, two_of, to_meta)

-- only `mg` has marks
unmarked : (show : Show) (shown : Shown) (value : Option (List ℕ)) → is_done show shown value ≡ true → is_unmarked shown.marks ≡ true → is_done_unmarked show shown value ≡ true
unmarked show shown value done marks = all_two (is_unmarked shown.marks) (is_done show shown value) marks done

to_unmarked : (show : Show) (shown : Shown) (value : Option (List ℕ)) → is_done_unmarked show shown value ≡ true
    → Spells (shown_form false show show.value) (replies.Meta shown value) (meta_spelling (replies.Meta shown value))
to_unmarked show shown value can = grind (arith, two_of, to_shown)

of_unmet : (head : Head) → can_have head replies.Exists ≡ true → can_have head replies.NotFound ≡ true
    → spelling_of head replies.Exists ≡ meta_spelling replies.Exists → spelling_of head replies.NotFound ≡ meta_spelling replies.NotFound
    → (p : Path unmet_form) → Holds unmet_form (can_have head) (spelling_of head) p
of_unmet head can can_not same same_not = grind (arith, of_line, of_or)

-- mg

to_meta_get : (key : List ℕ) (get : MetaGet) (r : Answer) → can_have (meta_head (metas.Get key get)) r ≡ true
    → Spells (meta_get_form (is_some get.create) get.show) r (meta_spelling r)
to_meta_get key get replies.Miss can = to_right _ _ _ _ (to_after (is_some get.create) _ _ _ _ (to_line _ _))
to_meta_get key get (replies.Meta shown value) can = to_left _ _ _ _ (to_shown true get.show shown value can refl)
to_meta_get key get (replies.Fault fault) can =
    let parts = two_of (is_some get.create) (is_store_fault fault) can in
    to_right _ _ _ _ (to_if (is_some get.create) _ _ _ _ parts.0 (to_store_fault fault parts.1))
to_meta_get key get other can = absurd (cc)

pub covers_meta_get : (key : List ℕ) (get : MetaGet)
    → Covers (meta_get_form (is_some get.create) get.show) (can_have (meta_head (metas.Get key get))) (spelling_of (meta_head (metas.Get key get)))
covers_meta_get key get =
    let head = meta_head (metas.Get key get) in
    record {
      clear = clear_meta_get (is_some get.create) get.show;
      of_path = of_or (can_have head) (spelling_of head) (shown_form true get.show get.show.value) (or_if (is_some get.create) store_faults (code_line replies.Miss))
          (of_shown head true get.show (λ shown value done marks. done) (λ shown value. refl))
          (of_or_if (can_have head) (spelling_of head) (is_some get.create) store_faults (code_line replies.Miss)
          (λ creates. of_store_faults (can_have head) (spelling_of head) (λ fault is. all_two (is_some get.create) (is_store_fault fault) creates is) (λ fault. refl))
          (of_line (can_have head) (spelling_of head) (meta_spelling replies.Miss) replies.Miss refl refl));
      to_path = to_meta_get key get;
    }

-- ms

to_meta_store : (mode : StoreMode) (compare : Option ℕ) (key : List ℕ) (flags : ℕ) (exptime : ℤ) (block : Unit {0}) (show : Show) (r : Answer)
    → can_have (meta_head (metas.Update (updates.Store mode compare key flags exptime block) show)) r ≡ true
    → Spells (meta_store_form show) r (meta_spelling r)
to_meta_store mode compare key flags exptime block show (replies.Meta shown value) can = to_left _ _ _ _ (to_unmarked show shown value can)
to_meta_store mode compare key flags exptime block show replies.NotStored can = to_right _ _ _ _ (to_left _ _ _ _ (to_line _ _))
to_meta_store mode compare key flags exptime block show replies.Exists can = to_right _ _ _ _ (to_right _ _ _ _ (to_left _ _ _ _ (to_left _ _ _ _ (to_line _ _))))
to_meta_store mode compare key flags exptime block show replies.NotFound can = to_right _ _ _ _ (to_right _ _ _ _ (to_left _ _ _ _ (to_right _ _ _ _ (to_line _ _))))
to_meta_store mode compare key flags exptime block show (replies.Fault fault) can = to_right _ _ _ _ (to_right _ _ _ _ (to_right _ _ _ _ (to_store_fault fault can)))
to_meta_store mode compare key flags exptime block show other can = absurd (cc)

pub covers_meta_store : (mode : StoreMode) (compare : Option ℕ) (key : List ℕ) (flags : ℕ) (exptime : ℤ) (block : Unit {0}) (show : Show)
    → Covers (meta_store_form show) (can_have (meta_head (metas.Update (updates.Store mode compare key flags exptime block) show)))
    (spelling_of (meta_head (metas.Update (updates.Store mode compare key flags exptime block) show)))
covers_meta_store mode compare key flags exptime block show =
    let head = meta_head (metas.Update (updates.Store mode compare key flags exptime block) show) in
    record {
      clear = clear_meta_store show;
      of_path = of_or (can_have head) (spelling_of head) (shown_form false show show.value) (Or (code_line replies.NotStored) (Or unmet_form store_faults))
          (of_shown head false show (unmarked show) (λ shown value. refl))
          (of_or (can_have head) (spelling_of head) (code_line replies.NotStored) (Or unmet_form store_faults)
          (of_line (can_have head) (spelling_of head) (meta_spelling replies.NotStored) replies.NotStored refl refl)
          (of_or (can_have head) (spelling_of head) unmet_form store_faults (of_unmet head refl refl refl refl)
          (of_store_faults (can_have head) (spelling_of head) (λ fault is. is) (λ fault. refl))));
      to_path = to_meta_store mode compare key flags exptime block show;
    }

-- md

cas_fault : (fault : Fault) → is_cas_fault fault ≡ true → fault ≡ CasUsedUp
cas_fault CasUsedUp is = refl
cas_fault other is = absurd (cc)

to_cas_fault : (fault : Fault) → fault ≡ CasUsedUp → Spells (update_line (replies.Fault CasUsedUp)) (replies.Fault fault) (meta_spelling (replies.Fault fault))
to_cas_fault fault is = rw is (to_line _ _)

to_meta_delete : (key : List ℕ) (compare : Option ℕ) (invalidate : Bool) (show : Show) (r : Answer)
    → can_have (meta_head (metas.Update (updates.Delete key compare invalidate) show)) r ≡ true → Spells (meta_delete_form invalidate show) r (meta_spelling r)
to_meta_delete key compare invalidate show (replies.Meta shown value) can = to_left _ _ _ _ (to_unmarked show shown value can)
to_meta_delete key compare invalidate show replies.Exists can = to_right _ _ _ _ (to_after invalidate _ _ _ _ (to_left _ _ _ _ (to_line _ _)))
to_meta_delete key compare invalidate show replies.NotFound can = to_right _ _ _ _ (to_after invalidate _ _ _ _ (to_right _ _ _ _ (to_line _ _)))
to_meta_delete key compare invalidate show (replies.Fault fault) can =
    let parts = two_of invalidate (is_cas_fault fault) can in
    to_right _ _ _ _ (to_if invalidate _ _ _ _ parts.0 (to_cas_fault fault (cas_fault fault parts.1)))
to_meta_delete key compare invalidate show other can = absurd (cc)

pub covers_meta_delete : (key : List ℕ) (compare : Option ℕ) (invalidate : Bool) (show : Show)
    → Covers (meta_delete_form invalidate show) (can_have (meta_head (metas.Update (updates.Delete key compare invalidate) show)))
    (spelling_of (meta_head (metas.Update (updates.Delete key compare invalidate) show)))
covers_meta_delete key compare invalidate show =
    let head = meta_head (metas.Update (updates.Delete key compare invalidate) show) in
    record {
      clear = clear_meta_delete invalidate show;
      of_path = of_or (can_have head) (spelling_of head) (shown_form false show show.value) (or_if invalidate (update_line (replies.Fault CasUsedUp)) unmet_form)
          (of_shown head false show (unmarked show) (λ shown value. refl))
          (of_or_if (can_have head) (spelling_of head) invalidate (update_line (replies.Fault CasUsedUp)) unmet_form
          (λ is. of_line (can_have head) (spelling_of head) (reply_line (replies.Fault CasUsedUp)) (replies.Fault CasUsedUp)
          (all_two invalidate (is_cas_fault CasUsedUp) is refl) refl)
          (of_unmet head refl refl refl refl));
      to_path = to_meta_delete key compare invalidate show;
    }

-- ma

to_meta_count : (key : List ℕ) (counting : Counting) (show : Show) (r : Answer)
    → can_have (meta_head (metas.Update (updates.Count key counting) show)) r ≡ true → Spells (meta_count_form show) r (meta_spelling r)
to_meta_count key counting show (replies.Meta shown value) can = to_left _ _ _ _ (to_unmarked show shown value can)
to_meta_count key counting show replies.Exists can = to_right _ _ _ _ (to_left _ _ _ _ (to_left _ _ _ _ (to_line _ _)))
to_meta_count key counting show replies.NotFound can = to_right _ _ _ _ (to_left _ _ _ _ (to_right _ _ _ _ (to_line _ _)))
to_meta_count key counting show (replies.Fault fault) can = to_right _ _ _ _ (to_right _ _ _ _ (to_count_fault fault can))
to_meta_count key counting show other can = absurd (cc)

pub covers_meta_count : (key : List ℕ) (counting : Counting) (show : Show)
    → Covers (meta_count_form show) (can_have (meta_head (metas.Update (updates.Count key counting) show)))
    (spelling_of (meta_head (metas.Update (updates.Count key counting) show)))
covers_meta_count key counting show =
    let head = meta_head (metas.Update (updates.Count key counting) show) in
    record {
      clear = clear_meta_count show;
      of_path = of_or (can_have head) (spelling_of head) (shown_form false show show.value) (Or unmet_form count_faults)
          (of_shown head false show (unmarked show) (λ shown value. refl))
          (of_or (can_have head) (spelling_of head) unmet_form count_faults (of_unmet head refl refl refl refl)
          (of_count_faults (can_have head) (spelling_of head) (λ fault is. is) (λ fault. refl)));
      to_path = to_meta_count key counting show;
    }
