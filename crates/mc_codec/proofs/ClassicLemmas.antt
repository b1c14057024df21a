-- The forms of the replies to classic commands cover their spellings.
use Rattle.std.proofs.Common.{◌≡◌, ℕ, Bool, true, List, ◌++◌, length, Option, Some, None, codes, ℤ, refl, ap, ◌∙◌, arith}
use Rattle.std.specs.Fmt.{decimal}
use Rattle.std.specs.Option.{is_some}
use Rattle.mc_text.specs.Forms.{Or, Path, or_if}
use Rattle.mc_text.proofs.LeadLemmas.{clear_lines}
use Rattle.mc_text.proofs.CoverLaws.{Holds, Spells, Covers, of_line, of_or, of_or_if, to_line, to_left, to_right, to_if, to_after}
use Rattle.mc_request.specs.WellFormed.{is_good_block, is_u64}
use Rattle.mc_request.specs.declared.faults.Fault.{Fault}
use Rattle.mc_request.specs.declared.faults.Fault.TheVariants.{NonNumeric, TooLarge, CasUsedUp, OutOfMemory}
use Rattle.mc_request.specs.declared.meta.Counting.{Counting}
use Rattle.mc_request.specs.declared.parts.Atom.{Atom}
use Rattle.mc_request.specs.declared.parts.Atom.TheVariants as atoms
use Rattle.mc_request.specs.declared.parts.StoreMode.{StoreMode}
use Rattle.mc_request.specs.declared.parts.Update.{Update}
use Rattle.mc_request.specs.declared.parts.Update.TheVariants as updates
use Rattle.mc_reply.specs.declared.replies.Reply.TheVariants as replies
use Rattle.mc_reply.specs.CanHave.{can_have, is_as_asked, is_conditional, is_count_fault, is_store_fault, is_u32}
use Rattle.mc_reply.specs.MetaSpelling.{number_flag_onto}
use Rattle.mc_reply.specs.Spelling.{cas_onto, end_line, reply_line, spelling_of}
use Rattle.mc_codec.specs.ReplyForms.{Answer, line, update_line, store_faults, count_faults, compared_form, store_form, number_line, count_form, update_form, hit_value, hit, get_form}
use Rattle.mc_codec.specs.declared.limits.TheConstants.{NUMBER_LIMIT}
use Rattle.mc_codec.proofs.ClearLemmas.{clear_store, clear_count, clear_get}
use Rattle.mc_codec.proofs.LimitLemmas.{u64_fits, fits_u64, u32_fits, fits_u32, block_fits, fits_block, all_three, three_of}
use Rattle.mc_codec.proofs.ShownLemmas.{of_number, to_number}

-- a command without its data block
abbrev pub Head : Type 0
Head = Atom (Unit {0})

-- errors

pub of_store_faults : (may : Answer → Bool) (spell : Answer → List ℕ) → ((fault : Fault) → is_store_fault fault ≡ true → may (replies.Fault fault) ≡ true)
    → ((fault : Fault) → spell (replies.Fault fault) ≡ reply_line (replies.Fault fault)) → (p : Path store_faults) → Holds store_faults may spell p
of_store_faults may spell can same p = grind (arith, of_line, of_or)

pub of_count_faults : (may : Answer → Bool) (spell : Answer → List ℕ) → ((fault : Fault) → is_count_fault fault ≡ true → may (replies.Fault fault) ≡ true)
    → ((fault : Fault) → spell (replies.Fault fault) ≡ reply_line (replies.Fault fault)) → (p : Path count_faults) → Holds count_faults may spell p
of_count_faults may spell can same p = grind (arith, of_line, of_or, of_store_faults)
  where
    counted : (fault : Fault) → is_store_fault fault ≡ true → is_count_fault fault ≡ true
    counted TooLarge is = refl
    counted CasUsedUp is = refl
    counted OutOfMemory is = refl
    counted other is = absurd (cc)

pub to_store_fault : (fault : Fault) → is_store_fault fault ≡ true → Spells store_faults (replies.Fault fault) (reply_line (replies.Fault fault))
to_store_fault TooLarge is = to_left _ _ _ _ (to_line _ _)
to_store_fault CasUsedUp is = to_right _ _ _ _ (to_left _ _ _ _ (to_line _ _))
to_store_fault OutOfMemory is = to_right _ _ _ _ (to_right _ _ _ _ (to_line _ _))
to_store_fault other is = absurd (cc)

pub to_count_fault : (fault : Fault) → is_count_fault fault ≡ true → Spells count_faults (replies.Fault fault) (reply_line (replies.Fault fault))
to_count_fault NonNumeric is = to_left _ _ _ _ (to_line _ _)
to_count_fault TooLarge is = to_right _ _ _ _ (to_store_fault TooLarge refl)
to_count_fault CasUsedUp is = to_right _ _ _ _ (to_store_fault CasUsedUp refl)
to_count_fault OutOfMemory is = to_right _ _ _ _ (to_store_fault OutOfMemory refl)
to_count_fault other is = absurd (cc)

-- retrieval

cas_is : (cas : Option ℕ) (rest : List ℕ) → number_flag_onto (codes " ") cas rest ≡ cas_onto cas rest
cas_is None rest = refl
cas_is (Some n) rest = refl

-- the head of a retrieval command
abbrev get_head : List ℕ → Option ℤ → Bool → Head
get_head key exptime with_cas = atoms.Get key exptime with_cas

of_hit : (key : List ℕ) (exptime : Option ℤ) (with_cas : Bool) (p : Path (hit key with_cas))
    → Holds (hit key with_cas) (can_have (get_head key exptime with_cas)) (spelling_of (get_head key exptime with_cas)) p
of_hit key exptime with_cas p =
    let flags = p.0 in
    let size = p.2.0 in
    let cas = of_number with_cas is_u64 (codes " ") NUMBER_LIMIT (hit_value flags size) u64_fits p.2.2 in
    grind (arith, codes, u32_fits, block_fits, all_three, cas_is)

to_hit : (key : List ℕ) (exptime : Option ℤ) (with_cas : Bool) (flags : ℕ) (cas : Option ℕ) (value : List ℕ)
    → can_have (get_head key exptime with_cas) (replies.Hit flags cas value) ≡ true
    → Spells (hit key with_cas) (replies.Hit flags cas value) (spelling_of (get_head key exptime with_cas) (replies.Hit flags cas value))
to_hit key exptime with_cas flags cas value can =
    let fit = three_of (is_u32 flags) (is_as_asked is_u64 with_cas cas) (is_good_block value) can in
    let p = to_number with_cas is_u64 (codes " ") NUMBER_LIMIT (hit_value flags (length value)) fits_u64 cas fit.1 (value, refl, tt) in
    record {
      path = (flags, fits_u32 flags fit.0, (length value, fits_block value fit.2, p.path));
      means = p.means;
      spelled = ap (λ (w : List ℕ). codes "VALUE " ++ (key ++ (codes " " ++ (decimal flags ++ (codes " " ++ (decimal (length value) ++ w)))))) (p.spelled ∙ cas_is cas _);
    }

to_get : (key : List ℕ) (exptime : Option ℤ) (with_cas : Bool) (r : Answer) → can_have (get_head key exptime with_cas) r ≡ true
    → Spells (get_form key with_cas) r (spelling_of (get_head key exptime with_cas) r)
to_get key exptime with_cas replies.Miss can = to_right _ _ _ _ (to_line _ _)
to_get key exptime with_cas (replies.Hit flags cas value) can = to_left _ _ _ _ (to_hit key exptime with_cas flags cas value can)
to_get key exptime with_cas other can = absurd (cc)

pub covers_get : (key : List ℕ) (exptime : Option ℤ) (with_cas : Bool)
    → Covers (get_form key with_cas) (can_have (get_head key exptime with_cas)) (spelling_of (get_head key exptime with_cas))
covers_get key exptime with_cas =
    let may = can_have (get_head key exptime with_cas) in
    let spell = spelling_of (get_head key exptime with_cas) in
    record {
      clear = clear_get key with_cas;
      of_path = of_or may spell (hit key with_cas) (line end_line replies.Miss) (of_hit key exptime with_cas) (of_line may spell end_line replies.Miss refl refl);
      to_path = to_get key exptime with_cas;
    }

-- stores

abbrev update_head : Update (List ℕ) (Unit {0}) → Head
update_head update = atoms.Update update

to_store : (mode : StoreMode) (compare : Option ℕ) (key : List ℕ) (flags : ℕ) (exptime : ℤ) (block : Unit {0}) (r : Answer)
    → can_have (update_head (updates.Store mode compare key flags exptime block)) r ≡ true
    → Spells (store_form (is_conditional mode) (is_some compare)) r (reply_line r)
to_store mode compare key flags exptime block replies.Stored can = to_left _ _ _ _ (to_line _ _)
to_store mode compare key flags exptime block replies.NotStored can = to_right _ _ _ _ (to_if (is_conditional mode) _ _ _ _ can (to_line _ _))
to_store mode compare key flags exptime block replies.Exists can =
    to_right _ _ _ _ (to_after (is_conditional mode) _ _ _ _ (to_if (is_some compare) _ _ _ _ can (to_left _ _ _ _ (to_line _ _))))
to_store mode compare key flags exptime block replies.NotFound can =
    to_right _ _ _ _ (to_after (is_conditional mode) _ _ _ _ (to_if (is_some compare) _ _ _ _ can (to_right _ _ _ _ (to_line _ _))))
to_store mode compare key flags exptime block (replies.Fault fault) can =
    to_right _ _ _ _ (to_after (is_conditional mode) _ _ _ _ (to_after (is_some compare) _ _ _ _ (to_store_fault fault can)))
to_store mode compare key flags exptime block other can = absurd (cc)

covers_store : (mode : StoreMode) (compare : Option ℕ) (key : List ℕ) (flags : ℕ) (exptime : ℤ) (block : Unit {0})
    → Covers (store_form (is_conditional mode) (is_some compare)) (can_have (update_head (updates.Store mode compare key flags exptime block)))
    (spelling_of (update_head (updates.Store mode compare key flags exptime block)))
covers_store mode compare key flags exptime block =
    let head = update_head (updates.Store mode compare key flags exptime block) in
    let unmet = Or (update_line replies.Exists) (update_line replies.NotFound) in
    let other = or_if (is_conditional mode) (update_line replies.NotStored) (compared_form (is_some compare)) in
    record {
      clear = clear_store (is_conditional mode) (is_some compare);
      of_path = of_or (can_have head) (spelling_of head) (update_line replies.Stored) other
          (of_line (can_have head) (spelling_of head) (reply_line replies.Stored) replies.Stored refl refl)
          (of_or_if (can_have head) (spelling_of head) (is_conditional mode) (update_line replies.NotStored) (compared_form (is_some compare))
          (λ can. of_line (can_have head) (spelling_of head) (reply_line replies.NotStored) replies.NotStored can refl)
          (of_or_if (can_have head) (spelling_of head) (is_some compare) unmet store_faults
          (λ can. of_or (can_have head) (spelling_of head) (update_line replies.Exists) (update_line replies.NotFound)
          (of_line (can_have head) (spelling_of head) (reply_line replies.Exists) replies.Exists can refl)
          (of_line (can_have head) (spelling_of head) (reply_line replies.NotFound) replies.NotFound can refl))
          (of_store_faults (can_have head) (spelling_of head) (λ fault is. is) (λ fault. refl))));
      to_path = to_store mode compare key flags exptime block;
    }

-- counts

to_count : (key : List ℕ) (counting : Counting) (r : Answer) → can_have (update_head (updates.Count key counting)) r ≡ true → Spells count_form r (reply_line r)
to_count key counting (replies.Number n) can = to_left _ _ _ _ (record { path = (n, fits_u64 n can, tt); means = refl; spelled = refl })
to_count key counting replies.NotFound can = to_right _ _ _ _ (to_left _ _ _ _ (to_line _ _))
to_count key counting (replies.Fault fault) can = to_right _ _ _ _ (to_right _ _ _ _ (to_count_fault fault can))
to_count key counting other can = absurd (cc)

covers_count : (key : List ℕ) (counting : Counting)
    → Covers count_form (can_have (update_head (updates.Count key counting))) (spelling_of (update_head (updates.Count key counting)))
covers_count key counting =
    let head = update_head (updates.Count key counting) in
    record {
      clear = clear_count;
      of_path = of_or (can_have head) (spelling_of head) number_line (Or (update_line replies.NotFound) count_faults)
          (λ p. record { value = replies.Number p.0; means = refl; allowed = u64_fits p.0 p.1; spelled = refl })
          (of_or (can_have head) (spelling_of head) (update_line replies.NotFound) count_faults
          (of_line (can_have head) (spelling_of head) (reply_line replies.NotFound) replies.NotFound refl refl)
          (of_count_faults (can_have head) (spelling_of head) (λ fault is. is) (λ fault. refl)));
      to_path = to_count key counting;
    }

-- the others

to_touch : (key : List ℕ) (exptime : ℤ) (r : Answer) → can_have (update_head (updates.Touch key exptime)) r ≡ true
    → Spells (Or (update_line replies.Touched) (update_line replies.NotFound)) r (reply_line r)
to_touch key exptime replies.Touched can = to_left _ _ _ _ (to_line _ _)
to_touch key exptime replies.NotFound can = to_right _ _ _ _ (to_line _ _)
to_touch key exptime other can = absurd (cc)

to_delete : (key : List ℕ) (compare : Option ℕ) (invalidate : Bool) (r : Answer) → can_have (update_head (updates.Delete key compare invalidate)) r ≡ true
    → Spells (Or (update_line replies.Deleted) (update_line replies.NotFound)) r (reply_line r)
to_delete key compare invalidate replies.Deleted can = to_left _ _ _ _ (to_line _ _)
to_delete key compare invalidate replies.NotFound can = to_right _ _ _ _ (to_line _ _)
to_delete key compare invalidate other can = absurd (cc)

to_flush : (delay : ℤ) (r : Answer) → can_have (update_head (updates.FlushAll delay)) r ≡ true → Spells (update_line replies.Flushed) r (reply_line r)
to_flush delay replies.Flushed can = to_line _ _
to_flush delay other can = absurd (cc)

-- one line, or the line of a missing key
of_lines : (head : Head) (r : Answer) → can_have head r ≡ true → can_have head replies.NotFound ≡ true → spelling_of head r ≡ reply_line r
    → spelling_of head replies.NotFound ≡ reply_line replies.NotFound → (p : Path (Or (update_line r) (update_line replies.NotFound)))
    → Holds (Or (update_line r) (update_line replies.NotFound)) (can_have head) (spelling_of head) p
of_lines head r can can_not same same_not =
    of_or (can_have head) (spelling_of head) (update_line r) (update_line replies.NotFound)
    (of_line (can_have head) (spelling_of head) (reply_line r) r can same)
    (of_line (can_have head) (spelling_of head) (reply_line replies.NotFound) replies.NotFound can_not same_not)

pub covers_update : (update : Update (List ℕ) (Unit {0})) → Covers (update_form update) (can_have (update_head update)) (spelling_of (update_head update))
covers_update (updates.Store mode compare key flags exptime block) = covers_store mode compare key flags exptime block
covers_update (updates.Touch key exptime) = record {
  clear = clear_lines (Or (update_line replies.Touched) (update_line replies.NotFound)) refl;
  of_path = of_lines (update_head (updates.Touch key exptime)) replies.Touched refl refl refl refl;
  to_path = to_touch key exptime;
}
covers_update (updates.Delete key compare invalidate) = record {
  clear = clear_lines (Or (update_line replies.Deleted) (update_line replies.NotFound)) refl;
  of_path = of_lines (update_head (updates.Delete key compare invalidate)) replies.Deleted refl refl refl refl;
  to_path = to_delete key compare invalidate;
}
covers_update (updates.Count key counting) = covers_count key counting
covers_update (updates.FlushAll delay) = grind (arith, clear_lines, of_line, to_flush)
