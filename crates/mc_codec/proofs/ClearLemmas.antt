-- The forms of replies are clear: no two forms of a command begin alike, no digit follows a number, and something
-- follows each block.
use Rattle.std.proofs.Common.{◌≡◌, ℕ, Bool, true, false, List, Option, Some, None, codes, refl, arith}
use Rattle.mc_text.specs.declared.blocks.TheConstants.{VALUE_LIMIT}
use Rattle.mc_text.specs.Forms.{Form, Text, Number, Or}
use Rattle.mc_text.proofs.FormLaws.{IsClear}
use Rattle.mc_text.proofs.LeadLemmas.{leads, all_differ, clear_or, clear_number, clear_lines, after_number_if, IsAfter}
use Rattle.mc_request.specs.declared.faults.Fault.TheVariants.{CasUsedUp}
use Rattle.mc_request.specs.declared.meta.Show.{Show}
use Rattle.mc_reply.specs.declared.replies.Marks.{Marks}
use Rattle.mc_reply.specs.declared.replies.Marks.TheVariants.{Plain}
use Rattle.mc_reply.specs.declared.replies.Shown.{Shown}
use Rattle.mc_reply.specs.declared.replies.Reply.TheVariants as replies
use Rattle.mc_reply.specs.Spelling.{end_line}
use Rattle.mc_codec.specs.ReplyForms.{Answer, line, update_line, store_faults, count_faults, store_form, number_end, number_line, count_form, hit_value, hit_size, hit, get_form}
use Rattle.mc_codec.specs.MetaForms.{code_line, left_if, end_if, shown_by, after_line, shown_form, unmet_form, meta_get_form, meta_store_form, meta_delete_form, meta_count_form}
use Rattle.mc_codec.specs.declared.limits.TheConstants.{FLAGS_LIMIT, NUMBER_LIMIT}

-- classic commands

pub clear_store : (conditional compares : Bool) → IsClear (store_form conditional compares)
clear_store true true = clear_lines (store_form true true) refl
clear_store true false = clear_lines (store_form true false) refl
clear_store false true = clear_lines (store_form false true) refl
clear_store false false = clear_lines (store_form false false) refl

clear_number_line : IsClear number_line
clear_number_line = clear_number NUMBER_LIMIT number_end (omega arith) (λ n. record { clear = tt; leads = refl })

pub clear_count : IsClear count_form
clear_count =
    let uncounted = Or (update_line replies.NotFound) count_faults in
    clear_or number_line uncounted clear_number_line (clear_lines uncounted refl) refl

clear_hit_value : (flags size : ℕ) (cas : Option ℕ) → IsClear (hit_value flags size cas)
clear_hit_value flags size cas = (λ value p. omega arith, λ value. tt)

after_hit_size : (with_cas : Bool) (flags : ℕ) → IsAfter (hit_size with_cas flags)
after_hit_size with_cas flags = grind (arith, codes, leads, clear_number, after_number_if, clear_hit_value)

clear_hit : (key : List ℕ) (with_cas : Bool) → IsClear (hit key with_cas)
clear_hit key with_cas = clear_number FLAGS_LIMIT (hit_size with_cas) (omega arith) (after_hit_size with_cas)

pub clear_get : (key : List ℕ) (with_cas : Bool) → IsClear (get_form key with_cas)
clear_get key with_cas = clear_or (hit key with_cas) (line end_line replies.Miss) (clear_hit key with_cas) tt refl

-- meta commands

after_left_if : (asked : Bool) (f : Option (Option ℕ) → Form Answer) → ((left : Option (Option ℕ)) → IsAfter (f left)) → IsAfter (left_if asked f)
after_left_if true f h = record {
  clear = clear_or (Text (codes "-1") (f (Some None))) (Number NUMBER_LIMIT (λ n. f (Some (Some n)))) (h (Some None)).clear
      (clear_number NUMBER_LIMIT (λ n. f (Some (Some n))) (omega arith) (λ n. h (Some (Some n)))) refl;
  leads = refl;
}
after_left_if false f h = h None

after_end_if : (marked : Bool) (f : Marks → Form Answer) → ((marks : Marks) → IsClear (f marks)) → IsAfter (end_if marked f)
after_end_if true f h = grind (arith, codes, leads, clear_or)
after_end_if false f h = record { clear = h Plain; leads = refl }

after_shown : (marked : Bool) (show : Show) (f : Shown → Form Answer) → ((shown : Shown) → IsClear (f shown)) → IsAfter (shown_by marked show f)
after_shown marked show f h =
    after_number_if show.cas (codes " c") NUMBER_LIMIT _ refl (omega arith) (λ cas.
    after_number_if show.flags (codes " f") FLAGS_LIMIT _ refl (omega arith) (λ flags.
    after_number_if show.size (codes " s") VALUE_LIMIT _ refl (omega arith) (λ size.
    after_left_if show.left _ (λ left.
    after_end_if marked _ (λ marks. h _)))))

clear_after : (size : Option ℕ) (shown : Shown) → IsClear (after_line size shown)
clear_after None shown = tt
clear_after (Some size) shown = (λ value p. omega arith, λ value. tt)

clear_shown : (marked : Bool) (show : Show) (value : Bool) → IsClear (shown_form marked show value)
clear_shown marked show false = (after_shown marked show (after_line None) (clear_after None)).clear
clear_shown marked show true =
    clear_number VALUE_LIMIT (λ size. shown_by marked show (after_line (Some size))) (omega arith) (λ size. after_shown marked show (after_line (Some size)) (clear_after (Some size)))

-- what is shown, and what else is answered
clear_meta : (marked : Bool) (show : Show) (value : Bool) (other : Form Answer) → IsClear other
    → all_differ (leads (shown_form marked show true)) (leads other) ≡ true → all_differ (leads (shown_form marked show false)) (leads other) ≡ true
    → IsClear (Or (shown_form marked show value) other)
clear_meta marked show true other clear with_value without = clear_or (shown_form marked show true) other (clear_shown marked show true) clear with_value
clear_meta marked show false other clear with_value without = clear_or (shown_form marked show false) other (clear_shown marked show false) clear without

pub clear_meta_get : (creates : Bool) (show : Show) → IsClear (meta_get_form creates show)
clear_meta_get true show = clear_meta true show show.value (Or store_faults (code_line replies.Miss)) (clear_lines (Or store_faults (code_line replies.Miss)) refl) refl refl
clear_meta_get false show = clear_meta true show show.value (code_line replies.Miss) tt refl refl

pub clear_meta_store : (show : Show) → IsClear (meta_store_form show)
clear_meta_store show =
    let unstored = Or (code_line replies.NotStored) (Or unmet_form store_faults) in
    clear_meta false show show.value unstored (clear_lines unstored refl) refl refl

pub clear_meta_delete : (invalidate : Bool) (show : Show) → IsClear (meta_delete_form invalidate show)
clear_meta_delete true show =
    let undeleted = Or (update_line (replies.Fault CasUsedUp)) unmet_form in
    clear_meta false show show.value undeleted (clear_lines undeleted refl) refl refl
clear_meta_delete false show = clear_meta false show show.value unmet_form (clear_lines unmet_form refl) refl refl

pub clear_meta_count : (show : Show) → IsClear (meta_count_form show)
clear_meta_count show =
    let uncounted = Or unmet_form count_faults in
    clear_meta false show show.value uncounted (clear_lines uncounted refl) refl refl
