-- What is read for a command, by its head, is what is spelled.
use Rattle.std.proofs.Common.{◌≡◌, ◌≢◌, ◌∙◌, ℕ, ℤ, ◌+◌, ◌-◌, ◌<◌, ◌≤◌, Bool, true, false, List, [], ◌++◌, length, take, append_assoc, append-nil, ◌⊎◌, inl, inr, Option, Some, None, Result, Ok, Err, refl, sym, ap, subst, arith}
use Rattle.std.proofs.lemmas.List.{length-append}
use Rattle.std.specs.Option.{is_some}
use Rattle.std.specs.Prelude.{◌↔◌, IsTrue, OnErr}
use Rattle.std.specs.Result.{is_ok}
use Rattle.mc_text.specs.Forms.{Form, Or, or_if, read, text_at, number_at}
use Rattle.mc_text.specs.FormsSeen.{seen_by}
use Rattle.mc_text.specs.declared.unready.Unready.{Unready}
use Rattle.mc_text.specs.declared.unready.Unready.TheVariants.{More, Strange}
use Rattle.mc_text.proofs.CoverLaws.{Covers, Begins, BegunFor, read_ok, read_more, read_strange, are_apart}
use Rattle.mc_request.specs.Parts.{meta_map, update_map}
use Rattle.mc_request.specs.Atoms.{head_of}
use Rattle.mc_request.specs.declared.faults.Fault.TheVariants.{CasUsedUp}
use Rattle.mc_request.specs.declared.meta.MetaCommand.{MetaCommand}
use Rattle.mc_request.specs.declared.meta.MetaCommand.TheVariants as metas
use Rattle.mc_request.specs.declared.meta.Show.{Show}
use Rattle.mc_request.specs.declared.parts.Atom.{Atom}
use Rattle.mc_request.specs.declared.parts.Atom.TheVariants as atoms
use Rattle.mc_request.specs.declared.parts.Update.{Update}
use Rattle.mc_request.specs.declared.parts.Update.TheVariants as updates
use Rattle.mc_reply.specs.declared.replies.Reply.TheVariants as replies
use Rattle.mc_reply.specs.CanHave.{can_have}
use Rattle.mc_reply.specs.Spelling.{spelling_of}
use Rattle.mc_codec.specs.Spellings.{is_askable, is_good_atom}
use Rattle.mc_codec.specs.Examples.{IsStrangeFrom}
use Rattle.mc_codec.specs.NextReply.{HasReply, IsBegun, IsShortOf, IsStrange}
use Rattle.mc_codec.specs.ReplyForms.{Answer, count_faults, get_form, store_faults, update_form, update_line}
use Rattle.mc_codec.specs.MetaForms.{code_line, form_of, read_if, shown_form, unmet_form}
use Rattle.mc_codec.proofs.ClassicLemmas.{Head, covers_get, covers_update}
use Rattle.mc_codec.proofs.LimitLemmas.{two_of}
use Rattle.mc_codec.proofs.MetaLemmas.{covers_meta_get, covers_meta_store, covers_meta_delete, covers_meta_count}

-- the form of a head covers the spellings of its replies, and a head that has none has no reply
abbrev IsCovered : Head → Type 0
IsCovered head =
    ((f : Form Answer) × (form_of head ≡ Some f) × Covers f (can_have head) (spelling_of head))
    ⊎ ((form_of head ≡ None) × ((r : Answer) → can_have head r ≡ true → ⊥))

covered : (head : Head) → IsCovered head
covered (atoms.Get key exptime with_cas) = inl (get_form key with_cas, refl, covers_get key exptime with_cas)
covered (atoms.Update update) = inl (update_form update, refl, covers_update update)
covered (atoms.Meta (metas.Get key get)) = inl (_, refl, covers_meta_get key get)
covered (atoms.Meta (metas.Update (updates.Store mode compare key flags exptime block) show)) = inl (_, refl, covers_meta_store mode compare key flags exptime block show)
covered (atoms.Meta (metas.Update (updates.Delete key compare invalidate) show)) = inl (_, refl, covers_meta_delete key compare invalidate show)
covered (atoms.Meta (metas.Update (updates.Count key counting) show)) = inl (_, refl, covers_meta_count key counting show)
covered (atoms.Meta (metas.Update (updates.Touch key exptime) show)) = inr (refl, λ r can. absurd (cc))
covered (atoms.Meta (metas.Update (updates.FlushAll delay) show)) = inr (refl, λ r can. absurd (cc))

pub reply_read : (head : Head) (u : List ℕ) (x : Answer × List ℕ) → read_if (form_of head) u ≡ Ok x → Begins (can_have head) (spelling_of head) u x
reply_read head u x e = elim (covered head) [
  | inl s ↦ read_ok s.0 (can_have head) (spelling_of head) s.2 u x (rw s.1 at e)
  | inr s ↦ let never : Err Strange ≡ Ok x = rw s.0 at e in absurd (cc)
]

short_by : (head : Head) (u : List ℕ) (n wanted : ℕ) → BegunFor (can_have head) (spelling_of head) u n → length u < wanted → wanted ≤ length u + n → IsShortOf head wanted u
short_by head u n wanted h above below = grind (arith, length-append)

pub reply_short : (head : Head) (u : List ℕ) (n wanted : ℕ) → read_if (form_of head) u ≡ Err (More n)
    → ((0 < n) → length u < wanted) → wanted ≤ length u + n → IsShortOf head wanted u
reply_short head u n wanted e above below = elim (covered head) [
  | inl s ↦
      let begun = read_more s.0 (can_have head) (spelling_of head) s.2 u n (rw s.1 at e) in
      short_by head u n wanted begun (above begun.some) below
  | inr s ↦ let never : Err Strange ≡ Err (More n) = rw s.0 at e in absurd (cc)
]

pub reply_strange : (head : Head) (u : List ℕ) → read_if (form_of head) u ≡ Err Strange → IsStrange head u
reply_strange head u e r more others can = elim (covered head) [
  | inl s ↦ read_strange s.0 (can_have head) (spelling_of head) s.2 u (rw s.1 at e) r more others can
  | inr s ↦ absurd (s.1 r can)
]

-- no spelling of a reply begins that of another, and each is of one reply
pub replies_apart : (head : Head) (r q : Answer) (xs ys : List ℕ) → can_have head r ≡ true → can_have head q ≡ true
    → spelling_of head r ++ xs ≡ spelling_of head q ++ ys → (r ≡ q) × (xs ≡ ys)
replies_apart head r q xs ys cr cq e = elim (covered head) [
  | inl s ↦ are_apart s.0 (can_have head) (spelling_of head) s.2 r q xs ys cr cq e
  | inr s ↦ absurd (s.1 r cr)
]

pub reply_begun : (head : Head) (u : List ℕ) → read_if (form_of head) u ≡ Err (More 1) → IsBegun head u
reply_begun head u e =
    let short = reply_short head u 1 (length u + 1) e (λ some. omega arith) (omega arith) in
    subst (IsBegun head) (append-nil u) (short.begun [] (omega (arith, length-append u [])))

-- the beginning of a reply is no whole one
pub begun_is_not_whole : (head : Head) (u : List ℕ) → IsBegun head u → HasReply head u → ⊥
begun_is_not_whole head u begun has =
    let whole : spelling_of head has.reply ++ (has.rest ++ begun.more) ≡ spelling_of head begun.reply ++ [] =
    sym (append_assoc (spelling_of head has.reply) has.rest begun.more) ∙ ap (λ (bytes : List ℕ). bytes ++ begun.more) (sym has.spelled) ∙ begun.spelled
    ∙ sym (append-nil (spelling_of head begun.reply)) in
    let rest = (replies_apart head has.reply begun.reply (has.rest ++ begun.more) [] has.can begun.can whole).1 in
    let size : length (has.rest ++ begun.more) ≡ 0 = ap (λ (bytes : List ℕ). length bytes) rest in
    omega (arith, size, length-append has.rest begun.more, begun.missing)

-- the reader reads a whole reply or none
pub reply_whole : (head : Head) (u : List ℕ) (x : Answer × List ℕ) → read_if (form_of head) u ≡ Ok x → HasReply head u
reply_whole head u x e =
    let begins = reply_read head u x e in
    record { reply = x.0; can = begins.allowed; rest = x.1; spelled = begins.spelled }

not_more : (head : Head) (u : List ℕ) (n : ℕ) → read_if (form_of head) u ≡ Err (More n) → HasReply head u → ⊥
not_more head u n e has =
    let short = reply_short head u n (length u + n) e (λ some. omega (arith, some)) (omega arith) in
    begun_is_not_whole head u (subst (IsBegun head) (append-nil u) (short.begun [] (omega (arith, short.short, length-append u [])))) has

not_strange : (head : Head) (u : List ℕ) → read_if (form_of head) u ≡ Err Strange → HasReply head u → ⊥
not_strange head u e has = reply_strange head u e has.reply [] has.rest has.can (append-nil u ∙ has.spelled)

pub whole_if_read : {X : Type 0} (view : X → Answer × List ℕ) (head : Head) (u : List ℕ) (r : Result X Unready) → seen_by view r ≡ read_if (form_of head) u
    → IsTrue (is_ok r) ↔ HasReply head u
whole_if_read view head u (Ok x) e = (λ _. reply_whole head u (view x) (sym e), λ _. refl)
whole_if_read view head u (Err (More n)) e = (λ never. absurd cc, λ has. absurd (not_more head u n (sym e) has))
whole_if_read view head u (Err Strange) e = (λ never. absurd cc, λ has. absurd (not_strange head u (sym e) has))

-- what holds in any case holds at an error
pub at_error : {T E P : Type 0} (r : Result T E) → P → OnErr r P
at_error (Ok x) is = tt
at_error (Err e) is = is

-- WORKED EXAMPLES

pub strange_from : (head : Head) (count : ℕ) (text : List ℕ) → read_if (form_of head) (take (count - 1) text) ≡ Err (More 1)
    → read_if (form_of head) (take count text) ≡ Err Strange → IsStrangeFrom head count text
strange_from head count text before at_count = (reply_begun head (take (count - 1) text) before, reply_strange head (take count text) at_count)

-- BEFORE ANY BYTE HAS ARRIVED

abbrev NeedsOne : Form Answer → Type 0
NeedsOne f = read f [] ≡ Err (More 1)

shown_needs : (marked : Bool) (show : Show) (value : Bool) → NeedsOne (shown_form marked show value)
unfolding text_at
shown_needs marked show true = refl
shown_needs marked show false = refl

-- what is shown, or what else is answered
or_needs : (marked : Bool) (show : Show) (other : Form Answer) → NeedsOne (Or (shown_form marked show show.value) other)
or_needs marked show other = rw (shown_needs marked show show.value) refl

get_needs : (key : List ℕ) (with_cas : Bool) → NeedsOne (get_form key with_cas)
unfolding text_at
get_needs key with_cas = refl

update_needs : (update : Update (List ℕ) (Unit {0})) → NeedsOne (update_form update)
unfolding text_at number_at
update_needs (updates.Store mode compare key flags exptime block) = refl
update_needs (updates.Touch key exptime) = refl
update_needs (updates.Delete key compare invalidate) = refl
update_needs (updates.Count key counting) = refl
update_needs (updates.FlushAll delay) = refl

pub get_begins : (key : List ℕ) (exptime : Option ℤ) (with_cas : Bool) → IsBegun (atoms.Get key exptime with_cas) []
get_begins key exptime with_cas = reply_begun (atoms.Get key exptime with_cas) [] (get_needs key with_cas)

pub update_begins : (update : Update (List ℕ) (Unit {0})) → IsBegun (atoms.Update update) []
update_begins update = reply_begun (atoms.Update update) [] (update_needs update)

-- a reply to a meta command may begin, or no line can ask for it and it has no reply
abbrev MayBegin : MetaCommand (List ℕ) (Unit {0}) → Type 0
MayBegin command = IsBegun (atoms.Meta command) [] ⊎ ((is_askable command ≡ false) × ((r : Answer) → can_have (atoms.Meta command) r ≡ true → ⊥))

meta_may_begin : (command : MetaCommand (List ℕ) (Unit {0})) → MayBegin command
meta_may_begin (metas.Get key get) = inl (reply_begun (atoms.Meta (metas.Get key get)) [] (or_needs true get.show (or_if (is_some get.create) store_faults (code_line replies.Miss))))
meta_may_begin (metas.Update (updates.Store mode compare key flags exptime block) show) =
    inl (reply_begun (atoms.Meta (metas.Update (updates.Store mode compare key flags exptime block) show)) [] (or_needs false show (Or (code_line replies.NotStored) (Or unmet_form store_faults))))
meta_may_begin (metas.Update (updates.Delete key compare invalidate) show) =
    inl (reply_begun (atoms.Meta (metas.Update (updates.Delete key compare invalidate) show)) [] (or_needs false show (or_if invalidate (update_line (replies.Fault CasUsedUp)) unmet_form)))
meta_may_begin (metas.Update (updates.Count key counting) show) =
    inl (reply_begun (atoms.Meta (metas.Update (updates.Count key counting) show)) [] (or_needs false show (Or unmet_form count_faults)))
meta_may_begin (metas.Update (updates.Touch key exptime) show) = inr (refl, λ r can. absurd (cc))
meta_may_begin (metas.Update (updates.FlushAll delay) show) = inr (refl, λ r can. absurd (cc))

pub meta_begins : (command : MetaCommand (List ℕ) (Unit {0})) → is_askable command ≡ true → IsBegun (atoms.Meta command) []
meta_begins command is = grind (arith, meta_may_begin)

-- a command without its block asks to be shown the same
askable_head : (command : MetaCommand (List ℕ) (List ℕ)) → is_askable command ≡ true → is_askable (meta_map (λ key. key) (λ _. tt {0}) command) ≡ true
askable_head (metas.Get key get) is = is
askable_head (metas.Update (updates.Store mode compare key flags exptime block) show) is = is
askable_head (metas.Update (updates.Delete key compare invalidate) show) is = is
askable_head (metas.Update (updates.Count key counting) show) is = is
askable_head (metas.Update (updates.Touch key exptime) show) is = is
askable_head (metas.Update (updates.FlushAll delay) show) is = is

pub atom_begins : (atom : Atom (List ℕ)) → is_good_atom atom ≡ true → IsBegun (head_of atom) []
atom_begins (atoms.Get key exptime with_cas) is = get_begins key exptime with_cas
atom_begins (atoms.Update update) is = update_begins (update_map (λ key. key) (λ _. tt) update)
atom_begins (atoms.Meta command) is = grind (arith, two_of, meta_begins, askable_head)

-- before any byte has arrived a reply has only begun, if the command has one; so none is spelled by no bytes
begins_if : (head : Head) (r : Answer) → can_have head r ≡ true → IsBegun head []
begins_if (atoms.Get key exptime with_cas) r can = get_begins key exptime with_cas
begins_if (atoms.Update update) r can = update_begins update
begins_if (atoms.Meta command) r can = grind (arith, meta_may_begin)

pub not_nothing : (head : Head) (r : Answer) → can_have head r ≡ true → spelling_of head r ≢ []
not_nothing head r can none =
    let begun = begins_if head r can in
    let both : spelling_of head r ++ spelling_of head begun.reply ≡ spelling_of head begun.reply ++ [] =
    ap (λ (bytes : List ℕ). bytes ++ spelling_of head begun.reply) none ∙ sym (append-nil (spelling_of head begun.reply)) in
    grind (arith, replies_apart)
