-- The forms of the replies to meta commands, and of those to any command.
use Rattle.std.specs.Prelude.{ℕ, Bool, true, false, List, Option, Some, None, Result, Err, codes}
use Rattle.std.specs.Option.{is_some}
use Rattle.mc_text.specs.declared.blocks.TheConstants.{VALUE_LIMIT}
use Rattle.mc_text.specs.Forms.{Form, Done, Text, Number, Block, Or, or_if, number_if, read}
use Rattle.mc_text.specs.declared.unready.Unready.{Unready}
use Rattle.mc_text.specs.declared.unready.Unready.TheVariants.{Strange}
use Rattle.mc_request.specs.declared.faults.Fault.TheVariants.{CasUsedUp}
use Rattle.mc_request.specs.declared.meta.MetaCommand.{MetaCommand}
use Rattle.mc_request.specs.declared.meta.MetaCommand.TheVariants as metas
use Rattle.mc_request.specs.declared.meta.Show.{Show}
use Rattle.mc_request.specs.declared.parts.Atom.{Atom}
use Rattle.mc_request.specs.declared.parts.Atom.TheVariants as atoms
use Rattle.mc_request.specs.declared.parts.Update.TheVariants as updates
use Rattle.mc_reply.specs.declared.replies.Marks.{Marks}
use Rattle.mc_reply.specs.declared.replies.Marks.TheVariants.{Plain, Won, WonStale, StaleSent, Sent}
use Rattle.mc_reply.specs.declared.replies.Shown.{Shown}
use Rattle.mc_reply.specs.declared.replies.Reply.TheVariants as replies
use Rattle.mc_reply.specs.MetaSpelling.{meta_spelling}
use Rattle.mc_codec.specs.ReplyForms.{Answer, line, update_line, store_faults, count_faults, update_form, get_form}
use Rattle.mc_codec.specs.declared.limits.TheConstants.{FLAGS_LIMIT, NUMBER_LIMIT}

-- the line of a reply that shows nothing: source protocol.txt, "Meta Get", "Meta Set", "Meta Delete", "Meta Arithmetic"
abbrev pub code_line : Answer → Form Answer
code_line reply = line (meta_spelling reply) reply

-- the seconds left, if they are asked for; `-1` if the item never expires: source protocol.txt, "Meta Get", flag t
abbrev pub left_if : Bool → (Option (Option ℕ) → Form Answer) → Form Answer
left_if true f = Text (codes " t") (Or (Text (codes "-1") (f (Some None))) (Number NUMBER_LIMIT (λ n. f (Some (Some n)))))
left_if false f = f None

-- a mark and the end of the line
abbrev pub mark_end : (Marks → Form Answer) → Form Answer
mark_end f =
    Or (Text (codes " W\r\n") (f Won)) (Or (Text (codes " W X\r\n") (f WonStale))
    (Or (Text (codes " X Z\r\n") (f StaleSent)) (Text (codes " Z\r\n") (f Sent))))

-- the end of the line, after a mark if one is possible: source protocol.txt, "Meta Get", W, X and Z
abbrev pub end_if : Bool → (Marks → Form Answer) → Form Answer
end_if true f = Or (Text (codes "\r\n") (f Plain)) (mark_end f)
end_if false f = Text (codes "\r\n") (f Plain)

-- what a meta command asks to be shown, in the order c, f, s, t, and the end of the line
abbrev pub shown_by : Bool → Show → (Shown → Form Answer) → Form Answer
shown_by marked show f =
    number_if show.cas (codes " c") NUMBER_LIMIT (λ cas.
    number_if show.flags (codes " f") FLAGS_LIMIT (λ flags.
    number_if show.size (codes " s") VALUE_LIMIT (λ size.
    left_if show.left (λ left.
    end_if marked (λ marks.
    f (record { cas = cas; flags = flags; size = size; left = left; marks = marks }))))))

-- what follows the line: the value, if the line has its size
abbrev pub after_line : Option ℕ → Shown → Form Answer
after_line None shown = Done (replies.Meta shown None)
after_line (Some size) shown = Block size (λ value. Text (codes "\r\n") (Done (replies.Meta shown (Some value))))

-- what a meta command that succeeded shows, and the value if it is asked for
abbrev pub shown_form : Bool → Show → Bool → Form Answer
shown_form marked show false = Text (codes "HD") (shown_by marked show (after_line None))
shown_form marked show true = Text (codes "VA ") (Number VALUE_LIMIT (λ size. shown_by marked show (after_line (Some size))))

-- the item has another number, or the key is missing
abbrev pub unmet_form : Form Answer
unmet_form = Or (code_line replies.Exists) (code_line replies.NotFound)

-- the replies to `mg`
abbrev pub meta_get_form : Bool → Show → Form Answer
meta_get_form creates show = Or (shown_form true show show.value) (or_if creates store_faults (code_line replies.Miss))

-- the replies to `ms`
abbrev pub meta_store_form : Show → Form Answer
meta_store_form show = Or (shown_form false show show.value) (Or (code_line replies.NotStored) (Or unmet_form store_faults))

-- the replies to `md`
abbrev pub meta_delete_form : Bool → Show → Form Answer
meta_delete_form invalidate show =
    Or (shown_form false show show.value) (or_if invalidate (update_line (replies.Fault CasUsedUp)) unmet_form)

-- the replies to `ma`
abbrev pub meta_count_form : Show → Form Answer
meta_count_form show = Or (shown_form false show show.value) (Or unmet_form count_faults)

-- the replies to a meta command; a command without a meta form has none
abbrev pub meta_form : {K B : Type 0} → MetaCommand K B → Option (Form Answer)
meta_form (metas.Get key get) = Some (meta_get_form (is_some get.create) get.show)
meta_form (metas.Update (updates.Store mode compare key flags exptime block) show) = Some (meta_store_form show)
meta_form (metas.Update (updates.Delete key compare invalidate) show) = Some (meta_delete_form invalidate show)
meta_form (metas.Update (updates.Count key counting) show) = Some (meta_count_form show)
meta_form (metas.Update (updates.Touch key exptime) show) = None
meta_form (metas.Update (updates.FlushAll delay) show) = None

-- the replies to a command
abbrev pub form_of : {B : Type 0} → Atom B → Option (Form Answer)
form_of (atoms.Get key exptime with_cas) = Some (get_form key with_cas)
form_of (atoms.Update update) = Some (update_form update)
form_of (atoms.Meta command) = meta_form command

-- the reading of the front of the bytes; if the command has no reply, anything is a violation
abbrev pub read_if : Option (Form Answer) → List ℕ → Result (Answer × List ℕ) Unready
read_if None u = Err Strange
read_if (Some form) u = read form u
