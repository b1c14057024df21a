-- Who fills an item anew, of one key: source protocol.txt, "Meta Get", flags N, R and W, and "Meta Delete", flag I. An item is marked in three
-- ways: an `mg` with `N` finds nothing and makes it, it is stale, or it ends within the seconds that an `mg` names by `R`. The first client that
-- meets the mark is shown W, and no other until a command writes, or the item is forgotten or dead. This project's own.
use Rattle.std.specs.Prelude.{◌≡◌, ℕ, ◌+◌, ◌≤◌, Bool, true, false, List, [], ◌∷◌, ◌++◌, Option, if◌then◌else◌}
use Rattle.mc_item.specs.declared.bodies.Body.{Body}
use Rattle.mc_request.specs.declared.meta.MetaCommand.TheVariants as metas
use Rattle.mc_request.specs.declared.parts.Atom.{Atom}
use Rattle.mc_request.specs.declared.parts.Atom.TheVariants as atoms
use Rattle.mc_reply.specs.declared.replies.Reply.{Reply}
use Rattle.mc_reply.specs.declared.replies.Reply.TheVariants.{Meta}
use Rattle.mc_registers.specs.Registers.{Done, IsRun}
use Rattle.mc_registers.specs.Guarantees.{HaveNotWritten, IsSteadyRun, may_have_written}
pub use Rattle.mc_registers.specs.Guarantees.{is_win}

-- whether a reply to an `mg` shows W
abbrev pub has_won : Atom (List ℕ) → Reply (List ℕ) → Bool
has_won (atoms.Meta (metas.Get key get)) (Meta shown value) = is_win shown.marks
has_won atom reply = false

-- how many clients were shown W
abbrev pub wins : List Done → ℕ
wins [] = 0
wins (e ∷ es) = (if has_won e.atom e.reply then 1 else 0) + wins es

-- Recache has one winner. Between two writes, if the item is neither forgotten nor dead, at most one client is shown W.
abbrev pub RecacheHasOneWinner : ℕ → Option Body → Type 0
RecacheHasOneWinner last held = (es : List Done) → IsSteadyRun last held es → HaveNotWritten es → wins es ≤ 1

-- Each win is of a mark of its own. Whatever is forgotten: two clients were shown W, and no command wrote between them; then the second asked
-- for an item to be made, by `N`.
abbrev pub EachWinIsMarked : ℕ → Option Body → Type 0
EachWinIsMarked last held =
    (front between back : List Done) (first second : Done) → IsRun last held (front ++ first ∷ (between ++ second ∷ back))
    → has_won first.atom first.reply ≡ true → has_won second.atom second.reply ≡ true → HaveNotWritten between → may_have_written second.atom second.reply ≡ true
