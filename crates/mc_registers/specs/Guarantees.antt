-- What an application may rely on: runs of one key's register, as a client sees them. This project's own.
use Rattle.std.specs.Prelude.{◌≡◌, ℕ, ◌<◌, ◌≤◌, ◌^◌, ◌&&◌, ◌⊎◌, ℤ, Bool, true, false, List, [], ◌∷◌, ◌++◌, Option, Some, None, is_some, if◌then◌else◌}
use Rattle.std.specs.Fmt.{decimal}
use Rattle.mc_item.specs.declared.bodies.Body.{Body}
use Rattle.mc_request.specs.declared.meta.Counting.{Counting}
use Rattle.mc_request.specs.declared.meta.MetaCommand.TheVariants as metas
use Rattle.mc_request.specs.declared.parts.Atom.{Atom}
use Rattle.mc_request.specs.declared.parts.Atom.TheVariants as atoms
use Rattle.mc_request.specs.declared.parts.StoreMode.{StoreMode}
use Rattle.mc_request.specs.declared.parts.StoreMode.TheVariants.{Add, Append, Prepend}
use Rattle.mc_request.specs.declared.parts.Update.{Update}
use Rattle.mc_request.specs.declared.parts.Update.TheVariants.{Store, Touch, Delete, Count, FlushAll}
use Rattle.mc_reply.specs.declared.replies.Marks.{Marks}
use Rattle.mc_reply.specs.declared.replies.Marks.TheVariants.{Won, WonStale}
use Rattle.mc_reply.specs.declared.replies.Reply.{Reply}
use Rattle.mc_reply.specs.declared.replies.Reply.TheVariants.{Stored, Deleted, Number, Hit, Meta}
use Rattle.mc_cache.specs.Settling.{is_dead_at}
use Rattle.mc_cache.specs.Step.{counted}
use Rattle.mc_registers.specs.Registers.{Given, Done, turn, last_by, IsRun}

-- a reply to an update that stored, counted or deleted
abbrev pub is_done : Reply (List ℕ) → Bool
is_done Stored = true
is_done Deleted = true
is_done (Number number) = true
is_done (Meta shown value) = true
is_done reply = false

-- whether these marks have W, and whether a reply shows it: the client of an `mg` is the one to fill the item
abbrev pub is_win : Marks → Bool
is_win Won = true
is_win WonStale = true
is_win marks = false

abbrev pub shows_win : Reply (List ℕ) → Bool
shows_win (Meta shown value) = is_win shown.marks
shows_win reply = false

-- a command that changed what is stored, as its client knows; and one that may have: an `mg` with `N` that is shown W
abbrev pub has_written : Atom (List ℕ) → Reply (List ℕ) → Bool
has_written (atoms.Get key exptime with_cas) reply = false
has_written (atoms.Update update) reply = is_done reply
has_written (atoms.Meta (metas.Get key get)) reply = false
has_written (atoms.Meta (metas.Update update show)) reply = is_done reply

abbrev pub may_have_written : Atom (List ℕ) → Reply (List ℕ) → Bool
may_have_written (atoms.Get key exptime with_cas) reply = false
may_have_written (atoms.Update update) reply = is_done reply
may_have_written (atoms.Meta (metas.Get key get)) reply = is_some get.create && shows_win reply
may_have_written (atoms.Meta (metas.Update update show)) reply = is_done reply

-- none of these wrote, as their clients know; and none may have written
abbrev pub HaveNotWritten : List Done → Type 0
HaveNotWritten [] = Unit {0}
HaveNotWritten (e ∷ es) = (has_written e.atom e.reply ≡ false) × HaveNotWritten es

abbrev pub AreQuiet : List Done → Type 0
AreQuiet [] = Unit {0}
AreQuiet (e ∷ es) = (may_have_written e.atom e.reply ≡ false) × AreQuiet es

-- the update of a command, if it is one
abbrev pub update_in : Atom (List ℕ) → Option (Update (List ℕ) (List ℕ))
update_in (atoms.Get key exptime with_cas) = None
update_in (atoms.Update update) = Some update
update_in (atoms.Meta (metas.Get key get)) = None
update_in (atoms.Meta (metas.Update update show)) = Some update

-- a whole value is stored by `set`, `cas`, `add`, `replace`, and by `ms` likewise
abbrev pub is_whole : StoreMode → Bool
is_whole Append = false
is_whole Prepend = false
is_whole mode = true

-- the value that a reply shows: that of a hit, and of a meta command with `v`; and the flags, with `f`
abbrev pub value_shown : Reply (List ℕ) → Option (List ℕ)
value_shown (Hit flags cas value) = Some value
value_shown (Meta shown value) = value
value_shown reply = None

abbrev pub flags_shown : Reply (List ℕ) → Option ℕ
flags_shown (Hit flags cas value) = Some flags
flags_shown (Meta shown value) = shown.flags
flags_shown reply = None

-- Reads see own writes. A client's whole value was stored, and then no other. A command that wrote none itself shows this one, if any, with its flags.
abbrev pub ReadsSeeOwnWrites : ℕ → Option Body → Type 0
ReadsSeeOwnWrites last held =
    (front between back : List Done) (write read : Done) (mode : StoreMode) (compare : Option ℕ) (key : List ℕ) (flags : ℕ) (exptime : ℤ) (value : List ℕ)
    → IsRun last held (front ++ write ∷ (between ++ read ∷ back))
    → update_in write.atom ≡ Some (Store mode compare key flags exptime value) → is_whole mode ≡ true → is_done write.reply ≡ true → AreQuiet between
    → may_have_written read.atom read.reply ≡ false
    → ((shown : List ℕ) → value_shown read.reply ≡ Some shown → shown ≡ value) × ((shown : ℕ) → flags_shown read.reply ≡ Some shown → shown ≡ flags)

-- Counters count, by `incr`, `decr` and `ma`. A client was shown a number. Since then there are only counts that ask for no item to be made, and
-- commands that write nothing: each count goes on from the number before.
abbrev pub IsCountOrQuiet : Done → Type 0
IsCountOrQuiet e =
    (may_have_written e.atom e.reply ≡ false) ⊎ ((key : List ℕ) × (counting : Counting) × (update_in e.atom ≡ Some (Count key counting)) × (counting.create ≡ None))

abbrev pub AreCountsOrQuiet : List Done → Type 0
AreCountsOrQuiet [] = Unit {0}
AreCountsOrQuiet (e ∷ es) = IsCountOrQuiet e × AreCountsOrQuiet es

-- a reply to a count shows this number: that of `incr` and `decr`, and the value of an `ma` with `v`
abbrev pub ShowsCount : Reply (List ℕ) → ℕ → Type 0
ShowsCount (Number shown) number = shown ≡ number
ShowsCount (Meta shown (Some value)) number = value ≡ decimal number
ShowsCount reply number = ⊥

-- a count that shows a number shows the one that it counts to
abbrev pub IsCounted : ℕ → Atom (List ℕ) → Reply (List ℕ) → Type 0
IsCounted before (atoms.Update (Count key counting)) (Number number) = number ≡ counted counting.direction counting.delta before
IsCounted before (atoms.Meta (metas.Update (Count key counting) show)) (Meta shown (Some value)) = value ≡ decimal (counted counting.direction counting.delta before)
IsCounted before atom reply = Unit {0}

-- the number after a command
abbrev pub number_by : ℕ → Atom (List ℕ) → Reply (List ℕ) → ℕ
number_by before (atoms.Update (Count key counting)) (Number number) = number
number_by before (atoms.Meta (metas.Update (Count key counting) show)) (Meta shown value) = counted counting.direction counting.delta before
number_by before atom reply = before

abbrev pub AreCounted : ℕ → List Done → Type 0
AreCounted before [] = Unit {0}
AreCounted before (e ∷ es) = IsCounted before e.atom e.reply × AreCounted (number_by before e.atom e.reply) es

abbrev pub CountersCount : ℕ → Option Body → Type 0
CountersCount last held =
    (front es back : List Done) (first : Done) (key : List ℕ) (counting : Counting) (number : ℕ) → IsRun last held (front ++ first ∷ (es ++ back))
    → update_in first.atom ≡ Some (Count key counting) → ShowsCount first.reply number → number < 2 ^ 64 → AreCountsOrQuiet es → AreCounted number es

-- Adds exclude. An item is stored, and is neither forgotten nor dead, and no command writes: then no `add` stores.
abbrev pub IsSteadyRun : ℕ → Option Body → List Done → Type 0
IsSteadyRun last held [] = Unit {0}
IsSteadyRun last held (e ∷ es) =
    (given : Given) × (is_dead_at held e.moment ≡ false) × (e.reply ≡ (turn false given held e).1)
    × IsSteadyRun (last_by last (turn false given held e).0) (turn false given held e).0 es

abbrev pub AddsExclude : ℕ → Body → Type 0
AddsExclude last body =
    (between : List Done) (add : Done) (compare : Option ℕ) (key : List ℕ) (flags : ℕ) (exptime : ℤ) (value : List ℕ)
    → IsSteadyRun last (Some body) (between ++ add ∷ []) → HaveNotWritten between
    → update_in add.atom ≡ Some (Store Add compare key flags exptime value) → is_done add.reply ≡ false

-- Counters count while their item stays. Here a count may ask for an item to be made, as `ma` with `N` does: none is made while one is stored.
abbrev pub IsCountOrUnwritten : Done → Type 0
IsCountOrUnwritten e = (has_written e.atom e.reply ≡ false) ⊎ ((key : List ℕ) × (counting : Counting) × (update_in e.atom ≡ Some (Count key counting)))

abbrev pub AreCountsOrUnwritten : List Done → Type 0
AreCountsOrUnwritten [] = Unit {0}
AreCountsOrUnwritten (e ∷ es) = IsCountOrUnwritten e × AreCountsOrUnwritten es

abbrev pub CountersCountWhileHeld : ℕ → Option Body → Type 0
CountersCountWhileHeld last held =
    (es : List Done) (first : Done) (key : List ℕ) (counting : Counting) (number : ℕ) → IsSteadyRun last held (first ∷ es)
    → update_in first.atom ≡ Some (Count key counting) → ShowsCount first.reply number → number < 2 ^ 64 → AreCountsOrUnwritten es → AreCounted number es

-- the number of its item that a reply shows: that of `gets` and `gats`, and of a meta command with `c`
abbrev pub number_shown : Reply (List ℕ) → Option ℕ
number_shown (Hit flags cas value) = cas
number_shown (Meta shown value) = shown.cas
number_shown reply = None

-- the number that an item must have if an update of it is done: of `cas`, and of `ms`, `md` and `ma` with `C`. An `ma` that makes an item, by `N`,
-- compares nothing if there is none
abbrev pub number_needed : Update (List ℕ) (List ℕ) → Option ℕ
number_needed (Store mode compare key flags exptime value) = compare
number_needed (Touch key exptime) = None
number_needed (Delete key compare invalidate) = compare
number_needed (Count key counting) = if is_some counting.create then None else counting.compare
number_needed (FlushAll delay) = None

-- A `cas` loses nothing. A reply showed a number, and an update that needs it is done: then nothing was stored, counted or deleted in between.
abbrev pub CasLosesNothing : ℕ → Option Body → Type 0
CasLosesNothing last held =
    (front between back : List Done) (read cas : Done) (update : Update (List ℕ) (List ℕ)) (number : ℕ)
    → IsRun last held (front ++ read ∷ (between ++ cas ∷ back)) → number_shown read.reply ≡ Some number
    → update_in cas.atom ≡ Some update → number_needed update ≡ Some number → is_done cas.reply ≡ true → HaveNotWritten between

-- Old numbers do not fit. The numbers of a life begin above this one: then no update that needs it is done.
abbrev pub OldNumbersDoNotFit : ℕ → Type 0
OldNumbersDoNotFit last =
    (front back : List Done) (cas : Done) (update : Update (List ℕ) (List ℕ)) (number : ℕ)
    → IsRun last None (front ++ cas ∷ back) → number ≤ last → update_in cas.atom ≡ Some update → number_needed update ≡ Some number
    → is_done cas.reply ≡ false

-- A `cas` loses nothing across lives. A reply in one life showed a number, and the numbers of a later life begin above it: then no update that
-- needs it is done in the later life.
abbrev pub CasLosesNothingAcross : ℕ → ℕ → Type 0
CasLosesNothingAcross first later =
    (front back before after : List Done) (read cas : Done) (update : Update (List ℕ) (List ℕ)) (number : ℕ)
    → IsRun first None (front ++ read ∷ back) → number_shown read.reply ≡ Some number
    → IsRun later None (before ++ cas ∷ after) → number ≤ later → update_in cas.atom ≡ Some update → number_needed update ≡ Some number
    → is_done cas.reply ≡ false
