-- What the clients of a pool may rely on, of one key: this project's own. The laws of a register (mc_registers) are about runs. These laws are about the
-- commands on a key that servers executed, in the key's one order, and about the replies that the proxies took. A lost command is in that order too, if it was
-- executed.
use Rattle.std.specs.Prelude.{ℕ, suc, ◌≡◌, ◌<◌, ◌≤◌, ◌^◌, ◌⊎◌, ℤ, Bool, true, false, List, [], ◌∷◌, ◌++◌, Option, Some, None, IfSome}
use Rattle.mc_item.specs.declared.bodies.Body.{Body}
use Rattle.mc_request.specs.declared.meta.Counting.{Counting}
use Rattle.mc_request.specs.declared.meta.MetaCommand.TheVariants as metas
use Rattle.mc_request.specs.declared.parts.Atom.{Atom}
use Rattle.mc_request.specs.declared.parts.Atom.TheVariants as atoms
use Rattle.mc_request.specs.declared.parts.StoreMode.{StoreMode}
use Rattle.mc_request.specs.declared.parts.StoreMode.TheVariants.{Add}
use Rattle.mc_request.specs.declared.parts.Update.TheVariants.{Count, Store}
use Rattle.mc_reply.specs.Spelling.{spelling_of}
use Rattle.mc_reply.specs.declared.replies.Reply.{Reply as AReply}
use Rattle.mc_reply.specs.declared.replies.Reply.TheVariants.{Hit, Meta, Number}
use Rattle.mc_route.specs.declared.outcomes.Outcome.TheVariants.{Reply}
use Rattle.mc_link.specs.declared.turns.Tag.{Tag}
use Rattle.mc_account.specs.Lookups.{outcome_at}
use Rattle.mc_account.specs.Orders.{Order}
use Rattle.mc_history.specs.declared.entries.Entry.{Entry}
use Rattle.mc_history.specs.Histories.{tag_in}
use Rattle.mc_cache.specs.Step.{counted}
use Rattle.mc_registers.specs.Guarantees.{IsSteadyRun, has_written, is_done, is_whole, may_have_written, update_in}
use Rattle.mc_registers.specs.Recache.{has_won, is_win}
use Rattle.mc_registers.specs.Registers.{Done, IsRun}
use Rattle.mc_registers.specs.Records.{Records}
use Rattle.mc_world.specs.Homes.{Homes}
use Rattle.mc_world.specs.Logs.{Log, taken_before}
use Rattle.mc_pool_laws.specs.Outcomes.{WasAnswered}
use Rattle.mc_linearizable.specs.Linearizable.{ComesFirst, Executed, IsEarlier, IsNotRoutedBack, WasReplied}

-- A command's request was answered, and its proxy took this reply to the command. With `noreply`, or if another key of the `get` was lost, the
-- client does not see it.
abbrev pub WasAnsweredBy : Order → Log → Tag → AReply (List ℕ) → Type 0
WasAnsweredBy order log tag reply = WasAnswered tag log × (outcome_at order tag ≡ Some (Reply reply))

-- a command's request was answered, and the reply says that an update is done
abbrev pub WasDone : Order → Log → Tag → Type 0
WasDone order log tag = (reply : AReply (List ℕ)) × WasAnsweredBy order log tag reply × (is_done reply ≡ true)

-- a command stores a whole value with these flags: `set`, `cas`, `add`, `replace`, and `ms` likewise
pub record StoresWhole (atom : Atom (List ℕ)) (flags : ℕ) (value : List ℕ) : Type 0 where
  pub mode : StoreMode
  pub compare : Option ℕ
  pub key : List ℕ
  pub exptime : ℤ
  pub stores : update_in atom ≡ Some (Store mode compare key flags exptime value)
  pub whole : is_whole mode ≡ true

-- a command stores only if the item has this number: `cas`, and `ms` with `C`
pub record Compares (atom : Atom (List ℕ)) (number : ℕ) : Type 0 where
  pub mode : StoreMode
  pub key : List ℕ
  pub flags : ℕ
  pub exptime : ℤ
  pub value : List ℕ
  pub stores : update_in atom ≡ Some (Store mode (Some number) key flags exptime value)

-- `get`, `gets`, `gat` and `gats`
abbrev pub IsGet : Atom (List ℕ) → Type 0
IsGet atom = (key : List ℕ) × (exptime : Option ℤ) × (with_cas : Bool) × (atom ≡ atoms.Get key exptime with_cas)

-- a reply has the bytes of the hit that shows this value with these flags
abbrev pub ShowsValue : Atom (List ℕ) → AReply (List ℕ) → ℕ → List ℕ → Type 0
ShowsValue atom reply flags value = (number : Option ℕ) × (spelling_of atom reply ≡ spelling_of atom (Hit flags number value))

-- by the reply in its server's history a command may have written, has written, or has not
abbrev pub MayHaveWritten : {order : Order} {histories : ℕ → List Entry} {key : List ℕ} → Executed order histories key → Type 0
MayHaveWritten x = (reply : AReply (List ℕ)) × (x.entry.reply ≡ spelling_of x.atom reply) × (may_have_written x.atom reply ≡ true)

abbrev pub HasWritten : {order : Order} {histories : ℕ → List Entry} {key : List ℕ} → Executed order histories key → Type 0
HasWritten x = (reply : AReply (List ℕ)) × (x.entry.reply ≡ spelling_of x.atom reply) × (has_written x.atom reply ≡ true)

abbrev pub HasNotWritten : {order : Order} {histories : ℕ → List Entry} {key : List ℕ} → Executed order histories key → Type 0
HasNotWritten x = (reply : AReply (List ℕ)) × (x.entry.reply ≡ spelling_of x.atom reply) × (has_written x.atom reply ≡ false)

-- a command is between two others in the key's order
abbrev pub ComesBetween : {order : Order} {histories : ℕ → List Entry} {key : List ℕ} → Executed order histories key → Executed order histories key
    → Executed order histories key → Type 0
ComesBetween a x b = ComesFirst a x × ComesFirst x b

-- a command was executed in this life of its server, the first life being number 0
abbrev pub IsInLife : {order : Order} {histories : ℕ → List Entry} {key : List ℕ} → ℕ → Log → Executed order histories key → Type 0
IsInLife life log x = (taken_before x.place life log ≤ x.number) × (x.number < taken_before x.place (suc life) log)

-- Clients read their own writes. A whole value was stored, and its client was answered so. Then a request was taken that gets the key, and was answered by a
-- hit. The key was not routed back. The hit shows the value with its flags, or another command that may have written is between the two, and was executed by the
-- server that gave the hit. The other command was not answered by its reply before the request of the store was taken, unless the key was routed back from it
-- to the store.
abbrev pub ClientsReadOwnWrites : Homes → Order → (ℕ → List Entry) → Log → List ℕ → Type 0
ClientsReadOwnWrites home order histories log key =
    (write read : Executed order histories key) (flags : ℕ) (value : List ℕ) → StoresWhole write.atom flags value → WasDone order log (tag_in write.entry)
    → IsGet read.atom → (shown_flags : ℕ) (number : Option ℕ) (shown : List ℕ) → WasAnsweredBy order log (tag_in read.entry) (Hit shown_flags number shown)
    → IsEarlier (tag_in write.entry) (tag_in read.entry) log → IsNotRoutedBack home log write read
    → ShowsValue read.atom (Hit shown_flags number shown) flags value
    ⊎ ((other : Executed order histories key) × ComesBetween write other read × (other.place ≡ read.place) × MayHaveWritten other
    × (WasReplied order (tag_in other.entry) → IsEarlier (tag_in other.entry) (tag_in write.entry) log → IsNotRoutedBack home log other write → ⊥))

-- Clients lose no write by `cas`. A hit of `gets` or `gats` showed a number, and its client was answered so. Then a request was taken that compares this
-- number, and was answered that it stored. Both were executed in one life of one server. So no command between the two has written.
abbrev pub ClientsLoseNoCas : Order → (ℕ → List Entry) → Log → List ℕ → Type 0
ClientsLoseNoCas order histories log key =
    (read cas other : Executed order histories key) → IsGet read.atom
    → (flags number : ℕ) (shown : List ℕ) → number < 2 ^ 64 → WasAnsweredBy order log (tag_in read.entry) (Hit flags (Some number) shown)
    → Compares cas.atom number → WasDone order log (tag_in cas.entry) → IsEarlier (tag_in read.entry) (tag_in cas.entry) log
    → (life : ℕ) → read.place ≡ cas.place → IsInLife life log read → IsInLife life log cas
    → ComesBetween read other cas → HasNotWritten other

-- no command between two others may have written; and none has
abbrev pub NoneMayHaveWritten : {order : Order} {histories : ℕ → List Entry} {key : List ℕ} → Executed order histories key → Executed order histories key → Type 0
NoneMayHaveWritten {order} {histories} {key} a b = (other : Executed order histories key) → ComesBetween a other b → MayHaveWritten other → ⊥

abbrev pub NoneHasWritten : {order : Order} {histories : ℕ → List Entry} {key : List ℕ} → Executed order histories key → Executed order histories key → Type 0
NoneHasWritten {order} {histories} {key} a b = (other : Executed order histories key) → ComesBetween a other b → HasWritten other → ⊥

-- A command hits by a reply. `get`, `gets`, `gat` and `gats` show an item. `mg` shows a value, and did not make the item: it does not ask for that, by `N`, or
-- its client is not shown W.
abbrev pub HitsBy : Atom (List ℕ) → AReply (List ℕ) → Type 0
HitsBy (atoms.Get key exptime with_cas) (Hit flags number value) = Unit {0}
HitsBy (atoms.Meta (metas.Get key get)) (Meta shown (Some value)) = (get.create ≡ None) ⊎ (is_win shown.marks ≡ false)
HitsBy atom reply = ⊥

-- a reply has this value, and these flags if it has any
abbrev pub HasContent : AReply (List ℕ) → ℕ → List ℕ → Type 0
HasContent (Hit own number shown) flags value = (own ≡ flags) × (shown ≡ value)
HasContent (Meta shown (Some text)) flags value = IfSome shown.flags (λ (own : ℕ). own ≡ flags) × (text ≡ value)
HasContent reply flags value = ⊥

-- a reply has the bytes of a reply with this value and these flags
abbrev pub ShowsContent : Atom (List ℕ) → AReply (List ℕ) → ℕ → List ℕ → Type 0
ShowsContent atom reply flags value = (same : AReply (List ℕ)) × (spelling_of atom reply ≡ spelling_of atom same) × HasContent same flags value

-- A hit shows the last store. A whole value was stored, also by a lost command. A hit follows it in the key's order, and no command between the two may have
-- written. The hit shows the value, and its flags if it shows any.
abbrev pub AHitShowsTheLastStore : Order → (ℕ → List Entry) → Log → List ℕ → Type 0
AHitShowsTheLastStore order histories log key =
    (store read : Executed order histories key) (flags : ℕ) (value : List ℕ) (hit : AReply (List ℕ)) → StoresWhole store.atom flags value → HasWritten store
    → HitsBy read.atom hit → WasAnsweredBy order log (tag_in read.entry) hit → ComesFirst store read → NoneMayHaveWritten store read
    → ShowsContent read.atom hit flags value

-- A hit has a writer: before it, in the same life of the same server, a command may have written.
abbrev pub AHitHasAWriter : Order → (ℕ → List Entry) → Log → List ℕ → Type 0
AHitHasAWriter order histories log key =
    (read : Executed order histories key) (hit : AReply (List ℕ)) → HitsBy read.atom hit → WasAnsweredBy order log (tag_in read.entry) hit
    → (store : Executed order histories key) × (life : ℕ) × (store.place ≡ read.place) × IsInLife life log store × IsInLife life log read
    × ComesFirst store read × MayHaveWritten store

-- `incr` and `decr`: a count that makes no item
pub record CountsOn (atom : Atom (List ℕ)) (counting : Counting) : Type 0 where
  pub key : List ℕ
  pub counts : atom ≡ atoms.Update (Count key counting)
  pub makes_none : counting.create ≡ None

-- Counters count for clients. A count was answered by a number. The next command on the key that may have written is a count too, and was
-- answered by a number. It goes on from the first.
abbrev pub ClientsCount : Order → (ℕ → List Entry) → Log → List ℕ → Type 0
ClientsCount order histories log key =
    (first next : Executed order histories key) (counting after : Counting) (number reached : ℕ) → CountsOn first.atom counting → CountsOn next.atom after
    → number < 2 ^ 64 → WasAnsweredBy order log (tag_in first.entry) (Number number) → reached < 2 ^ 64 → WasAnsweredBy order log (tag_in next.entry) (Number reached)
    → ComesFirst first next → NoneMayHaveWritten first next → reached ≡ counted after.direction after.delta number

-- a client was shown W
abbrev pub WasShownWin : {order : Order} {histories : ℕ → List Entry} {key : List ℕ} → Log → Executed order histories key → Type 0
WasShownWin {order} log x = (reply : AReply (List ℕ)) × WasAnsweredBy order log (tag_in x.entry) reply × (has_won x.atom reply ≡ true)

-- One client fills an item, if none asks by `N`. Two clients were shown W, and no command between the two has written. Then the second asked for an item to be made,
-- by `N`.
abbrev pub OneClientFills : Order → (ℕ → List Entry) → Log → List ℕ → Type 0
OneClientFills order histories log key =
    (first second : Executed order histories key) → WasShownWin log first → WasShownWin log second → ComesFirst first second → NoneHasWritten first second
    → MayHaveWritten second

-- each command is recorded: its command, its moment, and a reply with the bytes that its server's history has
abbrev pub AreRecorded : {histories : ℕ → List Entry} {key : List ℕ} → (order : Order) → List (Executed order histories key) → List Done → Type 0
AreRecorded order [] [] = Unit {0}
AreRecorded order [] (done ∷ all) = ⊥
AreRecorded order (x ∷ xs) [] = ⊥
AreRecorded order (x ∷ xs) (done ∷ all) = Records order x.place x.entry done × AreRecorded order xs all

-- `add`, and `ms ME`
abbrev pub IsAdd : Atom (List ℕ) → Type 0
IsAdd atom =
    (compare : Option ℕ) × (key : List ℕ) × (flags : ℕ) × (exptime : ℤ) × (value : List ℕ) × (update_in atom ≡ Some (Store Add compare key flags exptime value))

-- commands that are between two others in the key's order
abbrev pub ComeBetween : {order : Order} {histories : ℕ → List Entry} {key : List ℕ} → Executed order histories key → List (Executed order histories key)
    → Executed order histories key → Type 0
ComeBetween a [] b = Unit {0}
ComeBetween a (x ∷ xs) b = ComesBetween a x b × ComeBetween a xs b

-- An `add` excludes. An `add` stored, and no command between an earlier one and it may have written. If an item was stored after the earlier one, it was
-- forgotten, or was dead: no register that holds an item, and keeps it, gives the replies from then on.
abbrev pub AnAddExcludes : Order → (ℕ → List Entry) → Log → List ℕ → Type 0
AnAddExcludes order histories log key =
    (first add : Executed order histories key) → IsAdd add.atom → WasDone order log (tag_in add.entry) → NoneMayHaveWritten first add
    → (between : List (Executed order histories key)) → ComeBetween first between add
    → (all : List Done) (last : Done) → AreRecorded order between all → Records order add.place add.entry last
    → (number : ℕ) (body : Body) → IsSteadyRun number (Some body) (all ++ last ∷ []) → ⊥

-- One client wins while the item stays. Two clients were shown W, and no command between the two has written. Then no register that keeps its item gives the
-- replies from the first win to the second. This holds also if each client asks by `N`.
abbrev pub OneClientWins : Order → (ℕ → List Entry) → Log → List ℕ → Type 0
OneClientWins order histories log key =
    (winner rival : Executed order histories key) → WasShownWin log winner → WasShownWin log rival → NoneHasWritten winner rival
    → (between : List (Executed order histories key)) → ComeBetween winner between rival
    → (one two : Done) (all : List Done) → Records order winner.place winner.entry one → AreRecorded order between all
    → Records order rival.place rival.entry two
    → (number : ℕ) (held : Option Body) → IsSteadyRun number held (one ∷ (all ++ two ∷ [])) → ⊥

-- commands of a server, in order, with numbers from one up to another
abbrev pub AreRising : {order : Order} {histories : ℕ → List Entry} {key : List ℕ} → ℕ → ℕ → ℕ → List (Executed order histories key) → Type 0
AreRising place low high [] = Unit {0}
AreRising place low high (x ∷ xs) = (x.place ≡ place) × (low ≤ x.number) × (x.number < high) × AreRising place (suc x.number) high xs

-- one of them has this number
abbrev pub IsAmong : {order : Order} {histories : ℕ → List Entry} {key : List ℕ} → ℕ → List (Executed order histories key) → Type 0
IsAmong number [] = ⊥
IsAmong number (x ∷ xs) = (number ≡ x.number) ⊎ IsAmong number xs

-- The run of a key in one life of a server: of all commands on the key that the server executed in that life, in order.
pub record HasRun (counter : ℕ) (order : Order) (histories : ℕ → List Entry) (log : Log) (key : List ℕ) (place life : ℕ) : Type 0 where
  pub commands : List (Executed order histories key)
  pub rising : AreRising place (taken_before place life log) (taken_before place (suc life) log) commands
  pub all : (x : Executed order histories key) → x.place ≡ place → IsInLife life log x → IsAmong x.number commands
  pub run : List Done
  pub told : AreRecorded order commands run
  pub is_run : IsRun counter None run
