-- The canonical spelling of a command: the one text that a proxy sends for it.
use Rattle.std.specs.Prelude.{ℕ, ℤ, ◌&&◌, nat_lt, not, Bool, true, false, List, [], ◌∷◌, ◌++◌, length, Option, Some, None, codes}
use Rattle.std.specs.Fmt.{decimal, signed_decimal}
use Rattle.std.specs.List.{list_all}
use Rattle.std.specs.Option.{is_none}
use Rattle.mc_text.specs.Keys.{is_key, is_plain_key}
use Rattle.mc_text.specs.CodedKeys.{coded_of}
use Rattle.mc_request.specs.Atoms.{atoms_taken}
use Rattle.mc_request.specs.WellFormed.{is_good_block, is_good_meta, is_good_update, is_i64, is_where_some}
use Rattle.mc_request.specs.declared.meta.Counting.{Counting}
use Rattle.mc_request.specs.declared.meta.Creation.{Creation}
use Rattle.mc_request.specs.declared.meta.MetaGet.{MetaGet}
use Rattle.mc_request.specs.declared.meta.Show.{Show}
use Rattle.mc_request.specs.declared.meta.MetaCommand.{MetaCommand}
use Rattle.mc_request.specs.declared.meta.MetaCommand.TheVariants as metas
use Rattle.mc_request.specs.declared.parts.Atom.{Atom}
use Rattle.mc_request.specs.declared.parts.Atom.TheVariants as atoms
use Rattle.mc_request.specs.declared.parts.Direction.{Direction}
use Rattle.mc_request.specs.declared.parts.Direction.TheVariants.{Up, Down}
use Rattle.mc_request.specs.declared.parts.Request.{Request}
use Rattle.mc_request.specs.declared.parts.Request.TheVariants as requests
use Rattle.mc_request.specs.declared.parts.Parsed.{Parsed}
use Rattle.mc_request.specs.declared.parts.StoreMode.{StoreMode}
use Rattle.mc_request.specs.declared.parts.StoreMode.TheVariants.{Set, Add, Replace, Append, Prepend}
use Rattle.mc_request.specs.declared.parts.Update.{Update}
use Rattle.mc_request.specs.declared.parts.Update.TheVariants.{Store, Touch, Delete, Count, FlushAll}

-- a word, if it is asked for, before the words that follow
abbrev pub word_if : Bool → List ℕ → List (List ℕ) → List (List ℕ)
word_if true word words = word ∷ words
word_if false word words = words

-- a number after a flag's letter, if there is one
abbrev pub number_if : List ℕ → Option ℕ → List (List ℕ) → List (List ℕ)
number_if letter None words = words
number_if letter (Some number) words = (letter ++ decimal number) ∷ words

-- a number with a sign after a flag's letter, if there is one
abbrev pub signed_if : List ℕ → Option ℤ → List (List ℕ) → List (List ℕ)
signed_if letter None words = words
signed_if letter (Some number) words = (letter ++ signed_decimal number) ∷ words

-- the name of a storage command: source protocol.txt, "Storage commands"
abbrev pub store_name : StoreMode → Option ℕ → List ℕ
store_name Set None = codes "set"
store_name Set (Some number) = codes "cas"
store_name Add compare = codes "add"
store_name Replace compare = codes "replace"
store_name Append compare = codes "append"
store_name Prepend compare = codes "prepend"

-- the name of a count: source protocol.txt, "Increment/Decrement"
abbrev pub count_name : Direction → List ℕ
count_name Up = codes "incr"
count_name Down = codes "decr"

-- the words of a retrieval command on one key: source protocol.txt, "Retrieval command", "Get And Touch"
abbrev pub get_words : List ℕ → Option ℤ → Bool → List (List ℕ)
get_words key None false = codes "get" ∷ key ∷ []
get_words key None true = codes "gets" ∷ key ∷ []
get_words key (Some exptime) false = codes "gat" ∷ signed_decimal exptime ∷ key ∷ []
get_words key (Some exptime) true = codes "gats" ∷ signed_decimal exptime ∷ key ∷ []

-- the words of an update: source protocol.txt, each command's section
abbrev pub update_words : Update (List ℕ) (List ℕ) → List (List ℕ)
update_words (Store mode compare key flags exptime block) =
    store_name mode compare ∷ key ∷ decimal flags ∷ signed_decimal exptime ∷ decimal (length block) ∷ number_if [] compare []
update_words (Touch key exptime) = codes "touch" ∷ key ∷ signed_decimal exptime ∷ []
update_words (Delete key compare invalidate) = codes "delete" ∷ key ∷ []
update_words (Count key counting) = count_name counting.direction ∷ key ∷ decimal counting.delta ∷ []
update_words (FlushAll delay) = codes "flush_all" ∷ signed_decimal delay ∷ []

-- the letter of a mode of `ms`: source protocol.txt, "Meta Set", flag M
abbrev pub mode_word : StoreMode → List ℕ
mode_word Set = codes "MS"
mode_word Add = codes "ME"
mode_word Replace = codes "MR"
mode_word Append = codes "MA"
mode_word Prepend = codes "MP"

-- the letter of a mode of `ma`: source protocol.txt, "Meta Arithmetic", flag M
abbrev pub direction_word : Direction → List ℕ
direction_word Up = codes "MI"
direction_word Down = codes "MD"

-- the item that `ma` creates, if it creates one, before the words that follow; without one, `J` says 0
-- source: protocol.txt, "Meta Arithmetic", flags N and J
abbrev pub creation_words : Option Creation → List (List ℕ) → List (List ℕ)
creation_words None words = codes "J0" ∷ words
creation_words (Some creation) words = (codes "N" ++ signed_decimal creation.exptime) ∷ (codes "J" ++ decimal creation.initial) ∷ words

-- the flag words of `mg`, after its key in base64: source protocol.txt, "Meta Get"; their order is this project's own
abbrev pub mg_flags : MetaGet → List (List ℕ)
mg_flags get =
    codes "b" ∷ word_if get.show.cas (codes "c") (word_if get.show.flags (codes "f") (word_if get.show.size (codes "s")
    (word_if get.show.left (codes "t") (word_if get.show.value (codes "v") (signed_if (codes "T") get.exptime
    (signed_if (codes "N") get.create (number_if (codes "R") get.recache [])))))))

-- the flag words of `ms`, after the length of its block: source protocol.txt, "Meta Set"
abbrev pub ms_flags : StoreMode → Option ℕ → ℕ → ℤ → Show → List (List ℕ)
ms_flags mode compare flags exptime show =
    codes "b" ∷ word_if show.cas (codes "c") (word_if show.size (codes "s") ((codes "T" ++ signed_decimal exptime)
    ∷ (codes "F" ++ decimal flags) ∷ number_if (codes "C") compare (mode_word mode ∷ [])))

-- the flag words of `md`: source protocol.txt, "Meta Delete"
abbrev pub md_flags : Option ℕ → Bool → List (List ℕ)
md_flags compare invalidate = codes "b" ∷ number_if (codes "C") compare (word_if invalidate (codes "I") [])

-- the flag words of `ma`: source protocol.txt, "Meta Arithmetic"
abbrev pub ma_flags : Counting → Show → List (List ℕ)
ma_flags counting show =
    codes "b" ∷ word_if show.cas (codes "c") (word_if show.left (codes "t") (word_if show.value (codes "v")
    (signed_if (codes "T") counting.exptime (number_if (codes "C") counting.compare (creation_words counting.create
    ((codes "D" ++ decimal counting.delta) ∷ direction_word counting.direction ∷ []))))))

-- the flag words of a meta command; a command without a meta form has none
abbrev pub flag_words : {K B : Type 0} → MetaCommand K B → List (List ℕ)
flag_words (metas.Get key get) = mg_flags get
flag_words (metas.Update (Store mode compare key flags exptime block) show) = ms_flags mode compare flags exptime show
flag_words (metas.Update (Delete key compare invalidate) show) = md_flags compare invalidate
flag_words (metas.Update (Count key counting) show) = ma_flags counting show
flag_words command = []

-- the words of a meta command: its key is sent in base64; a command without a meta form has none
-- source: protocol.txt, "Meta Get", "Meta Set", "Meta Delete", "Meta Arithmetic"
abbrev pub meta_words : MetaCommand (List ℕ) (List ℕ) → List (List ℕ)
meta_words (metas.Get key get) = codes "mg" ∷ coded_of key ∷ mg_flags get
meta_words (metas.Update (Store mode compare key flags exptime block) show) =
    codes "ms" ∷ coded_of key ∷ decimal (length block) ∷ ms_flags mode compare flags exptime show
meta_words (metas.Update (Delete key compare invalidate) show) = codes "md" ∷ coded_of key ∷ md_flags compare invalidate
meta_words (metas.Update (Count key counting) show) = codes "ma" ∷ coded_of key ∷ ma_flags counting show
meta_words command = []

-- the words of a command's line
abbrev pub line_words : Atom (List ℕ) → List (List ℕ)
line_words (atoms.Get key exptime with_cas) = get_words key exptime with_cas
line_words (atoms.Update update) = update_words update
line_words (atoms.Meta command) = meta_words command

-- words with a space between any two
abbrev pub spaced : List (List ℕ) → List ℕ
spaced [] = []
spaced (word ∷ []) = word
spaced (word ∷ other ∷ words) = word ++ (codes " " ++ spaced (other ∷ words))

-- the data block of an update, if it has one
abbrev pub block_in : {K B : Type 0} → Update K B → Option B
block_in (Store mode compare key flags exptime block) = Some block
block_in update = None

-- the data block of a command, if it has one
abbrev pub block_of_atom : {B : Type 0} → Atom B → Option B
block_of_atom (atoms.Get key exptime with_cas) = None
block_of_atom (atoms.Update update) = block_in update
block_of_atom (atoms.Meta (metas.Get key get)) = None
block_of_atom (atoms.Meta (metas.Update update show)) = block_in update

-- a data block with its end, if there is one: source protocol.txt, "Storage commands"
abbrev pub block_lines : Option (List ℕ) → List ℕ
block_lines None = []
block_lines (Some block) = block ++ codes "\r\n"

-- the spelling of a command: its line, and the data block after it; which of the spellings that a server reads is the
-- canonical one is this project's own
abbrev pub spelling_of_atom : Atom (List ℕ) → List ℕ
spelling_of_atom atom = spaced (line_words atom) ++ (codes "\r\n" ++ block_lines (block_of_atom atom))

-- the spellings of commands in sequence
abbrev pub spellings_of : List (Atom (List ℕ)) → List ℕ
spellings_of [] = []
spellings_of (atom ∷ atoms) = spelling_of_atom atom ++ spellings_of atoms

-- the request that the spelling of a command is read as: it hides nothing
abbrev pub request_of : Atom (List ℕ) → Request
request_of (atoms.Get key exptime with_cas) = requests.Get (key ∷ []) exptime with_cas
request_of (atoms.Update update) = requests.Update update false
request_of (atoms.Meta command) = requests.Meta command (record { coded = true; quiet = false; flags = flag_words command })

-- a count with nothing but a direction and a delta
abbrev pub is_plain_count : Counting → Bool
is_plain_count counting = is_none counting.compare && is_none counting.create && is_none counting.exptime

-- an update that a classic line can say: of the storage commands `cas` alone compares, and a deletion or a count has
-- nothing that only flags say
abbrev pub is_classic : {K B : Type 0} → Update K B → Bool
is_classic (Store Set compare key flags exptime block) = true
is_classic (Store mode compare key flags exptime block) = is_none compare
is_classic (Touch key exptime) = true
is_classic (Delete key compare invalidate) = is_none compare && not invalidate
is_classic (Count key counting) = is_plain_count counting
is_classic (FlushAll delay) = true

-- a meta command that asks to be shown no more than its flags can say
abbrev pub is_askable : {K B : Type 0} → MetaCommand K B → Bool
is_askable (metas.Get key get) = true
is_askable (metas.Update (Store mode compare key flags exptime block) show) = not show.flags && not show.left && not show.value
is_askable (metas.Update (Delete key compare invalidate) show) = not show.cas && not show.flags && not show.size && not show.left && not show.value
is_askable (metas.Update (Count key counting) show) = not show.flags && not show.size
is_askable command = false

-- a key of any bytes
abbrev pub is_byte_key : List ℕ → Bool
is_byte_key key = is_key key && list_all (λ b. nat_lt b 256) key

-- a command that a client's request can say, in any form: keys, blocks and numbers within their limits
abbrev pub is_good_atom : Atom (List ℕ) → Bool
is_good_atom (atoms.Get key exptime with_cas) = is_plain_key key && is_where_some is_i64 exptime
is_good_atom (atoms.Update update) = is_classic update && is_good_update is_plain_key is_good_block update
is_good_atom (atoms.Meta command) = is_askable command && is_good_meta is_byte_key is_good_block command

-- a request that asks for no command without a spelling; this project's own
abbrev pub can_be_spelled : Parsed → Bool
can_be_spelled taken = list_all is_good_atom (atoms_taken taken)
