-- The flags of meta commands: a table, and how a line's flag words are read by it.
use Rattle.std.specs.Prelude.{ℕ, ◌==◌, ◌||◌, nat_lt, Bool, true, false, List, [], ◌∷◌, length, Option, Some, None, is_ok, Result, Ok, Err, codes, if◌then◌else◌}
use Rattle.std.specs.Option.{option_map, unwrap_or}
use Rattle.std.specs.Str.{bytes_eq}
use Prim.Native.Char.{code}
use Rattle.mc_text.specs.Numbers.{read_u64, read_i64, read_flags}
use Rattle.mc_request.specs.declared.faults.Fault.{Fault}
use Rattle.mc_request.specs.declared.faults.Fault.TheVariants.{InvalidFlag, BadToken}
use Rattle.mc_request.specs.declared.flags.Flag.{Flag}
use Rattle.mc_request.specs.declared.flags.Flag.TheVariants.{Coded, Cas, ClientFlags, Key, Opaque, Quiet, Size, Left, Value, Exptime, Compare, StoredFlags, Mode, Create, Initial, Delta, Invalidate, Recache}
use Rattle.mc_request.specs.declared.flags.MetaFlags.{MetaFlags}
use Rattle.mc_request.specs.declared.flags.TheConstants.{OPAQUE_LIMIT}
use Rattle.mc_request.specs.declared.meta.Counting.{Counting}
use Rattle.mc_request.specs.declared.meta.MetaGet.{MetaGet}
use Rattle.mc_request.specs.declared.names.Name.{Name}
use Rattle.mc_request.specs.declared.names.Name.TheVariants.{MetaGet as Mg, MetaSet as Ms, MetaDelete as Md, MetaArithmetic as Ma}
use Rattle.mc_request.specs.declared.parts.Direction.{Direction}
use Rattle.mc_request.specs.declared.parts.Direction.TheVariants.{Up, Down}
use Rattle.mc_request.specs.declared.parts.StoreMode.{StoreMode}
use Rattle.mc_request.specs.declared.parts.StoreMode.TheVariants.{Set, Add, Replace, Append, Prepend}
use Rattle.mc_request.specs.Faults.{◌>>=◌}

-- the flags that each command has, by their letters
-- source: protocol.txt, "Meta Get", "Meta Set", "Meta Delete", "Meta Arithmetic"; which of them this project has is its own
abbrev pub letters_of : Name → List ℕ
letters_of Mg = codes "bcfkOqstvTNR"
letters_of Ms = codes "bckOqsTCFM"
letters_of Md = codes "bkOqCI"
letters_of Ma = codes "bckOqtvTCMNJD"
letters_of name = []

-- whether a letter is one of these
abbrev pub is_one_of : List ℕ → ℕ → Bool
is_one_of [] letter = false
is_one_of (l ∷ ls) letter = if letter == l then true else is_one_of ls letter

-- the flag of a letter: source protocol.txt, likewise
abbrev pub flag_of : ℕ → Option Flag
flag_of letter =
    if letter == code "b" then Some Coded
    else if letter == code "c" then Some Cas
    else if letter == code "f" then Some ClientFlags
    else if letter == code "k" then Some Key
    else if letter == code "O" then Some Opaque
    else if letter == code "q" then Some Quiet
    else if letter == code "s" then Some Size
    else if letter == code "t" then Some Left
    else if letter == code "v" then Some Value
    else if letter == code "T" then Some Exptime
    else if letter == code "C" then Some Compare
    else if letter == code "F" then Some StoredFlags
    else if letter == code "M" then Some Mode
    else if letter == code "N" then Some Create
    else if letter == code "J" then Some Initial
    else if letter == code "D" then Some Delta
    else if letter == code "I" then Some Invalidate
    else if letter == code "R" then Some Recache
    else None

-- no flag was read
abbrev pub fresh_flags : MetaFlags
fresh_flags = record {
  coded = false;
  key = false;
  opaque = false;
  quiet = false;
  invalidate = false;
  show = record { cas = false; flags = false; size = false; left = false; value = false };
  mode = None;
  direction = None;
  flags = None;
  exptime = None;
  create = None;
  compare = None;
  initial = None;
  delta = None;
  recache = None;
}

-- a flag without a token: twice it is invalid, and with more bytes than its letter too
abbrev pub bare : Bool → List ℕ → Result Bool Fault
bare true token = Err InvalidFlag
bare false [] = Ok true
bare false (b ∷ bs) = Err InvalidFlag

-- a flag with a token that stands for a value: twice it is invalid, and a token that stands for none is a bad one
abbrev pub valued : {A : Type 0} → Option A → Option A → Result (Option A) Fault
valued (Some given) said = Err InvalidFlag
valued None None = Err BadToken
valued None (Some value) = Ok (Some value)

-- an opaque, which may be empty: source protocol.txt, "Meta Get", flag O
abbrev pub opaque_of : Bool → List ℕ → Result Bool Fault
opaque_of true token = Err InvalidFlag
opaque_of false token = if nat_lt OPAQUE_LIMIT (length token) then Err BadToken else Ok true

-- whether a token is a letter, capital or small
abbrev pub is_either : List ℕ → List ℕ → List ℕ → Bool
is_either token capital small = bytes_eq token capital || bytes_eq token small

-- the mode of `ms` that a token names: source protocol.txt, "Meta Set", flag M
abbrev pub mode_of : List ℕ → Option StoreMode
mode_of token =
    if is_either token (codes "E") (codes "e") then Some Add
    else if is_either token (codes "A") (codes "a") then Some Append
    else if is_either token (codes "P") (codes "p") then Some Prepend
    else if is_either token (codes "R") (codes "r") then Some Replace
    else if is_either token (codes "S") (codes "s") then Some Set
    else None

-- the mode of `ma` that a token names: source protocol.txt, "Meta Arithmetic", flag M
abbrev pub direction_of : List ℕ → Option Direction
direction_of token =
    if is_either token (codes "I") (codes "i") || bytes_eq token (codes "+") then Some Up
    else if is_either token (codes "D") (codes "d") || bytes_eq token (codes "-") then Some Down
    else None

-- a mode, which is another one for `ms` than for `ma`
abbrev pub with_mode : Name → MetaFlags → List ℕ → Result MetaFlags Fault
with_mode Ms read token = valued read.mode (mode_of token) >>= (λ mode. Ok (record read { mode = mode }))
with_mode name read token = valued read.direction (direction_of token) >>= (λ direction. Ok (record read { direction = direction }))

-- the flags with one more, by its token
-- source: protocol.txt, "Meta Get", "Meta Set", "Meta Delete", "Meta Arithmetic"
abbrev pub by_flag : Name → MetaFlags → List ℕ → Flag → Result MetaFlags Fault
by_flag name read token Coded = bare read.coded token >>= (λ coded. Ok (record read { coded = coded }))
by_flag name read token Cas = bare read.show.cas token >>= (λ cas. Ok (record read { show = record read.show { cas = cas } }))
by_flag name read token ClientFlags = bare read.show.flags token >>= (λ flags. Ok (record read { show = record read.show { flags = flags } }))
by_flag name read token Key = bare read.key token >>= (λ key. Ok (record read { key = key }))
by_flag name read token Opaque = opaque_of read.opaque token >>= (λ opaque. Ok (record read { opaque = opaque }))
by_flag name read token Quiet = bare read.quiet token >>= (λ quiet. Ok (record read { quiet = quiet }))
by_flag name read token Size = bare read.show.size token >>= (λ size. Ok (record read { show = record read.show { size = size } }))
by_flag name read token Left = bare read.show.left token >>= (λ left. Ok (record read { show = record read.show { left = left } }))
by_flag name read token Value = bare read.show.value token >>= (λ value. Ok (record read { show = record read.show { value = value } }))
by_flag name read token Exptime = valued read.exptime (read_i64 token) >>= (λ exptime. Ok (record read { exptime = exptime }))
by_flag name read token Compare = valued read.compare (read_u64 token) >>= (λ compare. Ok (record read { compare = compare }))
by_flag name read token StoredFlags = valued read.flags (read_flags token) >>= (λ flags. Ok (record read { flags = flags }))
by_flag name read token Mode = with_mode name read token
by_flag name read token Create = valued read.create (read_i64 token) >>= (λ create. Ok (record read { create = create }))
by_flag name read token Initial = valued read.initial (read_u64 token) >>= (λ initial. Ok (record read { initial = initial }))
by_flag name read token Delta = valued read.delta (read_u64 token) >>= (λ delta. Ok (record read { delta = delta }))
by_flag name read token Invalidate = bare read.invalidate token >>= (λ invalidate. Ok (record read { invalidate = invalidate }))
by_flag name read token Recache = valued read.recache (read_u64 token) >>= (λ recache. Ok (record read { recache = recache }))

-- the flags with one more, by the flag that its letter has, if it has one
abbrev pub by_letter : Name → MetaFlags → List ℕ → Option Flag → Result MetaFlags Fault
by_letter name read token None = Err InvalidFlag
by_letter name read token (Some flag) = by_flag name read token flag

-- the flags with one more word: its first byte is the flag's letter, and the others are its token
abbrev pub with_flag : Name → MetaFlags → List ℕ → Result MetaFlags Fault
with_flag name read [] = Err InvalidFlag
with_flag name read (letter ∷ token) =
    if is_one_of (letters_of name) letter then by_letter name read token (flag_of letter) else Err InvalidFlag

-- the flags of a command's flag words: the first word that is refused, from left to right, is the fault
-- source: this project's own order
abbrev pub flags_from : Name → MetaFlags → List (List ℕ) → Result MetaFlags Fault
flags_from name read [] = Ok read
flags_from name read (word ∷ words) = with_flag name read word >>= (λ read. flags_from name read words)

-- whether a command takes flag words: each is one of its flags and occurs once, with a token that may be read
abbrev pub takes_flags : Name → List (List ℕ) → Bool
takes_flags name words = is_ok (flags_from name fresh_flags words)

-- what an `mg` of these flags does: source protocol.txt, "Meta Get"
abbrev pub get_by : MetaFlags → MetaGet
get_by read = record { show = read.show; exptime = read.exptime; create = read.create; recache = read.recache }

-- how an `ma` of these flags counts: up by 1 if nothing is given; without `N` nothing is made, whatever `J` is
-- source: protocol.txt, "Meta Arithmetic"
abbrev pub counting_by : MetaFlags → Counting
counting_by read = record {
  direction = unwrap_or read.direction Up;
  delta = unwrap_or read.delta 1;
  compare = read.compare;
  create = option_map (λ exptime. record { exptime = exptime; initial = unwrap_or read.initial 0 }) read.create;
  exptime = read.exptime;
}
