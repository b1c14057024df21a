-- Flag words that a reader takes return few bytes.
use Rattle.std.proofs.Common.{max, ◌≡◌, ℕ, suc, ◌+◌, ◌≤◌, ◌&&◌, Bool, true, false, List, [], ◌∷◌, length, nat_lt, Option, Some, None, is_ok, Result, Ok, Err, refl, if◌then◌else◌, arith}
use Rattle.std.proofs.lemmas.Bool.Decides.{nat_tests}
use Rattle.mc_text.specs.Numbers.{read_u64, read_i64, read_flags}
use Rattle.mc_request.specs.declared.faults.Fault.{Fault}
use Rattle.mc_request.specs.declared.faults.Fault.TheVariants.{InvalidFlag, BadToken}
use Rattle.mc_request.specs.declared.flags.Flag.{Flag}
use Rattle.mc_request.specs.declared.flags.Flag.TheVariants.{Coded, Cas, ClientFlags, Key, Opaque, Quiet, Size, Left, Value, Exptime, Compare, StoredFlags, Mode, Create, Initial, Delta, Invalidate, Recache}
use Rattle.mc_request.specs.declared.flags.MetaFlags.{MetaFlags}
use Rattle.mc_request.specs.declared.meta.MetaCommand.{MetaCommand}
use Rattle.mc_request.specs.declared.meta.MetaForm.{MetaForm}
use Rattle.mc_request.specs.declared.names.Name.{Name}
use Rattle.mc_request.specs.declared.names.Name.TheVariants as names
use Rattle.mc_request.specs.declared.parts.Request.{Request}
use Rattle.mc_request.specs.declared.parts.Request.TheVariants as requests
use Rattle.mc_request.specs.Faults.{◌>>=◌}
use Rattle.mc_request.specs.Flags.{letters_of, is_one_of, flag_of, bare, valued, opaque_of, mode_of, direction_of, with_mode, by_flag, by_letter, with_flag, flags_from, fresh_flags}
use Rattle.mc_request.specs.WellFormed.{is_good_meta, is_meta_key, is_good_block, is_good_request, has_flags, command_name}
use Rattle.mc_reply.specs.MetaRooms.{given_room, word_room, flags_room, part_room}

-- what a flag that was not read yet may still return
abbrev room_if : Bool → ℕ → ℕ
room_if true room = 0
room_if false room = room

abbrev left_room : MetaFlags → ℕ
left_room read =
    room_if read.show.cas 22 + room_if read.show.flags 22 + room_if read.show.size 22 + room_if read.show.left 22 + room_if read.key 340 + room_if read.opaque 34

-- what a word returns is taken from it
abbrev Fits : ℕ → MetaFlags → Result MetaFlags Fault → Type 0
Fits room read (Ok next) = room + left_room next ≤ left_room read
Fits room read (Err fault) = Unit {0}

fits_by : {A : Type 0} (room : ℕ) (read : MetaFlags) (part : Result A Fault) (next : A → Result MetaFlags Fault)
    → ((a : A) → part ≡ Ok a → Fits room read (next a)) → Fits room read (part >>= next)
fits_by room read (Ok a) next h = h a refl
fits_by room read (Err fault) next h = tt

-- a flag that was read was not read before
bare_once : (given : Bool) (token : List ℕ) (now : Bool) → bare given token ≡ Ok now → (given ≡ false) × (now ≡ true)
bare_once true token now h = absurd cc
bare_once false [] now h = (refl, cc)
bare_once false (b ∷ bs) now h = absurd cc

opaque_by : (token : List ℕ) (now b : Bool) → nat_lt 32 (length token) ≡ b → (if b then Err BadToken else Ok true) ≡ Ok now → (now ≡ true) × (length token ≤ 32)
opaque_by token now true e h = absurd cc
opaque_by token now false e h = (cc, grind (arith, nat_tests))

opaque_once : (given : Bool) (token : List ℕ) (now : Bool) → opaque_of given token ≡ Ok now → (given ≡ false) × (now ≡ true) × (length token ≤ 32)
opaque_once true token now h = absurd cc
opaque_once false token now h = let by = opaque_by token now (nat_lt 32 (length token)) refl h in (refl, by.0, by.1)

-- the room of a flag before and after it is read
before : (given : Bool) (room : ℕ) → given ≡ false → room_if given room ≡ room
before given room h = rw h refl

after : (now : Bool) (room : ℕ) → now ≡ true → room_if now room ≡ 0
after now room h = rw h refl

mode_fits : (name : Name) (read : MetaFlags) (token : List ℕ) → Fits 0 read (with_mode name read token)
mode_fits names.MetaSet read token = fits_by 0 read (valued read.mode (mode_of token)) _ (λ _ _. omega arith)
mode_fits name read token = fits_by 0 read (valued read.direction (direction_of token)) _ (λ _ _. omega arith)

flag_fits : (name : Name) (read : MetaFlags) (token : List ℕ) (flag : Flag) → Fits (given_room (suc (length token)) (Some flag)) read (by_flag name read token flag)
flag_fits name read token Cas = grind (arith, fits_by, bare_once, before, after)
flag_fits name read token ClientFlags = grind (arith, fits_by, bare_once, before, after)
flag_fits name read token Size = grind (arith, fits_by, bare_once, before, after)
flag_fits name read token Left = grind (arith, fits_by, bare_once, before, after)
flag_fits name read token Key = grind (arith, fits_by, bare_once, before, after)
flag_fits name read token Opaque = grind (arith, fits_by, opaque_once, before, after)
flag_fits name read token Coded = fits_by 0 read (bare read.coded token) _ (λ _ _. omega arith)
flag_fits name read token Quiet = fits_by 0 read (bare read.quiet token) _ (λ _ _. omega arith)
flag_fits name read token Value = fits_by 0 read (bare read.show.value token) _ (λ _ _. omega arith)
flag_fits name read token Exptime = fits_by 0 read (valued read.exptime (read_i64 token)) _ (λ _ _. omega arith)
flag_fits name read token Compare = fits_by 0 read (valued read.compare (read_u64 token)) _ (λ _ _. omega arith)
flag_fits name read token StoredFlags = fits_by 0 read (valued read.flags (read_flags token)) _ (λ _ _. omega arith)
flag_fits name read token Mode = mode_fits name read token
flag_fits name read token Create = fits_by 0 read (valued read.create (read_i64 token)) _ (λ _ _. omega arith)
flag_fits name read token Initial = fits_by 0 read (valued read.initial (read_u64 token)) _ (λ _ _. omega arith)
flag_fits name read token Delta = fits_by 0 read (valued read.delta (read_u64 token)) _ (λ _ _. omega arith)
flag_fits name read token Invalidate = fits_by 0 read (bare read.invalidate token) _ (λ _ _. omega arith)
flag_fits name read token Recache = fits_by 0 read (valued read.recache (read_u64 token)) _ (λ _ _. omega arith)

letter_fits : (name : Name) (read : MetaFlags) (token : List ℕ) (flag : Option Flag) → Fits (given_room (suc (length token)) flag) read (by_letter name read token flag)
letter_fits name read token None = tt
letter_fits name read token (Some flag) = flag_fits name read token flag

among_fits : (room : ℕ) (read : MetaFlags) (b : Bool) (next : Result MetaFlags Fault) → Fits room read next → Fits room read (if b then next else Err InvalidFlag)
among_fits room read true next h = h
among_fits room read false next h = tt

word_fits : (name : Name) (read : MetaFlags) (word : List ℕ) → Fits (word_room word) read (with_flag name read word)
word_fits name read [] = tt
word_fits name read (letter ∷ token) =
    among_fits (word_room (letter ∷ token)) read (is_one_of (letters_of name) letter) (by_letter name read token (flag_of letter)) (letter_fits name read token (flag_of letter))

-- the words after one that was read
more_fit : (name : Name) (read : MetaFlags) (room : ℕ) (words : List (List ℕ)) (first : Result MetaFlags Fault) (end : MetaFlags) → Fits room read first
    → ((next : MetaFlags) → flags_from name next words ≡ Ok end → flags_room words ≤ left_room next)
    → (first >>= (λ next. flags_from name next words)) ≡ Ok end → room + flags_room words ≤ left_room read
more_fit name read room words (Ok next) end fits more h = let rest_fits = more next h in omega (arith, fits, rest_fits)
more_fit name read room words (Err fault) end fits more h = absurd cc

words_fit : (name : Name) (read : MetaFlags) (words : List (List ℕ)) (end : MetaFlags) → flags_from name read words ≡ Ok end → flags_room words ≤ left_room read
words_fit name read [] end h = omega arith
words_fit name read (word ∷ words) end h =
    more_fit name read (word_room word) words (with_flag name read word) end (word_fits name read word) (λ next e. words_fit name next words end e) h

taken_fit : (name : Name) (words : List (List ℕ)) (read : Result MetaFlags Fault) → flags_from name fresh_flags words ≡ read → is_ok read ≡ true → flags_room words ≤ 480
taken_fit name words (Ok end) e h = let fit = words_fit name fresh_flags words end e in omega (arith, fit)
taken_fit name words (Err fault) e h = absurd cc

pub flags_room-has : (name : Option Name) (words : List (List ℕ)) → has_flags name words ≡ true → flags_room words ≤ 480
flags_room-has None words h = absurd cc
flags_room-has (Some name) words h = taken_fit name words (flags_from name fresh_flags words) refl h

second : (a b : Bool) → (a && b) ≡ true → b ≡ true
second true b h = h
second false b h = absurd cc

-- the flag words of a request that satisfies what every one does
pub flags_room-good : (command : MetaCommand (List ℕ) (List ℕ)) (form : MetaForm (List (List ℕ))) → is_good_request (requests.Meta command form) ≡ true
    → flags_room form.flags ≤ 480
flags_room-good command form h =
    flags_room-has (command_name command) form.flags (second (is_good_meta (is_meta_key form.coded) is_good_block command) (has_flags (command_name command) form.flags) h)

most : (room : ℕ) → room ≤ 480 → max 512 (room + 32) ≡ 512
most room h = omega arith

pub part_room-good : (request : Request) → is_good_request request ≡ true → part_room request ≡ 512
part_room-good (requests.Meta command form) h = most (flags_room form.flags) (flags_room-good command form h)
part_room-good other h = refl
