-- What the flags of each meta command may ask to be shown.
use Rattle.std.proofs.Common.{◌≡◌, ℕ, ◌==◌, Bool, true, false, cond, if◌then◌else◌, List, [], ◌∷◌, Option, Some, None, Result, Ok, Err, refl, subst, arith}
use Prim.Native.Char.{code}
use Rattle.std.proofs.lemmas.Bool.{and_parts, eqb-true}
use Rattle.std.specs.List.{list_all}
use Rattle.mc_text.specs.Numbers.{read_u64, read_i64, read_flags}
use Rattle.mc_request.specs.declared.faults.Fault.{Fault}
use Rattle.mc_request.specs.declared.faults.Fault.TheVariants.{InvalidFlag}
use Rattle.mc_request.specs.declared.flags.Flag.{Flag}
use Rattle.mc_request.specs.declared.flags.Flag.TheVariants.{Coded, Cas, ClientFlags, Key, Opaque, Quiet, Size, Left, Value, Exptime, Compare, StoredFlags, Mode, Create, Initial, Delta, Invalidate, Recache}
use Rattle.mc_request.specs.declared.flags.MetaFlags.{MetaFlags}
use Rattle.mc_request.specs.declared.meta.Show.{Show}
use Rattle.mc_request.specs.declared.names.Name.{Name}
use Rattle.mc_request.specs.declared.names.Name.TheVariants as names
use Rattle.mc_request.specs.Faults.{◌>>=◌}
use Rattle.mc_request.specs.Flags.{letters_of, is_one_of, flag_of, bare, valued, opaque_of, mode_of, direction_of, with_mode, by_flag, by_letter, with_flag, flags_from, fresh_flags}
use Rattle.mc_request.specs.WellFormed.{is_where_some}

-- what holds of a part that was read
abbrev pub Whenever : {A : Type 0} → (A → Type 0) → Result A Fault → Type 0
Whenever P (Ok part) = P part
Whenever P (Err fault) = Unit {0}

-- the same holds of what is read after a part
pub after : {A B : Type 0} (Q : B → Type 0) (r : Result A Fault) (f : A → Result B Fault) → ((a : A) → r ≡ Ok a → Whenever Q (f a)) → Whenever Q (r >>= f)
after Q (Ok a) f next = next a refl
after Q (Err fault) f next = tt

-- it holds of a choice between two
pub choice : {A : Type 0} (Q : A → Type 0) (b : Bool) (x y : Result A Fault) → Whenever Q x → Whenever Q y → Whenever Q (if b then x else y)
choice Q true x y h k = h
choice Q false x y h k = k

pub where_read : {A : Type 0} (P : A → Type 0) (r : Result A Fault) (a : A) → Whenever P r → r ≡ Ok a → P a
where_read P (Ok x) a h is = let same : x ≡ a = cc is in subst P same h
where_read P (Err fault) a h is = absurd cc

-- whether a command has a flag that asks for something to be shown
abbrev may_ask : Name → Flag → Bool
may_ask name Cas = is_one_of (letters_of name) (code "c")
may_ask name ClientFlags = is_one_of (letters_of name) (code "f")
may_ask name Size = is_one_of (letters_of name) (code "s")
may_ask name Left = is_one_of (letters_of name) (code "t")
may_ask name Value = is_one_of (letters_of name) (code "v")
may_ask name other = true

abbrev asks_by : Name → ℕ → Bool
asks_by name letter = is_where_some (may_ask name) (flag_of letter)

letters_ask : (name : Name) → list_all (asks_by name) (letters_of name) ≡ true
letters_ask names.MetaGet = refl
letters_ask names.MetaSet = refl
letters_ask names.MetaDelete = refl
letters_ask names.MetaArithmetic = refl
letters_ask name = refl

-- a letter among others that pass a test
among : (ls : List ℕ) (p : ℕ → Bool) (letter : ℕ) → list_all p ls ≡ true → is_one_of ls letter ≡ true → p letter ≡ true
among [] p letter h is = absurd cc
among (l ∷ ls) p letter h is =
    let parts = and_parts (p l) (list_all p ls) h in
    (elim (letter == l) as (λ b. (letter == l) ≡ b → cond b true (is_one_of ls letter) ≡ true → p letter ≡ true) [
      | true ↦ λ e _. let same : letter ≡ l = eqb-true letter l e in rw same parts.0
      | false ↦ λ e rest. among ls p letter parts.1 rest
    ]) refl is

-- nothing is asked for that the command has no flag for
pub record AsksOnly (name : Name) (show : Show) : Type 0 where
  pub cas : is_one_of (letters_of name) (code "c") ≡ false → show.cas ≡ false
  pub flags : is_one_of (letters_of name) (code "f") ≡ false → show.flags ≡ false
  pub size : is_one_of (letters_of name) (code "s") ≡ false → show.size ≡ false
  pub left : is_one_of (letters_of name) (code "t") ≡ false → show.left ≡ false
  pub value : is_one_of (letters_of name) (code "v") ≡ false → show.value ≡ false

abbrev Asks : Name → MetaFlags → Type 0
Asks name read = AsksOnly name read.show

clash : (b c : Bool) → b ≡ true → b ≡ false → c ≡ false
clash true c h off = absurd cc
clash false c h off = absurd cc

mode_asks : (name : Name) (read : MetaFlags) (token : List ℕ) → Asks name read → Whenever (Asks name) (with_mode name read token)
mode_asks names.MetaSet read token h = after (Asks names.MetaSet) (valued read.mode (mode_of token)) _ (λ _ _. h)
mode_asks name read token h = after (Asks name) (valued read.direction (direction_of token)) _ (λ _ _. h)

flag_asks : (name : Name) (read : MetaFlags) (token : List ℕ) (flag : Flag) → may_ask name flag ≡ true → Asks name read → Whenever (Asks name) (by_flag name read token flag)
flag_asks name read token Coded may h = after (Asks name) (bare read.coded token) _ (λ _ _. h)
flag_asks name read token Cas may h = grind (arith, after, clash)
flag_asks name read token ClientFlags may h = grind (arith, after, clash)
flag_asks name read token Key may h = after (Asks name) (bare read.key token) _ (λ _ _. h)
flag_asks name read token Opaque may h = after (Asks name) (opaque_of read.opaque token) _ (λ _ _. h)
flag_asks name read token Quiet may h = after (Asks name) (bare read.quiet token) _ (λ _ _. h)
flag_asks name read token Size may h = grind (arith, after, clash)
flag_asks name read token Left may h = grind (arith, after, clash)
flag_asks name read token Value may h = grind (arith, after, clash)
flag_asks name read token Exptime may h = after (Asks name) (valued read.exptime (read_i64 token)) _ (λ _ _. h)
flag_asks name read token Compare may h = after (Asks name) (valued read.compare (read_u64 token)) _ (λ _ _. h)
flag_asks name read token StoredFlags may h = after (Asks name) (valued read.flags (read_flags token)) _ (λ _ _. h)
flag_asks name read token Mode may h = mode_asks name read token h
flag_asks name read token Create may h = after (Asks name) (valued read.create (read_i64 token)) _ (λ _ _. h)
flag_asks name read token Initial may h = after (Asks name) (valued read.initial (read_u64 token)) _ (λ _ _. h)
flag_asks name read token Delta may h = after (Asks name) (valued read.delta (read_u64 token)) _ (λ _ _. h)
flag_asks name read token Invalidate may h = after (Asks name) (bare read.invalidate token) _ (λ _ _. h)
flag_asks name read token Recache may h = after (Asks name) (valued read.recache (read_u64 token)) _ (λ _ _. h)

letter_asks : (name : Name) (read : MetaFlags) (token : List ℕ) (flag : Option Flag) → is_where_some (may_ask name) flag ≡ true → Asks name read
    → Whenever (Asks name) (by_letter name read token flag)
letter_asks name read token None may h = tt
letter_asks name read token (Some flag) may h = flag_asks name read token flag may h

known_asks : (name : Name) (read : MetaFlags) (letter : ℕ) (token : List ℕ) (b : Bool) → is_one_of (letters_of name) letter ≡ b → Asks name read
    → Whenever (Asks name) (if b then by_letter name read token (flag_of letter) else Err InvalidFlag)
known_asks name read letter token true is h =
    letter_asks name read token (flag_of letter) (among (letters_of name) (asks_by name) letter (letters_ask name) is) h
known_asks name read letter token false is h = tt

word_asks : (name : Name) (read : MetaFlags) (word : List ℕ) → Asks name read → Whenever (Asks name) (with_flag name read word)
word_asks name read [] h = tt
word_asks name read (letter ∷ token) h = known_asks name read letter token (is_one_of (letters_of name) letter) refl h

words_ask : (name : Name) (read : MetaFlags) (ws : List (List ℕ)) → Asks name read → Whenever (Asks name) (flags_from name read ws)
words_ask name read [] h = h
words_ask name read (word ∷ ws) h =
    after (Asks name) (with_flag name read word) _ (λ next is. words_ask name next ws (where_read (Asks name) (with_flag name read word) next (word_asks name read word h) is))

fresh_asks : (name : Name) → Asks name fresh_flags
fresh_asks name = record { cas = λ _. refl; flags = λ _. refl; size = λ _. refl; left = λ _. refl; value = λ _. refl }

-- what the flags of a command ask for, if they can be read
pub asked : (name : Name) (ws : List (List ℕ)) (read : MetaFlags) → flags_from name fresh_flags ws ≡ Ok read → AsksOnly name read.show
asked name ws read is = where_read (Asks name) (flags_from name fresh_flags ws) read (words_ask name fresh_flags ws (fresh_asks name)) is
