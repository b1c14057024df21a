-- What lines of meta commands keep to.
use Rattle.std.proofs.Common.{◌≡◌, ℕ, ◌^◌, Bool, true, false, nat_lt, ℤ, pos, List, [], ◌∷◌, length, Option, Some, None, Ok, refl, if◌then◌else◌}
use Rattle.std.specs.Option.{option_and_then, option_map, unwrap_or}
use Rattle.mc_text.specs.Keys.{is_key, is_plain_key}
use Rattle.mc_text.specs.CodedKeys.{coded_key, where_key, bytes_of_base64}
use Rattle.mc_text.specs.Numbers.{read_u64, read_i64, read_len, read_flags}
use Rattle.mc_request.specs.declared.flags.Flag.{Flag}
use Rattle.mc_request.specs.declared.flags.Flag.TheVariants.{Coded, Cas, ClientFlags, Key, Opaque, Quiet, Size, Left, Value, Exptime, Compare, StoredFlags, Mode, Create, Initial, Delta, Invalidate, Recache}
use Rattle.mc_request.specs.declared.flags.MetaFlags.{MetaFlags}
use Rattle.mc_request.specs.declared.flags.TheConstants.{OPAQUE_LIMIT}
use Rattle.mc_request.specs.declared.meta.MetaCommand.{MetaCommand}
use Rattle.mc_request.specs.declared.meta.MetaCommand.TheVariants as metas
use Rattle.mc_request.specs.declared.names.Name.{Name}
use Rattle.mc_request.specs.declared.names.Name.TheVariants as names
use Rattle.mc_request.specs.declared.parts.Update.TheVariants.{Delete, Count}
use Rattle.mc_request.specs.Parts.{key_said}
use Rattle.mc_request.specs.Flags.{letters_of, is_one_of, flag_of, bare, valued, opaque_of, mode_of, direction_of, with_mode, by_flag, by_letter, with_flag, flags_from, fresh_flags, takes_flags, get_by, counting_by}
use Rattle.mc_request.specs.Meanings.{Line, well_formed, meta_key, meta_line, mg_line, md_line, ma_line, ms_storing, ms_by, ms_line, second_len, storage_line}
use Rattle.mc_request.specs.WellFormed.{is_good_storing, is_u64, is_i64, is_where_some, is_good_creation, is_good_counting, is_good_get, is_good_meta, is_meta_key, is_good_block, has_flags, command_name}
use Rattle.mc_request.proofs.PartLemmas.{Holds, bound, by_test, of_test, choice, holds, number_good, i64_good, block_is, is_good_line, both, length_good, storage_tested}

-- numbers of flags that were read are within their limits
abbrev AreGood : MetaFlags → Type 0
AreGood read =
    (is_where_some is_i64 read.exptime ≡ true) × (is_where_some is_i64 read.create ≡ true) × (is_where_some is_u64 read.compare ≡ true)
    × (is_where_some is_u64 read.initial ≡ true) × (is_where_some is_u64 read.delta ≡ true) × (is_where_some is_u64 read.recache ≡ true)
    × (is_where_some (λ n. nat_lt n (2 ^ 32)) read.flags ≡ true)

abbrev Anything : {A : Type 0} → A → Type 0
Anything a = Unit {0}

bare_good : (given : Bool) (token : List ℕ) → Holds Anything (bare given token)
bare_good true token = refl
bare_good false [] = tt
bare_good false (b ∷ bs) = refl

valued_good : {A : Type 0} (test : A → Bool) (given said : Option A) → is_where_some test said ≡ true → Holds (λ o. is_where_some test o ≡ true) (valued given said)
valued_good test (Some a) said h = refl
valued_good test None None h = refl
valued_good test None (Some value) h = h

valued_any : {A : Type 0} (given said : Option A) → Holds Anything (valued given said)
valued_any (Some a) said = refl
valued_any None None = refl
valued_any None (Some value) = tt

size_good : (token : List ℕ) (b : Bool) → nat_lt OPAQUE_LIMIT (length token) ≡ b → Holds Anything (opaque_of false token)
size_good token true e = rw e refl
size_good token false e = rw e tt

opaque_good : (given : Bool) (token : List ℕ) → Holds Anything (opaque_of given token)
opaque_good true token = refl
opaque_good false token = size_good token (nat_lt OPAQUE_LIMIT (length token)) refl

mode_good : (name : Name) (read : MetaFlags) (token : List ℕ) → AreGood read → Holds AreGood (with_mode name read token)
mode_good names.MetaSet read token h = bound Anything AreGood (valued read.mode (mode_of token)) _ (valued_any read.mode (mode_of token)) (λ _ _ _. h)
mode_good name read token h = bound Anything AreGood (valued read.direction (direction_of token)) _ (valued_any read.direction (direction_of token)) (λ _ _ _. h)

-- one flag more
flag_good : (name : Name) (read : MetaFlags) (token : List ℕ) (flag : Flag) → AreGood read → Holds AreGood (by_flag name read token flag)
flag_good name read token Coded h = bound Anything AreGood (bare read.coded token) _ (bare_good read.coded token) (λ _ _ _. h)
flag_good name read token Cas h = bound Anything AreGood (bare read.show.cas token) _ (bare_good read.show.cas token) (λ _ _ _. h)
flag_good name read token ClientFlags h = bound Anything AreGood (bare read.show.flags token) _ (bare_good read.show.flags token) (λ _ _ _. h)
flag_good name read token Key h = bound Anything AreGood (bare read.key token) _ (bare_good read.key token) (λ _ _ _. h)
flag_good name read token Opaque h = bound Anything AreGood (opaque_of read.opaque token) _ (opaque_good read.opaque token) (λ _ _ _. h)
flag_good name read token Quiet h = bound Anything AreGood (bare read.quiet token) _ (bare_good read.quiet token) (λ _ _ _. h)
flag_good name read token Size h = bound Anything AreGood (bare read.show.size token) _ (bare_good read.show.size token) (λ _ _ _. h)
flag_good name read token Left h = bound Anything AreGood (bare read.show.left token) _ (bare_good read.show.left token) (λ _ _ _. h)
flag_good name read token Value h = bound Anything AreGood (bare read.show.value token) _ (bare_good read.show.value token) (λ _ _ _. h)
flag_good name read token Exptime h =
    bound _ AreGood (valued read.exptime (read_i64 token)) _ (valued_good is_i64 read.exptime (read_i64 token) (i64_good token)) (λ _ _ n. (n, h.1, h.2, h.3, h.4, h.5, h.6))
flag_good name read token Compare h =
    bound _ AreGood (valued read.compare (read_u64 token)) _ (valued_good is_u64 read.compare (read_u64 token) (number_good 20 (2 ^ 64) token)) (λ _ _ n. (h.0, h.1, n, h.3, h.4, h.5, h.6))
flag_good name read token StoredFlags h =
    bound _ AreGood (valued read.flags (read_flags token)) _ (valued_good (λ n. nat_lt n (2 ^ 32)) read.flags (read_flags token) (number_good 20 (2 ^ 32) token)) (λ _ _ n. (h.0, h.1, h.2, h.3, h.4, h.5, n))
flag_good name read token Mode h = mode_good name read token h
flag_good name read token Create h =
    bound _ AreGood (valued read.create (read_i64 token)) _ (valued_good is_i64 read.create (read_i64 token) (i64_good token)) (λ _ _ n. (h.0, n, h.2, h.3, h.4, h.5, h.6))
flag_good name read token Initial h =
    bound _ AreGood (valued read.initial (read_u64 token)) _ (valued_good is_u64 read.initial (read_u64 token) (number_good 20 (2 ^ 64) token)) (λ _ _ n. (h.0, h.1, h.2, n, h.4, h.5, h.6))
flag_good name read token Delta h =
    bound _ AreGood (valued read.delta (read_u64 token)) _ (valued_good is_u64 read.delta (read_u64 token) (number_good 20 (2 ^ 64) token)) (λ _ _ n. (h.0, h.1, h.2, h.3, n, h.5, h.6))
flag_good name read token Invalidate h = bound Anything AreGood (bare read.invalidate token) _ (bare_good read.invalidate token) (λ _ _ _. h)
flag_good name read token Recache h =
    bound _ AreGood (valued read.recache (read_u64 token)) _ (valued_good is_u64 read.recache (read_u64 token) (number_good 20 (2 ^ 64) token)) (λ _ _ n. (h.0, h.1, h.2, h.3, h.4, n, h.6))

letter_good : (name : Name) (read : MetaFlags) (token : List ℕ) (flag : Option Flag) → AreGood read → Holds AreGood (by_letter name read token flag)
letter_good name read token None h = refl
letter_good name read token (Some flag) h = flag_good name read token flag h

word_good : (name : Name) (read : MetaFlags) (word : List ℕ) → AreGood read → Holds AreGood (with_flag name read word)
word_good name read [] h = refl
word_good name read (letter ∷ token) h = choice AreGood (is_one_of (letters_of name) letter) _ _ (letter_good name read token (flag_of letter) h) refl

words_good : (name : Name) (read : MetaFlags) (words : List (List ℕ)) → AreGood read → Holds AreGood (flags_from name read words)
words_good name read [] h = h
words_good name read (word ∷ words) h = bound AreGood AreGood (with_flag name read word) _ (word_good name read word h) (λ more _ k. words_good name more words k)

fresh_good : AreGood fresh_flags
fresh_good = (refl, refl, refl, refl, refl, refl, refl)

-- flags that were read are taken
taken : (name : Name) (words : List (List ℕ)) (read : MetaFlags) → flags_from name fresh_flags words ≡ Ok read → takes_flags name words ≡ true
taken name words read e = rw e refl

-- a key that was read
where_key_good : (bytes : List ℕ) (b : Bool) → is_key bytes ≡ b → is_where_some is_key (where_key bytes) ≡ true
where_key_good bytes true e = rw e e
where_key_good bytes false e = rw e refl

said_good : (o : Option (List ℕ)) → is_where_some is_key (option_and_then where_key o) ≡ true
said_good None = refl
said_good (Some bytes) = where_key_good bytes (is_key bytes) refl

coded_good : (word : List ℕ) → is_where_some is_key (coded_key word) ≡ true
unfolding coded_key
coded_good word = said_good (bytes_of_base64 word)

plain_good : (word : List ℕ) (b : Bool) → is_plain_key word ≡ b → is_where_some is_plain_key (if b then Some word else None) ≡ true
plain_good word true e = e
plain_good word false e = refl

key_good : (coded : Bool) (word : List ℕ) → is_where_some (is_meta_key coded) (key_said coded word) ≡ true
key_good false word = plain_good word (is_plain_key word) refl
key_good true word = coded_good word

part_good : {A : Type 0} (p : A → Bool) (o : Option A) → is_where_some p o ≡ true → Holds (λ a. p a ≡ true) (well_formed o)
part_good p (Some a) h = h
part_good p None h = refl

-- a default, if nothing is given
or_good : {A : Type 0} (p : A → Bool) (o : Option A) (other : A) → is_where_some p o ≡ true → p other ≡ true → p (unwrap_or o other) ≡ true
or_good p (Some a) other h k = h
or_good p None other h k = k

creation_good : (create : Option ℤ) (initial : ℕ) → is_where_some is_i64 create ≡ true → is_u64 initial ≡ true
    → is_where_some is_good_creation (option_map (λ exptime. record { exptime = exptime; initial = initial }) create) ≡ true
creation_good None initial h k = refl
creation_good (Some exptime) initial h k = both (is_i64 exptime) (is_u64 initial) h k

counting_good : (read : MetaFlags) → AreGood read → is_good_counting (counting_by read) ≡ true
counting_good read h =
    let delta = or_good is_u64 read.delta 1 h.4 refl in
    let initial = or_good is_u64 read.initial 0 h.3 refl in
    rw (delta, h.2, creation_good read.create (unwrap_or read.initial 0) h.1 initial, h.0) refl

get_good : (read : MetaFlags) → AreGood read → is_good_get (get_by read) ≡ true
get_good read h = rw (h.0, h.1, h.5) refl

-- a line by its flags and its key
abbrev GoodLine : Option ℕ → Line → Type 0
GoodLine block line = is_good_line block line ≡ true

meta_good : (command : MetaCommand (List ℕ) (List ℕ)) (read : MetaFlags) (words : List (List ℕ)) → is_good_meta (is_meta_key read.coded) is_good_block command ≡ true
    → has_flags (command_name command) words ≡ true → GoodLine None (meta_line command read words)
meta_good command read words h k = rw (h, k) refl

pub mg_good : (words : List (List ℕ)) → holds (is_good_line None) (mg_line words) ≡ true
mg_good [] = refl
mg_good (key ∷ words) = by_test (is_good_line None) (mg_line (key ∷ words))
    (bound AreGood (GoodLine None) (flags_from names.MetaGet fresh_flags words) _ (words_good names.MetaGet fresh_flags words fresh_good) (λ read e h.
    bound (λ k. is_meta_key read.coded k ≡ true) (GoodLine None) (meta_key read.coded key) _ (part_good (is_meta_key read.coded) (key_said read.coded key) (key_good read.coded key)) (λ said _ k.
    meta_good (metas.Get said (get_by read)) read words (both (is_meta_key read.coded said) (is_good_get (get_by read)) k (get_good read h)) (taken names.MetaGet words read e))))

pub md_good : (words : List (List ℕ)) → holds (is_good_line None) (md_line words) ≡ true
md_good [] = refl
md_good (key ∷ words) = by_test (is_good_line None) (md_line (key ∷ words))
    (bound AreGood (GoodLine None) (flags_from names.MetaDelete fresh_flags words) _ (words_good names.MetaDelete fresh_flags words fresh_good) (λ read e h.
    bound (λ k. is_meta_key read.coded k ≡ true) (GoodLine None) (meta_key read.coded key) _ (part_good (is_meta_key read.coded) (key_said read.coded key) (key_good read.coded key)) (λ said _ k.
    meta_good (metas.Update (Delete said read.compare read.invalidate) read.show) read words (both (is_meta_key read.coded said) (is_where_some is_u64 read.compare) k h.2) (taken names.MetaDelete words read e))))

pub ma_good : (words : List (List ℕ)) → holds (is_good_line None) (ma_line words) ≡ true
ma_good [] = refl
ma_good (key ∷ words) = by_test (is_good_line None) (ma_line (key ∷ words))
    (bound AreGood (GoodLine None) (flags_from names.MetaArithmetic fresh_flags words) _ (words_good names.MetaArithmetic fresh_flags words fresh_good) (λ read e h.
    bound (λ k. is_meta_key read.coded k ≡ true) (GoodLine None) (meta_key read.coded key) _ (part_good (is_meta_key read.coded) (key_said read.coded key) (key_good read.coded key)) (λ said _ k.
    meta_good (metas.Update (Count said (counting_by read)) read.show) read words (both (is_meta_key read.coded said) (is_good_counting (counting_by read)) k (counting_good read h)) (taken names.MetaArithmetic words read e))))

set_good : (said : List ℕ) (read : MetaFlags) (words : List (List ℕ)) → AreGood read → is_meta_key read.coded said ≡ true → takes_flags names.MetaSet words ≡ true
    → is_good_storing (ms_storing said read words) ≡ true
set_good said read words h k has =
    let flags = or_good (λ n. nat_lt n (2 ^ 32)) read.flags 0 h.6 refl in
    let exptime = or_good is_i64 read.exptime (pos 0) h.0 refl in
    rw (k, h.2, flags, exptime, has) refl

ms_after : (key : List ℕ) (len : Option ℕ) (words : List (List ℕ)) → Holds (GoodLine len) (ms_by key len words)
ms_after key len words =
    bound (λ n. block_is len (Some n) ≡ true) (GoodLine len) (well_formed len) _ (of_test (λ n. block_is len (Some n)) (well_formed len) (length_good len)) (λ n _ same.
    bound AreGood (GoodLine len) (flags_from names.MetaSet fresh_flags words) _ (words_good names.MetaSet fresh_flags words fresh_good) (λ read e h.
    bound (λ k. is_meta_key read.coded k ≡ true) (GoodLine len) (meta_key read.coded key) _ (part_good (is_meta_key read.coded) (key_said read.coded key) (key_good read.coded key)) (λ said _ k.
    of_test (is_good_line len) (storage_line (ms_storing said read words) n)
    (storage_tested len (ms_storing said read words) n (nat_lt 1048576 n) (set_good said read words h k (taken names.MetaSet words read e)) same refl))))

pub ms_good : (words : List (List ℕ)) → holds (is_good_line (second_len words)) (ms_line words) ≡ true
ms_good [] = refl
ms_good (key ∷ []) = refl
ms_good (key ∷ len ∷ words) = by_test (is_good_line (read_len len)) (ms_by key (read_len len) words) (ms_after key (read_len len) words)
