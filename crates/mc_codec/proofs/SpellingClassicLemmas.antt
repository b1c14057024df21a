-- The lines of classic commands that are spelled are read as those commands.
use Rattle.std.proofs.Common.{◌≡◌, ℕ, ℤ, pos, negsuc, Bool, true, false, List, [], ◌∷◌, ◌++◌, length, Option, Some, None, is_none, nat_lt, decimal, codes, refl, arith}
use Rattle.std.proofs.lemmas.Bool.{and_parts}
use Rattle.std.proofs.lemmas.Bool.Decides.{nat_tests}
use Rattle.std.proofs.lemmas.Slice.Eq.{bytes_eq-Decides}
use Rattle.std.specs.Fmt.{signed_decimal}
use Rattle.mc_text.specs.Keys.{is_plain_key}
use Rattle.mc_text.specs.Numbers.{read_u64, read_i64, read_flags, read_len}
use Rattle.mc_text.proofs.DecimalLemmas.{read_u64-decimal, read_flags-decimal, read_len-decimal, read_i64-pos, read_i64-negsuc}
use Rattle.mc_request.specs.declared.meta.Counting.{Counting}
use Rattle.mc_request.specs.declared.meta.Creation.{Creation}
use Rattle.mc_request.specs.declared.parts.Atom.{Atom}
use Rattle.mc_request.specs.declared.parts.Update.{Update}
use Rattle.mc_request.specs.Requests.{next_request}
use Rattle.mc_text.proofs.SpelledLemmas.{is_word, is_word-key, is_word-decimal}
use Rattle.mc_request.specs.declared.parts.Atom.TheVariants as atoms
use Rattle.mc_request.specs.declared.parts.Direction.{Direction}
use Rattle.mc_request.specs.declared.parts.Direction.TheVariants.{Up, Down}
use Rattle.mc_request.specs.declared.parts.Request.TheVariants as requests
use Rattle.mc_request.specs.declared.parts.StoreMode.{StoreMode}
use Rattle.mc_request.specs.declared.parts.StoreMode.TheVariants.{Set, Add, Replace, Append, Prepend}
use Rattle.mc_request.specs.declared.parts.Parsed.TheVariants.{Whole}
use Rattle.mc_request.specs.declared.parts.Update.TheVariants.{Store, Touch, Delete, Count, FlushAll}
use Rattle.mc_request.specs.Meanings.{Classic, Alone, Stores, meaning, plain_counting}
use Rattle.mc_request.specs.Names.{name_of, is_noreply}
use Rattle.mc_codec.proofs.GoodPartLemmas.{AreStoreParts, store_parts, count_parts}
use Rattle.mc_codec.proofs.SpellingLemmas.{AreWords, no_words, one_word, as_many, is_word-signed, next_alone, next_stored}
use Rattle.mc_codec.specs.Spellings.{get_words, number_if, store_name, count_name, spelling_of_atom, request_of, is_plain_count, is_classic}
use Rattle.mc_request.specs.WellFormed.{is_i64, is_u64, is_where_some, is_good_block, is_good_update}

-- a number with a sign is read as itself
pub read_i64-signed : (z : ℤ) → is_i64 z ≡ true → read_i64 (signed_decimal z) ≡ Some z
read_i64-signed (pos n) h = read_i64-pos n (grind (arith, nat_tests, h))
read_i64-signed (negsuc n) h = read_i64-negsuc n (grind (arith, nat_tests, h))

pub read_u64-spelled : (n : ℕ) → is_u64 n ≡ true → read_u64 (decimal n) ≡ Some n
read_u64-spelled n h = read_u64-decimal n (grind (arith, nat_tests, h))

pub meaning-get : (key : List ℕ) (exptime : Option ℤ) (with_cas : Bool) → is_plain_key key ≡ true → is_where_some is_i64 exptime ≡ true
    → meaning (get_words key exptime with_cas) ≡ Alone (Whole (requests.Get (key ∷ []) exptime with_cas))
unfolding name_of
meaning-get key None false k e = rw k refl
meaning-get key None true k e = rw k refl
meaning-get key (Some exptime) false k e = rw (read_i64-signed exptime e, k) refl
meaning-get key (Some exptime) true k e = rw (read_i64-signed exptime e, k) refl

-- a storage command that compares nothing
meaning-store : (mode : StoreMode) (key flags exptime len : List ℕ) (f : ℕ) (e : ℤ) (n : ℕ) → is_plain_key key ≡ true → read_flags flags ≡ Some f
    → read_i64 exptime ≡ Some e → read_len len ≡ Some n → nat_lt 1048576 n ≡ false
    → meaning (store_name mode None ∷ key ∷ flags ∷ exptime ∷ len ∷ []) ≡ Stores (Classic (Store mode None key f e tt) false) n
unfolding name_of
meaning-store Set key flags exptime len f e n k rf re rl small = rw (rl, k, rf, re, small) refl
meaning-store Add key flags exptime len f e n k rf re rl small = rw (rl, k, rf, re, small) refl
meaning-store Replace key flags exptime len f e n k rf re rl small = rw (rl, k, rf, re, small) refl
meaning-store Append key flags exptime len f e n k rf re rl small = rw (rl, k, rf, re, small) refl
meaning-store Prepend key flags exptime len f e n k rf re rl small = rw (rl, k, rf, re, small) refl

meaning-cas : (key flags exptime len number : List ℕ) (f : ℕ) (e : ℤ) (n c : ℕ) → is_plain_key key ≡ true → read_flags flags ≡ Some f
    → read_i64 exptime ≡ Some e → read_len len ≡ Some n → nat_lt 1048576 n ≡ false → read_u64 number ≡ Some c
    → meaning (codes "cas" ∷ key ∷ flags ∷ exptime ∷ len ∷ number ∷ []) ≡ Stores (Classic (Store Set (Some c) key f e tt) false) n
unfolding name_of
meaning-cas key flags exptime len number f e n c k rf re rl small rn = rw (rl, rn, k, rf, re, small) refl

meaning-touch : (key word : List ℕ) (e : ℤ) → is_plain_key key ≡ true → read_i64 word ≡ Some e
    → meaning (codes "touch" ∷ key ∷ word ∷ []) ≡ Alone (Whole (requests.Update (Touch key e) false))
unfolding name_of
meaning-touch key word e k re = rw (k, re) refl

meaning-delete : (key : List ℕ) → is_plain_key key ≡ true → meaning (codes "delete" ∷ key ∷ []) ≡ Alone (Whole (requests.Update (Delete key None false) false))
unfolding name_of
meaning-delete key k = rw k refl

meaning-count : (direction : Direction) (key word : List ℕ) (n : ℕ) → is_plain_key key ≡ true → read_u64 word ≡ Some n
    → meaning (count_name direction ∷ key ∷ word ∷ []) ≡ Alone (Whole (requests.Update (Count key (plain_counting direction n)) false))
unfolding name_of
meaning-count Up key word n k rn = rw (k, rn) refl
meaning-count Down key word n k rn = rw (k, rn) refl

-- a number is another word than `noreply`
not_noreply : (word : List ℕ) (b : Bool) (e : ℤ) → read_i64 word ≡ Some e → is_noreply word ≡ b → is_noreply word ≡ false
not_noreply word false e re is = is
not_noreply word true e re is = grind (arith, codes, bytes_eq-Decides)

meaning-flush : (word : List ℕ) (e : ℤ) → read_i64 word ≡ Some e → meaning (codes "flush_all" ∷ word ∷ []) ≡ Alone (Whole (requests.Update (FlushAll e) false))
unfolding name_of
meaning-flush word e re = rw (not_noreply word (is_noreply word) e re refl, re) refl

abbrev store_words : Option ℕ → List ℕ → ℕ → ℤ → List ℕ → List (List ℕ)
store_words compare key flags exptime block = key ∷ decimal flags ∷ signed_decimal exptime ∷ decimal (length block) ∷ number_if [] compare []

-- the line of a storage command
meaning-storage : (mode : StoreMode) (compare : Option ℕ) (key : List ℕ) (flags : ℕ) (exptime : ℤ) (block : List ℕ)
    → is_classic (Store mode compare key flags exptime block) ≡ true → AreStoreParts is_plain_key compare key flags exptime block
    → meaning (store_name mode compare ∷ store_words compare key flags exptime block) ≡ Stores (Classic (Store mode compare key flags exptime tt) false) (length block)
meaning-storage mode None key flags exptime block classic are =
    let size = are.size in
    meaning-store mode key (decimal flags) (signed_decimal exptime) (decimal (length block)) flags exptime (length block) are.valid
    (read_flags-decimal flags are.flags_fit) (read_i64-signed exptime are.time) (read_len-decimal (length block) size) (grind (arith, nat_tests, size))
meaning-storage Set (Some number) key flags exptime block classic are =
    let size = are.size in
    meaning-cas key (decimal flags) (signed_decimal exptime) (decimal (length block)) (decimal number) flags exptime (length block) number are.valid
    (read_flags-decimal flags are.flags_fit) (read_i64-signed exptime are.time) (read_len-decimal (length block) size) (grind (arith, nat_tests, size))
    (read_u64-spelled number are.number)
meaning-storage Add (Some number) key flags exptime block classic are = absurd cc
meaning-storage Replace (Some number) key flags exptime block classic are = absurd cc
meaning-storage Append (Some number) key flags exptime block classic are = absurd cc
meaning-storage Prepend (Some number) key flags exptime block classic are = absurd cc

store_name_word : (mode : StoreMode) (compare : Option ℕ) → is_word (store_name mode compare) ≡ true
store_name_word Set None = refl
store_name_word Set (Some number) = refl
store_name_word Add compare = refl
store_name_word Replace compare = refl
store_name_word Append compare = refl
store_name_word Prepend compare = refl

number_word : (o : Option ℕ) → is_where_some is_u64 o ≡ true → AreWords 1 (number_if [] o [])
number_word None h = as_many 1 (omega arith) no_words
number_word (Some n) h = one_word (decimal n) (is_word-decimal n (grind (arith, nat_tests, h))) no_words

store_line_words : (mode : StoreMode) (compare : Option ℕ) (key : List ℕ) (flags : ℕ) (exptime : ℤ) (block : List ℕ)
    → AreStoreParts is_plain_key compare key flags exptime block → AreWords 20 (store_name mode compare ∷ store_words compare key flags exptime block)
store_line_words mode compare key flags exptime block are =
    grind (arith, decimal, is_word-key, is_word-decimal, one_word, as_many, is_word-signed, store_name_word, number_word)

-- what is claimed of each command's text: the command is its first request
abbrev pub IsFirst : Atom (List ℕ) → Type 0
IsFirst atom = (more : List ℕ) → next_request (spelling_of_atom atom ++ more) ≡ Some (Whole (request_of atom), length (spelling_of_atom atom))

-- a retrieval command
get_line_words : (key : List ℕ) (exptime : Option ℤ) (with_cas : Bool) → is_plain_key key ≡ true → is_where_some is_i64 exptime ≡ true → AreWords 20 (get_words key exptime with_cas)
get_line_words key None false k e = as_many 20 (omega arith) (one_word (codes "get") refl (one_word key (is_word-key key k) no_words))
get_line_words key None true k e = as_many 20 (omega arith) (one_word (codes "gets") refl (one_word key (is_word-key key k) no_words))
get_line_words key (Some exptime) false k e =
    as_many 20 (omega arith) (one_word (codes "gat") refl (one_word (signed_decimal exptime) (is_word-signed exptime e) (one_word key (is_word-key key k) no_words)))
get_line_words key (Some exptime) true k e =
    as_many 20 (omega arith) (one_word (codes "gats") refl (one_word (signed_decimal exptime) (is_word-signed exptime e) (one_word key (is_word-key key k) no_words)))

pub first-get : (key : List ℕ) (exptime : Option ℤ) (with_cas : Bool) → is_plain_key key ≡ true → is_where_some is_i64 exptime ≡ true → IsFirst (atoms.Get key exptime with_cas)
first-get key None false k e more =
    next_alone (codes "get") (key ∷ []) (requests.Get (key ∷ []) None false) more (get_line_words key None false k e) (meaning-get key None false k e)
first-get key None true k e more =
    next_alone (codes "gets") (key ∷ []) (requests.Get (key ∷ []) None true) more (get_line_words key None true k e) (meaning-get key None true k e)
first-get key (Some exptime) false k e more =
    next_alone (codes "gat") (signed_decimal exptime ∷ key ∷ []) (requests.Get (key ∷ []) (Some exptime) false) more (get_line_words key (Some exptime) false k e) (meaning-get key (Some exptime) false k e)
first-get key (Some exptime) true k e more =
    next_alone (codes "gats") (signed_decimal exptime ∷ key ∷ []) (requests.Get (key ∷ []) (Some exptime) true) more (get_line_words key (Some exptime) true k e) (meaning-get key (Some exptime) true k e)

none_is : {A : Type 0} (o : Option A) → is_none o ≡ true → o ≡ None
none_is None h = refl
none_is (Some a) h = absurd cc

same_count : (direction : Direction) (delta : ℕ) (compare : Option ℕ) (create : Option Creation) (exptime : Option ℤ) → compare ≡ None → create ≡ None → exptime ≡ None
    → plain_counting direction delta ≡ (record { direction = direction; delta = delta; compare = compare; create = create; exptime = exptime })
same_count direction delta compare create exptime c n e = rw (c, n, e) refl

-- a count that has nothing but a direction and a delta
plain_count : (counting : Counting) → is_plain_count counting ≡ true → plain_counting counting.direction counting.delta ≡ counting
plain_count counting h = grind (arith, is_none, and_parts, none_is, same_count)

count_name_word : (direction : Direction) → is_word (count_name direction) ≡ true
count_name_word Up = refl
count_name_word Down = refl

first-count : (key : List ℕ) (counting : Counting) → is_plain_count counting ≡ true → is_plain_key key ≡ true → is_u64 counting.delta ≡ true → IsFirst (atoms.Update (Count key counting))
first-count key counting plain k d more =
    let words = as_many 20 (omega arith) (one_word (count_name counting.direction) (count_name_word counting.direction)
    (one_word key (is_word-key key k) (one_word (decimal counting.delta) (is_word-decimal counting.delta (grind (arith, nat_tests, d))) no_words))) in
    let means = meaning-count counting.direction key (decimal counting.delta) counting.delta k (read_u64-spelled counting.delta d) in
    next_alone (count_name counting.direction) (key ∷ decimal counting.delta ∷ []) (requests.Update (Count key counting) false) more words (rw (plain_count counting plain) at means)

-- an update
pub first-update : (update : Update (List ℕ) (List ℕ)) → is_classic update ≡ true → is_good_update is_plain_key is_good_block update ≡ true → IsFirst (atoms.Update update)
first-update (Store mode compare key flags exptime block) classic good more =
    let are = store_parts is_plain_key mode compare key flags exptime block good in
    next_stored (store_name mode compare) (store_words compare key flags exptime block) (Classic (Store mode compare key flags exptime tt) false) block more
    (store_line_words mode compare key flags exptime block are) (meaning-storage mode compare key flags exptime block classic are)
first-update (Touch key exptime) classic good more =
    let parts = and_parts (is_plain_key key) (is_i64 exptime) good in
    next_alone (codes "touch") (key ∷ signed_decimal exptime ∷ []) (requests.Update (Touch key exptime) false) more
    (as_many 20 (omega arith) (one_word (codes "touch") refl (one_word key (is_word-key key parts.0) (one_word (signed_decimal exptime) (is_word-signed exptime parts.1) no_words))))
    (meaning-touch key (signed_decimal exptime) exptime parts.0 (read_i64-signed exptime parts.1))
first-update (Delete key None false) classic good more =
    let parts = and_parts (is_plain_key key) true good in
    next_alone (codes "delete") (key ∷ []) (requests.Update (Delete key None false) false) more
    (as_many 20 (omega arith) (one_word (codes "delete") refl (one_word key (is_word-key key parts.0) no_words))) (meaning-delete key parts.0)
first-update (Delete key None true) classic good more = absurd cc
first-update (Delete key (Some number) invalidate) classic good more = absurd cc
first-update (Count key counting) classic good more = grind (arith, and_parts, count_parts, first-count)
first-update (FlushAll delay) classic good more =
    next_alone (codes "flush_all") (signed_decimal delay ∷ []) (requests.Update (FlushAll delay) false) more
    (as_many 20 (omega arith) (one_word (codes "flush_all") refl (one_word (signed_decimal delay) (is_word-signed delay good) no_words)))
    (meaning-flush (signed_decimal delay) delay (read_i64-signed delay good))
