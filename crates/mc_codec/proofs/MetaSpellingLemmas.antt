-- The lines of meta commands that are spelled are read as those commands.
use Rattle.std.proofs.Common.{◌≡◌, ℕ, ℤ, suc, ◌<◌, ◌≤◌, ◌^◌, Bool, true, false, not, List, ◌∷◌, length, Option, Some, None, Ok, nat_lt, decimal, codes, refl, ap, ◌∙◌, arith}
use Rattle.std.proofs.lemmas.Bool.{and_parts, not-true}
use Rattle.std.proofs.lemmas.Bool.Decides.{nat_tests}
use Rattle.std.specs.Fmt.{signed_decimal}
use Rattle.mc_text.specs.CodedKeys.{coded_key, coded_of}
use Rattle.mc_text.specs.Numbers.{read_len}
use Rattle.mc_text.proofs.ByteLemmas.{all_bytes, bytes_all}
use Rattle.mc_text.proofs.CodedLemmas.{read-coded_of}
use Rattle.mc_text.proofs.CodedWordLemmas.{is_word-coded}
use Rattle.mc_text.proofs.DecimalLemmas.{read_flags-decimal, read_len-decimal}
use Rattle.mc_text.proofs.SpelledLemmas.{is_word, is_word-decimal, is_word-lettered}
use Rattle.mc_request.specs.declared.flags.MetaFlags.{MetaFlags}
use Rattle.mc_request.specs.declared.meta.Counting.{Counting}
use Rattle.mc_request.specs.declared.meta.Creation.{Creation}
use Rattle.mc_request.specs.declared.meta.MetaCommand.{MetaCommand}
use Rattle.mc_request.specs.declared.meta.MetaCommand.TheVariants as metas
use Rattle.mc_request.specs.declared.meta.MetaGet.{MetaGet}
use Rattle.mc_request.specs.declared.meta.Show.{Show}
use Rattle.mc_request.specs.declared.names.Name.TheVariants as names
use Rattle.mc_request.specs.declared.parts.Atom.TheVariants as atoms
use Rattle.mc_request.specs.declared.parts.Direction.{Direction}
use Rattle.mc_request.specs.declared.parts.Direction.TheVariants.{Up, Down}
use Rattle.mc_request.specs.declared.parts.Request.TheVariants as requests
use Rattle.mc_request.specs.declared.parts.StoreMode.{StoreMode}
use Rattle.mc_request.specs.declared.parts.StoreMode.TheVariants.{Set, Add, Replace, Append, Prepend}
use Rattle.mc_request.specs.declared.parts.Parsed.TheVariants.{Whole}
use Rattle.mc_request.specs.declared.parts.Update.TheVariants.{Store, Touch, Delete, Count, FlushAll}
use Rattle.mc_request.specs.Flags.{flags_from, fresh_flags, get_by, counting_by}
use Rattle.mc_request.specs.Meanings.{Alone, Stores, meaning, form_by, ms_storing}
use Rattle.mc_request.specs.Names.{name_of}
use Rattle.mc_request.specs.Parts.{key_said}
use Rattle.mc_request.specs.WellFormed.{is_i64, is_u64, is_where_some, is_good_block, is_good_creation, is_good_meta}
use Rattle.mc_codec.specs.Spellings.{mode_word, direction_word, creation_words, mg_flags, ms_flags, md_flags, ma_flags, is_askable, is_byte_key, request_of}
use Rattle.mc_codec.proofs.SpellingLemmas.{AreWords, no_words, one_word, as_many, word_where, number_where, signed_where, is_word-lettered_signed, next_alone, next_stored}
use Rattle.mc_codec.proofs.SpellingClassicLemmas.{IsFirst}
use Rattle.mc_codec.proofs.GoodPartLemmas.{AreCountParts, AreGetParts, store_parts, count_parts, get_parts}
use Rattle.mc_codec.proofs.FlagLemmas.{shown, mg_read, ms_read, md_read, ma_read, exptime_in, initial_in, flags-mg, flags-ms, flags-md, flags-ma}

-- lines by their words, and what is read of these
meaning-mg : (word key : List ℕ) (ws : List (List ℕ)) (read : MetaFlags) → flags_from names.MetaGet fresh_flags ws ≡ Ok read → key_said read.coded word ≡ Some key
    → meaning (codes "mg" ∷ word ∷ ws) ≡ Alone (Whole (requests.Meta (metas.Get key (get_by read)) (form_by read ws)))
unfolding name_of
meaning-mg word key ws read e k = rw (e, k) refl

meaning-md : (word key : List ℕ) (ws : List (List ℕ)) (read : MetaFlags) → flags_from names.MetaDelete fresh_flags ws ≡ Ok read → key_said read.coded word ≡ Some key
    → meaning (codes "md" ∷ word ∷ ws) ≡ Alone (Whole (requests.Meta (metas.Update (Delete key read.compare read.invalidate) read.show) (form_by read ws)))
unfolding name_of
meaning-md word key ws read e k = rw (e, k) refl

meaning-ma : (word key : List ℕ) (ws : List (List ℕ)) (read : MetaFlags) → flags_from names.MetaArithmetic fresh_flags ws ≡ Ok read → key_said read.coded word ≡ Some key
    → meaning (codes "ma" ∷ word ∷ ws) ≡ Alone (Whole (requests.Meta (metas.Update (Count key (counting_by read)) read.show) (form_by read ws)))
unfolding name_of
meaning-ma word key ws read e k = rw (e, k) refl

meaning-ms : (word len key : List ℕ) (n : ℕ) (ws : List (List ℕ)) (read : MetaFlags) → read_len len ≡ Some n → flags_from names.MetaSet fresh_flags ws ≡ Ok read
    → key_said read.coded word ≡ Some key → nat_lt 1048576 n ≡ false → meaning (codes "ms" ∷ word ∷ len ∷ ws) ≡ Stores (ms_storing key read ws) n
unfolding name_of
meaning-ms word len key n ws read l e k small = rw (l, e, k, small) refl

-- a key of bytes is read again, and its word is one
record IsCoded (key : List ℕ) : Type 0 where
  said : coded_key (coded_of key) ≡ Some key
  word : is_word (coded_of key) ≡ true

coded : (key : List ℕ) → is_byte_key key ≡ true → IsCoded key
coded key h = grind (arith, and_parts, all_bytes, bytes_all, read-coded_of, is_word-coded)

-- `mg`
mg_words : (get : MetaGet) → AreGetParts get → AreWords 9 (mg_flags get)
mg_words get are =
    one_word (codes "b") refl (word_where get.show.cas (codes "c") refl (word_where get.show.flags (codes "f") refl (word_where get.show.size (codes "s") refl
    (word_where get.show.left (codes "t") refl (word_where get.show.value (codes "v") refl (signed_where 84 get.exptime (omega arith) are.exptime
    (signed_where 78 get.create (omega arith) are.create (number_where 82 get.recache (omega arith) are.recache no_words))))))))

first-mg : (key : List ℕ) (get : MetaGet) → IsCoded key → AreGetParts get → IsFirst (atoms.Meta (metas.Get key get))
first-mg key get is are more =
    let read = mg_read get.show get.exptime get.create get.recache in
    let words : AreWords 20 (codes "mg" ∷ coded_of key ∷ mg_flags get) = as_many 20 (omega arith) (one_word (codes "mg") refl (one_word (coded_of key) is.word (mg_words get are))) in
    next_alone (codes "mg") (coded_of key ∷ mg_flags get) (request_of (atoms.Meta (metas.Get key get))) more words
    (meaning-mg (coded_of key) key (mg_flags get) read (flags-mg get are.exptime are.create are.recache).is is.said)

-- `ms`
mode_is_word : (mode : StoreMode) → is_word (mode_word mode) ≡ true
mode_is_word Set = refl
mode_is_word Add = refl
mode_is_word Replace = refl
mode_is_word Append = refl
mode_is_word Prepend = refl

ms_words : (mode : StoreMode) (compare : Option ℕ) (flags : ℕ) (exptime : ℤ) (show : Show) → is_where_some is_u64 compare ≡ true → flags < 2 ^ 32 → is_i64 exptime ≡ true
    → AreWords 7 (ms_flags mode compare flags exptime show)
ms_words mode compare flags exptime show c f e =
    one_word (codes "b") refl (word_where show.cas (codes "c") refl (word_where show.size (codes "s") refl
    (one_word (84 ∷ signed_decimal exptime) (is_word-lettered_signed 84 exptime (omega arith) e) (one_word (70 ∷ decimal flags) (is_word-lettered 70 flags (omega arith) (omega arith))
    (number_where 67 compare (omega arith) c (one_word (mode_word mode) (mode_is_word mode) no_words))))))

first-ms : (mode : StoreMode) (compare : Option ℕ) (key : List ℕ) (flags : ℕ) (exptime : ℤ) (block : List ℕ) (cas size : Bool) → IsCoded key → is_where_some is_u64 compare ≡ true
    → flags < 2 ^ 32 → is_i64 exptime ≡ true → length block ≤ 1048576 → IsFirst (atoms.Meta (metas.Update (Store mode compare key flags exptime block) (shown cas false size false false)))
first-ms mode compare key flags exptime block cas size is c f e small more =
    let show = shown cas false size false false in
    let read = ms_read show (Some exptime) (Some flags) compare (Some mode) in
    let words : AreWords 20 (codes "ms" ∷ coded_of key ∷ decimal (length block) ∷ ms_flags mode compare flags exptime show) =
    as_many 20 (omega arith) (one_word (codes "ms") refl (one_word (coded_of key) is.word (one_word (decimal (length block)) (is_word-decimal (length block) (omega arith)) (ms_words mode compare flags exptime show c f e)))) in
    next_stored (codes "ms") (coded_of key ∷ decimal (length block) ∷ ms_flags mode compare flags exptime show) (ms_storing key read (ms_flags mode compare flags exptime show)) block more words
    (meaning-ms (coded_of key) (decimal (length block)) key (length block) (ms_flags mode compare flags exptime show) read (read_len-decimal (length block) small)
    (flags-ms mode compare flags exptime cas size c (read_flags-decimal flags f) e).is is.said (grind (arith, nat_tests, small)))

-- `md`
md_words : (compare : Option ℕ) (invalidate : Bool) → is_where_some is_u64 compare ≡ true → AreWords 3 (md_flags compare invalidate)
md_words compare invalidate c = one_word (codes "b") refl (number_where 67 compare (omega arith) c (word_where invalidate (codes "I") refl no_words))

first-md : (key : List ℕ) (compare : Option ℕ) (invalidate : Bool) → IsCoded key → is_where_some is_u64 compare ≡ true
    → IsFirst (atoms.Meta (metas.Update (Delete key compare invalidate) (shown false false false false false)))
first-md key compare invalidate is c more =
    let words : AreWords 20 (codes "md" ∷ coded_of key ∷ md_flags compare invalidate) = as_many 20 (omega arith) (one_word (codes "md") refl (one_word (coded_of key) is.word (md_words compare invalidate c))) in
    next_alone (codes "md") (coded_of key ∷ md_flags compare invalidate) (request_of (atoms.Meta (metas.Update (Delete key compare invalidate) (shown false false false false false)))) more words
    (meaning-md (coded_of key) key (md_flags compare invalidate) (md_read compare invalidate) (flags-md compare invalidate c).is is.said)

-- `ma`
direction_is_word : (direction : Direction) → is_word (direction_word direction) ≡ true
direction_is_word Up = refl
direction_is_word Down = refl

creation_where : {n : ℕ} {ws : List (List ℕ)} (create : Option Creation) → is_where_some is_good_creation create ≡ true → AreWords n ws → AreWords (suc (suc n)) (creation_words create ws)
creation_where {n} None h are = as_many (suc (suc n)) (omega arith) (one_word (codes "J0") refl are)
creation_where (Some creation) h are =
    let parts = and_parts (is_i64 creation.exptime) (is_u64 creation.initial) h in
    let small = parts.1 in
    one_word (78 ∷ signed_decimal creation.exptime) (is_word-lettered_signed 78 creation.exptime (omega arith) parts.0)
    (one_word (74 ∷ decimal creation.initial) (is_word-lettered 74 creation.initial (omega arith) (grind (arith, nat_tests, small))) are)

ma_words : (counting : Counting) (show : Show) → AreCountParts counting → AreWords 10 (ma_flags counting show)
ma_words counting show are =
    let small = are.delta in
    one_word (codes "b") refl (word_where show.cas (codes "c") refl (word_where show.left (codes "t") refl (word_where show.value (codes "v") refl
    (signed_where 84 counting.exptime (omega arith) are.exptime (number_where 67 counting.compare (omega arith) are.compare (creation_where counting.create are.create
    (one_word (68 ∷ decimal counting.delta) (is_word-lettered 68 counting.delta (omega arith) (grind (arith, nat_tests, small)))
    (one_word (direction_word counting.direction) (direction_is_word counting.direction) no_words))))))))

-- what is read of a count is that count
counted : (direction : Direction) (delta : ℕ) (compare : Option ℕ) (create : Option Creation) (exptime : Option ℤ) (show : Show)
    → counting_by (ma_read show exptime compare (exptime_in create) (Some (initial_in create)) (Some delta) (Some direction))
    ≡ (record { direction = direction; delta = delta; compare = compare; create = create; exptime = exptime })
counted direction delta compare None exptime show = refl
counted direction delta compare (Some creation) exptime show = refl

first-ma : (key : List ℕ) (counting : Counting) (cas left value : Bool) → IsCoded key → AreCountParts counting
    → IsFirst (atoms.Meta (metas.Update (Count key counting) (shown cas false false left value)))
first-ma key counting cas left value is are more =
    let show = shown cas false false left value in
    let read = ma_read show counting.exptime counting.compare (exptime_in counting.create) (Some (initial_in counting.create)) (Some counting.delta) (Some counting.direction) in
    let words : AreWords 20 (codes "ma" ∷ coded_of key ∷ ma_flags counting show) = as_many 20 (omega arith) (one_word (codes "ma") refl (one_word (coded_of key) is.word (ma_words counting show are))) in
    let same : counting_by read ≡ counting = counted counting.direction counting.delta counting.compare counting.create counting.exptime show in
    let means = meaning-ma (coded_of key) key (ma_flags counting show) read (flags-ma counting cas left value are.delta are.compare are.create are.exptime).is is.said in
    next_alone (codes "ma") (coded_of key ∷ ma_flags counting show) (request_of (atoms.Meta (metas.Update (Count key counting) show))) more words
    (means ∙ ap (λ (c : Counting). Alone (Whole (requests.Meta (metas.Update (Count key c) show) (form_by read (ma_flags counting show))))) same)

-- what a command does not ask to be shown
shown_by_ms : (cas flags size left value : Bool) → flags ≡ false → left ≡ false → value ≡ false → shown cas false size false false ≡ shown cas flags size left value
shown_by_ms cas flags size left value f l v = rw (f, l, v) refl

shown_by_ma : (cas flags size left value : Bool) → flags ≡ false → size ≡ false → shown cas false false left value ≡ shown cas flags size left value
shown_by_ma cas flags size left value f s = rw (f, s) refl

none_shown : (cas flags size left value : Bool) → cas ≡ false → flags ≡ false → size ≡ false → left ≡ false → value ≡ false
    → shown false false false false false ≡ shown cas flags size left value
none_shown cas flags size left value c f s l v = rw (c, f, s, l, v) refl

pub first-meta : (command : MetaCommand (List ℕ) (List ℕ)) → is_askable command ≡ true → is_good_meta is_byte_key is_good_block command ≡ true → IsFirst (atoms.Meta command)
first-meta (metas.Get key get) asks good = grind (arith, and_parts, get_parts, coded, first-mg)
first-meta (metas.Update (Store mode compare key flags exptime block) show) asks good =
    grind (arith, and_parts, not-true, store_parts, coded, first-ms, shown_by_ms)
first-meta (metas.Update (Delete key compare invalidate) show) asks good = grind (arith, and_parts, not-true, coded, first-md, none_shown)
first-meta (metas.Update (Count key counting) show) asks good =
    grind (arith, and_parts, not-true, count_parts, coded, first-ma, shown_by_ma)
first-meta (metas.Update (Touch key exptime) show) asks good = absurd cc
first-meta (metas.Update (FlushAll delay) show) asks good = absurd cc
