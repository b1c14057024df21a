-- What every line satisfies, part by part.
use Rattle.std.proofs.Common.{◌≡◌, ℕ, zero, suc, ◌+◌, ◌≤◌, ◌^◌, ◌&&◌, Bool, true, false, not, cond, nat_lt, nat_le, if◌then◌else◌, ℤ, List, [], ◌∷◌, length, take, drop, Option, Some, None, Result, Ok, Err, refl, ap, arith}
use Rattle.std.proofs.lemmas.Bool.Decides.{nat_tests}
use Rattle.std.proofs.lemmas.List.{length-take}
use Rattle.std.specs.List.{list_all}
use Rattle.std.specs.Option.{ok_or}
use Rattle.std.specs.Str.{bytes_eq}
use Rattle.std.specs.Prelude.{codes}
use Rattle.mc_text.specs.Lines as lines
use Rattle.mc_text.specs.Lines.{FirstLine, first_line}
use Rattle.mc_text.specs.Words.{words}
use Rattle.mc_text.specs.Numbers.{number, read_u64, read_i64, read_len, read_flags}
use Rattle.mc_text.specs.Keys.{is_plain_key}
use Rattle.mc_request.specs.declared.faults.Fault.{Fault}
use Rattle.mc_request.specs.declared.faults.Fault.TheVariants as faults
use Rattle.mc_request.specs.declared.faults.Fault.TheVariants.{UnknownCommand, BadFormat, BadDelta, TooLarge}
use Rattle.mc_request.specs.declared.meta.MetaCommand.TheVariants as metas
use Rattle.mc_request.specs.declared.meta.Show.{Show}
use Rattle.mc_request.specs.declared.names.Name.{Name}
use Rattle.mc_request.specs.declared.names.Name.TheVariants as names
use Rattle.mc_request.specs.declared.parts.Direction.{Direction}
use Rattle.mc_request.specs.declared.parts.Direction.TheVariants.{Up, Down}
use Rattle.mc_request.specs.declared.parts.StoreMode.{StoreMode}
use Rattle.mc_request.specs.declared.parts.StoreMode.TheVariants.{Set, Add, Replace, Append, Prepend}
use Rattle.mc_request.specs.declared.parts.Update.{Update}
use Rattle.mc_request.specs.declared.parts.Update.TheVariants.{Store, Touch, Delete, Count, FlushAll}
use Rattle.mc_request.specs.declared.parts.Parsed.{Parsed}
use Rattle.mc_request.specs.declared.parts.Parsed.TheVariants.{Whole, Faulty}
use Rattle.mc_request.specs.Faults.{closes}
use Rattle.mc_request.specs.Parts as parts
use Rattle.mc_request.specs.Names.{name_of, has_arity, at_least, is_noreply, noreply_of}
use Rattle.mc_request.specs.Meanings.{Line, Lone, Storage, PendingStore, Classic, MetaSet, Meaning, plain_counting, Alone, Stores, Refuses, key_of, well_formed, update_line, touch_line, without_zero, delete_line, count_parts, count_line, flush_parts, flush_line, keys_line, gat_line, storage_parts, storing_by, after_length, store_line, line_named, line_of, announced, meaning_from, meaning_by, meaning, announced_by, announced_in}
use Rattle.mc_request.specs.Requests.{stored, with_block, taken_by, next_by, next_request, requests_from, requests_within, requests_of, ends}
use Rattle.mc_request.specs.WellFormed.{is_u64, is_i64, is_where_some, is_good_update, is_meta_key, command_name, has_flags, is_good_block, is_good_request, is_well_formed, is_good_storing, is_good_meaning}
use Rattle.mc_request.proofs.PartLemmas.{not_true, Holds, bound, by_test, of_test, holds, any_bool, and_then, either, tested, some_good, number_good, i64_good, block_is, is_good_line, both, length_good, left, right}
use Rattle.mc_request.proofs.MetaLemmas.{mg_good, md_good, ma_good, ms_good}

abbrev some : ℕ → Option ℕ
some n = Some n

abbrev some_taken : Parsed × ℕ → Option (Parsed × ℕ)
some_taken x = Some x

key_good : (word : List ℕ) → holds is_plain_key (key_of word) ≡ true
key_good word = tested is_plain_key word (is_plain_key word) BadFormat refl refl

noreply_good : (words : List (List ℕ)) → holds any_bool (noreply_of words) ≡ true
noreply_good [] = refl
noreply_good (word ∷ []) = either any_bool (is_noreply word) (Ok true) (Err BadFormat) refl refl
noreply_good (word ∷ another ∷ more) = refl

update_good : (update : Update (List ℕ) (List ℕ)) (noreply : Bool) → is_good_update is_plain_key is_good_block update ≡ true → holds (is_good_line None) (Ok (update_line update noreply)) ≡ true
update_good update noreply h = rw h refl

touch_good : (words : List (List ℕ)) → holds (is_good_line None) (touch_line words) ≡ true
touch_good [] = refl
touch_good (key ∷ []) = refl
touch_good (key ∷ exptime ∷ more) =
    and_then any_bool (is_good_line None) (noreply_of more) _ (noreply_good more) (λ noreply _.
    and_then is_plain_key (is_good_line None) (key_of key) _ (key_good key) (λ key k.
    and_then is_i64 (is_good_line None) (well_formed (read_i64 exptime)) _ (some_good is_i64 (read_i64 exptime) BadFormat refl (i64_good exptime)) (λ exptime e.
    update_good (Touch key exptime) noreply (both _ _ k e))))

delete_good : (words : List (List ℕ)) → holds (is_good_line None) (delete_line words) ≡ true
delete_good [] = refl
delete_good (key ∷ more) =
    and_then any_bool (is_good_line None) (noreply_of (without_zero more)) _ (noreply_good (without_zero more)) (λ noreply _.
    and_then is_plain_key (is_good_line None) (key_of key) _ (key_good key) (λ key k. update_good (Delete key None false) noreply (both _ _ k refl)))

count_parts_good : (key delta : List ℕ) (more : List (List ℕ)) (b : Bool) → is_plain_key key ≡ b
    → holds (λ (parts : ℕ × Bool). is_plain_key key && is_u64 parts.0) (count_parts key delta more) ≡ true
count_parts_good key delta more true is = rw is
    (and_then is_u64 (λ (parts : ℕ × Bool). is_u64 parts.0) (ok_or (read_u64 delta) BadDelta) _ (some_good is_u64 (read_u64 delta) BadDelta refl (number_good 20 (2 ^ 64) delta)) (λ delta d.
    and_then any_bool (λ (parts : ℕ × Bool). is_u64 parts.0) (noreply_of more) _ (noreply_good more) (λ noreply _. d)))
count_parts_good key delta more false is = rw is refl

count_good : (direction : Direction) (words : List (List ℕ)) → holds (is_good_line None) (count_line direction words) ≡ true
count_good direction [] = refl
count_good direction (key ∷ []) = refl
count_good direction (key ∷ delta ∷ more) =
    and_then (λ (parts : ℕ × Bool). is_plain_key key && is_u64 parts.0) (is_good_line None) (count_parts key delta more) _
    (count_parts_good key delta more (is_plain_key key) refl)
    (λ parts good. update_good (Count key (plain_counting direction parts.0)) parts.1
    (both _ _ (left (is_plain_key key) (is_u64 parts.0) good) (rw (right (is_plain_key key) (is_u64 parts.0) good) refl)))

flush_parts_good : (words : List (List ℕ)) → holds (λ (parts : ℤ × Bool). is_i64 parts.0) (flush_parts words) ≡ true
flush_parts_good [] = refl
flush_parts_good (word ∷ []) =
    either (λ (parts : ℤ × Bool). is_i64 parts.0) (is_noreply word) _ _ refl
    (and_then is_i64 (λ (parts : ℤ × Bool). is_i64 parts.0) (well_formed (read_i64 word)) _ (some_good is_i64 (read_i64 word) BadFormat refl (i64_good word)) (λ delay d. d))
flush_parts_good (delay ∷ word ∷ more) =
    and_then is_i64 (λ (parts : ℤ × Bool). is_i64 parts.0) (well_formed (read_i64 delay)) _ (some_good is_i64 (read_i64 delay) BadFormat refl (i64_good delay)) (λ delay d.
    and_then any_bool (λ (parts : ℤ × Bool). is_i64 parts.0) (noreply_of (word ∷ more)) _ (noreply_good (word ∷ more)) (λ noreply _. d))

flush_good : (words : List (List ℕ)) → holds (is_good_line None) (flush_line words) ≡ true
flush_good words =
    and_then (λ (parts : ℤ × Bool). is_i64 parts.0) (is_good_line None) (flush_parts words) _ (flush_parts_good words) (λ parts d.
    update_good (FlushAll parts.0) parts.1 d)

keys_tested : (exptime : Option ℤ) (with_cas : Bool) (key : List ℕ) (keys : List (List ℕ)) (b : Bool) → is_where_some is_i64 exptime ≡ true → list_all is_plain_key (key ∷ keys) ≡ b
    → holds (is_good_line None) (keys_line exptime with_cas (key ∷ keys)) ≡ true
keys_tested exptime with_cas key keys true e is =
    let some : nat_lt 0 (length (key ∷ keys)) ≡ true = grind (arith, nat_tests) in rw is (rw (some, is, e) refl)
keys_tested exptime with_cas key keys false e is = rw is refl

-- if there is a key
keys_good : (exptime : Option ℤ) (with_cas : Bool) (keys : List (List ℕ)) → is_where_some is_i64 exptime ≡ true → at_least 1 keys ≡ true
    → holds (is_good_line None) (keys_line exptime with_cas keys) ≡ true
keys_good exptime with_cas [] e some = absurd cc
keys_good exptime with_cas (key ∷ keys) e some = keys_tested exptime with_cas key keys (list_all is_plain_key (key ∷ keys)) e refl

gat_good : (with_cas : Bool) (words : List (List ℕ)) → at_least 2 words ≡ true → holds (is_good_line None) (gat_line with_cas words) ≡ true
gat_good with_cas [] some = absurd cc
gat_good with_cas (exptime ∷ keys) some =
    and_then is_i64 (is_good_line None) (well_formed (read_i64 exptime)) _ (some_good is_i64 (read_i64 exptime) BadFormat refl (i64_good exptime)) (λ exptime e.
    keys_good (Some exptime) with_cas keys e some)

-- the parts of a storage command
abbrev AreParts : List ℕ → Option ℕ → ℕ × ℤ × ℕ → Type 0
AreParts key len parts =
    (is_plain_key key ≡ true) × (nat_lt parts.0 (2 ^ 32) ≡ true) × (is_i64 parts.1 ≡ true) × (nat_le parts.2 1048576 ≡ true) × (block_is len (Some parts.2) ≡ true)

plain_key : (key : List ℕ) (b : Bool) → is_plain_key key ≡ b → Holds (λ k. is_plain_key key ≡ true) (if b then Ok key else Err BadFormat)
plain_key key true is = is
plain_key key false is = refl

little : (key : List ℕ) (block : Option ℕ) (flags : ℕ) (exptime : ℤ) (len : ℕ) (b : Bool) → is_plain_key key ≡ true → nat_lt flags (2 ^ 32) ≡ true → is_i64 exptime ≡ true → block_is block (Some len) ≡ true
    → nat_lt 1048576 len ≡ b → Holds (AreParts key block) (if b then Err TooLarge else Ok (flags, exptime, len))
little key block flags exptime len true k f e same is = refl
little key block flags exptime len false k f e same is = let small : nat_le len 1048576 ≡ true = grind (arith, nat_tests, is) in (k, f, e, small, same)

parts_good : (key flags exptime : List ℕ) (len : Option ℕ) → Holds (AreParts key len) (storage_parts key flags exptime len)
parts_good key flags exptime len =
    bound (λ k. is_plain_key key ≡ true) (AreParts key len) (key_of key) _ (plain_key key (is_plain_key key) refl) (λ _ _ k.
    bound (λ n. nat_lt n (2 ^ 32) ≡ true) (AreParts key len) (well_formed (read_flags flags)) _ (of_test (λ n. nat_lt n (2 ^ 32)) (well_formed (read_flags flags)) (some_good (λ n. nat_lt n (2 ^ 32)) (read_flags flags) BadFormat refl (number_good 20 (2 ^ 32) flags))) (λ flags _ f.
    bound (λ e. is_i64 e ≡ true) (AreParts key len) (well_formed (read_i64 exptime)) _ (of_test is_i64 (well_formed (read_i64 exptime)) (some_good is_i64 (read_i64 exptime) BadFormat refl (i64_good exptime))) (λ exptime _ e.
    bound (λ n. block_is len (Some n) ≡ true) (AreParts key len) (well_formed len) _ (of_test (λ n. block_is len (Some n)) (well_formed len) (length_good len)) (λ n _ same.
    little key len flags exptime n (nat_lt 1048576 n) k f e same refl))))

storing_good : (mode : StoreMode) (compare : Option ℕ) (key flags exptime : List ℕ) (len : Option ℕ) (noreply : Bool) → is_where_some is_u64 compare ≡ true
    → holds (is_good_line len) (storing_by mode compare key flags exptime len noreply) ≡ true
storing_good mode compare key flags exptime len noreply c =
    by_test (is_good_line len) (storing_by mode compare key flags exptime len noreply)
    (bound (AreParts key len) (λ line. is_good_line len line ≡ true) (storage_parts key flags exptime len) _ (parts_good key flags exptime len)
    (λ parts _ h. rw (h.0, c, h.1, h.2, h.3, h.4) refl))

after_length_good : (compares : Bool) (more : List (List ℕ)) → holds (λ (rest : Option ℕ × Bool). is_where_some is_u64 rest.0) (after_length compares more) ≡ true
after_length_good false more = and_then any_bool (λ (rest : Option ℕ × Bool). is_where_some is_u64 rest.0) (noreply_of more) _ (noreply_good more) (λ noreply _. refl)
after_length_good true [] = refl
after_length_good true (number ∷ more) =
    and_then any_bool (λ (rest : Option ℕ × Bool). is_where_some is_u64 rest.0) (noreply_of more) _ (noreply_good more) (λ noreply _.
    and_then is_u64 (λ (rest : Option ℕ × Bool). is_where_some is_u64 rest.0) (well_formed (read_u64 number)) _
    (some_good is_u64 (read_u64 number) BadFormat refl (number_good 20 (2 ^ 64) number)) (λ number n. n))

store_good : (mode : StoreMode) (compares : Bool) (words : List (List ℕ)) → holds (is_good_line (announced names.Set words)) (store_line mode compares words) ≡ true
store_good mode compares [] = refl
store_good mode compares (key ∷ []) = refl
store_good mode compares (key ∷ flags ∷ []) = refl
store_good mode compares (key ∷ flags ∷ exptime ∷ []) = refl
store_good mode compares (key ∷ flags ∷ exptime ∷ len ∷ more) =
    and_then (λ (rest : Option ℕ × Bool). is_where_some is_u64 rest.0) (is_good_line (read_len len)) (after_length compares more) _ (after_length_good compares more) (λ rest c.
    storing_good mode rest.0 key flags exptime (read_len len) rest.1 c)

-- a line that has as many words as its command
named_good : (name : Name) (words : List (List ℕ)) → has_arity name words ≡ true → holds (is_good_line (announced name words)) (line_named name words) ≡ true
named_good names.Set words h = store_good Set false words
named_good names.Add words h = store_good Add false words
named_good names.Replace words h = store_good Replace false words
named_good names.Append words h = store_good Append false words
named_good names.Prepend words h = store_good Prepend false words
named_good names.Cas words h = store_good Set true words
named_good names.Get words h = keys_good None false words refl h
named_good names.Gets words h = keys_good None true words refl h
named_good names.Gat words h = gat_good false words h
named_good names.Gats words h = gat_good true words h
named_good names.Touch words h = touch_good words
named_good names.Delete words h = delete_good words
named_good names.Incr words h = count_good Up words
named_good names.Decr words h = count_good Down words
named_good names.FlushAll words h = flush_good words
named_good names.Version words h = refl
named_good names.Quit words h = refl
named_good names.MetaGet words h = mg_good words
named_good names.MetaSet words h = ms_good words
named_good names.MetaDelete words h = md_good words
named_good names.MetaArithmetic words h = ma_good words
named_good names.MetaNoop words h = refl

counted : (name : Name) (words : List (List ℕ)) (b : Bool) → has_arity name words ≡ b → holds (is_good_line (announced name words)) (if b then line_named name words else Err UnknownCommand) ≡ true
counted name words true h = named_good name words h
counted name words false h = refl

line_good : (name : Name) (words : List (List ℕ)) → holds (is_good_line (announced name words)) (line_of name words) ≡ true
line_good name words = counted name words (has_arity name words) refl

-- the block that follows a line
abbrev pub block_in : Meaning → Option ℕ
block_in (Alone taken) = None
block_in (Stores storing len) = Some len
block_in (Refuses fault len) = Some len

block_found : (a b : Option ℕ) → block_is a b ≡ true → b ≡ a
block_found None None h = refl
block_found None (Some n) h = absurd cc
block_found (Some m) None h = absurd cc
block_found (Some m) (Some n) h = let same : n ≡ m = grind (arith, nat_tests, h) in ap (λ (k : ℕ). some k) same

meaning_is : (block : Option ℕ) (line : Result Line Fault) → holds (is_good_line block) line ≡ true
    → (is_good_meaning (meaning_from block line) ≡ true) × (block_in (meaning_from block line) ≡ block)
meaning_is None (Err fault) h = (refl, refl)
meaning_is (Some len) (Err fault) h = (h, refl)
meaning_is block (Ok (Lone request)) h = (left (is_good_request request) _ h, block_found block None (right (is_good_request request) _ h))
meaning_is block (Ok (Storage storing len)) h =
    (left (is_good_storing storing && nat_le len 1048576) _ h, block_found block (Some len) (right (is_good_storing storing && nat_le len 1048576) _ h))

meaning_good_by : (o : Option Name) (words : List (List ℕ)) → (is_good_meaning (meaning_by o words) ≡ true) × (block_in (meaning_by o words) ≡ announced_by o words)
meaning_good_by None words = (refl, refl)
meaning_good_by (Some name) words = meaning_is (announced name words) (line_of name words) (line_good name words)

-- what a line asks for, and the block that it announces
both_of_meaning : (words : List (List ℕ)) → (is_good_meaning (meaning words) ≡ true) × (block_in (meaning words) ≡ announced_in words)
both_of_meaning [] = (refl, refl)
both_of_meaning (name ∷ words) = meaning_good_by (name_of name) words

pub meaning_good : (words : List (List ℕ)) → is_good_meaning (meaning words) ≡ true
meaning_good words = (both_of_meaning words).0

pub meaning_announces : (words : List (List ℕ)) → block_in (meaning words) ≡ announced_in words
meaning_announces words = (both_of_meaning words).1

-- what swallows a block closes nothing
pub refuses_nothing_closed : (fault : Fault) → not (closes fault) ≡ true → closes fault ≡ false
refuses_nothing_closed fault h = not_true (closes fault) h

-- a block that follows is one that may be stored
pub stores_little : (s : PendingStore) (len : ℕ) → is_good_meaning (Stores s len) ≡ true → len ≤ 1048576
stores_little s len h = let small = right (is_good_storing s) (nat_le len 1048576) h in grind (arith, nat_tests, small)

-- a block in the place of none
with_good_block : (p : List ℕ → Bool) (update : Update (List ℕ) (Unit {0})) (block : List ℕ) → is_good_update p (λ _. true) update ≡ true → length block ≤ 1048576
    → is_good_update p is_good_block (parts.with_block update block) ≡ true
with_good_block p (Store mode compare key flags exptime none) block h small =
    let fits : is_good_block block ≡ true = grind (arith, nat_tests, small) in
    both (p key && is_where_some is_u64 compare && nat_lt flags (2 ^ 32) && is_i64 exptime) (is_good_block block) (left (p key && is_where_some is_u64 compare && nat_lt flags (2 ^ 32) && is_i64 exptime) true h) fits
with_good_block p (Touch key exptime) block h small = h
with_good_block p (Delete key compare invalidate) block h small = h
with_good_block p (Count key counting) block h small = h
with_good_block p (FlushAll delay) block h small = h

-- with a block it has the name that it has without
name_with_block : (update : Update (List ℕ) (Unit {0})) (show : Show) (block : List ℕ)
    → command_name (metas.Update (parts.with_block update block) show) ≡ command_name (metas.Update update show)
name_with_block (Store mode compare key flags exptime none) show block = refl
name_with_block (Touch key exptime) show block = refl
name_with_block (Delete key compare invalidate) show block = refl
name_with_block (Count key counting) show block = refl
name_with_block (FlushAll delay) show block = refl

stored_good : (s : PendingStore) (block : List ℕ) → is_good_storing s ≡ true → length block ≤ 1048576 → is_good_request (stored s block) ≡ true
stored_good (Classic update noreply) block h small = with_good_block is_plain_key update block h small
stored_good (MetaSet update show form) block h small =
    let good = left (is_good_update (is_meta_key form.coded) (λ _. true) update) (has_flags (command_name (metas.Update update show)) form.flags) h in
    let has = right (is_good_update (is_meta_key form.coded) (λ _. true) update) (has_flags (command_name (metas.Update update show)) form.flags) h in
    both (is_good_update (is_meta_key form.coded) is_good_block (parts.with_block update block)) (has_flags (command_name (metas.Update (parts.with_block update block) show)) form.flags)
    (with_good_block (is_meta_key form.coded) update block good small) (rw (name_with_block update show block) has)

block_good_by : (s : PendingStore) (block : List ℕ) (b : Bool) → is_good_storing s ≡ true → length block ≤ 1048576
    → is_well_formed (if b then Whole (stored s block) else Faulty faults.BadDataChunk) ≡ true
block_good_by s block true h small = stored_good s block h small
block_good_by s block false h small = refl

taken_when : (b : Bool) (x : Parsed × ℕ) (y : Parsed × ℕ) → cond b None (some_taken x) ≡ Some y → x ≡ y
taken_when true x y e = absurd cc
taken_when false x y e = cc

taken_good : (m : Meaning) (line : ℕ) (rest : List ℕ) (x : Parsed × ℕ) → is_good_meaning m ≡ true → taken_by m line rest ≡ Some x → is_well_formed x.0 ≡ true
taken_good (Alone taken) line rest x h e = let same : taken ≡ x.0 = cc in rw (← same) h
taken_good (Refuses fault len) line rest x h e =
    let same = taken_when (nat_lt (length rest) (len + 2)) (Faulty fault, line + (len + 2)) x e in rw (← same) refl
taken_good (Stores s len) line rest x h e =
    let same = taken_when (nat_lt (length rest) (len + 2)) (with_block s (take len rest) (take 2 (drop len rest)), line + (len + 2)) x e in
    let limit = right (is_good_storing s) (nat_le len 1048576) h in
    let small : length (take len rest) ≤ 1048576 = grind (arith, nat_tests, length-take len rest, limit) in
    rw (← same) (block_good_by s (take len rest) (bytes_eq (take 2 (drop len rest)) (codes "\r\n")) (left (is_good_storing s) (nat_le len 1048576) h) small)

next_good_by : (l : FirstLine) (text : List ℕ) (x : Parsed × ℕ) → next_by l text ≡ Some x → is_well_formed x.0 ≡ true
next_good_by lines.Partial text x e = absurd cc
next_good_by lines.TooLong text x e = let same : Faulty faults.LineTooLong ≡ x.0 = cc in rw (← same) refl
next_good_by (lines.Whole content line) text x e = taken_good (meaning (words content)) line (drop line text) x (meaning_good (words content)) e

-- whatever is first is well formed
pub next_request_good : (text : List ℕ) (x : Parsed × ℕ) → next_request text ≡ Some x → is_well_formed x.0 ≡ true
unfolding next_request
next_request_good text x e = next_good_by (first_line text) text x e

if_good : (b : Bool) (ts : List Parsed) → list_all is_well_formed ts ≡ true → list_all is_well_formed (if b then [] else ts) ≡ true
if_good true ts h = refl
if_good false ts h = h

from_good : (o : Option (Parsed × ℕ)) (text : List ℕ) (f : List ℕ → List Parsed) → ((x : Parsed × ℕ) → o ≡ Some x → is_well_formed x.0 ≡ true) → ((t : List ℕ) → list_all is_well_formed (f t) ≡ true)
    → list_all is_well_formed (requests_from o text f) ≡ true
from_good None text f first others = refl
from_good (Some x) text f first others = both (is_well_formed x.0) _ (first x refl) (if_good (ends x.0) (f (drop x.1 text)) (others (drop x.1 text)))

within_good : (n : ℕ) (text : List ℕ) → list_all is_well_formed (requests_within n text) ≡ true
unfolding requests_within
within_good zero text = refl
within_good (suc n) text = from_good (next_request text) text (requests_within n) (next_request_good text) (within_good n)

-- whatever a text has is well formed
pub requests_good : (text : List ℕ) → list_all is_well_formed (requests_of text) ≡ true
unfolding requests_of
requests_good text = within_good (length text) text
