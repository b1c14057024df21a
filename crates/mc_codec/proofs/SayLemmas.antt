-- What a client's lines can say can be spelled.
use Rattle.std.proofs.Common.{◌≡◌, ℕ, zero, suc, ℤ, ◌+◌, ◌<◌, ◌&&◌, Bool, true, false, cond, if◌then◌else◌, nat_lt, List, [], ◌∷◌, length, drop, codes, bytes_eq, Option, Some, None, Result, Ok, Err, refl, ap, ◌∙◌, arith}
use Rattle.std.proofs.lemmas.Bool.{and_parts, and_from}
use Rattle.std.specs.List.{All, list_all}
use Rattle.std.proofs.lemmas.List.Sums.{list_all-from_AllPass}
use Rattle.std.proofs.lemmas.Bool.{lt-ltb}
use Rattle.mc_text.specs.Keys.{is_key, is_key_byte, is_plain_key}
use Rattle.mc_text.specs.Lines as lines
use Rattle.mc_text.specs.Lines.{FirstLine, first_line}
use Rattle.mc_text.specs.Numbers.{read_i64, read_len}
use Rattle.mc_text.specs.Words.{words}
use Rattle.mc_text.proofs.CodedByteLemmas.{bytes_of_coded}
use Rattle.mc_text.proofs.ByteLemmas.{is_byte, all_bytes, list_all-drop}
use Rattle.mc_text.proofs.TextByteLemmas.{bytes_of_words, bytes_of_line}
use Rattle.mc_request.specs.declared.faults.Fault.{Fault}
use Rattle.mc_request.specs.declared.faults.Fault.TheVariants.{BadFormat, TooLarge, UnknownCommand}
use Rattle.mc_request.specs.declared.faults.Fault.TheVariants as faults
use Rattle.mc_request.specs.declared.meta.MetaCommand.{MetaCommand}
use Rattle.mc_request.specs.declared.meta.MetaCommand.TheVariants as metas
use Rattle.mc_request.specs.declared.meta.Show.{Show}
use Rattle.mc_request.specs.declared.names.Name.{Name}
use Rattle.mc_request.specs.declared.names.Name.TheVariants as names
use Rattle.mc_request.specs.declared.parts.Atom.TheVariants as atoms
use Rattle.mc_request.specs.declared.parts.Direction.{Direction}
use Rattle.mc_request.specs.declared.parts.Direction.TheVariants.{Up, Down}
use Rattle.mc_request.specs.declared.parts.Request.{Request}
use Rattle.mc_request.specs.declared.parts.Request.TheVariants as requests
use Rattle.mc_request.specs.declared.parts.StoreMode.{StoreMode}
use Rattle.mc_request.specs.declared.parts.StoreMode.TheVariants.{Set, Add, Replace, Append, Prepend}
use Rattle.mc_request.specs.declared.parts.Parsed.{Parsed}
use Rattle.mc_request.specs.declared.parts.Parsed.TheVariants.{Whole, Faulty}
use Rattle.mc_request.specs.declared.parts.Update.{Update}
use Rattle.mc_request.specs.declared.parts.Update.TheVariants.{Store, Touch, Delete, Count, FlushAll}
use Rattle.mc_request.specs.Atoms.{gets_of}
use Rattle.mc_request.specs.Flags.{flags_from, fresh_flags}
use Rattle.mc_request.specs.Meanings.{Line, Lone, Storage, PendingStore, Classic, MetaSet, Meaning, Alone, Stores, Refuses, key_of, well_formed, touch_line, without_zero, delete_line, count_parts, count_line, flush_parts, flush_line, keys_line, gat_line, storage_parts, after_length, store_line, meta_key, mg_line, md_line, ma_line, ms_storing, ms_by, ms_line, line_named, line_of, announced, meaning_from, meaning_by, meaning}
use Rattle.mc_request.specs.Names.{name_of, has_arity, noreply_of}
use Rattle.mc_request.specs.Parts as parts
use Rattle.mc_request.specs.Parts.{key_in, key_in_meta, key_said}
use Rattle.mc_request.specs.Requests.{stored, with_block, taken_by, next_by, next_request, ends, requests_from, requests_within, requests_of}
use Rattle.mc_request.specs.WellFormed.{is_good_block, is_good_meta, is_good_update, is_i64, is_meta_key, is_well_formed, is_where_some}
use Rattle.mc_codec.specs.Spellings.{can_be_spelled, is_askable, is_byte_key, is_classic, is_good_atom}
use Rattle.mc_codec.proofs.AskLemmas.{Whenever, after, choice, asked, where_read}
use Rattle.mc_codec.proofs.GoodPartLemmas.{another_test}
use Rattle.mc_request.proofs.WellFormedLemmas.{requests_good}

-- the bytes of the key of an update, if it has one
abbrev HasBytes : Option (List ℕ) → Type 0
HasBytes key = is_where_some all_bytes key ≡ true

-- what a line says can be spelled, beside what every request keeps to
abbrev Says : Request → Type 0
Says (requests.Get keys exptime with_cas) = Unit {0}
Says (requests.Update update noreply) = is_classic update ≡ true
Says (requests.Meta command form) = (is_askable command ≡ true) × HasBytes (key_in_meta command)
Says requests.MetaNoop = Unit {0}
Says requests.Version = Unit {0}
Says requests.Quit = Unit {0}

abbrev SaysTaken : Parsed → Type 0
SaysTaken (Whole request) = Says request
SaysTaken (Faulty fault) = Unit {0}

abbrev SaysStoring : PendingStore → Type 0
SaysStoring (Classic update noreply) = is_classic update ≡ true
SaysStoring (MetaSet update show form) = (is_askable (metas.Update update show) ≡ true) × HasBytes (key_in update)

abbrev SaysLine : Line → Type 0
SaysLine (Lone request) = Says request
SaysLine (Storage storing len) = SaysStoring storing

abbrev SaysMeaning : Meaning → Type 0
SaysMeaning (Alone taken) = SaysTaken taken
SaysMeaning (Stores storing len) = SaysStoring storing
SaysMeaning (Refuses fault len) = Unit {0}

-- classic lines
touch_says : (ws : List (List ℕ)) → Whenever SaysLine (touch_line ws)
touch_says [] = tt
touch_says (key ∷ []) = tt
touch_says (key ∷ exptime ∷ more) =
    after SaysLine (noreply_of more) _ (λ _ _. after SaysLine (key_of key) _ (λ _ _. after SaysLine (well_formed (read_i64 exptime)) _ (λ _ _. refl)))

delete_says : (ws : List (List ℕ)) → Whenever SaysLine (delete_line ws)
delete_says [] = tt
delete_says (key ∷ more) = after SaysLine (noreply_of (without_zero more)) _ (λ _ _. after SaysLine (key_of key) _ (λ _ _. refl))

count_says : (direction : Direction) (ws : List (List ℕ)) → Whenever SaysLine (count_line direction ws)
count_says direction [] = tt
count_says direction (key ∷ []) = tt
count_says direction (key ∷ delta ∷ more) = after SaysLine (count_parts key delta more) _ (λ _ _. refl)

flush_says : (ws : List (List ℕ)) → Whenever SaysLine (flush_line ws)
flush_says ws = after SaysLine (flush_parts ws) _ (λ _ _. refl)

keys_say : (exptime : Option ℤ) (with_cas : Bool) (keys : List (List ℕ)) → Whenever SaysLine (keys_line exptime with_cas keys)
keys_say exptime with_cas keys = choice SaysLine (list_all is_plain_key keys) (Ok (Lone (requests.Get keys exptime with_cas))) (Err BadFormat) tt tt

gat_says : (with_cas : Bool) (ws : List (List ℕ)) → Whenever SaysLine (gat_line with_cas ws)
gat_says with_cas [] = tt
gat_says with_cas (exptime ∷ keys) = after SaysLine (well_formed (read_i64 exptime)) _ (λ e _. keys_say (Some e) with_cas keys)

uncompared : (mode : StoreMode) (key : List ℕ) (flags : ℕ) (exptime : ℤ) (none : Unit {0}) → is_classic (Store mode None key flags exptime none) ≡ true
uncompared Set key flags exptime none = refl
uncompared Add key flags exptime none = refl
uncompared Replace key flags exptime none = refl
uncompared Append key flags exptime none = refl
uncompared Prepend key flags exptime none = refl

none_compared : (more : List (List ℕ)) → Whenever (λ (rest : Option ℕ × Bool). rest.0 ≡ None) (after_length false more)
none_compared more = after (λ (rest : Option ℕ × Bool). rest.0 ≡ None) (noreply_of more) _ (λ _ _. refl)

store_says : (mode : StoreMode) (ws : List (List ℕ)) → Whenever SaysLine (store_line mode false ws)
store_says mode [] = tt
store_says mode (key ∷ []) = tt
store_says mode (key ∷ flags ∷ []) = tt
store_says mode (key ∷ flags ∷ exptime ∷ []) = tt
store_says mode (key ∷ flags ∷ exptime ∷ len ∷ more) = grind (arith, after, where_read, uncompared, none_compared)

cas_says : (ws : List (List ℕ)) → Whenever SaysLine (store_line Set true ws)
cas_says [] = tt
cas_says (key ∷ []) = tt
cas_says (key ∷ flags ∷ []) = tt
cas_says (key ∷ flags ∷ exptime ∷ []) = tt
cas_says (key ∷ flags ∷ exptime ∷ len ∷ more) =
    after SaysLine (after_length true more) _ (λ _ _. after SaysLine (storage_parts key flags exptime (read_len len)) _ (λ _ _. refl))

abbrev some_key : List ℕ → Option (List ℕ)
some_key key = Some key

-- the bytes of a key that a word says
plain_bytes : (b : Bool) (word key : List ℕ) → all_bytes word ≡ true → cond b (some_key word) None ≡ Some key → all_bytes key ≡ true
plain_bytes true word key are is = let same : word ≡ key = cc is in rw (← same) are
plain_bytes false word key are is = absurd cc

said_bytes : (coded : Bool) (word key : List ℕ) → all_bytes word ≡ true → key_said coded word ≡ Some key → all_bytes key ≡ true
said_bytes false word key are is = plain_bytes (is_plain_key word) word key are is
said_bytes true word key are is = bytes_of_coded word key are is

part_is : {A : Type 0} (o : Option A) (a : A) → well_formed o ≡ Ok a → o ≡ Some a
part_is (Some x) a is = let same : x ≡ a = cc is in ap (λ (y : _). Some y) same
part_is None a is = absurd cc

key_bytes : (coded : Bool) (word key : List ℕ) → all_bytes word ≡ true → meta_key coded word ≡ Ok key → all_bytes key ≡ true
key_bytes coded word key are is = said_bytes coded word key are (part_is (key_said coded word) key is)

-- lines of meta commands
mg_says : (ws : List (List ℕ)) → list_all all_bytes ws ≡ true → Whenever SaysLine (mg_line ws)
mg_says [] are = tt
mg_says (key ∷ ws) are = grind (arith, and_parts, all_bytes, after, key_bytes)

md_says : (ws : List (List ℕ)) → list_all all_bytes ws ≡ true → Whenever SaysLine (md_line ws)
md_says [] are = tt
md_says (key ∷ ws) are =
    after SaysLine (flags_from names.MetaDelete fresh_flags ws) _ (λ read e. after SaysLine (meta_key read.coded key) _ (λ said is.
    let asks = asked names.MetaDelete ws read e in
    (rw (asks.cas refl, asks.flags refl, asks.size refl, asks.left refl, asks.value refl) refl, key_bytes read.coded key said (and_parts (all_bytes key) (list_all all_bytes ws) are).0 is)))

ma_says : (ws : List (List ℕ)) → list_all all_bytes ws ≡ true → Whenever SaysLine (ma_line ws)
ma_says [] are = tt
ma_says (key ∷ ws) are =
    after SaysLine (flags_from names.MetaArithmetic fresh_flags ws) _ (λ read e. after SaysLine (meta_key read.coded key) _ (λ said is.
    let asks = asked names.MetaArithmetic ws read e in
    (rw (asks.flags refl, asks.size refl) refl, key_bytes read.coded key said (and_parts (all_bytes key) (list_all all_bytes ws) are).0 is)))

ms_says_by : (key : List ℕ) (len : Option ℕ) (ws : List (List ℕ)) → all_bytes key ≡ true → Whenever SaysLine (ms_by key len ws)
ms_says_by key len ws are =
    after SaysLine (well_formed len) _ (λ n _. after SaysLine (flags_from names.MetaSet fresh_flags ws) _ (λ read e. after SaysLine (meta_key read.coded key) _ (λ said is.
    let asks = asked names.MetaSet ws read e in
    choice SaysLine (nat_lt 1048576 n) (Err TooLarge) (Ok (Storage (ms_storing said read ws) n)) tt
    (rw (asks.flags refl, asks.left refl, asks.value refl) refl, key_bytes read.coded key said are is))))

ms_says : (ws : List (List ℕ)) → list_all all_bytes ws ≡ true → Whenever SaysLine (ms_line ws)
ms_says [] are = tt
ms_says (key ∷ []) are = tt
ms_says (key ∷ len ∷ ws) are = ms_says_by key (read_len len) ws (and_parts (all_bytes key) (list_all all_bytes (len ∷ ws)) are).0

named_says : (name : Name) (ws : List (List ℕ)) → list_all all_bytes ws ≡ true → Whenever SaysLine (line_named name ws)
named_says names.Set ws are = store_says Set ws
named_says names.Add ws are = store_says Add ws
named_says names.Replace ws are = store_says Replace ws
named_says names.Append ws are = store_says Append ws
named_says names.Prepend ws are = store_says Prepend ws
named_says names.Cas ws are = cas_says ws
named_says names.Get ws are = keys_say None false ws
named_says names.Gets ws are = keys_say None true ws
named_says names.Gat ws are = gat_says false ws
named_says names.Gats ws are = gat_says true ws
named_says names.Touch ws are = touch_says ws
named_says names.Delete ws are = delete_says ws
named_says names.Incr ws are = count_says Up ws
named_says names.Decr ws are = count_says Down ws
named_says names.FlushAll ws are = flush_says ws
named_says names.Version ws are = tt
named_says names.Quit ws are = tt
named_says names.MetaGet ws are = mg_says ws are
named_says names.MetaSet ws are = ms_says ws are
named_says names.MetaDelete ws are = md_says ws are
named_says names.MetaArithmetic ws are = ma_says ws are
named_says names.MetaNoop ws are = tt

line_says : (name : Name) (ws : List (List ℕ)) → list_all all_bytes ws ≡ true → Whenever SaysLine (line_of name ws)
line_says name ws are = choice SaysLine (has_arity name ws) (line_named name ws) (Err UnknownCommand) (named_says name ws are) tt

from_says : (block : Option ℕ) (line : Result Line Fault) → Whenever SaysLine line → SaysMeaning (meaning_from block line)
from_says block (Ok (Lone request)) h = h
from_says block (Ok (Storage storing len)) h = h
from_says None (Err fault) h = tt
from_says (Some len) (Err fault) h = tt

says_by : (name : Option Name) (ws : List (List ℕ)) → list_all all_bytes ws ≡ true → SaysMeaning (meaning_by name ws)
says_by None ws are = tt
says_by (Some name) ws are = from_says (announced name ws) (line_of name ws) (line_says name ws are)

says : (ws : List (List ℕ)) → list_all all_bytes ws ≡ true → SaysMeaning (meaning ws)
says [] are = tt
says (name ∷ ws) are = says_by (name_of name) ws (and_parts (all_bytes name) (list_all all_bytes ws) are).1

-- a data block changes nothing of this
classic_block : (update : Update (List ℕ) (Unit {0})) (block : List ℕ) → is_classic (parts.with_block update block) ≡ is_classic update
classic_block (Store Set compare key flags exptime none) block = refl
classic_block (Store Add compare key flags exptime none) block = refl
classic_block (Store Replace compare key flags exptime none) block = refl
classic_block (Store Append compare key flags exptime none) block = refl
classic_block (Store Prepend compare key flags exptime none) block = refl
classic_block (Touch key exptime) block = refl
classic_block (Delete key compare invalidate) block = refl
classic_block (Count key counting) block = refl
classic_block (FlushAll delay) block = refl

askable_block : (update : Update (List ℕ) (Unit {0})) (show : Show) (block : List ℕ) → is_askable (metas.Update (parts.with_block update block) show) ≡ is_askable (metas.Update update show)
askable_block (Store mode compare key flags exptime none) show block = refl
askable_block (Touch key exptime) show block = refl
askable_block (Delete key compare invalidate) show block = refl
askable_block (Count key counting) show block = refl
askable_block (FlushAll delay) show block = refl

key_block : (update : Update (List ℕ) (Unit {0})) (block : List ℕ) → key_in (parts.with_block update block) ≡ key_in update
key_block (Store mode compare key flags exptime none) block = refl
key_block (Touch key exptime) block = refl
key_block (Delete key compare invalidate) block = refl
key_block (Count key counting) block = refl
key_block (FlushAll delay) block = refl

stored_says : (storing : PendingStore) (block : List ℕ) → SaysStoring storing → Says (stored storing block)
stored_says (Classic update noreply) block h = classic_block update block ∙ h
stored_says (MetaSet update show form) block h = (askable_block update show block ∙ h.0, rw (key_block update block) h.1)

abbrev SaysFirst : Option (Parsed × ℕ) → Type 0
SaysFirst None = Unit {0}
SaysFirst (Some x) = SaysTaken x.0

ended : (b : Bool) (storing : PendingStore) (block : List ℕ) → SaysStoring storing → SaysTaken (if b then Whole (stored storing block) else Faulty faults.BadDataChunk)
ended true storing block h = stored_says storing block h
ended false storing block h = tt

come : (b : Bool) (taken : Parsed) (n : ℕ) → SaysTaken taken → SaysFirst (if b then None else Some (taken, n))
come true taken n h = tt
come false taken n h = h

taken_says : (m : Meaning) (line : ℕ) (rest : List ℕ) → SaysMeaning m → SaysFirst (taken_by m line rest)
taken_says (Alone taken) line rest h = h
taken_says (Refuses fault len) line rest h = come (nat_lt (length rest) (len + 2)) (Faulty fault) (line + (len + 2)) tt
taken_says (Stores storing len) line rest h = grind (arith, nat_lt, codes, bytes_eq, ended, come)

next_says_by : (l : FirstLine) (text : List ℕ) → first_line text ≡ l → all_bytes text ≡ true → SaysFirst (next_by l text)
next_says_by lines.Partial text is are = tt
next_says_by lines.TooLong text is are = tt
next_says_by (lines.Whole content line) text is are =
    taken_says (meaning (words content)) line (drop line text) (says (words content) (bytes_of_words content (bytes_of_line text content line are is)))

next_says : (text : List ℕ) → all_bytes text ≡ true → SaysFirst (next_request text)
unfolding next_request
next_says text are = next_says_by (first_line text) text refl are

-- all that was taken can be spelled
abbrev SayAll : List Parsed → Type 0
SayAll [] = Unit {0}
SayAll (taken ∷ more) = SaysTaken taken × SayAll more

ending : (b : Bool) (more : List Parsed) → SayAll more → SayAll (if b then [] else more)
ending true more h = tt
ending false more h = h

from_text : (o : Option (Parsed × ℕ)) (text : List ℕ) (f : List ℕ → List Parsed) → SaysFirst o → ((n : ℕ) → SayAll (f (drop n text))) → SayAll (requests_from o text f)
from_text None text f first others = tt
from_text (Some x) text f first others = (first, ending (ends x.0) (f (drop x.1 text)) (others x.1))

within_say : (n : ℕ) (text : List ℕ) → all_bytes text ≡ true → SayAll (requests_within n text)
unfolding requests_within
within_say zero text are = tt
within_say (suc n) text are =
    from_text (next_request text) text (requests_within n) (next_says text are) (λ m. within_say n (drop m text) (list_all-drop is_byte m text are))

requests_say : (text : List ℕ) → all_bytes text ≡ true → SayAll (requests_of text)
unfolding requests_of
requests_say text are = within_say (length text) text are

-- commands of what keeps to both
gets_good : (keys : List (List ℕ)) (exptime : Option ℤ) (with_cas : Bool) → list_all is_plain_key keys ≡ true → is_where_some is_i64 exptime ≡ true
    → list_all is_good_atom (gets_of exptime with_cas keys) ≡ true
gets_good [] exptime with_cas k e = refl
gets_good (key ∷ keys) exptime with_cas k e =
    let keyed = and_parts (is_plain_key key) (list_all is_plain_key keys) k in
    and_from (is_plain_key key && is_where_some is_i64 exptime) _ (and_from (is_plain_key key) _ keyed.0 e) (gets_good keys exptime with_cas keyed.1 e)

valid : (coded : Bool) (key : List ℕ) → is_meta_key coded key ≡ true → is_key key ≡ true
valid true key h = h
valid false key h = (and_parts (is_key key) (list_all is_key_byte key) h).0

byte_key : (coded : Bool) (key : List ℕ) → is_meta_key coded key ≡ true → all_bytes key ≡ true → is_byte_key key ≡ true
byte_key coded key h are = and_from (is_key key) (all_bytes key) (valid coded key h) are

meta_good : (coded : Bool) (command : MetaCommand (List ℕ) (List ℕ)) → HasBytes (key_in_meta command)
    → is_good_meta (is_meta_key coded) is_good_block command ≡ true → is_good_meta is_byte_key is_good_block command ≡ true
meta_good coded (metas.Get key get) are h = grind (arith, and_parts, and_from, byte_key)
meta_good coded (metas.Update update show) are h =
    another_test (is_meta_key coded) is_byte_key update (λ key is good. byte_key coded key good (rw is at are)) h

alone : (b : Bool) → b ≡ true → (b && true) ≡ true
alone true h = refl
alone false h = absurd cc

taken_good : (taken : Parsed) → SaysTaken taken → is_well_formed taken ≡ true → can_be_spelled taken ≡ true
taken_good (Whole (requests.Get keys exptime with_cas)) h good = grind (arith, nat_lt, and_parts, gets_good)
taken_good (Whole (requests.Update update noreply)) h good =
    alone (is_good_atom (atoms.Update update)) (and_from (is_classic update) (is_good_update is_plain_key is_good_block update) h good)
taken_good (Whole (requests.Meta command form)) h good = grind (arith, and_parts, and_from, meta_good, alone)
taken_good (Whole requests.MetaNoop) h good = refl
taken_good (Whole requests.Version) h good = refl
taken_good (Whole requests.Quit) h good = refl
taken_good (Faulty fault) h good = refl

all_good : (ts : List Parsed) → SayAll ts → list_all is_well_formed ts ≡ true → list_all can_be_spelled ts ≡ true
all_good [] h good = refl
all_good (taken ∷ more) h good =
    let both = and_parts (is_well_formed taken) (list_all is_well_formed more) good in
    and_from (can_be_spelled taken) (list_all can_be_spelled more) (taken_good taken h.0 both.0) (all_good more h.1 both.1)

-- each command of a text of bytes can be spelled
pub requests_can_be_spelled : (text : List ℕ) → All (λ b. b < 256) text → list_all can_be_spelled (requests_of text) ≡ true
requests_can_be_spelled text bytes = grind (arith, list_all-from_AllPass, lt-ltb, is_byte, all_bytes, requests_good, requests_say, all_good)
