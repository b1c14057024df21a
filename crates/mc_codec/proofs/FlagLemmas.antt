-- Flag words that are spelled are read as what they say.
use Rattle.std.proofs.Common.{◌≡◌, ℕ, ℤ, ◌++◌, Bool, true, false, List, [], ◌∷◌, Option, Some, None, Ok, decimal, codes, refl}
use Rattle.std.proofs.lemmas.Bool.{and_parts}
use Rattle.std.specs.Fmt.{signed_decimal}
use Rattle.mc_text.specs.Numbers.{read_u64, read_i64, read_flags}
use Rattle.mc_request.specs.declared.flags.MetaFlags.{MetaFlags}
use Rattle.mc_request.specs.declared.meta.Counting.{Counting}
use Rattle.mc_request.specs.declared.meta.Creation.{Creation}
use Rattle.mc_request.specs.declared.meta.MetaGet.{MetaGet}
use Rattle.mc_request.specs.declared.meta.Show.{Show}
use Rattle.mc_request.specs.declared.names.Name.{Name}
use Rattle.mc_request.specs.declared.names.Name.TheVariants as names
use Rattle.mc_request.specs.declared.parts.Direction.{Direction}
use Rattle.mc_request.specs.declared.parts.Direction.TheVariants.{Up, Down}
use Rattle.mc_request.specs.declared.parts.StoreMode.{StoreMode}
use Rattle.mc_request.specs.declared.parts.StoreMode.TheVariants.{Set, Add, Replace, Append, Prepend}
use Rattle.mc_request.specs.Flags.{flags_from, fresh_flags, with_flag}
use Rattle.mc_request.specs.WellFormed.{is_i64, is_u64, is_where_some, is_good_creation}
use Rattle.mc_codec.specs.Spellings.{word_if, number_if, signed_if, mode_word, direction_word, creation_words, mg_flags, ms_flags, md_flags, ma_flags}
use Rattle.mc_codec.proofs.SpellingClassicLemmas.{read_i64-signed, read_u64-spelled}

-- after these flag words of a command, the others are read to this end
pub record Reads (name : Name) (read : MetaFlags) (ws : List (List ℕ)) (end : MetaFlags) : Type 0 where
  pub is : flags_from name read ws ≡ Ok end

all_read : (name : Name) (read : MetaFlags) → Reads name read [] read
all_read name read = record { is = refl }

-- a word that is read
one_flag : {name : Name} {next : MetaFlags} {ws : List (List ℕ)} {end : MetaFlags} (read : MetaFlags) (word : List ℕ)
    → with_flag name read word ≡ Ok next → Reads name next ws end → Reads name read (word ∷ ws) end
one_flag read word e rest = record { is = rw e rest.is }

-- a flag without a token, if it is asked for
bare_where : {name : Name} {ws : List (List ℕ)} {end : MetaFlags} (set : Bool → MetaFlags) (b : Bool) (word : List ℕ)
    → with_flag name (set false) word ≡ Ok (set true) → Reads name (set b) ws end → Reads name (set false) (word_if b word ws) end
bare_where set true word e rest = one_flag (set false) word e rest
bare_where set false word e rest = rest

-- a flag with a number, if there is one
number_flag : {name : Name} {ws : List (List ℕ)} {end : MetaFlags} (set : Option ℕ → MetaFlags) (letter : ℕ) (o : Option ℕ) → is_where_some is_u64 o ≡ true
    → ((n : ℕ) (token : List ℕ) → read_u64 token ≡ Some n → with_flag name (set None) (letter ∷ token) ≡ Ok (set (Some n)))
    → Reads name (set o) ws end → Reads name (set None) (number_if (letter ∷ []) o ws) end
number_flag set letter None h e rest = rest
number_flag set letter (Some n) h e rest = one_flag (set None) (letter ∷ decimal n) (e n (decimal n) (read_u64-spelled n h)) rest

signed_flag : {name : Name} {ws : List (List ℕ)} {end : MetaFlags} (set : Option ℤ → MetaFlags) (letter : ℕ) (o : Option ℤ) → is_where_some is_i64 o ≡ true
    → ((n : ℤ) (token : List ℕ) → read_i64 token ≡ Some n → with_flag name (set None) (letter ∷ token) ≡ Ok (set (Some n)))
    → Reads name (set o) ws end → Reads name (set None) (signed_if (letter ∷ []) o ws) end
signed_flag set letter None h e rest = rest
signed_flag set letter (Some n) h e rest = one_flag (set None) (letter ∷ signed_decimal n) (e n (signed_decimal n) (read_i64-signed n h)) rest

abbrev pub shown : Bool → Bool → Bool → Bool → Bool → Show
shown cas flags size left value = record { cas = cas; flags = flags; size = size; left = left; value = value }

-- what is read of the flags of `mg`
abbrev pub mg_read : Show → Option ℤ → Option ℤ → Option ℕ → MetaFlags
mg_read show exptime create recache = record fresh_flags { coded = true; show = show; exptime = exptime; create = create; recache = recache }

pub flags-mg : (get : MetaGet) → is_where_some is_i64 get.exptime ≡ true → is_where_some is_i64 get.create ≡ true → is_where_some is_u64 get.recache ≡ true
    → Reads names.MetaGet fresh_flags (mg_flags get) (mg_read get.show get.exptime get.create get.recache)
flags-mg get e n r =
    one_flag fresh_flags (codes "b") refl
    (bare_where (λ b. mg_read (shown b false false false false) None None None) get.show.cas (codes "c") refl
    (bare_where (λ b. mg_read (shown get.show.cas b false false false) None None None) get.show.flags (codes "f") refl
    (bare_where (λ b. mg_read (shown get.show.cas get.show.flags b false false) None None None) get.show.size (codes "s") refl
    (bare_where (λ b. mg_read (shown get.show.cas get.show.flags get.show.size b false) None None None) get.show.left (codes "t") refl
    (bare_where (λ b. mg_read (shown get.show.cas get.show.flags get.show.size get.show.left b) None None None) get.show.value (codes "v") refl
    (signed_flag (λ o. mg_read get.show o None None) 84 get.exptime e (λ number token is. rw is refl)
    (signed_flag (λ o. mg_read get.show get.exptime o None) 78 get.create n (λ number token is. rw is refl)
    (number_flag (λ o. mg_read get.show get.exptime get.create o) 82 get.recache r (λ number token is. rw is refl)
    (all_read names.MetaGet (mg_read get.show get.exptime get.create get.recache))))))))))

-- what is read of the flags of `ms`
abbrev pub ms_read : Show → Option ℤ → Option ℕ → Option ℕ → Option StoreMode → MetaFlags
ms_read show exptime flags compare mode = record fresh_flags { coded = true; show = show; exptime = exptime; flags = flags; compare = compare; mode = mode }

mode_flag : (mode : StoreMode) (read : MetaFlags) → read.mode ≡ None → with_flag names.MetaSet read (mode_word mode) ≡ Ok (record read { mode = Some mode })
mode_flag Set read e = rw e refl
mode_flag Add read e = rw e refl
mode_flag Replace read e = rw e refl
mode_flag Append read e = rw e refl
mode_flag Prepend read e = rw e refl

flags_word : (read : MetaFlags) (flags : ℕ) (token : List ℕ) → read.flags ≡ None → read_flags token ≡ Some flags
    → with_flag names.MetaSet read (codes "F" ++ token) ≡ Ok (record read { flags = Some flags })
flags_word read flags token e is = rw (e, is) refl

exptime_word : (read : MetaFlags) (exptime : ℤ) (token : List ℕ) → read.exptime ≡ None → read_i64 token ≡ Some exptime
    → with_flag names.MetaSet read (codes "T" ++ token) ≡ Ok (record read { exptime = Some exptime })
exptime_word read exptime token e is = rw (e, is) refl

pub flags-ms : (mode : StoreMode) (compare : Option ℕ) (flags : ℕ) (exptime : ℤ) (cas size : Bool) → is_where_some is_u64 compare ≡ true → read_flags (decimal flags) ≡ Some flags → is_i64 exptime ≡ true
    → Reads names.MetaSet fresh_flags (ms_flags mode compare flags exptime (shown cas false size false false))
    (ms_read (shown cas false size false false) (Some exptime) (Some flags) compare (Some mode))
flags-ms mode compare flags exptime cas size c f e =
    let show = shown cas false size false false in
    one_flag fresh_flags (codes "b") refl
    (bare_where (λ b. ms_read (shown b false false false false) None None None None) cas (codes "c") refl
    (bare_where (λ b. ms_read (shown cas false b false false) None None None None) size (codes "s") refl
    (one_flag (ms_read show None None None None) (codes "T" ++ signed_decimal exptime)
    (exptime_word (ms_read show None None None None) exptime (signed_decimal exptime) refl (read_i64-signed exptime e))
    (one_flag (ms_read show (Some exptime) None None None) (codes "F" ++ decimal flags)
    (flags_word (ms_read show (Some exptime) None None None) flags (decimal flags) refl f)
    (number_flag (λ o. ms_read show (Some exptime) (Some flags) o None) 67 compare c (λ number token is. rw is refl)
    (one_flag (ms_read show (Some exptime) (Some flags) compare None) (mode_word mode)
    (mode_flag mode (ms_read show (Some exptime) (Some flags) compare None) refl)
    (all_read names.MetaSet (ms_read show (Some exptime) (Some flags) compare (Some mode)))))))))

-- what is read of the flags of `md`
abbrev pub md_read : Option ℕ → Bool → MetaFlags
md_read compare invalidate = record fresh_flags { coded = true; compare = compare; invalidate = invalidate }

pub flags-md : (compare : Option ℕ) (invalidate : Bool) → is_where_some is_u64 compare ≡ true
    → Reads names.MetaDelete fresh_flags (md_flags compare invalidate) (md_read compare invalidate)
flags-md compare invalidate c =
    one_flag fresh_flags (codes "b") refl
    (number_flag (λ o. md_read o false) 67 compare c (λ number token is. rw is refl)
    (bare_where (λ b. md_read compare b) invalidate (codes "I") refl
    (all_read names.MetaDelete (md_read compare invalidate))))

-- what is read of the flags of `ma`
abbrev pub ma_read : Show → Option ℤ → Option ℕ → Option ℤ → Option ℕ → Option ℕ → Option Direction → MetaFlags
ma_read show exptime compare create initial delta direction =
    record fresh_flags { coded = true; show = show; exptime = exptime; compare = compare; create = create; initial = initial; delta = delta; direction = direction }

-- the exptime and the value of an item that is made
abbrev pub exptime_in : Option Creation → Option ℤ
exptime_in None = None
exptime_in (Some creation) = Some creation.exptime

abbrev pub initial_in : Option Creation → ℕ
initial_in None = 0
initial_in (Some creation) = creation.initial

signed_word : (letter : ℕ) (n : ℤ) (next : Option ℤ → MetaFlags) → is_i64 n ≡ true
    → ((number : ℤ) (token : List ℕ) → read_i64 token ≡ Some number → with_flag names.MetaArithmetic (next None) (letter ∷ token) ≡ Ok (next (Some number)))
    → with_flag names.MetaArithmetic (next None) (letter ∷ signed_decimal n) ≡ Ok (next (Some n))
signed_word letter n next h e = e n (signed_decimal n) (read_i64-signed n h)

number_word : (letter : ℕ) (n : ℕ) (next : Option ℕ → MetaFlags) → is_u64 n ≡ true
    → ((number : ℕ) (token : List ℕ) → read_u64 token ≡ Some number → with_flag names.MetaArithmetic (next None) (letter ∷ token) ≡ Ok (next (Some number)))
    → with_flag names.MetaArithmetic (next None) (letter ∷ decimal n) ≡ Ok (next (Some n))
number_word letter n next h e = e n (decimal n) (read_u64-spelled n h)

creation_flags : {ws : List (List ℕ)} {end : MetaFlags} (show : Show) (exptime : Option ℤ) (compare : Option ℕ) (create : Option Creation) → is_where_some is_good_creation create ≡ true
    → Reads names.MetaArithmetic (ma_read show exptime compare (exptime_in create) (Some (initial_in create)) None None) ws end
    → Reads names.MetaArithmetic (ma_read show exptime compare None None None None) (creation_words create ws) end
creation_flags show exptime compare None h rest =
    one_flag (ma_read show exptime compare None None None None) (codes "J0") refl rest
creation_flags show exptime compare (Some creation) h rest =
    let parts = and_parts (is_i64 creation.exptime) (is_u64 creation.initial) h in
    one_flag (ma_read show exptime compare None None None None) (codes "N" ++ signed_decimal creation.exptime)
    (signed_word 78 creation.exptime (λ o. ma_read show exptime compare o None None None) parts.0 (λ number token is. rw is refl))
    (one_flag (ma_read show exptime compare (Some creation.exptime) None None None) (codes "J" ++ decimal creation.initial)
    (number_word 74 creation.initial (λ o. ma_read show exptime compare (Some creation.exptime) o None None) parts.1 (λ number token is. rw is refl)) rest)

direction_flag : (direction : Direction) (read : MetaFlags) → read.direction ≡ None
    → with_flag names.MetaArithmetic read (direction_word direction) ≡ Ok (record read { direction = Some direction })
direction_flag Up read e = rw e refl
direction_flag Down read e = rw e refl

pub flags-ma : (counting : Counting) (cas left value : Bool) → is_u64 counting.delta ≡ true → is_where_some is_u64 counting.compare ≡ true
    → is_where_some is_good_creation counting.create ≡ true → is_where_some is_i64 counting.exptime ≡ true
    → Reads names.MetaArithmetic fresh_flags (ma_flags counting (shown cas false false left value))
    (ma_read (shown cas false false left value) counting.exptime counting.compare (exptime_in counting.create) (Some (initial_in counting.create)) (Some counting.delta) (Some counting.direction))
flags-ma counting cas left value d c n e =
    let show = shown cas false false left value in
    let exptime = counting.exptime in
    let compare = counting.compare in
    let create = exptime_in counting.create in
    let initial = Some (initial_in counting.create) in
    one_flag fresh_flags (codes "b") refl
    (bare_where (λ b. ma_read (shown b false false false false) None None None None None None) cas (codes "c") refl
    (bare_where (λ b. ma_read (shown cas false false b false) None None None None None None) left (codes "t") refl
    (bare_where (λ b. ma_read (shown cas false false left b) None None None None None None) value (codes "v") refl
    (signed_flag (λ o. ma_read show o None None None None None) 84 exptime e (λ number token is. rw is refl)
    (number_flag (λ o. ma_read show exptime o None None None None) 67 compare c (λ number token is. rw is refl)
    (creation_flags show exptime compare counting.create n
    (one_flag (ma_read show exptime compare create initial None None) (codes "D" ++ decimal counting.delta)
    (number_word 68 counting.delta (λ o. ma_read show exptime compare create initial o None) d (λ number token is. rw is refl))
    (one_flag (ma_read show exptime compare create initial (Some counting.delta) None) (direction_word counting.direction)
    (direction_flag counting.direction (ma_read show exptime compare create initial (Some counting.delta) None) refl)
    (all_read names.MetaArithmetic (ma_read show exptime compare create initial (Some counting.delta) (Some counting.direction)))))))))))
