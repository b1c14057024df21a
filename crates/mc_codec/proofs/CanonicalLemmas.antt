-- A spelled command is answered by the canonical spelling of its reply.
use Rattle.std.proofs.Common.{◌≡◌, ℕ, ℤ, ◌&&◌, Bool, true, false, not, List, [], ◌∷◌, ◌++◌, filter, Option, Some, None, decimal, codes, refl, append-nil, arith}
use Rattle.std.proofs.lemmas.Bool.{and_parts, not-true}
use Rattle.std.specs.Fmt.{signed_decimal}
use Rattle.mc_request.specs.WellFormed.{is_good_block, is_good_meta}
use Rattle.mc_request.specs.declared.meta.Counting.{Counting}
use Rattle.mc_request.specs.declared.meta.Creation.{Creation}
use Rattle.mc_request.specs.declared.meta.MetaCommand.{MetaCommand}
use Rattle.mc_request.specs.declared.meta.MetaCommand.TheVariants as metas
use Rattle.mc_request.specs.declared.meta.MetaGet.{MetaGet}
use Rattle.mc_request.specs.declared.meta.Show.{Show}
use Rattle.mc_request.specs.declared.parts.Atom.{Atom}
use Rattle.mc_request.specs.declared.parts.Atom.TheVariants as atoms
use Rattle.mc_request.specs.declared.parts.Direction.{Direction}
use Rattle.mc_request.specs.declared.parts.Direction.TheVariants.{Up, Down}
use Rattle.mc_request.specs.declared.parts.StoreMode.{StoreMode}
use Rattle.mc_request.specs.declared.parts.StoreMode.TheVariants.{Set, Add, Replace, Append, Prepend}
use Rattle.mc_request.specs.declared.parts.Update.TheVariants.{Store, Touch, Delete, Count, FlushAll}
use Rattle.mc_codec.specs.Spellings.{word_if as put_if, number_if, signed_if, mode_word, direction_word, creation_words, mg_flags, ms_flags, md_flags, ma_flags, flag_words, request_of, is_askable, is_byte_key, is_good_atom}
use Rattle.mc_codec.proofs.SpelledTextLemmas.{one_atom}
use Rattle.mc_reply.specs.CanHave.{can_have, can_have_meta, is_as_asked, is_done, is_shown_by, is_unmarked}
use Rattle.mc_reply.specs.Canonical.{IsCanonical, RepliesAsked, ShowsAsked, gives_back, show_of, show_words, word_if}
use Rattle.mc_reply.specs.Spelling.{answer_of, is_shown, spelling_of}
use Rattle.mc_reply.specs.declared.replies.Reply.{Reply}
use Rattle.mc_reply.specs.declared.replies.Reply.TheVariants.{Meta}
use Rattle.mc_reply.specs.declared.replies.Shown.{Shown}
use Rattle.mc_reply.proofs.SpellingLemmas.{answer_of-one}

-- what words give back
record Gives (ws back : List (List ℕ)) : Type 0 where
  is : filter gives_back ws ≡ back

nothing_given : Gives [] []
nothing_given = record { is = refl }

-- a word that gives something back, at its place
given : {ws back : List (List ℕ)} (b : Bool) (word : List ℕ) → gives_back word ≡ true → Gives ws back → Gives (put_if b word ws) (word_if b word ++ back)
given true word gives rest = record { is = rw (gives, rest.is) refl }
given false word gives rest = rest

-- a word that gives nothing back
passed : {ws back : List (List ℕ)} (word : List ℕ) → gives_back word ≡ false → Gives ws back → Gives (word ∷ ws) back
passed word gives rest = record { is = rw (gives, rest.is) refl }

passed_where : {ws back : List (List ℕ)} (b : Bool) (word : List ℕ) → gives_back word ≡ false → Gives ws back → Gives (put_if b word ws) back
passed_where true word gives rest = passed word gives rest
passed_where false word gives rest = rest

passed_number : {ws back : List (List ℕ)} (letter : ℕ) (o : Option ℕ) → ((token : List ℕ) → gives_back (letter ∷ token) ≡ false) → Gives ws back → Gives (number_if (letter ∷ []) o ws) back
passed_number letter None gives rest = rest
passed_number letter (Some n) gives rest = passed (letter ∷ decimal n) (gives (decimal n)) rest

passed_signed : {ws back : List (List ℕ)} (letter : ℕ) (o : Option ℤ) → ((token : List ℕ) → gives_back (letter ∷ token) ≡ false) → Gives ws back → Gives (signed_if (letter ∷ []) o ws) back
passed_signed letter None gives rest = rest
passed_signed letter (Some n) gives rest = passed (letter ∷ signed_decimal n) (gives (signed_decimal n)) rest

passed_creation : {ws back : List (List ℕ)} (create : Option Creation) → Gives ws back → Gives (creation_words create ws) back
passed_creation None rest = passed (codes "J0") refl rest
passed_creation (Some creation) rest = passed (codes "N" ++ signed_decimal creation.exptime) refl (passed (codes "J" ++ decimal creation.initial) refl rest)

mode_passed : (mode : StoreMode) → gives_back (mode_word mode) ≡ false
mode_passed Set = refl
mode_passed Add = refl
mode_passed Replace = refl
mode_passed Append = refl
mode_passed Prepend = refl

direction_passed : (direction : Direction) → gives_back (direction_word direction) ≡ false
direction_passed Up = refl
direction_passed Down = refl

gives-mg : (get : MetaGet) → filter gives_back (mg_flags get) ≡ show_words get.show
gives-mg get = grind (arith, codes, append-nil, nothing_given, given, passed, passed_where, passed_number, passed_signed)

gives-ms : (mode : StoreMode) (compare : Option ℕ) (flags : ℕ) (exptime : ℤ) (show : Show) → show.flags ≡ false → show.left ≡ false
    → filter gives_back (ms_flags mode compare flags exptime show) ≡ show_words show
gives-ms mode compare flags exptime show f l = grind (arith, decimal, codes, nothing_given, given, passed, passed_number, mode_passed)

gives-md : (compare : Option ℕ) (invalidate : Bool) (show : Show) → show.cas ≡ false → show.flags ≡ false → show.size ≡ false → show.left ≡ false
    → filter gives_back (md_flags compare invalidate) ≡ show_words show
gives-md compare invalidate show c f s l = grind (arith, codes, nothing_given, passed, passed_where, passed_number)

gives-ma : (counting : Counting) (show : Show) → show.flags ≡ false → show.size ≡ false → filter gives_back (ma_flags counting show) ≡ show_words show
gives-ma counting show f s =
    grind (arith, decimal, codes, append-nil, nothing_given, given, passed, passed_where, passed_number, passed_signed, passed_creation, direction_passed)

-- what the flags of a spelled command give back is what it asks to be shown
gives : (command : MetaCommand (List ℕ) (List ℕ)) → is_askable command ≡ true → filter gives_back (flag_words command) ≡ show_words (show_of command)
gives (metas.Get key get) asks = gives-mg get
gives (metas.Update (Store mode compare key flags exptime block) show) asks =
    let x = and_parts (not show.flags && not show.left) (not show.value) asks in
    grind (arith, and_parts, not-true, gives-ms)
gives (metas.Update (Delete key compare invalidate) show) asks =
    let w = and_parts (not show.cas && not show.flags && not show.size && not show.left) (not show.value) asks in
    grind (arith, and_parts, not-true, gives-md)
gives (metas.Update (Count key counting) show) asks =
    let x = and_parts (not show.flags) (not show.size) asks in
    gives-ma counting show (not-true show.flags x.0) (not-true show.size x.1)
gives (metas.Update (Touch key exptime) show) asks = absurd cc
gives (metas.Update (FlushAll delay) show) asks = absurd cc

-- a part that was not asked for is missing
unasked : {A : Type 0} (test : A → Bool) (b : Bool) (o : Option A) → is_as_asked test b o ≡ true → b ≡ false → o ≡ None
unasked test true o h off = absurd cc
unasked test false (Some part) h off = absurd cc
unasked test false None h off = refl

shows_by : (show : Show) (shown : Shown) → is_shown_by show shown ≡ true → ShowsAsked show shown
shows_by show shown h = grind (arith, and_parts, unasked)

done_shows : (show : Show) (shown : Shown) (value : Option (List ℕ)) → is_done show shown value ≡ true → ShowsAsked show shown
done_shows show shown value h = shows_by show shown (and_parts (is_shown_by show shown) (is_as_asked is_good_block show.value value) h).0

unmarked_shows : (show : Show) (shown : Shown) (value : Option (List ℕ)) → (is_unmarked shown.marks && is_done show shown value) ≡ true → ShowsAsked show shown
unmarked_shows show shown value h = done_shows show shown value (and_parts (is_unmarked shown.marks) (is_done show shown value) h).1

shows : (command : MetaCommand (List ℕ) (List ℕ)) (shown : Shown) (value : Option (List ℕ)) → can_have_meta command (Meta shown value) ≡ true → ShowsAsked (show_of command) shown
shows (metas.Get key get) shown value h = done_shows get.show shown value h
shows (metas.Update (Store mode compare key flags exptime block) show) shown value h = unmarked_shows show shown value h
shows (metas.Update (Delete key compare invalidate) show) shown value h = unmarked_shows show shown value h
shows (metas.Update (Count key counting) show) shown value h = unmarked_shows show shown value h
shows (metas.Update (Touch key exptime) show) shown value h = absurd cc
shows (metas.Update (FlushAll delay) show) shown value h = absurd cc

asked : (command : MetaCommand (List ℕ) (List ℕ)) (reply : Reply (List ℕ)) → can_have_meta command reply ≡ true → RepliesAsked (show_of command) reply
asked command (Meta shown value) h = shows command shown value h
asked command other h = tt

is_canonical : (atom : Atom (List ℕ)) (reply : Reply (List ℕ)) → is_good_atom atom ≡ true → can_have atom reply ≡ true → IsCanonical (request_of atom) reply
is_canonical (atoms.Get key exptime with_cas) reply good can = tt
is_canonical (atoms.Update update) reply good can = tt
is_canonical (atoms.Meta command) reply good can =
    (gives command (and_parts (is_askable command) (is_good_meta is_byte_key is_good_block command) good).0, asked command reply can)

-- nothing is hidden
all_shown : (atom : Atom (List ℕ)) (reply : Reply (List ℕ)) → is_shown (request_of atom) reply ≡ true
all_shown (atoms.Get key exptime with_cas) reply = refl
all_shown (atoms.Update update) reply = refl
all_shown (atoms.Meta command) reply = refl

-- the answer to a spelled command
pub answer_of-spelled : (atom : Atom (List ℕ)) (reply : Reply (List ℕ)) → is_good_atom atom ≡ true → can_have atom reply ≡ true
    → answer_of (request_of atom) (reply ∷ []) ≡ spelling_of atom reply
answer_of-spelled atom reply good can = answer_of-one (request_of atom) atom reply (one_atom atom) (all_shown atom reply) (is_canonical atom reply good can)
