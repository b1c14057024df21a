-- Answers to meta commands: what their flags return, and how much room that needs.
use Rattle.std.proofs.Common.{◌≡◌, ℕ, ◌<◌, ◌≤◌, Bool, true, false, List, [], ◌∷◌, ◌++◌, length, codes, filter, Option, Some, None, refl, ap, ◌∙◌, if◌then◌else◌, slice_index, arith}
use Rattle.std.specs.Option.{unwrap_or}
use Rattle.std.proofs.lemmas.Bool.{cases_lt}
use Rattle.std.proofs.lemmas.Bool.Decides.{nat_tests}
use Rattle.mc_text.specs.Keys.{is_key, is_plain_key}
use Rattle.mc_text.specs.CodedKeys.{coded_key}
use Rattle.mc_text.proofs.CodedLemmas.{coded_of-said, said_key, coded_key-too_long}
use Rattle.mc_request.specs.Parts.{key_bytes}
use Rattle.mc_request.specs.Flags.{flag_of}
use Rattle.mc_request.specs.declared.flags.Flag.{Flag}
use Rattle.mc_request.specs.declared.flags.Flag.TheVariants.{Cas, ClientFlags, Key, Opaque, Size, Left}
use Rattle.mc_request.specs.declared.meta.MetaForm.{MetaForm}
use Rattle.mc_request.specs.declared.meta.Show.{Show}
use Rattle.mc_reply.specs.declared.replies.Shown.{Shown}
use Rattle.mc_reply.specs.declared.replies.Reply.{Reply}
use Rattle.mc_reply.specs.declared.replies.Reply.TheVariants.{NotStored, Exists, NotFound, Meta}
use Rattle.mc_reply.specs.Replies.{nothing_shown}
use Rattle.mc_reply.specs.Canonical.{is_given, gives_back, word_if, show_words, ShowsAsked, RepliesAsked}
use Rattle.mc_reply.specs.MetaSpelling.{key_word, number_flag_onto, left_onto, given_onto, flag_onto, flags_onto, marks_onto, meta_line, canonical_flags, meta_spelling}

-- a flag that returns nothing
not_given : (coded : Bool) (word : List ℕ) (shown : Shown) (own : List ℕ) (flag : Option Flag) (rest : List ℕ)
    → is_given flag ≡ false → given_onto coded word shown own flag rest ≡ rest
not_given coded word shown own (Some Cas) rest h = absurd cc
not_given coded word shown own (Some ClientFlags) rest h = absurd cc
not_given coded word shown own (Some Size) rest h = absurd cc
not_given coded word shown own (Some Left) rest h = absurd cc
not_given coded word shown own (Some Key) rest h = absurd cc
not_given coded word shown own (Some Opaque) rest h = absurd cc
not_given coded word shown own other rest h = refl

-- words that return nothing may be left out
left_out : (coded : Bool) (word : List ℕ) (shown : Shown) (own : List ℕ) (flags kept : List (List ℕ)) (rest : List ℕ) (b : Bool)
    → gives_back own ≡ b → flags_onto coded word shown flags rest ≡ flags_onto coded word shown kept rest
    → flags_onto coded word shown (own ∷ flags) rest ≡ flags_onto coded word shown (if b then own ∷ kept else kept) rest
left_out coded word shown own flags kept rest true e h = ap (λ more. flag_onto coded word shown own more) h
left_out coded word shown [] flags kept rest false e h = h
left_out coded word shown (letter ∷ token) flags kept rest false e h =
    not_given coded word shown (letter ∷ token) (flag_of letter) (flags_onto coded word shown flags rest) e ∙ h

flags_onto-filter : (coded : Bool) (word : List ℕ) (shown : Shown) (flags : List (List ℕ)) (rest : List ℕ)
    → flags_onto coded word shown flags rest ≡ flags_onto coded word shown (filter gives_back flags) rest
flags_onto-filter coded word shown [] rest = refl
flags_onto-filter coded word shown (own ∷ flags) rest =
    left_out coded word shown own flags (filter gives_back flags) rest (gives_back own) refl (flags_onto-filter coded word shown flags rest)

-- a flag that is shown only if it is asked for
cas_if : (b : Bool) (coded : Bool) (word : List ℕ) (shown : Shown) (more : List (List ℕ)) (rest : List ℕ) → (b ≡ false → shown.cas ≡ None)
    → flags_onto coded word shown (word_if b (codes "c") ++ more) rest ≡ number_flag_onto (codes " c") shown.cas (flags_onto coded word shown more rest)
cas_if true coded word shown more rest h = refl
cas_if false coded word shown more rest h = rw (h refl) refl

flags_if : (b : Bool) (coded : Bool) (word : List ℕ) (shown : Shown) (more : List (List ℕ)) (rest : List ℕ) → (b ≡ false → shown.flags ≡ None)
    → flags_onto coded word shown (word_if b (codes "f") ++ more) rest ≡ number_flag_onto (codes " f") shown.flags (flags_onto coded word shown more rest)
flags_if true coded word shown more rest h = refl
flags_if false coded word shown more rest h = rw (h refl) refl

size_if : (b : Bool) (coded : Bool) (word : List ℕ) (shown : Shown) (more : List (List ℕ)) (rest : List ℕ) → (b ≡ false → shown.size ≡ None)
    → flags_onto coded word shown (word_if b (codes "s") ++ more) rest ≡ number_flag_onto (codes " s") shown.size (flags_onto coded word shown more rest)
size_if true coded word shown more rest h = refl
size_if false coded word shown more rest h = rw (h refl) refl

left_if : (b : Bool) (coded : Bool) (word : List ℕ) (shown : Shown) (rest : List ℕ) → (b ≡ false → shown.left ≡ None)
    → flags_onto coded word shown (word_if b (codes "t")) rest ≡ left_onto shown.left rest
left_if true coded word shown rest h = refl
left_if false coded word shown rest h = rw (h refl) refl

-- what is asked for in the canonical order is returned in it
asked_onto : (coded : Bool) (word : List ℕ) (show : Show) (shown : Shown) (rest : List ℕ) → ShowsAsked show shown
    → flags_onto coded word shown (show_words show) rest ≡ flags_onto false [] shown canonical_flags rest
asked_onto coded word show shown rest asked = grind (arith, codes, cas_if, flags_if, size_if, left_if)

canonical_onto : (coded : Bool) (word : List ℕ) (show : Show) (shown : Shown) (flags : List (List ℕ)) (rest : List ℕ)
    → filter gives_back flags ≡ show_words show → ShowsAsked show shown
    → flags_onto coded word shown flags rest ≡ flags_onto false [] shown canonical_flags rest
canonical_onto coded word show shown flags rest order asked =
    flags_onto-filter coded word shown flags rest ∙ ap (λ words. flags_onto coded word shown words rest) order ∙ asked_onto coded word show shown rest asked

nothing_asked : (show : Show) → ShowsAsked show nothing_shown
nothing_asked show = record { cas = λ _. refl; flags = λ _. refl; size = λ _. refl; left = λ _. refl }

-- an answer whose flags are in the canonical order
pub meta_line-canonical : (form : MetaForm (List (List ℕ))) (key : List ℕ) (show : Show) (reply : Reply (List ℕ))
    → filter gives_back form.flags ≡ show_words show → RepliesAsked show reply → meta_line form key reply ≡ meta_spelling reply
meta_line-canonical form key show (Meta shown None) order asked =
    ap (λ line. codes "HD" ++ line) (canonical_onto form.coded (key_word form.coded key) show shown form.flags (marks_onto shown.marks (codes "\r\n")) order asked)
meta_line-canonical form key show (Meta shown (Some value)) order asked = grind (arith, codes, canonical_onto)
meta_line-canonical form key show NotStored order asked =
    ap (λ line. codes "NS" ++ line) (canonical_onto form.coded (key_word form.coded key) show nothing_shown form.flags (codes "\r\n") order (nothing_asked show))
meta_line-canonical form key show Exists order asked =
    ap (λ line. codes "EX" ++ line) (canonical_onto form.coded (key_word form.coded key) show nothing_shown form.flags (codes "\r\n") order (nothing_asked show))
meta_line-canonical form key show NotFound order asked =
    ap (λ line. codes "NF" ++ line) (canonical_onto form.coded (key_word form.coded key) show nothing_shown form.flags (codes "\r\n") order (nothing_asked show))
meta_line-canonical form key show other order asked = refl

-- bytes, as those of a program are
abbrev AreBytes : List ℕ → Type 0
AreBytes word = (i : ℕ) → slice_index word i < 256

key_length : (key : List ℕ) → is_key key ≡ true → length key ≤ 250
key_length key h = grind (arith, nat_tests)

-- a plain word is the key that it stands for
plain_word : (word : List ℕ) (b : Bool) → is_plain_key word ≡ b → is_key (unwrap_or (if b then Some word else None) []) ≡ true
    → (unwrap_or (if b then Some word else None) [] ≡ word) × (length word ≤ 336)
plain_word word true e h = grind (arith, key_length)
plain_word word false e h = absurd cc

-- a word in base64 is the one that its key has
coded_word : (word : List ℕ) (said : Option (List ℕ)) → AreBytes word → coded_key word ≡ said → is_key (unwrap_or said []) ≡ true
    → (key_word true (unwrap_or said []) ≡ word) × (length word ≤ 336)
coded_word word None are e h = absurd cc
coded_word word (Some key) are e h = grind (arith, cases_lt, coded_of-said, said_key, coded_key-too_long)

-- the word of the key that a word stands for is that word, and it is not too long
pub word_of-said : (coded : Bool) (word : List ℕ) → AreBytes word → is_key (key_bytes coded word) ≡ true
    → (key_word coded (key_bytes coded word) ≡ word) × (length word ≤ 336)
word_of-said false word are h = plain_word word (is_plain_key word) refl h
word_of-said true word are h = coded_word word (coded_key word) are refl h
