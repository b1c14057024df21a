-- What the bytes of a reply show of it.
use Rattle.std.proofs.Common.{◌≡◌, ◌∙◌, ℕ, zero, suc, ◌+◌, ◌%◌, ◌/◌, ◌<◌, ◌≤◌, ◌^◌, ◌==◌, ◌||◌, ◌&&◌, nat_lt, Bool, true, false, if◌then◌else◌, List, [], ◌∷◌, ◌++◌, length, codes, decimal, Option, Some, None, refl, sym, ap, ap₂, arith}
use Rattle.std.specs.Fmt.{digit_glyph, digits, digits_onto}
use Rattle.std.proofs.lemmas.Bool.{true≢false}
use Rattle.std.proofs.lemmas.Bool.Decides.{nat_tests}
use Rattle.std.proofs.lemmas.Fmt.{decimal_injective}
use Rattle.std.proofs.lemmas.List.{append_cancel_left}
use Rattle.mc_request.specs.declared.faults.Fault.TheVariants.{UnknownCommand, BadFormat, BadDelta, InvalidFlag, BadToken, BadDataChunk, LineTooLong, NonNumeric, TooLarge, CasUsedUp, OutOfMemory}
use Rattle.mc_request.specs.declared.parts.Atom.{Atom}
use Rattle.mc_request.specs.declared.parts.Atom.TheVariants as atoms
use Rattle.mc_request.specs.declared.parts.Update.{Update}
use Rattle.mc_reply.specs.MetaSpelling.{meta_spelling}
use Rattle.mc_reply.specs.Spelling.{cas_onto, end_line, key_onto, reply_line, spelling_of}
use Rattle.mc_reply.specs.declared.replies.Reply.{Reply}
use Rattle.mc_reply.specs.declared.replies.Reply.TheVariants.{Stored, NotStored, Exists, NotFound, Deleted, Touched, Flushed, Number, Miss, Hit, Meta, Fault}
use Rattle.mc_reply.specs.declared.replies.Shown.{Shown}
use Rattle.mc_registers.specs.Guarantees.{is_done, update_in}
use Rattle.mc_registers.proofs.HitLemmas.{is_refused}

-- a number is written as digits, however large it is
abbrev pub AreDigits : List ℕ → Type 0
AreDigits [] = Unit {0}
AreDigits (b ∷ bs) = (47 < b) × (b < 58) × AreDigits bs

glyph_digit : (m : ℕ) → m < 10 → (47 < digit_glyph false m) × (digit_glyph false m < 58)
glyph_digit m small =
    (elim (nat_lt m 10) as (λ v. nat_lt m 10 ≡ v → (47 < (if v then 48 + m else 87 + m)) × ((if v then 48 + m else 87 + m) < 58)) [
      | true ↦ λ is. (omega arith, omega (arith, small))
      | false ↦ λ is. absurd (grind (arith, nat_tests))
    ]) refl

onto_digits : (k n : ℕ) (acc : List ℕ) → AreDigits acc → AreDigits (digits_onto k 10 false n acc)
onto_digits zero n acc are = are
onto_digits (suc k) n acc are =
    let g : ℕ = digit_glyph false (n % 10) in
    let digit = glyph_digit (n % 10) (omega arith) in
    let more : AreDigits (g ∷ acc) = (digit.0, digit.1, are) in
    elim (n / 10 == 0) as (λ v. AreDigits (if v then g ∷ acc else digits_onto k 10 false (n / 10) (g ∷ acc))) [
      | true ↦ more
      | false ↦ onto_digits k (n / 10) (g ∷ acc) more
    ]

pub decimal_digits : (n : ℕ) → AreDigits (decimal n)
unfolding digits
decimal_digits n = onto_digits 64 n [] tt

-- digits end at another byte
digits_end : (ds es : List ℕ) (a b : ℕ) (xs ys : List ℕ) → AreDigits ds → AreDigits es → a < 48 → b < 48 → ds ++ a ∷ xs ≡ es ++ b ∷ ys → (ds ≡ es) × (a ∷ xs ≡ b ∷ ys)
digits_end [] [] a b xs ys first second low high same = (refl, same)
digits_end [] (e ∷ es) a b xs ys first second low high same = absurd (let h : a ≡ e = cc in omega (arith, h, low, second.0))
digits_end (d ∷ ds) [] a b xs ys first second low high same = absurd (let h : d ≡ b = cc in omega (arith, h, high, first.0))
digits_end (d ∷ ds) (e ∷ es) a b xs ys first second low high same =
    let h : d ≡ e = cc in
    let t : ds ++ a ∷ xs ≡ es ++ b ∷ ys = cc in
    let rest = digits_end ds es a b xs ys first.2 second.2 low high t in
    (ap₂ (λ (c : ℕ) (cs : List ℕ). c ∷ cs) h rest.0, rest.1)

numbers_end : (m n a b : ℕ) (xs ys : List ℕ) → a < 48 → b < 48 → decimal m ++ a ∷ xs ≡ decimal n ++ b ∷ ys → (decimal m ≡ decimal n) × (a ∷ xs ≡ b ∷ ys)
numbers_end m n a b xs ys low high same = digits_end (decimal m) (decimal n) a b xs ys (decimal_digits m) (decimal_digits n) low high same

-- the first byte, and the one after it
abbrev first_byte : List ℕ → ℕ
first_byte [] = 0
first_byte (b ∷ bs) = b

abbrev second_byte : List ℕ → ℕ
second_byte [] = 0
second_byte (b ∷ bs) = first_byte bs

-- a reply with the bytes of a hit is a hit
pub record IsHit (reply : Reply (List ℕ)) : Type 0 where
  pub flags : ℕ
  pub cas : Option ℕ
  pub value : List ℕ
  pub is : reply ≡ Hit flags cas value

no_hit : (key : List ℕ) (flags : ℕ) (cas : Option ℕ) (value : List ℕ) → end_line ≡ key_onto key (Hit flags cas value) end_line → ⊥
no_hit key flags cas value same = absurd (let h : 69 ≡ 86 = ap (λ bytes. first_byte bytes) same in omega (arith, h))

pub hit_read : (key : List ℕ) (reply : Reply (List ℕ)) (flags : ℕ) (cas : Option ℕ) (value : List ℕ)
    → key_onto key reply end_line ≡ key_onto key (Hit flags cas value) end_line → IsHit reply
hit_read key (Hit f c v) flags cas value same = record { flags = f; cas = c; value = v; is = refl }
hit_read key Stored flags cas value same = absurd (no_hit key flags cas value same)
hit_read key NotStored flags cas value same = absurd (no_hit key flags cas value same)
hit_read key Exists flags cas value same = absurd (no_hit key flags cas value same)
hit_read key NotFound flags cas value same = absurd (no_hit key flags cas value same)
hit_read key Deleted flags cas value same = absurd (no_hit key flags cas value same)
hit_read key Touched flags cas value same = absurd (no_hit key flags cas value same)
hit_read key Flushed flags cas value same = absurd (no_hit key flags cas value same)
hit_read key (Number n) flags cas value same = absurd (no_hit key flags cas value same)
hit_read key Miss flags cas value same = absurd (no_hit key flags cas value same)
hit_read key (Meta shown v) flags cas value same = absurd (no_hit key flags cas value same)
hit_read key (Fault fault) flags cas value same = absurd (no_hit key flags cas value same)

-- the number that it shows
number_in : (cas : Option ℕ) (number : ℕ) (xs ys : List ℕ) → cas_onto cas (13 ∷ xs) ≡ cas_onto (Some number) (13 ∷ ys)
    → (n : ℕ) × (cas ≡ Some n) × (decimal n ≡ decimal number)
number_in None number xs ys same = absurd (let h : 13 ≡ 32 = ap (λ bytes. first_byte bytes) same in omega (arith, h))
number_in (Some n) number xs ys same =
    let t : decimal n ++ 13 ∷ xs ≡ decimal number ++ 13 ∷ ys = append_cancel_left (codes " ") (decimal n ++ 13 ∷ xs) (decimal number ++ 13 ∷ ys) same in
    (n, refl, (numbers_end n number 13 13 xs ys (omega arith) (omega arith) t).0)

-- the bytes after the size of a value
sizes_end : (m n : ℕ) (c d : Option ℕ) (xs ys : List ℕ) → decimal m ++ cas_onto c (13 ∷ xs) ≡ decimal n ++ cas_onto d (13 ∷ ys) → cas_onto c (13 ∷ xs) ≡ cas_onto d (13 ∷ ys)
sizes_end m n None None xs ys same = (numbers_end m n 13 13 xs ys (omega arith) (omega arith) same).1
sizes_end m n None (Some d) xs ys same = (numbers_end m n 13 32 xs (decimal d ++ 13 ∷ ys) (omega arith) (omega arith) same).1
sizes_end m n (Some c) None xs ys same = (numbers_end m n 32 13 (decimal c ++ 13 ∷ xs) ys (omega arith) (omega arith) same).1
sizes_end m n (Some c) (Some d) xs ys same = (numbers_end m n 32 32 (decimal c ++ 13 ∷ xs) (decimal d ++ 13 ∷ ys) (omega arith) (omega arith) same).1

pub number_read : (key : List ℕ) (f flags : ℕ) (c : Option ℕ) (number : ℕ) (v value : List ℕ)
    → key_onto key (Hit f c v) end_line ≡ key_onto key (Hit flags (Some number) value) end_line → (n : ℕ) × (c ≡ Some n) × (decimal n ≡ decimal number)
number_read key f flags c number v value same =
    let xs : List ℕ = 10 ∷ (v ++ (codes "\r\n" ++ end_line)) in
    let ys : List ℕ = 10 ∷ (value ++ (codes "\r\n" ++ end_line)) in
    let sizes : List ℕ = decimal (length v) ++ cas_onto c (13 ∷ xs) in
    let others : List ℕ = decimal (length value) ++ cas_onto (Some number) (13 ∷ ys) in
    let keys : key ++ 32 ∷ (decimal f ++ 32 ∷ sizes) ≡ key ++ 32 ∷ (decimal flags ++ 32 ∷ others) =
    append_cancel_left (codes "VALUE ") (key ++ 32 ∷ (decimal f ++ 32 ∷ sizes)) (key ++ 32 ∷ (decimal flags ++ 32 ∷ others)) same in
    let numbers : 32 ∷ (decimal f ++ 32 ∷ sizes) ≡ 32 ∷ (decimal flags ++ 32 ∷ others) =
    append_cancel_left key (32 ∷ (decimal f ++ 32 ∷ sizes)) (32 ∷ (decimal flags ++ 32 ∷ others)) keys in
    let first : decimal f ++ 32 ∷ sizes ≡ decimal flags ++ 32 ∷ others =
    append_cancel_left (codes " ") (decimal f ++ 32 ∷ sizes) (decimal flags ++ 32 ∷ others) numbers in
    let second : 32 ∷ sizes ≡ 32 ∷ others = (numbers_end f flags 32 32 sizes others (omega arith) (omega arith) first).1 in
    let third : sizes ≡ others = append_cancel_left (codes " ") sizes others second in
    number_in c number xs ys (sizes_end (length v) (length value) c (Some number) xs ys third)

-- equal digits are of the same number, if it fits 64 bits
pub number_same : (n number : ℕ) → n ≤ number → number < 2 ^ 64 → decimal n ≡ decimal number → n ≡ number
number_same n number less small same = decimal_injective n number (omega (arith, less, small)) small same

-- bytes that say that a store was not done are not bytes that say that an update was
abbrev refuses : List ℕ → Bool
refuses bytes =
    ((first_byte bytes == 78) || ((first_byte bytes == 69) || (first_byte bytes == 67))) || ((first_byte bytes == 83) && (second_byte bytes == 69))

refusal_refuses : (reply : Reply (List ℕ)) → is_refused reply ≡ true → (refuses (reply_line reply) ≡ true) × (refuses (meta_spelling reply) ≡ true)
refusal_refuses NotStored refused = (refl, refl)
refusal_refuses Exists refused = (refl, refl)
refusal_refuses NotFound refused = (refl, refl)
refusal_refuses (Fault UnknownCommand) refused = (refl, refl)
refusal_refuses (Fault BadFormat) refused = (refl, refl)
refusal_refuses (Fault BadDelta) refused = (refl, refl)
refusal_refuses (Fault InvalidFlag) refused = (refl, refl)
refusal_refuses (Fault BadToken) refused = (refl, refl)
refusal_refuses (Fault BadDataChunk) refused = (refl, refl)
refusal_refuses (Fault LineTooLong) refused = (refl, refl)
refusal_refuses (Fault NonNumeric) refused = (refl, refl)
refusal_refuses (Fault TooLarge) refused = (refl, refl)
refusal_refuses (Fault CasUsedUp) refused = (refl, refl)
refusal_refuses (Fault OutOfMemory) refused = (refl, refl)
refusal_refuses Stored refused = absurd cc
refusal_refuses Deleted refused = absurd cc
refusal_refuses Touched refused = absurd cc
refusal_refuses Flushed refused = absurd cc
refusal_refuses (Number n) refused = absurd cc
refusal_refuses Miss refused = absurd cc
refusal_refuses (Hit flags cas value) refused = absurd cc
refusal_refuses (Meta shown value) refused = absurd cc

-- a number is no refusal
low_accepts : (first second : ℕ) → first < 58
    → (((first == 78) || ((first == 69) || (first == 67))) || ((first == 83) && (second == 69))) ≡ false
low_accepts first second low = grind (arith, nat_tests)

digits_accept : (ds : List ℕ) → AreDigits ds → refuses (ds ++ codes "\r\n") ≡ false
digits_accept [] are = refl
digits_accept (d ∷ ds) are = low_accepts d (first_byte (ds ++ codes "\r\n")) are.1

done_accepts : (reply : Reply (List ℕ)) → is_done reply ≡ true → (refuses (reply_line reply) ≡ false) × (refuses (meta_spelling reply) ≡ false)
done_accepts Stored done = (refl, refl)
done_accepts Deleted done = (refl, refl)
done_accepts (Number n) done = (digits_accept (decimal n) (decimal_digits n), refl)
done_accepts (Meta shown None) done = (refl, refl)
done_accepts (Meta shown (Some value)) done = (refl, refl)
done_accepts NotStored done = absurd cc
done_accepts Exists done = absurd cc
done_accepts NotFound done = absurd cc
done_accepts Touched done = absurd cc
done_accepts Flushed done = absurd cc
done_accepts Miss done = absurd cc
done_accepts (Hit flags cas value) done = absurd cc
done_accepts (Fault fault) done = absurd cc

pub refused_apart : (atom : Atom (List ℕ)) (update : Update (List ℕ) (List ℕ)) (refusal done : Reply (List ℕ)) → update_in atom ≡ Some update → is_refused refusal ≡ true
    → is_done done ≡ true → spelling_of atom refusal ≡ spelling_of atom done → ⊥
refused_apart (atoms.Get key touch with_cas) update refusal done updates refused is same = absurd cc
refused_apart (atoms.Update own) update refusal done updates refused is same =
    true≢false (sym (refusal_refuses refusal refused).0 ∙ ap (λ bytes. refuses bytes) same ∙ (done_accepts done is).0)
refused_apart (atoms.Meta command) update refusal done updates refused is same =
    true≢false (sym (refusal_refuses refusal refused).1 ∙ ap (λ bytes. refuses bytes) same ∙ (done_accepts done is).1)

-- a line of digits is a number, and no other line is
abbrev is_count_line : List ℕ → Bool
is_count_line bytes = nat_lt 0 (first_byte bytes) && nat_lt (first_byte bytes) 58

count_begins : (d : ℕ) → 47 < d → d < 58 → (nat_lt 0 d && nat_lt d 58) ≡ true
count_begins d low high = grind (arith, nat_tests)

digits_count : (ds : List ℕ) → AreDigits ds → is_count_line (ds ++ codes "\r\n") ≡ true
digits_count [] are = refl
digits_count (d ∷ ds) are = count_begins d are.0 are.1

count_clash : (bytes : List ℕ) (number : ℕ) → bytes ≡ reply_line (Number number) → is_count_line bytes ≡ false → ⊥
count_clash bytes number same not =
    true≢false (sym (digits_count (decimal number) (decimal_digits number)) ∙ ap (λ line. is_count_line line) (sym same) ∙ not)

pub record IsNumber (reply : Reply (List ℕ)) (number : ℕ) : Type 0 where
  pub own : ℕ
  pub is : reply ≡ Number own
  pub same : decimal own ≡ decimal number

pub number_told : (reply : Reply (List ℕ)) (number : ℕ) → reply_line reply ≡ reply_line (Number number) → IsNumber reply number
number_told (Number own) number same = record {
  own = own;
  is = refl;
  same = (numbers_end own number 13 13 (10 ∷ []) (10 ∷ []) (omega arith) (omega arith) same).0;
}
number_told Stored number same = absurd (count_clash (reply_line Stored) number same refl)
number_told NotStored number same = absurd (count_clash (reply_line NotStored) number same refl)
number_told Exists number same = absurd (count_clash (reply_line Exists) number same refl)
number_told NotFound number same = absurd (count_clash (reply_line NotFound) number same refl)
number_told Deleted number same = absurd (count_clash (reply_line Deleted) number same refl)
number_told Touched number same = absurd (count_clash (reply_line Touched) number same refl)
number_told Flushed number same = absurd (count_clash (reply_line Flushed) number same refl)
number_told Miss number same = absurd (count_clash [] number same refl)
number_told (Hit flags cas value) number same = absurd (count_clash [] number same refl)
number_told (Meta shown value) number same = absurd (count_clash [] number same refl)
number_told (Fault UnknownCommand) number same = absurd (count_clash (reply_line (Fault UnknownCommand)) number same refl)
number_told (Fault BadFormat) number same = absurd (count_clash (reply_line (Fault BadFormat)) number same refl)
number_told (Fault BadDelta) number same = absurd (count_clash (reply_line (Fault BadDelta)) number same refl)
number_told (Fault InvalidFlag) number same = absurd (count_clash (reply_line (Fault InvalidFlag)) number same refl)
number_told (Fault BadToken) number same = absurd (count_clash (reply_line (Fault BadToken)) number same refl)
number_told (Fault BadDataChunk) number same = absurd (count_clash (reply_line (Fault BadDataChunk)) number same refl)
number_told (Fault LineTooLong) number same = absurd (count_clash (reply_line (Fault LineTooLong)) number same refl)
number_told (Fault NonNumeric) number same = absurd (count_clash (reply_line (Fault NonNumeric)) number same refl)
number_told (Fault TooLarge) number same = absurd (count_clash (reply_line (Fault TooLarge)) number same refl)
number_told (Fault CasUsedUp) number same = absurd (count_clash (reply_line (Fault CasUsedUp)) number same refl)
number_told (Fault OutOfMemory) number same = absurd (count_clash (reply_line (Fault OutOfMemory)) number same refl)

-- a reply with the bytes of a value of `mg` is one
pub record IsValue (reply : Reply (List ℕ)) : Type 0 where
  pub shown : Shown
  pub value : List ℕ
  pub is : reply ≡ Meta shown (Some value)

no_value : (bytes : List ℕ) (begins : ℕ) (shown : Shown) (value : List ℕ) → first_byte bytes ≡ begins → begins < 86 → bytes ≡ meta_spelling (Meta shown (Some value)) → ⊥
no_value bytes begins shown value is low same =
    let h : first_byte bytes ≡ 86 = ap (λ (bs : List ℕ). first_byte bs) same in
    omega (arith, is, low, h)

pub value_read : (reply : Reply (List ℕ)) (shown : Shown) (value : List ℕ) → meta_spelling reply ≡ meta_spelling (Meta shown (Some value)) → IsValue reply
value_read (Meta own (Some text)) shown value same = record { shown = own; value = text; is = refl }
value_read (Meta own None) shown value same = absurd (no_value (meta_spelling (Meta own None)) 72 shown value refl (omega arith) same)
value_read Stored shown value same = absurd (no_value [] 0 shown value refl (omega arith) same)
value_read NotStored shown value same = absurd (no_value (meta_spelling NotStored) 78 shown value refl (omega arith) same)
value_read Exists shown value same = absurd (no_value (meta_spelling Exists) 69 shown value refl (omega arith) same)
value_read NotFound shown value same = absurd (no_value (meta_spelling NotFound) 78 shown value refl (omega arith) same)
value_read Deleted shown value same = absurd (no_value [] 0 shown value refl (omega arith) same)
value_read Touched shown value same = absurd (no_value [] 0 shown value refl (omega arith) same)
value_read Flushed shown value same = absurd (no_value [] 0 shown value refl (omega arith) same)
value_read (Number number) shown value same = absurd (no_value [] 0 shown value refl (omega arith) same)
value_read Miss shown value same = absurd (no_value (meta_spelling Miss) 69 shown value refl (omega arith) same)
value_read (Hit flags cas text) shown value same = absurd (no_value [] 0 shown value refl (omega arith) same)
value_read (Fault fault) shown value same =
    absurd (true≢false (sym (refusal_refuses (Fault fault) refl).1 ∙ ap (λ bytes. refuses bytes) same ∙ (done_accepts (Meta shown (Some value)) refl).1))
