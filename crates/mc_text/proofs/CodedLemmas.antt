-- Keys in base64: one word for one key.
use Rattle.std.proofs.Common.{◌≡◌, ℕ, ◌+◌, ◌*◌, ◌/◌, ◌<◌, true, List, [], length, replicate, Option, Some, None, refl, sym, ap, ◌∙◌, arith}
use Rattle.std.specs.List.{All}
use Rattle.std.specs.Option.{option_and_then}
use Rattle.std.specs.Result.{result_ok}
use Rattle.std.specs.declared.result.Result.{Result}
use Rattle.std.specs.declared.result.Result.TheVariants.{Ok, Err}
use Rattle.std.proofs.lemmas.List.{length-append, length-replicate, get_or_past}
use Rattle.std.proofs.lemmas.Bool.{cases_lt}
use Rattle.std.proofs.lemmas.Bool.Decides.{nat_tests}
use Rattle.base64.specs.Engines.{standard}
use Rattle.base64.specs.GeneralPurpose.{IsBytes, decode_of, decoded_of}
use Rattle.base64.proofs.EngineFacts.{decode_of_strict, decode_of-encode_of}
use Rattle.base64.proofs.OnLiterals.{base64_on_literals}
use Rattle.base64.proofs.RoundTrip.{length-encode_symbols}
use Rattle.mc_text.specs.Keys.{is_key}
use Rattle.mc_text.specs.declared.coded_keys.TheConstants.{CODED_LIMIT}
use Rattle.mc_text.specs.CodedKeys.{coded_of, bytes_of_base64, where_key, coded_key}

-- what a result gives, if it is no error
ok_of : {E : Type 0} (r : Result (List ℕ) E) (bytes : List ℕ) → result_ok r ≡ Some bytes → r ≡ Ok bytes
ok_of (Ok x) bytes e = cc e
ok_of (Err x) bytes e = absurd cc

-- bytes, as the encoding asks for them
pub are_bytes : (word : List ℕ) → All (λ b. b < 256) word → IsBytes word
are_bytes word bytes i = grind (arith, get_or_past, cases_lt)

-- a word is the one that its bytes have
pub coded_of-said : (word bytes : List ℕ) → IsBytes word → bytes_of_base64 word ≡ Some bytes → coded_of bytes ≡ word
unfolding coded_of bytes_of_base64 decoded_of
coded_of-said word bytes are said = sym (decode_of_strict standard word bytes (refl, refl) are (ok_of (decode_of standard word) bytes said))

-- what is coded is read back
pub said-coded_of : (bytes : List ℕ) → IsBytes bytes → bytes_of_base64 (coded_of bytes) ≡ Some bytes
unfolding coded_of bytes_of_base64 decoded_of
said-coded_of bytes are = ap result_ok (decode_of-encode_of standard bytes refl are)

-- four bytes for each three that are begun
pub length-coded_of : (bytes : List ℕ) → length (coded_of bytes) ≡ (length bytes + 2) / 3 * 4
unfolding coded_of
length-coded_of bytes = grind (arith, replicate, length-append, length-replicate, length-encode_symbols)

-- the empty word encodes no byte
pub said-nil : bytes_of_base64 [] ≡ Some []
unfolding bytes_of_base64 base64_on_literals
said-nil = refl

-- the length of a word that encodes bytes
pub length-said : (word bytes : List ℕ) → IsBytes word → bytes_of_base64 word ≡ Some bytes → length word ≡ (length bytes + 2) / 3 * 4
length-said word bytes are said = ap length (sym (coded_of-said word bytes are said)) ∙ length-coded_of bytes

-- the key that is read is the one that is said
coded_key-is : (said : Option (List ℕ)) (key : List ℕ) → option_and_then where_key said ≡ Some key → (said ≡ Some key) × (is_key key ≡ true)
coded_key-is None key e = absurd cc
coded_key-is (Some bytes) key e = grind arith

pub said_key : (word key : List ℕ) → coded_key word ≡ Some key → bytes_of_base64 word ≡ Some key
unfolding coded_key
said_key word key e = (coded_key-is (bytes_of_base64 word) key e).0

-- the encoded bytes are the key, if they are one, and else there is none
pub coded_key-said : (word bytes : List ℕ) → bytes_of_base64 word ≡ Some bytes → coded_key word ≡ where_key bytes
unfolding coded_key
coded_key-said word bytes said = rw said refl

pub coded_key-unsaid : (word : List ℕ) → bytes_of_base64 word ≡ None → coded_key word ≡ None
unfolding coded_key
coded_key-unsaid word unsaid = rw unsaid refl

-- no word beyond the limit encodes a key
pub coded_key-too_long : (word : List ℕ) → IsBytes word → CODED_LIMIT < length word → coded_key word ≡ None
coded_key-too_long word are long =
    (elim (bytes_of_base64 word) as (λ said. bytes_of_base64 word ≡ said → coded_key word ≡ None) [
      | None ↦ λ unsaid. coded_key-unsaid word unsaid
      | Some bytes ↦ λ said.
          let many : 250 < length bytes = omega (arith, length-said word bytes are said) in
          coded_key-said word bytes said ∙ grind (arith, nat_tests)
    ]) refl

-- the words of keys and the keys of words, to and fro
pub coded_of-read : (word key : List ℕ) → All (λ b. b < 256) word → coded_key word ≡ Some key → coded_of key ≡ word
coded_of-read word key are read = coded_of-said word key (are_bytes word are) (said_key word key read)

pub read-coded_of : (key : List ℕ) → All (λ b. b < 256) key → is_key key ≡ true → coded_key (coded_of key) ≡ Some key
read-coded_of key are valid = coded_key-said (coded_of key) key (said-coded_of key (are_bytes key are)) ∙ rw valid refl

pub read_once : (word other key : List ℕ) → All (λ b. b < 256) word → All (λ b. b < 256) other
    → coded_key word ≡ Some key → coded_key other ≡ Some key → word ≡ other
read_once word other key are others read again = sym (coded_of-read word key are read) ∙ coded_of-read other key others again

pub ruleset one_word_for_one_key = (coded_of-read, read-coded_of, read_once)
