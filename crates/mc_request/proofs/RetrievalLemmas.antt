-- Lines that begin with the name of a retrieval and a space.
use Rattle.std.proofs.Common.{◌≡◌, ◌∙◌, ℕ, Bool, true, false, List, ◌∷◌, ◌++◌, take, drop, None, refl, sym, ap, if◌then◌else◌}
use Rattle.std.specs.Prelude.{codes}
use Rattle.std.specs.List.{list_all}
use Rattle.std.proofs.lemmas.List.{take-append-drop}
use Rattle.mc_text.specs.Words.{words}
use Rattle.mc_text.specs.Keys.{is_plain_key}
use Rattle.mc_text.proofs.WordLemmas.{words-space}
use Rattle.mc_request.specs.Names.{name_of, at_least}
use Rattle.mc_request.specs.Meanings.{Alone, meaning, meaning_named}
use Rattle.mc_request.specs.declared.names.Name.TheVariants.{Get, Gets}
use Rattle.mc_request.specs.declared.parts.Request.TheVariants as requests
use Rattle.mc_request.specs.declared.parts.Parsed.TheVariants.{Whole}

words_get : (keys : List ℕ) → words (codes "get " ++ keys) ≡ codes "get" ∷ words keys
unfolding words
words_get keys = refl

words_gets : (keys : List ℕ) → words (codes "gets " ++ keys) ≡ codes "gets" ∷ words keys
unfolding words
words_gets keys = refl

name_get : (keys : List (List ℕ)) → meaning (codes "get" ∷ keys) ≡ meaning_named Get keys
unfolding name_of
name_get keys = refl

name_gets : (keys : List (List ℕ)) → meaning (codes "gets" ∷ keys) ≡ meaning_named Gets keys
unfolding name_of
name_gets keys = refl

-- a line that begins with the name and a space, and the words from that space on
pub begins_get : (n : ℕ) (text : List ℕ) → take n text ≡ codes "get " → meaning (words text) ≡ meaning_named Get (words (drop 3 text))
begins_get n text is =
    let whole : text ≡ codes "get " ++ drop n text = sym (take-append-drop n text) ∙ ap (λ (front : List ℕ). front ++ drop n text) is in
    let keys : words (drop 3 text) ≡ words (drop n text) = ap (λ (t : List ℕ). words (drop 3 t)) whole ∙ words-space 32 (drop n text) refl in
    ap (λ (t : List ℕ). meaning (words t)) whole ∙ ap (λ (ws : List (List ℕ)). meaning ws) (words_get (drop n text)) ∙ name_get (words (drop n text))
    ∙ ap (meaning_named Get) (sym keys)

pub begins_gets : (n : ℕ) (text : List ℕ) → take n text ≡ codes "gets " → meaning (words text) ≡ meaning_named Gets (words (drop 4 text))
begins_gets n text is =
    let whole : text ≡ codes "gets " ++ drop n text = sym (take-append-drop n text) ∙ ap (λ (front : List ℕ). front ++ drop n text) is in
    let keys : words (drop 4 text) ≡ words (drop n text) = ap (λ (t : List ℕ). words (drop 4 t)) whole ∙ words-space 32 (drop n text) refl in
    ap (λ (t : List ℕ). meaning (words t)) whole ∙ ap (λ (ws : List (List ℕ)). meaning ws) (words_gets (drop n text)) ∙ name_gets (words (drop n text))
    ∙ ap (meaning_named Gets) (sym keys)

pub good_keys : (with_cas : Bool) (keys : List (List ℕ)) → at_least 1 keys ≡ true → list_all is_plain_key keys ≡ true
    → meaning_named (if with_cas then Gets else Get) keys ≡ Alone (Whole (requests.Get keys None with_cas))
good_keys true keys some plain = rw (some, plain) refl
good_keys false keys some plain = rw (some, plain) refl
