-- Bytes of a proxy's clients alone, and the tags of the entries that these caused.
use Rattle.std.proofs.Common.{◌≡◌, ◌≢◌, ◌∙◌, ℕ, ◌==◌, Bool, true, false, if◌then◌else◌, List, [], ◌∷◌, ◌++◌, refl, sym, ap}
use Rattle.std.proofs.lemmas.Bool.{eq-eqb, eqb-true}
use Rattle.mc_link.specs.declared.turns.Tag.{Tag}
use Rattle.mc_account.specs.Holds.{grown}
use Rattle.mc_account.proofs.OpenSessions.{other_number}
use Rattle.mc_history.specs.Histories.{tag_in}
use Rattle.mc_history.specs.declared.entries.Entry.{Entry}
use Rattle.mc_world.specs.Homes.{Homes, own_of, tags_through}

-- the bytes of a client of this proxy, and of another
pub own_bytes : (home : Homes) (proxy : ℕ) (bytes : ℕ → List ℕ) (client : ℕ) → home client ≡ proxy → own_of home proxy bytes client ≡ bytes client
own_bytes home proxy bytes client own = ap (λ (v : Bool). if v then bytes client else []) (eq-eqb (home client) proxy own)

-- more bytes of a client of this proxy, and of another
pub own_grown : (home : Homes) (proxy client : ℕ) (more : List ℕ) (bytes : ℕ → List ℕ) → home client ≡ proxy
    → (number : ℕ) → own_of home proxy (grown client more bytes) number ≡ grown client more (own_of home proxy bytes) number
own_grown home proxy client more bytes own number =
    (elim (client == number) as (λ v. client == number ≡ v → (if home number == proxy then (if v then bytes client ++ more else bytes number) else [])
    ≡ (if v then own_of home proxy bytes client ++ more else own_of home proxy bytes number)) [
      | true ↦ λ is.
          ap (λ (v : Bool). if v then bytes client ++ more else []) (eq-eqb (home number) proxy (ap (λ (c : ℕ). home c) (sym (eqb-true client number is)) ∙ own))
          ∙ ap (λ (front : List ℕ). front ++ more) (sym (own_bytes home proxy bytes client own))
      | false ↦ λ is. refl
    ]) refl

pub other_grown : (home : Homes) (proxy client : ℕ) (more : List ℕ) (bytes : ℕ → List ℕ) → home client ≢ proxy
    → (number : ℕ) → own_of home proxy (grown client more bytes) number ≡ own_of home proxy bytes number
other_grown home proxy client more bytes differ number =
    (elim (client == number) as (λ v. client == number ≡ v → (if home number == proxy then (if v then bytes client ++ more else bytes number) else [])
    ≡ (if home number == proxy then bytes number else [])) [
      | true ↦ λ is.
          let there : (home number == proxy) ≡ false = other_number (home number) proxy (λ same. differ (ap (λ (c : ℕ). home c) (eqb-true client number is) ∙ same)) in
          ap (λ (v : Bool). if v then bytes client ++ more else []) there ∙ ap (λ (v : Bool). if v then bytes number else []) (sym there)
      | false ↦ λ is. refl
    ]) refl

-- the tags of a history that goes on
pub tags_through-append : (home : Homes) (proxy : ℕ) (ds es : List Entry) → tags_through home proxy (ds ++ es) ≡ tags_through home proxy ds ++ tags_through home proxy es
tags_through-append home proxy [] es = refl
tags_through-append home proxy (d ∷ ds) es =
    let again = tags_through-append home proxy ds es in
    (elim (home d.client == proxy) as (λ v. (if v then tag_in d ∷ tags_through home proxy (ds ++ es) else tags_through home proxy (ds ++ es))
    ≡ (if v then tag_in d ∷ tags_through home proxy ds else tags_through home proxy ds) ++ tags_through home proxy es) [
      | true ↦ ap (λ (ts : List Tag). tag_in d ∷ ts) again
      | false ↦ again
    ])
