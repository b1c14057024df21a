-- The clients of a world after one of them has changed.
use Rattle.std.proofs.Common.{◌≡◌, ◌≢◌, ◌∙◌, ⊎_elim, ℕ, zero, suc, ◌<◌, List, [], ◌∷◌, ◌++◌, length, refl, sym, ap, subst, arith}
use Rattle.std.proofs.lemmas.Bool.Decides.{eqb_tells}
use Rattle.mc_account.specs.Holds.{changed}
use Rattle.mc_account.proofs.HoldsLemmas.{changed-other, changed-own}
use Rattle.mc_world.specs.Worlds.{ClientState, client_at, with_client}

-- the client of the number, and any other
client_own : (number : ℕ) (client : ClientState) (clients : List ClientState) → number < length clients → client_at (with_client number client clients) number ≡ client
client_own number client [] inside = absurd (omega (arith, inside))
client_own zero client (c ∷ cs) inside = refl
client_own (suc number) client (c ∷ cs) inside = client_own number client cs (omega (arith, inside))

client_other : (number other : ℕ) (client : ClientState) (clients : List ClientState) → number ≢ other → client_at (with_client number client clients) other ≡ client_at clients other
client_other number other client [] differ = refl
client_other zero zero client (c ∷ cs) differ = absurd (differ refl)
client_other zero (suc other) client (c ∷ cs) differ = refl
client_other (suc number) zero client (c ∷ cs) differ = refl
client_other (suc number) (suc other) client (c ∷ cs) differ = client_other number other client cs (λ same. differ (ap suc same))

-- what is read of each client after one has changed
pub read_changed : (read : ClientState → List ℕ) (number : ℕ) (client : ClientState) (clients : List ClientState) → number < length clients
    → (n : ℕ) → read (client_at (with_client number client clients) n) ≡ changed number (read client) (λ m. read (client_at clients m)) n
read_changed read number client clients inside n =
    ⊎_elim
    (λ e. subst (λ (m : ℕ). read (client_at (with_client number client clients) m) ≡ changed number (read client) (λ k. read (client_at clients k)) m) e.1
    (ap read (client_own number client clients inside) ∙ sym (changed-own number (read client) (λ k. read (client_at clients k)))))
    (λ e. ap read (client_other number n client clients e.1) ∙ sym (changed-other number n (read client) (λ k. read (client_at clients k)) e.1))
    (eqb_tells number n)

-- their number stays
pub with_client-length : (number : ℕ) (client : ClientState) (clients : List ClientState) → length (with_client number client clients) ≡ length clients
with_client-length number client [] = refl
with_client-length zero client (c ∷ cs) = refl
with_client-length (suc number) client (c ∷ cs) = ap suc (with_client-length number client cs)

-- a client whose text is longer, or that took more
pub with_text : (clients : List ClientState) (number : ℕ) (longer text taken bytes : List ℕ) → longer ≡ text ++ bytes → record { text = text; taken = taken } ≡ client_at clients number
    → with_client number (record { text = longer; taken = taken }) clients
    ≡ with_client number (record (client_at clients number) { text = (client_at clients number).text ++ bytes }) clients
with_text clients number longer text taken bytes is was =
    ap (λ (t : List ℕ). with_client number (record { text = t; taken = taken }) clients) is
    ∙ ap (λ (c : ClientState). with_client number (record { text = c.text ++ bytes; taken = c.taken }) clients) was
