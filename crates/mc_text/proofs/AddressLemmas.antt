-- Where an address is cut.
use Rattle.std.proofs.Common.{◌≡◌, ◌==◌, ◌&&◌, ◌+◌, ℕ, Bool, true, false, cond, List, Some, None, length, take, drop, nat_lt, position, sym, ap, ◌∙◌}
use Rattle.std.proofs.lemmas.List.{drop-drop}
use Rattle.std.specs.List.{position_or_len}
use Rattle.mc_text.specs.Addresses.{is_host, is_port, is_address}

some_by : (b : Bool) (n i : ℕ) → cond b (Some n) None ≡ Some i → n ≡ i
some_by true n i e = cc
some_by false n i e = absurd cc

-- the first place at which a test passes, if there is one
position_or_len_is : (p : ℕ → Bool) (xs : List ℕ) (i : ℕ) → position p xs ≡ Some i → position_or_len p xs ≡ i
position_or_len_is p xs i e = some_by (nat_lt (position_or_len p xs) (length xs)) (position_or_len p xs) i e

-- a text is cut at its first colon
address_at : (text : List ℕ) (place : ℕ) → position (λ b. b == 58) text ≡ Some place → is_address text ≡ (is_host (take place text) && is_port (drop 1 (drop place text)))
address_at text place e =
    let cut : ℕ → Bool = λ n. is_host (take n text) && is_port (drop (n + 1) text) in
    let at : is_address text ≡ cut place = ap cut (position_or_len_is (λ b. b == 58) text place e) in
    at ∙ ap (λ port. is_host (take place text) && is_port port) (sym (drop-drop 1 place text))

-- after a host its port decides
pub address_after_host : (text : List ℕ) (place : ℕ) → position (λ b. b == 58) text ≡ Some place → is_host (take place text) ≡ true → is_address text ≡ is_port (drop 1 (drop place text))
address_after_host text place e host = address_at text place e ∙ ap (λ b. b && is_port (drop 1 (drop place text))) host
