-- A request that takes bytes.
use Rattle.std.proofs.Common.{◌≡◌, ◌∙◌, ℕ, ◌+◌, ◌<◌, ◌≤◌, true, false, List, [], ◌∷◌, ◌++◌, length, drop, get_or, ap, refl, if◌then◌else◌}
use Rattle.std.proofs.lemmas.List.{drop_more, drop_all}
use Rattle.mc_admin.specs.Requests.{InboxState, is_over, with_byte, taking, continued}

-- one that is over takes nothing
pub taking_over : (s : InboxState) (bytes : List ℕ) → is_over s.phase ≡ true → taking s bytes ≡ (s, bytes)
unfolding taking
taking_over s [] over = refl
taking_over s (b ∷ bs) over = rw over refl

-- a request that is not over takes the next byte
pub taking_more : (s : InboxState) (b : ℕ) (bs : List ℕ) → is_over s.phase ≡ false
    → taking s (b ∷ bs) ≡ taking (with_byte s b) bs
unfolding taking
taking_more s b bs goes_on = rw goes_on refl

-- the next byte of a piece
pub taking_next : (s : InboxState) (piece : List ℕ) (i : ℕ) (d : ℕ) → i < length piece → is_over s.phase ≡ false
    → taking s (drop i piece) ≡ taking (with_byte s (get_or piece i d)) (drop (i + 1) piece)
taking_next s piece i d inside goes_on =
    ap (λ (bs : List ℕ). taking s bs) (drop_more piece i d inside)
    ∙ taking_more s (get_or piece i d) (drop (i + 1) piece) goes_on

-- at the end of a piece nothing is left
pub taking_end : (s : InboxState) (piece : List ℕ) (i : ℕ) → length piece ≤ i → taking s (drop i piece) ≡ (s, drop i piece)
unfolding taking
taking_end s piece i past = rw (drop_all i piece past) refl

-- it plays no part where the bytes are cut
pub taking_cut : (s : InboxState) (front more : List ℕ) → taking s (front ++ more) ≡ continued (taking s front) more
unfolding taking continued
taking_cut s [] more = refl
taking_cut s (b ∷ bs) more =
    elim (is_over s.phase) as
    (λ over. (if over then (s, (b ∷ (bs ++ more))) else taking (with_byte s b) (bs ++ more))
    ≡ continued (if over then (s, (b ∷ bs)) else taking (with_byte s b) bs) more)
    [ true ↦ refl | false ↦ taking_cut (with_byte s b) bs more ]
