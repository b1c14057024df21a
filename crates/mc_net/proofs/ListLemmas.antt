-- Lists of clients, place by place.
use Rattle.std.proofs.Common.{◌≡◌, ◌∙◌, ℕ, suc, ◌+◌, ◌-◌, ◌<◌, ◌≤◌, List, [], ◌∷◌, ◌++◌, Some, None, false, append_assoc, arith, ap, drop, length, map, sym, take}
use Rattle.std.proofs.lemmas.List.{append-nil, drop_all, drop_at, length-map, map-append, take_all, take_at}
use Rattle.slab.specs.Slab.{Slab, get}
use Rattle.mc_admin.specs.declared.conns.Conn.{Conn}
use Rattle.mc_net.specs.declared.clients.ClientSlot.{ClientSlot}
use Rattle.mc_net.specs.declared.conns.TheConstants.{LIST_LEN}
use Rattle.mc_net.specs.Lists.{Shown, all_shown, known_of, place_of, shown_before, shown_by, shown_of}

-- the clients from a place on are that of the place, if there is one, and those from the next place on
pub shown_next : {K : Type 0} (slots : Slab (ClientSlot K)) (moment place most : ℕ) → place < most
    → all_shown slots moment place (most - place)
    ≡ shown_before moment place (get slots place) (all_shown slots moment (place + 1) (most - (place + 1)))
shown_next slots moment place most below =
    let longer : most - place ≡ suc (most - (place + 1)) = omega (arith, below) in
    ap (λ count. all_shown slots moment place count) longer

-- one more listed client is the first of those to come
pub listed_more : (conns : List Conn) (conn : Conn) (rest all : List Shown)
    → map shown_of conns ++ shown_of conn ∷ rest ≡ all → map shown_of (conns ++ conn ∷ []) ++ rest ≡ all
listed_more conns conn rest all before =
    ap (λ shown. shown ++ rest) (map-append shown_of conns (conn ∷ []))
    ∙ append_assoc (map shown_of conns) (shown_of conn ∷ []) rest ∙ before

-- a full list has the first clients, and the next part begins at the next client
pub listed_full : (most : ℕ) (conns : List Conn) (shown : Shown) (rest all : List Shown) → length conns ≡ most
    → map shown_of conns ++ shown ∷ rest ≡ all
    → (map shown_of conns ≡ take most all) × (Some shown.place ≡ place_of (drop most all))
listed_full most conns shown rest all full said =
    let long : length (map shown_of conns) ≡ most = length-map conns shown_of ∙ full in (
      sym (take_at (map shown_of conns) (shown ∷ rest) most long) ∙ ap (λ xs. take most xs) said,
      ap (λ xs. place_of xs) (sym (drop_at (map shown_of conns) (shown ∷ rest) most long) ∙ ap (λ xs. drop most xs) said),
    )

-- a full list at the place of a client
pub full_at : {K : Type 0} (slots : Slab (ClientSlot K)) (moment from place most : ℕ) (slot : ClientSlot K) (conns : List Conn) → place < most
    → get slots place ≡ Some slot → length conns ≡ LIST_LEN
    → map shown_of conns ++ all_shown slots moment place (most - place) ≡ all_shown slots moment from (most - from)
    → (map shown_of conns ≡ take LIST_LEN (all_shown slots moment from (most - from)))
    × (Some place ≡ place_of (drop LIST_LEN (all_shown slots moment from (most - from))))
full_at slots moment from place most slot conns below found full said =
    let rest = all_shown slots moment (place + 1) (most - (place + 1)) in
    let shown = shown_by (known_of moment place false slot) in
    let next : all_shown slots moment place (most - place) ≡ shown ∷ rest =
    shown_next slots moment place most below ∙ ap (λ slot. shown_before moment place slot rest) found in
    let told : map shown_of conns ++ shown ∷ rest ≡ all_shown slots moment from (most - from) =
    ap (λ xs. map shown_of conns ++ xs) (sym next) ∙ said in
    listed_full LIST_LEN conns shown rest (all_shown slots moment from (most - from)) full told

-- a list with no client to come has all clients, and no further part
pub listed_ended : (most : ℕ) (conns : List Conn) (all : List Shown) → length conns ≤ most → map shown_of conns ++ [] ≡ all
    → (map shown_of conns ≡ take most all) × (None ≡ place_of (drop most all))
listed_ended most conns all few said =
    let same : map shown_of conns ≡ all = sym (append-nil (map shown_of conns)) ∙ said in
    let short : length all ≤ most = omega (arith, few, ap (λ xs. length xs) same, length-map conns shown_of) in
    (same ∙ sym (take_all most all short), ap (λ xs. place_of xs) (sym (drop_all most all short)))

pub ruleset list_steps = (shown_next, listed_more, listed_ended)
