-- Links by the places of their servers.
use Rattle.std.proofs.Common.{◌≡◌, ◌↔◌, ℕ, zero, suc, ◌+◌, ◌<◌, ◌∙◌, List, [], ◌∷◌, ◌++◌, length, get_or, set, replicate, Result, Ok, Err, IsErrOf, OnErr, sym, ap, arith}
use Rattle.std.proofs.Math.Seq.{map-set_same}
use Rattle.std.proofs.lemmas.List.{map-append, map-set, length-map, length-replicate, replicate-append-replicate}
use Rattle.mc_link.specs.LinkState.{RoomyLink, down_link}
use Rattle.mc_proxy.specs.SessionState.{states, link_at, with_link}

-- what was read at a place is the link there
pub read_at : (links : List RoomyLink) (place : ℕ) (own : RoomyLink) → place < length links → own ≡ get_or links place own
    → link_at (states links) place ≡ own.state
read_at [] place own inside is = absurd (omega arith)
read_at (link ∷ links) zero own inside is = ap (λ (l : RoomyLink). l.state) (sym is)
read_at (link ∷ links) (suc place) own inside is = read_at links place own (omega arith) is

-- the link at a place is changed
pub states-set : (links : List RoomyLink) (place : ℕ) (after : RoomyLink) → states (set links place after) ≡ with_link place after.state (states links)
states-set links place after = map-set (λ (link : RoomyLink). link.state) links place after

-- a link whose state is as it was is written back
pub states-set_same : (links : List RoomyLink) (place : ℕ) (own after : RoomyLink) → own ≡ get_or links place own
    → after.state ≡ own.state → states (set links place after) ≡ states links
states-set_same links place own after is same =
    map-set_same (λ (link : RoomyLink). link.state) links place after own (same ∙ ap (λ (link : RoomyLink). link.state) is)

-- one more link that was never up
pub states-push : (links : List RoomyLink) (link : RoomyLink) (n : ℕ) → states links ≡ replicate n (down_link 0) → link.state ≡ down_link 0
    → states (links ++ link ∷ []) ≡ replicate (n + 1) (down_link 0)
states-push links link n are is =
    rw (map-append (λ (link : RoomyLink). link.state) links (link ∷ []), are, is) (replicate-append-replicate n 1 (down_link 0))

-- there are `n` of them
pub length_never_up : (links : List RoomyLink) (n : ℕ) → states links ≡ replicate n (down_link 0) → length links ≡ n
length_never_up links n are =
    rw (← length-map links (λ (link : RoomyLink). link.state), are) (length-replicate n (down_link 0))

-- what holds in any case holds at an error
pub at_error : {T E P : Type 0} (r : Result T E) → P → OnErr r P
at_error (Ok x) holds = tt
at_error (Err e) holds = holds

-- the cause of an error is the same whatever the type of the missing value
pub same_error : {T U E A : Type 0} (e cause : E) → (IsErrOf {T = U} (Err e) cause ↔ A) → IsErrOf {T = T} (Err e) cause ↔ A
same_error e cause means = (λ is. let own : e ≡ cause = cc in means.0 (ap Err own), λ a. let is = means.1 a in let own : e ≡ cause = cc in ap Err own)
