-- Links by their places.
use Rattle.std.proofs.Common.{◌≡◌, ℕ, zero, suc, true, ◌+◌, ◌<◌, ◌≤◌, [], ◌∷◌, List, length, get_or, set, refl, sym, ap, ◌∙◌, arith}
use Rattle.std.proofs.lemmas.List.{get_or_default, map-set}
use Rattle.std.proofs.Math.Seq.{map-set_same}
use Rattle.mc_request.specs.declared.parts.Atom.{Atom}
use Rattle.mc_codec.specs.Spellings.{spelling_of_atom}
use Rattle.mc_route.specs.declared.routes.Routed.{Routed}
use Rattle.mc_link.specs.declared.turns.Tag.{Tag}
use Rattle.mc_link.specs.LinkState.{LinkState, RoomyLink, down_link, sent}
use Rattle.mc_proxy.specs.SessionState.{link_at, states, with_link}
use Rattle.mc_proxy.specs.Sending.{AreRoomy, IsRoomy, handed_to, roomy_at, spelled}

-- the link of a place without one
abbrev pub no_link : RoomyLink
no_link = record { state = down_link 0; bytes = 0; heads = 0 }

-- the link of a place, with and without its room
pub link_at_is : (links : List RoomyLink) (place : ℕ) → link_at (states links) place ≡ (roomy_at links place).state
link_at_is [] place = refl
link_at_is (link ∷ links) zero = refl
link_at_is (link ∷ links) (suc place) = link_at_is links place

-- what was read at a place is its link
pub read_at : (links : List RoomyLink) (place : ℕ) (own : RoomyLink) → place < length links → get_or links place own ≡ roomy_at links place
read_at links place own inside = get_or_default links place own no_link inside

-- the state there is its state
pub link_is_there : (links : List RoomyLink) (place : ℕ) (own : RoomyLink) → place < length links → link_at (states links) place ≡ (get_or links place own).state
link_is_there links place own inside = link_at_is links place ∙ ap (λ (l : RoomyLink). l.state) (sym (read_at links place own inside))

-- a link that is as it was changes no link
pub states_same : (links : List RoomyLink) (place : ℕ) (own link : RoomyLink) → link.state ≡ (get_or links place own).state → states (set links place link) ≡ states links
states_same links place own link same = map-set_same (λ (l : RoomyLink). l.state) links place link own same

-- another link at a place
pub states_set : (links : List RoomyLink) (place : ℕ) (link : RoomyLink) → states (set links place link) ≡ with_link place link.state (states links)
states_set links place link = map-set (λ (l : RoomyLink). l.state) links place link

-- a link with this room has room for less
pub less_roomy : (b h c k : ℕ) (link : RoomyLink) → c ≤ b → k ≤ h → IsRoomy b h link → IsRoomy c k link
less_roomy b h c k link fewer_bytes fewer_heads roomy = record {
  bytes_fit = λ up. omega (arith, fewer_bytes, roomy.bytes_fit up);
  heads_fit = λ up. omega (arith, fewer_heads, roomy.heads_fit up);
}

-- a link that is up sends the command
pub handed_to_up : (tag : Tag) (atom : Atom (List ℕ)) (link : LinkState) → link.up ≡ true → handed_to tag atom link ≡ sent atom tag link
handed_to_up tag atom link up = rw up refl

-- room for all commands is room for the first
pub roomy_first : (links : List RoomyLink) (command : Routed) (commands : List Routed) → AreRoomy links (command ∷ commands)
    → IsRoomy (length (spelling_of_atom command.atom)) 1 (roomy_at links command.server)
roomy_first links command commands roomy =
    less_roomy (spelled (command ∷ commands)) (length (command ∷ commands)) (length (spelling_of_atom command.atom)) 1 (roomy_at links command.server) (omega arith) (omega arith)
    (roomy 0 command (omega arith))

-- after the first is sent, there is room for the others
pub roomy_rest : (links now : List RoomyLink) (command : Routed) (commands : List Routed)
    → ((at b h : ℕ) → IsRoomy (length (spelling_of_atom command.atom) + b) (1 + h) (roomy_at links at) → IsRoomy b h (roomy_at now at))
    → AreRoomy links (command ∷ commands) → AreRoomy now commands
roomy_rest links now command commands leaves roomy k d inside =
    leaves (get_or commands k d).server (spelled commands) (length commands)
    (less_roomy (spelled (command ∷ commands)) (length (command ∷ commands)) (length (spelling_of_atom command.atom) + spelled commands) (1 + length commands)
    (roomy_at links (get_or commands k d).server) (omega arith) (omega arith) (roomy (suc k) d (omega (arith, inside))))
