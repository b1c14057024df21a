use Rattle.std.proofs.Common.{◌≡◌, ◌≤◌, ◌+◌, ◌++◌, [], map, vec_len, length}
use denote.Text.{Utf8}
use denote.Shadow.{shadow}
use Rattle.mc_proxyd.specs.Files.{words_of}
use Rattle.mc_proxyd.specs.Mistakes.{mistake_after}
use Rattle.mc_proxyd.specs.Servers.{address_of, name_of}
use Rattle.mc_proxyd.proofs.lists.servers_in.Given as goal

-- the servers so far are those of the lines so far, and the first mistake is in the lines to come
abbrev pub invariant-loop-line : goal.invariant-loop-line
invariant-loop-line l =
    shadow (Utf8 l.rest) × (vec_len l.servers ≤ 64)
    × (map (λ server. server.name) l.servers.items ++ map name_of (words_of l.rest) ≡ map name_of (words_of l.text))
    × (map (λ server. server.address) l.servers.items ++ map address_of (words_of l.rest) ≡ map address_of (words_of l.text))
    × (mistake_after l.number (map (λ server. server.name) l.servers.items) l.rest ≡ mistake_after 1 [] l.text)
    × (l.number + length l.rest ≤ length l.text + 1)

abbrev pub decreases-loop-line : goal.decreases-loop-line
decreases-loop-line l = length l.rest
