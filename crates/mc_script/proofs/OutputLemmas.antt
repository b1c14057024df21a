-- Outputs and their lines, one more at a time.
use Rattle.std.proofs.Common.{◌≡◌, ◌∙◌, ℕ, ◌+◌, List, [], ◌∷◌, ◌++◌, length, map, codes, refl, sym, ap, arith, add-zero, zero-add}
use Rattle.std.specs.List.{flat_map, enumerate_from, range_with_len}
use Rattle.std.proofs.lemmas.List.{append-nil}
use Rattle.std.proofs.lemmas.List.FromFn.{length-map-range_with_len, map-range_with_len_more}
use Rattle.std.proofs.lemmas.Grind.{flat_map-append}
use Rattle.mc_cache.specs.CacheState.{CacheState}
use Rattle.mc_server.specs.ServerState.{ServerState, Connections, connection_at, fresh_connection, output_of, with_fresh}
use Rattle.mc_script.specs.Escapes.{client_line, client_lines, named_line, named_lines}
use Rattle.mc_script.specs.Plays.{opened, outputs_of}

-- one more element, with its number
enumerate_more : (n : ℕ) (xs : List (List ℕ)) (x : List ℕ) → enumerate_from n (xs ++ x ∷ []) ≡ enumerate_from n xs ++ (n + length xs, x) ∷ []
enumerate_more n [] x = rw add-zero refl
enumerate_more n (y ∷ ys) x =
    let is : (n + 1) + length ys ≡ n + length (y ∷ ys) = omega arith in
    ap (λ (ps : List (ℕ × List ℕ)). (n, y) ∷ ps) (enumerate_more (n + 1) ys x ∙ ap (λ (m : ℕ). enumerate_from (n + 1) ys ++ (m, x) ∷ []) is)

-- the line of one more text
pub named_lines_more : (name : List ℕ) (texts : List (List ℕ)) (text : List ℕ) → named_lines name (texts ++ text ∷ []) ≡ named_lines name texts ++ named_line name (length texts) text
named_lines_more name texts text =
    let line = λ (one : ℕ × List ℕ). named_line name one.0 one.1 in
    ap (λ (ps : List (ℕ × List ℕ)). flat_map line ps) (enumerate_more 0 texts text)
    ∙ flat_map-append line (enumerate_from 0 texts) ((0 + length texts, text) ∷ [])
    ∙ ap (λ (xs : List ℕ). named_lines name texts ++ xs) (append-nil (named_line name (0 + length texts) text) ∙ ap (λ (n : ℕ). named_line name n text) (zero-add (length texts)))

-- likewise for texts that a function gives for the numbers in order
pub named_lines_next : (name : List ℕ) (f : ℕ → List ℕ) (count : ℕ)
    → named_lines name (map f (range_with_len 0 (count + 1))) ≡ named_lines name (map f (range_with_len 0 count)) ++ named_line name count (f count)
named_lines_next name f count =
    let texts = map f (range_with_len 0 count) in
    ap (λ (all : List (List ℕ)). named_lines name all) (map-range_with_len_more f 0 count count (omega arith)) ∙ named_lines_more name texts (f count)
    ∙ ap (λ (n : ℕ). named_lines name texts ++ named_line name n (f count)) (length-map-range_with_len f 0 count)

-- the line of one more connection of a server
pub output_lines_more : (count : ℕ) (server : ServerState)
    → client_lines (outputs_of (count + 1) server) ≡ client_lines (outputs_of count server) ++ client_line count (output_of (connection_at server count))
output_lines_more count server = named_lines_next (codes "client") (λ (number : ℕ). output_of (connection_at server number)) count

-- a server that was just opened has this number of connections
pub opened_length : (cache : CacheState) (count : ℕ) → length (opened cache count).connections ≡ count
opened_length cache count = length-map-range_with_len (λ number. (number, fresh_connection)) 0 count

-- one more connection
pub opened_more : (cache : CacheState) (count : ℕ) → with_fresh (opened cache count) ≡ opened cache (count + 1)
opened_more cache count =
    ap (λ (cs : Connections). record { cache = cache; connections = cs; admitted = count + 1 })
    (sym (map-range_with_len_more (λ number. (number, fresh_connection)) 0 count count (omega arith)))
