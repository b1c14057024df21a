-- A line that is no request of this protocol: an HTTP request's header, which names the host that is asked.
-- source: RFC 9112, section 3.2
use Rattle.std.specs.Prelude.{ℕ, ◌==◌, ◌||◌, ◌&&◌, Bool, false, List, ◌∷◌}
use Prim.Native.Char.{code}
use Rattle.mc_text.specs.Words.{without_spaces}

-- a byte is a letter: the small one, or the capital one
abbrev pub is_in_case : ℕ → ℕ → ℕ → Bool
is_in_case small capital byte = byte == small || byte == capital

-- a text begins with `host:`, with letters in any case
abbrev pub begins_host : List ℕ → Bool
begins_host (h ∷ o ∷ s ∷ t ∷ colon ∷ rest) =
    is_in_case (code "h") (code "H") h && is_in_case (code "o") (code "O") o && is_in_case (code "s") (code "S") s
    && is_in_case (code "t") (code "T") t && colon == code ":"
begins_host _ = false

-- likewise behind the spaces in front of it
abbrev pub names_host : List ℕ → Bool
names_host text = begins_host (without_spaces text)
