-- The pieces of a command's line, as they are written in sequence.
use Rattle.std.specs.Prelude.{ℕ, ℤ, Bool, true, false, List, [], ◌∷◌, ◌++◌, Option, Some, None, codes}
use Rattle.std.specs.Fmt.{decimal, signed_decimal}
use Rattle.mc_request.specs.declared.meta.Creation.{Creation}
use Rattle.mc_request.specs.declared.meta.Show.{Show}

-- words, each after a space
abbrev pub after_spaces : List (List ℕ) → List ℕ
after_spaces [] = []
after_spaces (word ∷ words) = codes " " ++ (word ++ after_spaces words)

-- a word with its space, if it is asked for
abbrev pub piece_if : Bool → List ℕ → List ℕ
piece_if true piece = piece
piece_if false piece = []

-- a number after its label, if there is one
abbrev pub number_piece : List ℕ → Option ℕ → List ℕ
number_piece label None = []
number_piece label (Some number) = label ++ decimal number

-- a number with a sign after its label, if there is one
abbrev pub signed_piece : List ℕ → Option ℤ → List ℕ
signed_piece label None = []
signed_piece label (Some number) = label ++ signed_decimal number

-- the item that `ma` creates, or the statement that it creates none
abbrev pub creation_piece : Option Creation → List ℕ
creation_piece None = codes " J0"
creation_piece (Some creation) = codes " N" ++ (signed_decimal creation.exptime ++ (codes " J" ++ decimal creation.initial))

-- what `mg` asks to be shown, after its `b`
abbrev pub mg_show_pieces : Show → List ℕ
mg_show_pieces show =
    codes " b" ++ (piece_if show.cas (codes " c") ++ (piece_if show.flags (codes " f") ++ (piece_if show.size (codes " s")
    ++ (piece_if show.left (codes " t") ++ piece_if show.value (codes " v")))))

-- what `ms` asks to be shown, after its `b`
abbrev pub ms_show_pieces : Show → List ℕ
ms_show_pieces show = codes " b" ++ (piece_if show.cas (codes " c") ++ piece_if show.size (codes " s"))

-- what `ma` asks to be shown, after its `b`
abbrev pub ma_show_pieces : Show → List ℕ
ma_show_pieces show =
    codes " b" ++ (piece_if show.cas (codes " c") ++ (piece_if show.left (codes " t") ++ piece_if show.value (codes " v")))
