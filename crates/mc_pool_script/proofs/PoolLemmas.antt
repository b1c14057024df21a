-- Pool scripts, as one more line is read.
use Rattle.std.proofs.Common.{◌≡◌, Bool, true, false, ℕ, List, [], ◌∷◌, Option, Some, None, Ok, Err, refl}
use Rattle.mc_pool_script.specs.PoolScripts.{Gives, PoolSeen, read_all, read_more, pool_of_lines, head_of}

-- a line that was read, or was not
pub gives_some : (more : Bool) (next : Option PoolSeen) (new : PoolSeen) → more ≡ true → Gives more next new → next ≡ Some new
gives_some true next new is h = h
gives_some false next new is h = absurd cc

pub gives_none : (more : Bool) (next : Option PoolSeen) (new : PoolSeen) → more ≡ false → Gives more next new → next ≡ None
gives_none false next new is h = h
gives_none true next new is h = absurd cc

-- the first of some lines is added to a script
pub read_all-more : (seen next : PoolSeen) (n : ℕ) (line : List ℕ) (lines rest : List (ℕ × List ℕ)) → lines ≡ (n, line) ∷ rest → read_more seen line ≡ Some next
    → read_all next rest ≡ read_all seen lines
unfolding read_all
read_all-more seen next n line lines rest first is = rw (first, is) refl

-- the first of them is bad
pub read_all-bad : (seen : PoolSeen) (n : ℕ) (line : List ℕ) (lines rest : List (ℕ × List ℕ)) → lines ≡ (n, line) ∷ rest → read_more seen line ≡ None
    → read_all seen lines ≡ Err n
unfolding read_all
read_all-bad seen n line lines rest first none = rw (first, none) refl

-- no line is left
pub read_all-nil : (seen : PoolSeen) (lines : List (ℕ × List ℕ)) → lines ≡ [] → read_all seen lines ≡ Ok seen
unfolding read_all
read_all-nil seen lines none = rw none refl

-- a script without lines
pub pool_of_lines-nil : (lines : List (ℕ × List ℕ)) → lines ≡ [] → pool_of_lines lines ≡ Err 1
unfolding pool_of_lines
pool_of_lines-nil lines none = rw none refl

-- a first line that is no head
pub pool_of_lines-bad : (n : ℕ) (line : List ℕ) (lines rest : List (ℕ × List ℕ)) → lines ≡ (n, line) ∷ rest → head_of line ≡ None → pool_of_lines lines ≡ Err n
unfolding pool_of_lines
pool_of_lines-bad n line lines rest first none = rw (first, none) refl

-- a first line that is a head, before the meaning of the others
pub pool_of_lines-head : (n : ℕ) (line : List ℕ) (lines rest : List (ℕ × List ℕ)) (head : PoolSeen) → lines ≡ (n, line) ∷ rest → head_of line ≡ Some head
    → pool_of_lines lines ≡ read_all head rest
unfolding pool_of_lines
pool_of_lines-head n line lines rest head first is = rw (first, is) refl
