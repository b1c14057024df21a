-- A read by which more of a text arrived: this project's own; `ReadsAtMost` and `ReadConsumes` are std's.
use Rattle.std.specs.Prelude.{◌≡◌, ℕ, ◌<◌, true, List, ◌++◌, length, take, Option, Result, IfOk, OnErr}
use Rattle.std.specs.Io.{ReadsAtMost}
use Rattle.std.specs.Io.KnownBytes.{ReadConsumes}
use Rattle.mc_request_reader.specs.Reader.{ReaderState, rest_of}

-- more of the text has arrived at a reader; if nothing is read any more it is dropped
pub record Comes (old new : ReaderState) (came : List ℕ) : Type 0 where
  pub rest : (text : List ℕ) → rest_of new text ≡ rest_of old (came ++ text)
  pub closed : new.closed ≡ old.closed
  pub after_end : old.closed ≡ true → new ≡ old

-- A read into some piece, and what was done with the bytes that it returned, which are the first of the piece. At an error nothing moved.
pub record ReadsBy {E : Type 0} (read : Result ℕ E) (unread unread' : Option (List ℕ)) (Takes : List ℕ → Type 0) (unmoved : Type 0) : Type 0 where
  pub piece : List ℕ
  pub some : 0 < length piece
  pub within : ReadsAtMost read piece
  pub given : ReadConsumes unread unread' read piece
  pub taken : IfOk read (λ count. Takes (take count piece))
  pub stays : OnErr read unmoved
