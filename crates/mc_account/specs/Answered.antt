-- What clients were answered.
use Rattle.std.specs.Prelude.{ℕ, ◌≡◌, ◌≤◌, true, List, ◌++◌, length, take, Option, Some, None}
use Rattle.std.specs.List.{list_all}
use Rattle.std.specs.Option.{option_map}
use Rattle.mc_proxy.specs.SessionState.{SessionState, answered}
use Rattle.mc_proxy.specs.ProxyState.{ProxyState, session_at}
use Rattle.mc_account.specs.Orders.{Order, answers_of, entries_of, is_complete}

-- The first `count` requests of a session are complete, and the bytes that were consumed, with those that were emitted and not
-- consumed, are their answers.
pub record AreAnswers (number : ℕ) (order : Order) (count : ℕ) (sent unsent : List ℕ) : Type 0 where
  pub within : count ≤ length (entries_of number order)
  pub complete : list_all is_complete (take count (entries_of number order)) ≡ true
  pub answers : sent ++ unsent ≡ answers_of (take count (entries_of number order))

-- the bytes that a client was sent: if its session is open, the answers to all answered requests, except its output; if it has
-- left, the first bytes of the answers to some of its first requests
abbrev pub WasAnswered : ℕ → Order → List ℕ → Option SessionState → Type 0
WasAnswered number order sent None = (count : ℕ) × (unsent : List ℕ) × AreAnswers number order count sent unsent
WasAnswered number order sent (Some session) = AreAnswers number order (answered session) sent session.output

-- how many requests of the session of a number are answered, if it is open
abbrev pub answered_at : ProxyState → ℕ → Option ℕ
answered_at proxy number = option_map answered (session_at proxy number)
