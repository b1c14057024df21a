-- The state of a proxy after what was taken and what passed.
use Rattle.std.specs.Prelude.{ℕ, ◌≡◌, ◌≤◌, ◌==◌, true, List, [], ◌++◌, length, map, Option, Some, None, All, if◌then◌else◌}
use Rattle.std.specs.List.{list_all}
use Rattle.mc_request_reader.specs.Reader.{rest_of}
use Rattle.mc_request.specs.Requests.{requests_of}
use Rattle.mc_request.specs.declared.parts.Parsed.{Parsed}
use Rattle.mc_proxy.specs.SessionState.{SessionState, link_at}
use Rattle.mc_proxy.specs.ProxyState.{ProxyState, session_at}
use Rattle.mc_account.specs.Orders.{Order, AreInOrder, IsSized, HasChoice, answers_of, entries_of, is_complete, taken_of, unanswered_of}
use Rattle.mc_account.specs.Lanes.{Lane, LinkHolds}

-- The session of a number after a text has arrived and these bytes were consumed: what was taken of it is the first of the
-- text, in order, and what is left is the rest, whatever follows. Its first requests are complete, and the bytes consumed and
-- those that were not are their answers; the others are not answered.
pub record SessionHolds (number : ℕ) (order : Order) (text sent : List ℕ) (session : SessionState) : Type 0 where
  pub rest : (more : List ℕ) → taken_of number order ++ rest_of session.reader more ≡ requests_of (text ++ more)
  pub done : Order
  pub incomplete : Order
  pub split : entries_of number order ≡ done ++ incomplete
  pub complete : list_all is_complete done ≡ true
  pub answered : sent ++ session.output ≡ answers_of done
  pub unanswered : session.unanswered ≡ map unanswered_of incomplete
  pub taken : session.taken ≡ length (entries_of number order)

-- The session of a number after it has left: the bytes consumed are the first of the answers to its first requests.
pub record SessionLeft (number : ℕ) (order : Order) (text sent : List ℕ) : Type 0 where
  pub untaken : List Parsed
  pub rest : taken_of number order ++ untaken ≡ requests_of text
  pub done : Order
  pub incomplete : Order
  pub split : entries_of number order ≡ done ++ incomplete
  pub complete : list_all is_complete done ≡ true
  pub unsent : List ℕ
  pub answered : sent ++ unsent ≡ answers_of done

-- the state of the session of a number, if it is open, or has left
abbrev pub SessionHoldsAt : ℕ → Order → List ℕ → List ℕ → Option SessionState → Type 0
SessionHoldsAt number order text sent None = SessionLeft number order text sent
SessionHoldsAt number order text sent (Some session) = SessionHolds number order text sent session

-- a number that was not given yet: no session is open, nothing has arrived or was taken, and no byte was consumed
pub record IsUnused (number : ℕ) (order : Order) (text sent : List ℕ) (session : Option SessionState) : Type 0 where
  pub not_open : session ≡ None
  pub nothing_came : text ≡ []
  pub nothing_taken : entries_of number order ≡ []
  pub nothing_sent : sent ≡ []

-- A proxy is in the state of this order, if these texts have arrived for its sessions and these bytes were consumed, both by
-- number, and this passed over its links, by place.
pub record ProxyHolds (texts sent : ℕ → List ℕ) (order : Order) (lanes : ℕ → Lane) (proxy : ProxyState) : Type 0 where
  pub sized : All IsSized order
  pub chosen : All (HasChoice proxy.losses) order
  pub numbered : (number : ℕ) → AreInOrder (entries_of number order)
  pub sessions : (number : ℕ) → SessionHoldsAt number order (texts number) (sent number) (session_at proxy number)
  pub unused : (number : ℕ) → proxy.admitted ≤ number → IsUnused number order (texts number) (sent number) (session_at proxy number)
  pub links : (place : ℕ) → LinkHolds place order (lanes place) (link_at proxy.links place)

-- a function of a number or place, with another value at one
abbrev pub changed : {T : Type 0} → ℕ → T → (ℕ → T) → ℕ → T
changed number now old at = if number == at then now else old at

-- bytes by number, with more at one number
abbrev pub grown : ℕ → List ℕ → (ℕ → List ℕ) → ℕ → List ℕ
grown number more bytes = changed number (bytes number ++ more) bytes
