-- An order of requests whose clients are those of the turns of a log.
use Rattle.std.proofs.Common.{◌≡◌, ◌∙◌, ℕ, suc, ◌==◌, true, false, if◌then◌else◌, List, [], ◌∷◌, ◌++◌, length, map, refl, sym, ap, append_assoc, append-nil}
use Rattle.mc_account.specs.Orders.{Order, TakenRequest, entries_of}
use Rattle.mc_world.specs.declared.events.Event.TheVariants.{ProxyTurn}
use Rattle.mc_world.specs.Logs.{Log, number_of, takes, turn_of, turns_of}
use Rattle.mc_world.specs.declared.logs.Logged.{Logged}
use Rattle.mc_world.specs.declared.logs.Logged.TheVariants.{Happened}

-- how often a client is among others
abbrev often : ℕ → List ℕ → ℕ
often client [] = 0
often client (c ∷ cs) = if c == client then suc (often client cs) else often client cs

often_asked : (client : ℕ) (order : Order) → length (entries_of client order) ≡ often client (map (λ (e : TakenRequest). e.session) order)
often_asked client [] = refl
often_asked client (e ∷ es) =
    let again = often_asked client es in
    (elim (e.session == client) as (λ v. length (if v then e ∷ entries_of client es else entries_of client es)
    ≡ (if v then suc (often client (map (λ (x : TakenRequest). x.session) es)) else often client (map (λ (x : TakenRequest). x.session) es))) [
      | true ↦ ap suc again
      | false ↦ again
    ])

often_taken : (client : ℕ) (log : Log) → often client (turns_of log) ≡ number_of (takes client) log
often_taken client [] = refl
often_taken client (Happened (ProxyTurn of) ∷ es) =
    let again = often_taken client es in
    (elim (of == client) as (λ v. (if v then suc (often client (turns_of es)) else often client (turns_of es)) ≡ (if v then suc (number_of (takes client) es) else number_of (takes client) es)) [
      | true ↦ ap suc again
      | false ↦ again
    ])
often_taken client (e ∷ es) = often_taken client es

-- the number of requests of each client that were taken
pub turns-taken : (order : Order) (log : Log) → map (λ (e : TakenRequest). e.session) order ≡ turns_of log → (client : ℕ) → length (entries_of client order) ≡ number_of (takes client) log
turns-taken order log turns client = often_asked client order ∙ ap (λ (cs : List ℕ). often client cs) turns ∙ often_taken client log

-- a log that grows
pub turns-push : (log : Log) (e : Logged) → turns_of (log ++ e ∷ []) ≡ turns_of log ++ turn_of e
turns-push [] e = append-nil (turn_of e)
turns-push (x ∷ xs) e = ap (λ (cs : List ℕ). turn_of x ++ cs) (turns-push xs e) ∙ sym (append_assoc (turn_of x) (turns_of xs) (turn_of e))

pub turns-none : (log : Log) (e : Logged) → turn_of e ≡ [] → turns_of (log ++ e ∷ []) ≡ turns_of log
turns-none log e none = turns-push log e ∙ ap (λ (cs : List ℕ). turns_of log ++ cs) none ∙ append-nil (turns_of log)
