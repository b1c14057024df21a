-- A server's legal history in a pool records what its cache executes.
use Rattle.std.proofs.Common.{◌≡◌, ℕ, cond, List, [], ◌∷◌, None, refl, sym, ap, subst}
use Rattle.mc_cache.specs.CacheState.{CacheState}
use Rattle.mc_cache.specs.Replay.{Command, command_step}
use Rattle.mc_account.specs.Orders.{Order}
use Rattle.mc_history.specs.declared.entries.Entry.{Entry}
use Rattle.mc_history.specs.Histories.{IsLegal}
use Rattle.mc_registers.specs.Registers.{Done, IsRun}
use Rattle.mc_registers.specs.Laws.{is_on, done_by, done_on}
use Rattle.mc_registers.specs.Records.{RecordEach, on_key}
use Rattle.mc_registers.proofs.RunLemmas.{Knows, runs}

-- all commands that a cache executes, each with its reply
abbrev pub done_all : CacheState → List Command → List Done
done_all s [] = []
done_all s (command ∷ commands) = done_by s command ∷ done_all (command_step s command).0 commands

on_key-all : (key : List ℕ) (s : CacheState) (commands : List Command) → on_key key (done_all s commands) ≡ done_on key s commands
on_key-all key s [] = refl
on_key-all key s (command ∷ commands) =
    ap (λ (es : List Done). cond (is_on key command.atom) (done_by s command ∷ es) es) (on_key-all key (command_step s command).0 commands)

-- a legal history records such commands
recorded-all : (order : Order) (place : ℕ) (history : List Entry) (s : CacheState) → IsLegal order place s history
    → (commands : List Command) × RecordEach order place history (done_all s commands)
recorded-all order place [] s legal = ([], tt)
recorded-all order place (e ∷ es) s legal =
    let command : Command = record { atom = legal.0; moment = e.moment; refused = e.refused } in
    let rest = recorded-all order place es (command_step s command).0 legal.3 in
    (command ∷ rest.0, (record { command = legal.1; moment = refl; reply = legal.2.reply }, rest.1))

pub recorded-runs : (order : Order) (place : ℕ) (history : List Entry) (s : CacheState) (last : ℕ) → ((key : List ℕ) → Knows s key last None) → IsLegal order place s history
    → (all : List Done) × RecordEach order place history all × ((key : List ℕ) → IsRun last None (on_key key all))
recorded-runs order place history s last knows legal =
    let told = recorded-all order place history s legal in
    (done_all s told.0, told.1, λ key. subst (λ (es : List Done). IsRun last None es) (sym (on_key-all key s told.0)) (runs told.0 s key last None (knows key)))
