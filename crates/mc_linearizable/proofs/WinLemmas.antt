-- One client wins while the item stays.
use Rattle.std.proofs.Common.{◌≡◌, ℕ, ◌≤◌, Bool, true, false, if◌then◌else◌, List, [], ◌∷◌, ◌++◌, refl, ap, arith}
use Rattle.std.proofs.lemmas.Bool.{false_from_ne_true}
use Rattle.mc_request.specs.declared.meta.MetaCommand.TheVariants as metas
use Rattle.mc_request.specs.declared.parts.Atom.{Atom}
use Rattle.mc_request.specs.declared.parts.Atom.TheVariants as atoms
use Rattle.mc_reply.specs.declared.replies.Reply.{Reply as AReply}
use Rattle.mc_route.specs.declared.losses.Losses.{Losses}
use Rattle.mc_account.specs.Orders.{Order}
use Rattle.mc_history.specs.declared.entries.Entry.{Entry}
use Rattle.mc_registers.specs.Guarantees.{HaveNotWritten, has_written}
use Rattle.mc_registers.specs.Recache.{has_won, wins}
use Rattle.mc_registers.specs.Registers.{Done}
use Rattle.mc_registers.proofs.RecacheLemmas.{one_winner}
use Rattle.mc_world.specs.Homes.{Homes}
use Rattle.mc_world.specs.Logs.{Log}
use Rattle.mc_linearizable.specs.Linearizable.{Executed, IsLinearizablePool}
use Rattle.mc_linearizable.specs.Clients.{AreRecorded, ComeBetween, NoneHasWritten, OneClientWins}
use Rattle.mc_linearizable.proofs.CutLemmas.{told_has}
use Rattle.mc_linearizable.proofs.FillLemmas.{run_wins}

-- commands between two of which none has written
have_not : (order : Order) (histories : ℕ → List Entry) (key : List ℕ) (a b : Executed order histories key) (xs : List (Executed order histories key)) (all : List Done)
    → NoneHasWritten a b → ComeBetween a xs b → AreRecorded order xs all → HaveNotWritten all
have_not order histories key a b [] [] none between told = tt
have_not order histories key a b [] (done ∷ all) none between told = absurd told
have_not order histories key a b (x ∷ xs) [] none between told = absurd told
have_not order histories key a b (x ∷ xs) (done ∷ all) none between told = (
  false_from_ne_true (has_written done.atom done.reply) (λ wrote. none x between.0 (told_has order histories key x done told.0 wrote)),
  have_not order histories key a b xs all none between.1 told.1,
)

-- a win is an `mg`, and writes nothing
win_looks : (atom : Atom (List ℕ)) (reply : AReply (List ℕ)) → has_won atom reply ≡ true → has_written atom reply ≡ false
win_looks (atoms.Get key touch with_cas) reply won = refl
win_looks (atoms.Update update) reply won = absurd cc
win_looks (atoms.Meta (metas.Get key get)) reply won = refl
win_looks (atoms.Meta (metas.Update update show)) reply won = absurd cc

not_last : (all : List Done) (two : Done) → HaveNotWritten all → has_written two.atom two.reply ≡ false → HaveNotWritten (all ++ two ∷ [])
not_last [] two none last = (last, tt)
not_last (e ∷ all) two none last = (none.0, not_last all two none.1 last)

-- a win at the end counts
wins_last : (all : List Done) (two : Done) → has_won two.atom two.reply ≡ true → 1 ≤ wins (all ++ two ∷ [])
wins_last [] two won =
    let here : ◌≡◌ {A = ℕ} (if has_won two.atom two.reply then 1 else 0) 1 = ap (λ (v : Bool). if v then 1 else 0) won in
    omega (arith, here)
wins_last (e ∷ all) two won =
    let later = wins_last all two won in
    omega (arith, later)

pub one_client_wins : (home : Homes) (losses : Losses) (counter : ℕ) (order : Order) (texts outs : ℕ → List ℕ) (histories : ℕ → List Entry) (log : Log)
    → IsLinearizablePool home losses counter order texts outs histories log → (key : List ℕ) → OneClientWins order histories log key
one_client_wins home losses counter order texts outs histories log pool key winner rival wins_first wins_second none between come one two all first_tells told second_tells number held steady =
    let h = pool.keys key in
    let first : has_won one.atom one.reply ≡ true = run_wins home counter order histories log key h winner one first_tells wins_first in
    let second : has_won two.atom two.reply ≡ true = run_wins home counter order histories log key h rival two second_tells wins_second in
    let quiet : HaveNotWritten (one ∷ (all ++ two ∷ [])) = (
      win_looks one.atom one.reply first,
      not_last all two (have_not order histories key winner rival between all none come told) (win_looks two.atom two.reply second),
    ) in
    let few : wins (one ∷ (all ++ two ∷ [])) ≤ 1 = one_winner number held (one ∷ (all ++ two ∷ [])) steady quiet in
    let many : 1 ≤ wins (all ++ two ∷ []) = wins_last all two second in
    let here : ◌≡◌ {A = ℕ} (if has_won one.atom one.reply then 1 else 0) 1 = ap (λ (v : Bool). if v then 1 else 0) first in
    omega (arith, few, many, here)
