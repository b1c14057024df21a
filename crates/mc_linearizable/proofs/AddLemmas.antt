-- An `add` excludes.
use Rattle.std.proofs.Common.{◌≡◌, ◌∙◌, ℕ, inl, inr, List, [], ◌∷◌, Some, sym, ap}
use Rattle.std.proofs.lemmas.Bool.{false_from_ne_true, true≢false}
use Rattle.mc_request.specs.declared.parts.Atom.{Atom}
use Rattle.mc_request.specs.declared.parts.StoreMode.TheVariants.{Add}
use Rattle.mc_request.specs.declared.parts.Update.TheVariants.{Store}
use Rattle.mc_route.specs.declared.losses.Losses.{Losses}
use Rattle.mc_account.specs.Orders.{Order}
use Rattle.mc_history.specs.declared.entries.Entry.{Entry}
use Rattle.mc_registers.specs.Guarantees.{AreQuiet, may_have_written, update_in}
use Rattle.mc_registers.specs.Registers.{Done}
use Rattle.mc_registers.proofs.GuaranteeLemmas.{adds_exclude}
use Rattle.mc_registers.proofs.HitLemmas.{steady-told}
use Rattle.mc_world.specs.Homes.{Homes}
use Rattle.mc_world.specs.Logs.{Log}
use Rattle.mc_linearizable.specs.Linearizable.{Executed, IsLinearizablePool}
use Rattle.mc_linearizable.specs.Clients.{AnAddExcludes, AreRecorded, ComeBetween, NoneMayHaveWritten}
use Rattle.mc_linearizable.proofs.SpelledLemmas.{refused_apart}
use Rattle.mc_linearizable.proofs.LifeRuns.{recorded-atom}
use Rattle.mc_linearizable.proofs.CutLemmas.{told_wrote}
use Rattle.mc_linearizable.proofs.ClientLemmas.{run_says}

are_quiet : (order : Order) (histories : ℕ → List Entry) (key : List ℕ) (a b : Executed order histories key) (xs : List (Executed order histories key)) (all : List Done)
    → NoneMayHaveWritten a b → ComeBetween a xs b → AreRecorded order xs all → AreQuiet all
are_quiet order histories key a b [] [] none between told = tt
are_quiet order histories key a b [] (done ∷ all) none between told = absurd told
are_quiet order histories key a b (x ∷ xs) [] none between told = absurd told
are_quiet order histories key a b (x ∷ xs) (done ∷ all) none between told = (
  false_from_ne_true (may_have_written done.atom done.reply) (λ wrote. none x between.0 (told_wrote order histories key x done told.0 wrote)),
  are_quiet order histories key a b xs all none between.1 told.1,
)

pub add_excludes : (home : Homes) (losses : Losses) (counter : ℕ) (order : Order) (texts outs : ℕ → List ℕ) (histories : ℕ → List Entry) (log : Log)
    → IsLinearizablePool home losses counter order texts outs histories log → (key : List ℕ) → AnAddExcludes order histories log key
add_excludes home losses counter order texts outs histories log pool key first add adds done none between come all last told tells number body steady =
    let quiet : AreQuiet all = are_quiet order histories key first add between all none come told in
    let same = recorded-atom order histories key add last tells in
    let updates : update_in last.atom ≡ Some (Store Add adds.0 adds.1 adds.2 adds.3 adds.4) = ap (λ (a : Atom (List ℕ)). update_in a) same ∙ adds.5 in
    elim (steady-told all last number (Some body) Add adds.0 adds.1 adds.2 adds.3 adds.4 steady updates) [
      | inl stored ↦ absurd (true≢false (sym stored ∙ adds_exclude number body all last adds.0 adds.1 adds.2 adds.3 adds.4 steady quiet updates))
      | inr refused ↦ absurd (refused_apart add.atom (Store Add adds.0 adds.1 adds.2 adds.3 adds.4) last.reply done.0 adds.5 refused done.2
          (run_says home counter order histories log key (pool.keys key) add last done.0 tells done.1))
    ]
