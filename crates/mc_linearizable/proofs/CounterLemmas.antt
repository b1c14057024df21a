-- Counters count for clients.
use Rattle.std.proofs.Common.{◌≡◌, ◌∙◌, ℕ, suc, ◌<◌, ◌^◌, inl, inr, List, ◌∷◌, ◌++◌, append_assoc, None, sym, ap, subst}
use Rattle.std.proofs.lemmas.Fmt.{decimal_injective}
use Rattle.mc_request.specs.declared.meta.Counting.{Counting}
use Rattle.mc_request.specs.declared.parts.Atom.{Atom}
use Rattle.mc_request.specs.declared.parts.Atom.TheVariants as atoms
use Rattle.mc_request.specs.declared.parts.Update.TheVariants.{Count}
use Rattle.mc_reply.specs.Spelling.{spelling_of}
use Rattle.mc_reply.specs.declared.replies.Reply.TheVariants.{Number}
use Rattle.mc_route.specs.declared.losses.Losses.{Losses}
use Rattle.mc_account.specs.Orders.{Order}
use Rattle.mc_history.specs.declared.entries.Entry.{Entry}
use Rattle.mc_history.specs.Histories.{tag_in}
use Rattle.mc_registers.specs.Registers.{Done, IsRun}
use Rattle.mc_registers.specs.Records.{Records}
use Rattle.mc_registers.proofs.CountLemmas.{count-small, next-counts, quiet-counts-none}
use Rattle.mc_world.specs.Homes.{Homes}
use Rattle.mc_world.specs.Logs.{Log}
use Rattle.mc_linearizable.specs.Linearizable.{Executed, IsLinearizable, IsLinearizablePool}
use Rattle.mc_linearizable.specs.Clients.{ClientsCount, CountsOn, WasAnsweredBy}
use Rattle.mc_linearizable.proofs.SpelledLemmas.{IsNumber, number_told}
use Rattle.mc_linearizable.proofs.LifeRuns.{recorded-atom}
use Rattle.mc_linearizable.proofs.CutLemmas.{quiet_or_wrote}
use Rattle.mc_linearizable.proofs.ClientLemmas.{one_life, run_says, writer_between}

-- a count that was answered by a number shows it in its run
record IsCount (order : Order) (histories : ℕ → List Entry) (key : List ℕ) (x : Executed order histories key) (done : Done) (counting : Counting) (number : ℕ) : Type 0 where
  pub own : List ℕ
  pub counts : done.atom ≡ atoms.Update (Count own counting)
  pub makes_none : counting.create ≡ None
  pub replies : done.reply ≡ Number number

count_in_run : (home : Homes) (counter : ℕ) (order : Order) (histories : ℕ → List Entry) (log : Log) (key : List ℕ) → IsLinearizable home counter order histories log key
    → (x : Executed order histories key) (front back : List Done) (done : Done) (counting : Counting) (number : ℕ) → Records order x.place x.entry done
    → IsRun counter None (front ++ done ∷ back) → CountsOn x.atom counting → number < 2 ^ 64 → WasAnsweredBy order log (tag_in x.entry) (Number number)
    → IsCount order histories key x done counting number
count_in_run home counter order histories log key h x front back done counting number tells run counts small answered =
    let is : done.atom ≡ atoms.Update (Count counts.key counting) = recorded-atom order histories key x done tells ∙ counts.counts in
    let n : IsNumber done.reply number = number_told done.reply number
    (subst (λ (a : Atom (List ℕ)). spelling_of a done.reply ≡ spelling_of a (Number number)) counts.counts
    (run_says home counter order histories log key h x done (Number number) tells answered)) in
    let fits = count-small front back done counter None counts.key counting n.own run is counts.makes_none n.is in
    let same : n.own ≡ number = decimal_injective n.own number fits small n.same in
    record { own = counts.key; counts = is; makes_none = counts.makes_none; replies = n.is ∙ ap (λ (k : ℕ). Number k) same }

pub clients_count : (home : Homes) (losses : Losses) (counter : ℕ) (order : Order) (texts outs : ℕ → List ℕ) (histories : ℕ → List Entry) (log : Log)
    → IsLinearizablePool home losses counter order texts outs histories log → (key : List ℕ) → ClientsCount order histories log key
clients_count home losses counter order texts outs histories log pool key first next counting after number reached counts goes small answered fits reaches comes quiet =
    let h = pool.keys key in
    elim (one_life home losses counter order texts outs histories log pool key first next comes) [
      | inl both ↦ (let c = both.1 in
          let a = count_in_run home counter order histories log key h first c.front (c.between ++ c.last ∷ c.back) c.first counting number c.first_tells c.run counts small answered in
          let joined : IsRun counter None ((c.front ++ c.first ∷ c.between) ++ c.last ∷ c.back) =
          subst (λ (es : List Done). IsRun counter None es) (sym (append_assoc c.front (c.first ∷ c.between) (c.last ∷ c.back))) c.run in
          let b = count_in_run home counter order histories log key h next (c.front ++ c.first ∷ c.between) c.back c.last after reached c.last_tells joined goes fits reaches in
          elim (quiet_or_wrote order histories key first.place (suc first.number) next.number c.commands c.between c.rising c.told) [
            | inl none ↦ next-counts c.front c.between c.back c.first c.last counter None a.own b.own counting after number reached c.run a.counts a.replies small none
                b.counts b.makes_none b.replies
            | inr w ↦ absurd (quiet w.x (writer_between order histories key first next both.0 w) w.wrote)
          ])
      | inr later ↦ (let c = later.1 in
          let b = count_in_run home counter order histories log key h next c.front c.back c.done after reached c.tells c.run goes fits reaches in
          elim (quiet_or_wrote order histories key next.place later.0 next.number c.commands c.front c.rising c.told) [
            | inl none ↦ absurd (quiet-counts-none c.front c.back c.done counter b.own after reached c.run none b.counts b.makes_none b.replies)
            | inr w ↦ absurd (quiet w.x (later.2 w.x w.at w.from, inr (w.at, w.to)) w.wrote)
          ])
    ]
