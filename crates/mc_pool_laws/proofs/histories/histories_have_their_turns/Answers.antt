use Rattle.std.proofs.Common.{◌∙◌, ℕ, List, length, sym, ap}
use Rattle.std.proofs.lemmas.List.{length-map}
use Rattle.mc_history.specs.declared.entries.Entry.{Entry}
use Rattle.mc_world.proofs.Log.LogLemmas.{moments-count}
use Rattle.mc_pool_laws.proofs.histories.histories_have_their_turns.Goals as goal

pub returns-clause-count : goal.returns-clause-count
returns-clause-count c home losses ring opening texts outs histories log account place =
    sym (length-map (histories place) (λ (e : Entry). e.moment)) ∙ ap (λ (ms : List ℕ). length ms) (account.1.moments place) ∙ moments-count place log

pub returns-clause-moments : goal.returns-clause-moments
returns-clause-moments c home losses ring opening texts outs histories log account place = account.1.moments place
