use Rattle.std.proofs.Common.{◌∙◌, length, ap, arith}
use Rattle.std.proofs.lemmas.List.{length-map}
use Rattle.mc_history.specs.declared.entries.Entry.{Entry}
use Rattle.mc_world.proofs.Log.EntryLemmas.{got_inside}
use Rattle.mc_world.proofs.Log.LogLemmas.{moments-count}
use Rattle.mc_pool_laws.proofs.refusals.no_entry_without_a_turn.Goals as goal

pub returns : goal.returns
returns c home losses ring opening texts outs histories log place k e at none account =
    let inside = got_inside (histories place) k e at in
    let size = length-map (histories place) (λ (d : Entry). d.moment) in
    let turns = ap (λ ms. length ms) (account.1.moments place) ∙ moments-count place log in
    omega (arith, inside, size, turns, none)
