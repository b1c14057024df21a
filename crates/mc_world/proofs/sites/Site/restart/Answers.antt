use Rattle.std.proofs.Common.{◌<◌, length, arith}
use Rattle.std.specs.Prelude.{slice_index_or}
use Rattle.std.proofs.lemmas.List.{get_or_default}
use Rattle.std.proofs.lemmas.List.Edits.{map_over_more}
use Rattle.mc_world.specs.WorldState.{WayState, no_way}
use Rattle.mc_world.proofs.sites.Site.restart.Goals as goal

pub loop-way-preserved : goal.loop-way-preserved
loop-way-preserved g c =
    let below : c.loop-way.way-index < length c.loop-way.way-items = omega (arith, c.loop-way-test.true, c.loop-way.auto.way-items) in
    map_over_more (λ (way : WayState). record way { ahead = 0 }) c.deref_mut-way-items.result.now c.loop-way.way-items c.loop-way.way-index
    (slice_index_or c.loop-way.way-items c.loop-way.way-index no_way) c.loop-way-test.true c.loop-way.invariant
    (get_or_default c.loop-way.way-items c.loop-way.way-index no_way (slice_index_or c.loop-way.way-items c.loop-way.way-index no_way) below)
