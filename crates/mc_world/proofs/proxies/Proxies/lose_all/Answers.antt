use Rattle.std.proofs.Common.{◌∙◌, sym, ap}
use Rattle.std.specs.Prelude.{slice_set}
use Rattle.std.proofs.lemmas.List.Edits.{map_over_more}
use Rattle.mc_proxy.specs.ProxyState.{ProxyState}
use Rattle.mc_world.specs.Restarts.{without_link}
use Rattle.mc_world.proofs.proxies.Proxies.lose_all.Goals as goal

pub loop-it-preserved : goal.loop-it-preserved
loop-it-preserved c =
    ap (λ (p : ProxyState). slice_set c.loop-it.it-items c.loop-it.it-index p) (c.lose.ensures ∙ ap (λ (p : ProxyState). without_link c.args.server p) (sym c.it-item.is))
    ∙ map_over_more (without_link c.args.server) c.deref_mut-it-items.result.now c.loop-it.it-items c.loop-it.it-index c.it-item.result c.loop-it-test.true c.loop-it.invariant c.it-item.is
