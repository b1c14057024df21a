use Rattle.std.proofs.Common.{◌∙◌, List, [], ◌∷◌, ◌++◌, ◌+◌, drop, ap, arith}
use Rattle.std.specs.Prelude.{slice_index_or}
use Rattle.mc_ring.specs.Rings.{RingState}
use Rattle.mc_proxy.specs.ProxyState.{ProxyState}
use Rattle.mc_world.specs.Worlds.{opening_proxies, opening_proxy}
use Rattle.mc_world.proofs.Course.OpeningPartLemmas.{proxies_all, proxies_next, sum_left}
use Rattle.mc_world.proofs.openings.opened_proxies.Goals as goal

pub opened_proxy-requires : goal.opened_proxy-requires
opened_proxy-requires c = omega (arith, c.requires.few, c.loop-place.invariant.left, sum_left c.args.clients.now c.loop-place.place c.loop-place-test.true)

-- one proxy more
pub loop-place-preserved : goal.loop-place-preserved
loop-place-preserved c =
    let count = slice_index_or c.args.clients.now c.loop-place.place 0 in
    record {
      opened = ap (λ (ps : List ProxyState). ps ++ opening_proxies c.args.losses c.args.ring.now (c.loop-place.first + count) (drop (c.loop-place.place + 1) c.args.clients.now))
          (c.in_ok-push.ensures.items ∙ ap (λ (p : ProxyState). c.loop-place.proxies.items ++ p ∷ [])
          (c.in_ok-opened_proxy.ensures.opened ∙ ap (λ (r : RingState). opening_proxy c.args.losses r c.loop-place.first count) c.in_ok-copy.ensures))
          ∙ proxies_next c.loop-place.proxies.items c.args.losses c.args.ring.now c.loop-place.first c.args.clients.now c.loop-place.place
          (opening_proxies c.args.losses c.args.ring.now 0 c.args.clients.now) c.loop-place-test.true c.loop-place.invariant.opened;
      left = omega (arith, c.loop-place.invariant.left, sum_left c.args.clients.now c.loop-place.place c.loop-place-test.true);
    }

-- at the end there are no others
pub returns-clause-opened : goal.returns-clause-opened
returns-clause-opened c =
    proxies_all c.loop-place.proxies.items c.args.losses c.args.ring.now c.loop-place.first c.args.clients.now c.loop-place.place (opening_proxies c.args.losses c.args.ring.now 0 c.args.clients.now)
    c.loop-place-test.false c.loop-place.invariant.opened
