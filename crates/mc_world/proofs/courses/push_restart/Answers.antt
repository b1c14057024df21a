use Rattle.std.proofs.Common.{rules, ◌≡◌, ◌∙◌, ◌<◌, ◌+◌, ◌++◌, [], ◌∷◌, length, refl, ap, append_assoc}
use Rattle.mc_world.specs.Applies.{IsUp}
use Rattle.mc_world.specs.Logs.{Log}
use Rattle.mc_world.specs.declared.events.Event.TheVariants.{LinkLost}
use Rattle.mc_world.specs.declared.logs.Logged.TheVariants.{Happened}
use Rattle.mc_world.proofs.Course.CutLemmas.{logs_down, logs_up}
use Rattle.mc_world.proofs.courses.push_restart.Goals as goal
use Rattle.mc_world.proofs.courses.push_restart.Goals.{else-is_up, then-is_up+in_ok-push}

pub loop-proxy-preserved : goal.loop-proxy-preserved
loop-proxy-preserved g c =
    let inside : c.loop-proxy.proxy < length c.args.pool.now.proxies = search rules in
    elim c.if-is_up.branch [
      | then-is_up+in_ok-push w ↦
          let up : IsUp c.loop-proxy.proxy c.args.place c.args.pool.now = search rules in
          let log_is : c.if-is_up.log.items ≡ c.loop-proxy.log.items ++ Happened (LinkLost c.loop-proxy.proxy c.args.place) ∷ [] = search rules in
          record {
            all = rw log_is (logs_up c.args.place c.loop-proxy.proxy (c.loop-proxy.proxy + 1) c.args.pool.now c.loop-proxy.log.items _ inside refl up c.loop-proxy.invariant.all);
            more = (
              c.loop-proxy.invariant.more.0 ++ Happened (LinkLost c.loop-proxy.proxy c.args.place) ∷ [],
              log_is ∙ ap (λ (l : Log). l ++ Happened (LinkLost c.loop-proxy.proxy c.args.place) ∷ []) c.loop-proxy.invariant.more.1
                  ∙ append_assoc c.args.log.now.items c.loop-proxy.invariant.more.0 (Happened (LinkLost c.loop-proxy.proxy c.args.place) ∷ []),
            );
          }
      | else-is_up w ↦
          let down : IsUp c.loop-proxy.proxy c.args.place c.args.pool.now → ⊥ = λ up. let yes = c.is_up.ensures.1 up in let no = w.if-is_up.false in absurd cc in
          let log_is : c.if-is_up.log.items ≡ c.loop-proxy.log.items = search rules in
          record {
            all = rw log_is (logs_down c.args.place c.loop-proxy.proxy (c.loop-proxy.proxy + 1) c.args.pool.now c.loop-proxy.log.items _ inside refl down c.loop-proxy.invariant.all);
            more = (c.loop-proxy.invariant.more.0, log_is ∙ c.loop-proxy.invariant.more.1);
          }
    ]
