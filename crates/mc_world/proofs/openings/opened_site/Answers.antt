use Rattle.std.proofs.Common.{◌≡◌, ◌∙◌, ℕ, suc, ◌+◌, List, [], ◌∷◌, ◌++◌, sym, ap, arith}
use Rattle.mc_cache.specs.CacheState.{opening_cache}
use Rattle.mc_server.specs.ServerState.{ServerState, with_fresh}
use Rattle.mc_world.specs.WorldState.{WayState}
use Rattle.mc_world.specs.Worlds.{admitting, first_ways}
use Rattle.mc_world.proofs.Course.OpeningPartLemmas.{admitting_count, ways_push}
use Rattle.mc_world.proofs.openings.opened_site.Goals as goal

-- the connection of one proxy more
pub loop-preserved : goal.loop-preserved
loop-preserved g c =
    let next : suc c.loop.counter ≡ c.loop.counter + 1 = omega arith in
    let first : c.loop.counter ≡ 0 + c.loop.counter = omega arith in
    let number : c.in_ok-connection.connection ≡ 0 + c.loop.counter =
    c.in_ok-connection.ensures.number ∙ ap (λ (s : ServerState). s.admitted) c.loop.invariant.server ∙ admitting_count (opening_cache c.args.budget c.args.items 0) c.loop.counter ∙ first in
    record {
      server = c.in_ok-connection.ensures.admitted ∙ ap (λ (s : ServerState). with_fresh s) c.loop.invariant.server
          ∙ ap (λ (n : ℕ). admitting (opening_cache c.args.budget c.args.items 0) n) next;
      ways = c.in_ok-push.ensures.items
          ∙ ap (λ (n : ℕ). c.loop.ways.items ++ record { generation = 1; connection = n; ahead = 0 } ∷ []) number
          ∙ ap (λ (ws : List WayState). ws ++ record { generation = 1; connection = 0 + c.loop.counter; ahead = 0 } ∷ []) c.loop.invariant.ways
          ∙ sym (ways_push 0 c.loop.counter) ∙ ap (λ (n : ℕ). first_ways 0 n) next;
    }
