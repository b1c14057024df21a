use Rattle.std.proofs.Common.{◌≡◌, ◌++◌, ◌∷◌, [], length, refl, arith}
use Rattle.std.proofs.lemmas.List.{map-append}
use Rattle.mc_link.specs.LinkState.{RoomyLink}
use Rattle.mc_proxy.specs.SessionState.{states}
use Rattle.mc_proxy.specs.Joins.{joined_link}
use Rattle.mc_proxy.proofs.proxies.Proxy.join_server.Goals as goal

-- the last place is the number of servers before, and of links before
pub returns-clause-joined : goal.returns-clause-joined
returns-clause-joined c =
    let own = c.self.inside in
    let last : c.len-place.result ≡ length own.ring.servers = omega (arith, c.len-place.ensures, c.self.invariant.linked) in
    rw (← c.self.view_is) (record {
      last = last;
      servers = c.in_ok-ring.ensures.servers;
      points = rw last c.in_ok-ring.ensures.points;
      moves = rw last c.in_ok-ring.ensures.moves;
      sessions = refl;
      losses = refl;
      admitted = refl;
      links =
          let split : states (own.links.items ++ c.joining-link.result ∷ []) ≡ states own.links.items ++ joined_link c.args.up ∷ [] =
          rw (map-append (λ (link : RoomyLink). link.state) own.links.items (c.joining-link.result ∷ []), c.joining-link.ensures) refl in
          rw c.in_ok-push.ensures.items split;
    })
