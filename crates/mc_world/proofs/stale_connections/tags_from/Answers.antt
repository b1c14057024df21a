use Rattle.std.proofs.Common.{rules, ◌≡◌, ◌++◌, ◌∷◌, [], None, Some}
use Rattle.mc_proxy.specs.SessionState.{link_at}
use Rattle.mc_world.specs.WorldState.{proxy_in}
use Rattle.mc_world.proofs.SiteEvents.TagLemmas.{no_more, one_more, tag_at}
use Rattle.mc_world.proofs.stale_connections.tags_from.Goals.{in-Some+in_ok-push_back, in_default}
use Rattle.mc_world.proofs.stale_connections.tags_from.Goals as goal

pub loop-number-preserved : goal.loop-number-preserved
loop-number-preserved c = elim c.match-tag.branch [
  | in-Some+in_ok-push_back w ↦
      let tags_are : c.match-tag.tags.items ≡ c.loop-number.tags.items ++ w.in-Some.tag ∷ [] = search rules in
      let tag_is : tag_at (link_at (proxy_in c.args.proxies.now c.args.proxy).links c.args.place).waiting c.loop-number.number ≡ Some w.in-Some.tag = search rules in
      rw tags_are (one_more (link_at (proxy_in c.args.proxies.now c.args.proxy).links c.args.place).waiting c.args.first c.loop-number.number c.loop-number.tags.items w.in-Some.tag tag_is c.loop-number.invariant)
  | in_default w ↦
      let tags_are : c.match-tag.tags.items ≡ c.loop-number.tags.items = search rules in
      let tag_is : tag_at (link_at (proxy_in c.args.proxies.now c.args.proxy).links c.args.place).waiting c.loop-number.number ≡ None = search rules in
      rw tags_are (no_more (link_at (proxy_in c.args.proxies.now c.args.proxy).links c.args.place).waiting c.args.first c.loop-number.number c.loop-number.tags.items tag_is c.loop-number.invariant)
]
