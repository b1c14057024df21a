use Rattle.std.proofs.Common.{◌≡◌, ◌∙◌, ◌+◌, sym, ap, subst}
use Rattle.mc_world.specs.Happens.{Does, Enters, EntersOn}
use Rattle.mc_world.specs.WorldState.{SiteState, WayState, way_by, with_way}
use Rattle.mc_world.specs.declared.errors.Step.{Step}
use Rattle.mc_world.proofs.SiteEvents.TurnLemmas.{entered_at}
use Rattle.mc_world.proofs.sites.Site.turn.Goals as goal

pub returns-clause-enters : goal.returns-clause-enters
returns-clause-enters g c =
    let old : SiteState = record {
      server = c.self.inside.server;
      history = c.self.inside.history.items;
      begun = c.self.inside.begun;
      ways = c.self.inside.ways.items;
      lost = c.self.inside.lost.items;
    } in
    let way_is : c.way-way.result ≡ way_by old c.args.proxy = c.way-way.ensures ∙ ap (λ (s : SiteState). way_by s c.args.proxy) (sym c.self.view_is) in
    let first : EntersOn c.way-way.result.connection c.args.moment c.args.tag c.self.inside.server c.serve.new.server c.self.inside.history.items c.serve.new.history.items =
    subst (λ (step : Step). Does step (EntersOn c.way-way.result.connection c.args.moment c.args.tag c.self.inside.server c.serve.new.server c.self.inside.history.items c.serve.new.history.items)
    ((c.serve.new.server ≡ c.self.inside.server) × (c.serve.new.history.items ≡ c.self.inside.history.items))) c.in-Done.is c.in_ok-serve.ensures.enters in
    let h : EntersOn (way_by old c.args.proxy).connection c.args.moment c.args.tag c.self.inside.server c.serve.new.server c.self.inside.history.items c.serve.new.history.items =
    subst (λ (w : WayState). EntersOn w.connection c.args.moment c.args.tag c.self.inside.server c.serve.new.server c.self.inside.history.items c.serve.new.history.items) way_is first in
    rw c.set_way.ensures (rw (← c.self.view_is)
    (subst (λ (w : WayState). Enters c.args.proxy c.args.moment c.args.tag old (record old {
      server = c.serve.new.server;
      history = c.serve.new.history.items;
      ways = with_way c.args.proxy (record w { ahead = w.ahead + 1 }) old.ways;
    })) (sym way_is) (entered_at c.args.proxy c.args.moment c.args.tag old c.serve.new.server c.serve.new.history.items h)))
