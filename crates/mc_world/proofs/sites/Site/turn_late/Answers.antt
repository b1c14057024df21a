use Rattle.std.proofs.Common.{rules, ◌≡◌, ◌∙◌, ◌<◌, ℕ, Some, drop, length, ◌↔◌, refl, sym, ap, subst, slice_get}
use Rattle.std.proofs.lemmas.Option.{same_Some, slice_get_read}
use Rattle.mc_server.specs.ServerState.{connection_at}
use Rattle.mc_server.specs.Turns.{waiting_of}
use Rattle.mc_world.specs.Happens.{Does, EntersOn}
use Rattle.mc_world.specs.WorldState.{SiteState, StaleState}
use Rattle.mc_world.specs.declared.errors.Step.{Step}
use Rattle.mc_world.specs.declared.errors.Step.TheVariants.{Done}
use Rattle.mc_world.proofs.SiteEvents.TurnLemmas.{entered_late, said_of_way}
use Rattle.mc_world.proofs.sites.Site.turn_late.Goals as goal

pub returns-clause-enters : goal.returns-clause-enters
returns-clause-enters g c =
    let way : StaleState = c.index-way.result.now in
    let inside : c.args.i < length c.self.inside.lost.items = subst (λ (s : SiteState). c.args.i < length s.lost) (sym c.self.view_is) c.requires.inside in
    let at : slice_get c.self.inside.lost.items c.args.i ≡ Some c.index-way.result.now = slice_get_read _ _ c.args.i c.index-way.result.now refl inside (search rules) in
    let first : EntersOn c.connection-connection.result c.args.moment c.in-Some.tag c.self.inside.server c.serve.new.server c.self.inside.history.items c.serve.new.history.items =
    subst (λ (step : Step). Does step (EntersOn c.connection-connection.result c.args.moment c.in-Some.tag c.self.inside.server c.serve.new.server c.self.inside.history.items c.serve.new.history.items)
    ((c.serve.new.server ≡ c.self.inside.server) × (c.serve.new.history.items ≡ c.self.inside.history.items))) c.in-Done.is c.in_ok-serve.ensures.enters in
    let h : EntersOn c.index-way.result.now.connection c.args.moment c.in-Some.tag c.self.inside.server c.serve.new.server c.self.inside.history.items c.serve.new.history.items =
    subst (λ (number : ℕ). EntersOn number c.args.moment c.in-Some.tag c.self.inside.server c.serve.new.server c.self.inside.history.items c.serve.new.history.items) c.connection-connection.ensures first in
    let next : slice_get c.index-way.result.now.untaken 0 ≡ Some c.in-Some.tag = search rules in
    let again : slice_get c.self.inside.lost.items c.args.i ≡ Some c.index_mut.result.now = slice_get_read _ _ c.args.i c.index_mut.result.now refl inside (search rules) in
    let now : c.index_mut.result.now ≡ c.index-way.result.now = same_Some c.index_mut.result.now c.index-way.result.now (sym again ∙ at) in
    let taken : c.taken.new.self ≡ record c.index-way.result.now { untaken = drop 1 c.index-way.result.now.untaken } =
    c.taken.ensures ∙ ap (λ (w : StaleState). record w { untaken = drop 1 w.untaken }) now in
    rw taken (rw (← c.self.view_is) (entered_late c.args.i c.args.moment c.in-Some.tag _ c.serve.new.server c.serve.new.history.items c.index-way.result.now at next h))

pub returns-clause-applies : goal.returns-clause-applies
returns-clause-applies g c =
    let inside : c.args.i < length c.self.inside.lost.items = subst (λ (s : SiteState). c.args.i < length s.lost) (sym c.self.view_is) c.requires.inside in
    let at : slice_get c.self.inside.lost.items c.args.i ≡ Some c.index-way.result.now = slice_get_read _ _ c.args.i c.index-way.result.now refl inside (search rules) in
    rw (← c.self.view_is) (said_of_way (λ (way : StaleState). (Done ≡ Done) ↔ (0 < length (waiting_of (connection_at c.self.inside.server way.connection)))) c.self.inside.lost.items c.args.i c.index-way.result.now at (search rules))
