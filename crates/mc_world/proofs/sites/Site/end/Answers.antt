use Rattle.std.proofs.Common.{rules, ◌≡◌, ◌<◌, ℕ, Some, length, slice_get, refl, sym, subst}
use Rattle.std.proofs.lemmas.Option.{slice_get_read}
use Rattle.mc_server.specs.ServerState.{connection_at}
use Rattle.mc_world.specs.Serving.{ServesProxy}
use Rattle.mc_world.specs.WorldState.{SiteState, StaleState}
use Rattle.mc_world.proofs.PoolEvents.AppliesLemmas.{closes}
use Rattle.mc_world.proofs.sites.Site.end.Goals as goal

pub unwrap-requires : goal.unwrap-requires
unwrap-requires g c =
    let inside : c.args.i < length c.self.inside.lost.items = subst (λ (s : SiteState). c.args.i < length s.lost) (sym c.self.view_is) c.requires.inside in
    let at : slice_get c.self.inside.lost.items c.args.i ≡ Some c.index.result.now = slice_get_read _ _ c.args.i c.index.result.now refl inside (search rules) in
    let serves : (way : StaleState) → slice_get c.self.inside.lost.items c.args.i ≡ Some way → ServesProxy way.connection c.self.inside.server =
    subst (λ (s : SiteState). (way : StaleState) → slice_get s.lost c.args.i ≡ Some way → ServesProxy way.connection s.server) (sym c.self.view_is) c.requires.serves in
    let own : ServesProxy c.connection.result c.self.inside.server = subst (λ (n : ℕ). ServesProxy n c.self.inside.server) (sym c.connection.ensures) (serves c.index.result.now at) in
    closes c.close.result own.end (connection_at c.self.inside.server c.connection.result) own.is_open c.close.ensures.no_connection.0 c.close.ensures.only_no_connection

pub returns : goal.returns
returns g c =
    let inside : c.args.i < length c.self.inside.lost.items = subst (λ (s : SiteState). c.args.i < length s.lost) (sym c.self.view_is) c.requires.inside in
    let at : slice_get c.self.inside.lost.items c.args.i ≡ Some c.index.result.now = slice_get_read _ _ c.args.i c.index.result.now refl inside (search rules) in
    rw (← c.self.view_is) (record {
      way = c.index.result.now;
      way_at = at;
      closes = search rules;
      not_open = search rules;
      all_else = search rules;
    })
