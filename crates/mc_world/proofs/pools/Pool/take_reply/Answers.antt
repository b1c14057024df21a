use Rattle.std.proofs.Common.{rules, ◌≡◌, ◌<◌, true, Some, length, slice_get, refl, sym, subst, arith}
use Rattle.std.proofs.lemmas.Option.{slice_get_read}
use Rattle.mc_proxy.specs.SessionState.{link_at}
use Rattle.mc_proxy.specs.LinkTurns.{Answers, IsLinkTurn}
use Rattle.mc_proxy.specs.declared.turns.LinkStep.{LinkStep}
use Rattle.mc_world.specs.Serving.{PoolServes}
use Rattle.mc_world.specs.WorldState.{proxy_in}
use Rattle.mc_world.proofs.PoolEvents.AppliesLemmas.{at_error, it_does_not, not_whole, pool_of, rests, site_there}
use Rattle.mc_world.proofs.SiteEvents.MoveLemmas.{get_some}
use Rattle.mc_world.proofs.PoolEvents.StillLemmas.{same_pool}
use Rattle.mc_world.proofs.pools.Pool.take_reply.Goals as goal

pub returns-in_default : goal.returns-in_default
returns-in_default g c =
    let serves : PoolServes (pool_of c.self.inside.homes.items c.self.inside.proxies c.self.inside.sites.items) = subst PoolServes (sym c.self.view_is) c.requires.serves in
    let up : (link_at (proxy_in c.self.inside.proxies c.args.proxy).links c.args.place).up ≡ true = search rules in
    let there : c.args.place < length c.self.inside.sites.items = site_there c.args.proxy c.args.place (pool_of c.self.inside.homes.items c.self.inside.proxies c.self.inside.sites.items) serves up in
    let found = get_some c.self.inside.sites.items c.args.place there in
    let own = serves.sites c.args.place found.0 found.1 in
    let turned = c.in_ok-link_turn.ensures.turn in
    let rest = rests c.args.place _ (proxy_in c.self.inside.proxies c.args.proxy) turned.0 c.in_default.not-Took ((own.ways c.args.proxy).never_strange up) turned.1 in
    record {
      takes = rw (← c.self.view_is) (same_pool c.args.proxy c.self.inside.homes.items c.self.inside.proxies c.link_turn.new.self c.self.inside.sites.items turned.0 turned.2 rest.same);
      applies = rw (← c.self.view_is) (it_does_not (λ can. not_whole (link_at (proxy_in c.self.inside.proxies c.args.proxy).links c.args.place) can.1.tag can.1.reply can.1.after rest.idle can.1.takes));
      err = tt;
      err_applies = tt;
    }

pub index_mut-requires : goal.index_mut-requires
index_mut-requires g c =
    let serves : PoolServes (pool_of c.self.inside.homes.items c.self.inside.proxies c.self.inside.sites.items) = subst PoolServes (sym c.self.view_is) c.requires.serves in
    let up : (link_at (proxy_in c.self.inside.proxies c.args.proxy).links c.args.place).up ≡ true = search rules in
    let there : c.args.place < length c.self.inside.sites.items = site_there c.args.proxy c.args.place (pool_of c.self.inside.homes.items c.self.inside.proxies c.self.inside.sites.items) serves up in
    let kept = c.self.inside.sites.ok in
    omega (arith, there, kept)

pub replied-requires : goal.replied-requires
replied-requires g c =
    let serves : PoolServes (pool_of c.self.inside.homes.items c.self.inside.proxies c.self.inside.sites.items) = subst PoolServes (sym c.self.view_is) c.requires.serves in
    let up : (link_at (proxy_in c.self.inside.proxies c.args.proxy).links c.args.place).up ≡ true = search rules in
    let turned = c.in_ok-link_turn.ensures.turn in
    let answers : Answers c.args.place (proxy_in c.self.inside.proxies c.args.proxy) turned.0 =
    subst (λ (t : LinkStep). IsLinkTurn c.args.place t (proxy_in c.self.inside.proxies c.args.proxy) turned.0) c.in-Took.is turned.1 in
    let there : c.args.place < length c.self.inside.sites.items = site_there c.args.proxy c.args.place (pool_of c.self.inside.homes.items c.self.inside.proxies c.self.inside.sites.items) serves up in
    let kept = c.self.inside.sites.ok in
    let at : slice_get c.self.inside.sites.items c.args.place ≡ Some c.index_mut.result.now = slice_get_read _ _ c.args.place c.index_mut.result.now refl (omega (arith, there, kept)) (search rules) in
    let own = serves.sites c.args.place c.index_mut.result.now at in
    (own.ways c.args.proxy).replied answers.tag answers.reply answers.link up answers.takes

pub returns-clause-takes : goal.returns-clause-takes
returns-clause-takes g c =
    let serves : PoolServes (pool_of c.self.inside.homes.items c.self.inside.proxies c.self.inside.sites.items) = subst PoolServes (sym c.self.view_is) c.requires.serves in
    let up : (link_at (proxy_in c.self.inside.proxies c.args.proxy).links c.args.place).up ≡ true = search rules in
    let turned = c.in_ok-link_turn.ensures.turn in
    let answers : Answers c.args.place (proxy_in c.self.inside.proxies c.args.proxy) turned.0 =
    subst (λ (t : LinkStep). IsLinkTurn c.args.place t (proxy_in c.self.inside.proxies c.args.proxy) turned.0) c.in-Took.is turned.1 in
    let there : c.args.place < length c.self.inside.sites.items = site_there c.args.proxy c.args.place (pool_of c.self.inside.homes.items c.self.inside.proxies c.self.inside.sites.items) serves up in
    let kept = c.self.inside.sites.ok in
    let at : slice_get c.self.inside.sites.items c.args.place ≡ Some c.index_mut.result.now = slice_get_read _ _ c.args.place c.index_mut.result.now refl (omega (arith, there, kept)) (search rules) in
    let own = serves.sites c.args.place c.index_mut.result.now at in
    rw (← c.self.view_is) (record {
      there = record { site = c.index_mut.result.now; now = c.replied.new.self; at = at; up = up; sites = refl };
      now = turned.0;
      answers = answers;
      counts = search rules;
      proxy = record { proxies = turned.2; homes = refl };
    })

-- memory is refused only if a whole reply has arrived
pub returns-in_err-link_turn-clause-err_applies : goal.returns-in_err-link_turn-clause-err_applies
returns-in_err-link_turn-clause-err_applies g c =
    let up : (link_at (proxy_in c.self.inside.proxies c.args.proxy).links c.args.place).up ≡ true = search rules in
    rw (← c.self.view_is) (at_error _ c.from_residual.result (up, c.in_err-link_turn.ensures.memory))
