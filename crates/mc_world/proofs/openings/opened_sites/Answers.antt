use Rattle.std.proofs.Common.{◌≡◌, ◌∙◌, ℕ, ◌+◌, List, [], ◌∷◌, ◌++◌, length, sym, ap, subst, arith}
use Rattle.std.specs.Prelude.{All, replicate}
use Rattle.std.proofs.lemmas.List.{length-append, replicate_more}
use Rattle.std.proofs.lemmas.List.Elements.{All-head, All-tail}
use Rattle.mc_cache.specs.CacheState.{HasRoom, opening_cache}
use Rattle.mc_world.specs.WorldState.{SiteState}
use Rattle.mc_world.specs.Worlds.{first_site}
use Rattle.mc_world.proofs.openings.opened_sites.Goals as goal

-- all stores are left at first
pub loop-store-init : goal.loop-store-init
loop-store-init g c =
    let same = c.into_iter-store-iterator.ensures.into_iter_gives.0 in
    let size : length c.into_iter-store-iterator.result.rest.items ≡ length c.args.stores.items = ap (λ (xs : List g.row.S.Denot). length xs) same in
    record {
      opened = c.in_ok-sites.ensures.items;
      left = omega (arith, size);
      empty = subst (λ (xs : List g.row.S.Denot). All (λ store. g.S.Store.items store ≡ []) xs) (sym same) c.requires.empty;
      room = subst (λ (xs : List g.row.S.Denot). All (λ store. HasRoom c.args.items (g.S.Store.most store)) xs) (sym same) c.requires.room;
    }

-- the next one is empty
pub opened_site-requires-clause-empty : goal.opened_site-requires-clause-empty
opened_site-requires-clause-empty g c =
    All-head (λ store. g.S.Store.items store ≡ []) c.in-Some.store c.next.new.self.rest.items
    (subst (λ (xs : List g.row.S.Denot). All (λ store. g.S.Store.items store ≡ []) xs) c.in-Some.ensures.steps.0 c.loop-store.invariant.empty)

pub opened_site-requires-clause-room : goal.opened_site-requires-clause-room
opened_site-requires-clause-room g c =
    All-head (λ store. HasRoom c.args.items (g.S.Store.most store)) c.in-Some.store c.next.new.self.rest.items
    (subst (λ (xs : List g.row.S.Denot). All (λ store. HasRoom c.args.items (g.S.Store.most store)) xs) c.in-Some.ensures.steps.0 c.loop-store.invariant.room)

-- the stores after it are empty
pub loop-store-preserved : goal.loop-store-preserved
loop-store-preserved g c =
    let steps = c.in-Some.ensures.steps.0 in
    let before : length c.loop-store.store-iterator.rest.items ≡ 1 + length c.next.new.self.rest.items = ap (λ (xs : List g.row.S.Denot). length xs) steps ∙ omega arith in
    let more : length (c.loop-store.yielded ++ c.in-Some.store ∷ []) ≡ length c.loop-store.yielded + 1 = length-append c.loop-store.yielded (c.in-Some.store ∷ []) in
    let left = c.loop-store.invariant.left in
    record {
      opened = c.in_ok-push.ensures.items
          ∙ ap (λ (s : SiteState). c.loop-store.sites.items ++ s ∷ []) c.in_ok-opened_site.ensures.opened
          ∙ ap (λ (ss : List SiteState). ss ++ first_site (opening_cache c.args.budget c.args.items 0) c.args.proxies ∷ []) c.loop-store.invariant.opened
          ∙ replicate_more (length c.loop-store.yielded) (first_site (opening_cache c.args.budget c.args.items 0) c.args.proxies)
          ∙ ap (λ (n : ℕ). replicate n (first_site (opening_cache c.args.budget c.args.items 0) c.args.proxies)) (sym more);
      left = omega (arith, before, more, left);
      empty = All-tail (λ store. g.S.Store.items store ≡ []) c.in-Some.store c.next.new.self.rest.items
          (subst (λ (xs : List g.row.S.Denot). All (λ store. g.S.Store.items store ≡ []) xs) steps c.loop-store.invariant.empty);
      room = All-tail (λ store. HasRoom c.args.items (g.S.Store.most store)) c.in-Some.store c.next.new.self.rest.items
          (subst (λ (xs : List g.row.S.Denot). All (λ store. HasRoom c.args.items (g.S.Store.most store)) xs) steps c.loop-store.invariant.room);
    }
