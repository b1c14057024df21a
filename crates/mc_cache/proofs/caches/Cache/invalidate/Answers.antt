use Rattle.std.proofs.Common.{◌≡◌, ◌∙◌, sym, ap}
use Rattle.mc_reply.specs.declared.replies.Reply.TheVariants.{Deleted}
use Rattle.mc_cache.specs.CacheState.{CacheState, value_at}
use Rattle.mc_cache.specs.Admissions.{body_of}
use Rattle.mc_cache.proofs.StoredLemmas.{invalidated_is}
use Rattle.mc_cache.proofs.caches.Cache.invalidate.Goals as goal

-- the item is stale, and has the next number
pub returns-clause-step : goal.returns-clause-step
returns-clause-step g c = λ value.
    let last : c.self.inside.counter ≡ c.args.self.now.counter = ap (λ (s : CacheState). s.counter) c.self.view_is in
    invalidated_is c.args.self.now c.mark.new.self c.args.key.now (body_of c.args.found (value_at c.args.key.now c.args.self.now.items)) c.in-Some.cas c.next.new.self
    c.requires (rw last at c.in-Some.ensures.number.0) (rw last at c.in-Some.ensures.number.1) (rw last at c.in-Some.ensures.counter) c.mark.ensures.items
    ∙ ap (λ (s : CacheState). (record s { counter = c.next.new.self }, Deleted)) (sym c.self-2.view_is)
