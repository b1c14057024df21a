use Rattle.std.proofs.Common.{◌≡◌, ◌∷◌, length, ap, ◌∙◌, arith}
use Rattle.mc_store.proofs.EpochLemmas.{goes_one}
use Rattle.mc_store.proofs.epoch_cache.let_all_go.Goals as goal

pub loop-cache-preserved : goal.loop-cache-preserved
loop-cache-preserved g c =
    let gone = goes_one (g.M.Recent.entries c.args.cache.now) (g.M.Recent.entries c.loop-cache.cache) (g.M.Recent.entries c.pop_lru.new.self) c.loop-cache.invariant.0.0 c.in-Some._last
    c.loop-cache.invariant.0.1 c.in-Some.ensures.last in
    ((c.in-Some._last ∷ c.loop-cache.invariant.0.0, gone.0), omega (arith, gone.1, c.len.ensures.len), c.pop_lru.ensures.room ∙ c.loop-cache.invariant.2)

pub returns-in_default-clause-entries : goal.returns-in_default-clause-entries
returns-in_default-clause-entries g c =
    let none : length (g.M.Recent.entries c.loop-cache.cache) ≡ 0 = ap length c.in_default.ensures.empty.0 in
    absurd (omega (arith, c.len.ensures.len))
