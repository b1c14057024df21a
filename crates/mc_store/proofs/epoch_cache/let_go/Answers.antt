use Rattle.std.proofs.Common.{◌≡◌, ◌≤◌, ◌<◌, ◌⊎◌, inl, inr, ◌∷◌, ◌∙◌, length, drop, ap, arith}
use Rattle.mc_store.specs.Epochs.{entry_costs}
use Rattle.mc_store.proofs.EpochLemmas.{goes_one}
use Rattle.mc_store.proofs.epoch_cache.let_go.Goals as goal
use Rattle.mc_store.proofs.epoch_cache.let_go.Goals.{else-gone-ge2-via-then-gone-ge2+else-freed-price, else-gone-ge2-via-else-gone-ge2}

-- one more is freed: too few were, or they cost too little
pub loop-cache-preserved : goal.loop-cache-preserved
loop-cache-preserved g c =
    let before = c.loop-cache.invariant in
    let out = before.0.0 in
    let last = c.in-Some.last in
    let one = goes_one (g.M.Recent.entries c.args.cache.now) (g.M.Recent.entries c.loop-cache.cache) (g.M.Recent.entries c.pop_lru.new.self) out last before.0.1 c.in-Some.ensures.last in
    let no_more : (length (last ∷ out) ≤ 2) ⊎ (entry_costs (drop 1 (last ∷ out)) < c.args.price) = elim c.else-gone-ge2.branch [
      | else-gone-ge2-via-then-gone-ge2+else-freed-price w ↦ inr (omega (arith, before.0.3, w.if-freed-price, c.ranges.price.fits))
      | else-gone-ge2-via-else-gone-ge2 w ↦ inl (omega (arith, before.0.2, w.if-gone-ge2))
    ] in (
      (last ∷ out, one.0, omega (arith, before.0.2, c.saturating_add-gone.ensures), omega (arith, before.0.3, c.saturating_add-freed.ensures, c.cost.ensures), no_more),
      omega (arith, one.1, c.len.ensures.len),
      c.pop_lru.ensures.room ∙ before.2,
    )

pub returns-in_default-clause-go : goal.returns-in_default-clause-go
returns-in_default-clause-go g c =
    let none : length (g.M.Recent.entries c.loop-cache.cache) ≡ 0 = ap length c.in_default.ensures.empty.0 in
    absurd (omega (arith, c.len.ensures.len))
