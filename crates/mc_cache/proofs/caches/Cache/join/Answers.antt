use Rattle.std.proofs.Common.{◌≡◌, ℕ, List, length, Ok, sym, ◌∙◌}
use Rattle.mc_cache.specs.CacheState.{value_at}
use Rattle.mc_cache.specs.Step.{admission}
use Rattle.mc_cache.specs.Admissions.{joined, renewed}
use Rattle.mc_cache.proofs.StoredLemmas.{stored_is, joined_length}
use Rattle.mc_cache.proofs.caches.Cache.join.Goals as goal

pub returns-in-Ok-clause-step : goal.returns-in-Ok-clause-step
returns-in-Ok-clause-step g c = λ reply.
    let value : List ℕ = value_at c.args.key.now c.args.self.now.items in
    let whole : c.in-Ok.value ≡ joined c.args.side value c.args.block.now = rw c.held-before.ensures at c.in-Ok.ensures in
    let admitted : admission c.args.self.now c.args.key.now (length (joined c.args.side value c.args.block.now)) ≡ Ok c.in_ok-cas.cas =
    rw (joined_length c.args.side value c.args.block.now, sym c.held-before.ensures) (sym c.admit.ensures ∙ c.in_ok-cas.was) in
    stored_is c.args.self.now c.put_held.new.self c.args.key.now (renewed c.args.found (joined c.args.side value c.args.block.now)) c.with.result c.in_ok-cas.cas reply
    admitted (rw whole at c.with.ensures) c.put_held.ensures

pub put_held-requires-clause-admitted : goal.put_held-requires-clause-admitted
put_held-requires-clause-admitted g c =
    let value : List ℕ = value_at c.args.key.now c.args.self.now.items in
    let whole : c.in-Ok.value ≡ joined c.args.side value c.args.block.now = rw c.held-before.ensures at c.in-Ok.ensures in
    let admitted : admission c.args.self.now c.args.key.now (length (joined c.args.side value c.args.block.now)) ≡ Ok c.in_ok-cas.cas =
    rw (joined_length c.args.side value c.args.block.now, sym c.held-before.ensures) (sym c.admit.ensures ∙ c.in_ok-cas.was) in
    rw (c.with.ensures, whole) admitted
