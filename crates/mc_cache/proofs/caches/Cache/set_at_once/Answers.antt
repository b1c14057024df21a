use Rattle.std.proofs.Common.{◌≡◌, ◌∙◌, length, Ok}
use Rattle.mc_cache.specs.Step.{admission}
use Rattle.mc_cache.specs.Admissions.{lent_content}
use Rattle.mc_cache.proofs.StoredLemmas.{admission-flushed, set_step}
use Rattle.mc_cache.proofs.caches.Cache.set_at_once.Goals as goal

-- what is admitted is so after a flush
pub put_if_held-requires : goal.put_if_held-requires
put_if_held-requires g c =
    let admitted : admission c.args.self.now c.args.key.now (length (lent_content c.args.lent).value) ≡ Ok c.in-Ok.cas = cc in
    rw (c.flush_due.ensures.flushed, c.with.ensures) (admission-flushed c.args.self.now c.args.moment (length (lent_content c.args.lent).value) c.args.key.now ∙ admitted)

pub put_copied-requires-clause-admitted : goal.put_copied-requires-clause-admitted
put_copied-requires-clause-admitted g c =
    let admitted : admission c.args.self.now c.args.key.now (length (lent_content c.args.lent).value) ≡ Ok c.in-Ok.cas = cc in
    rw (c.in-Some.ensures.unchanged, c.in-Some.ensures.back, c.flush_due.ensures.flushed, c.with.ensures)
    (admission-flushed c.args.self.now c.args.moment (length (lent_content c.args.lent).value) c.args.key.now ∙ admitted)

pub returns-in-None-clause-step : goal.returns-in-None-clause-step
returns-in-None-clause-step g c = λ value.
    let admitted : admission c.args.self.now c.args.key.now (length (lent_content c.args.lent).value) ≡ Ok c.in-Ok.cas = cc in
    set_step c.args.self.now c.flush_due.new.self c.put_if_held.new.self c.args.key.now (lent_content c.args.lent) c.with.result c.in-Ok.cas c.args.moment
    (c.flush_due.ensures.distinct c.args.key.now) admitted c.flush_due.ensures.flushed c.with.ensures c.in-None.ensures.held
