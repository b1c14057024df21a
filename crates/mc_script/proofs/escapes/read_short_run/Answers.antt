use Rattle.std.proofs.Common.{◌∙◌, arith}
use Rattle.mc_script.proofs.EscapeLemmas.{reads_one}
use Rattle.mc_script.proofs.escapes.read_short_run.Goals as goal

pub loop-bytes-preserved : goal.loop-bytes-preserved
loop-bytes-preserved c =
    rw c.in_ok-push.ensures.items (
      c.loop-bytes.invariant.0 ∙ reads_one c.loop-bytes.bytes.items c.loop-bytes.rest.now (grind (arith, c.is_run_over.ensures, c.loop-bytes-test.true)),
      omega (arith, c.loop-bytes.invariant.1),
    )
