use Rattle.mc_script.proofs.EscapeLemmas.{reads_run, run_ends, run_within}
use Rattle.mc_script.proofs.escapes.read_long_run.Goals as goal

pub split_at-requires : goal.split_at-requires
split_at-requires c = rw c.run_length.ensures (run_within c.args.text.now)

pub returns-clause-read : goal.returns-clause-read
returns-clause-read c =
    rw (c.in_ok-extend_from_slice.ensures.items, c.split_at.ensures.front, c.split_at.ensures.back)
    (reads_run c.args.bytes.now.items c.args.text.now c.run_length.result c.run_length.ensures)

pub returns-clause-over : goal.returns-clause-over
returns-clause-over c = rw c.split_at.ensures.back (run_ends c.args.text.now c.run_length.result c.run_length.ensures)
