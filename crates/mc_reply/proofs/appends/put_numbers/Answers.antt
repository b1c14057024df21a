use Rattle.std.proofs.Common.{refl}
use Rattle.mc_reply.proofs.appends.put_numbers.Goals as goal

pub returns-clause-put : goal.returns-clause-put
returns-clause-put c =
    rw (c.put_number.ensures.put, c.put_number-bytes_start.ensures.put, c.put_cas-cas_start.ensures.put, c.put_line_end-end.ensures.put, c.from.ensures) refl
