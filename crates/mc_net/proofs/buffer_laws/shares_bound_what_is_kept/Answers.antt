use Rattle.mc_net.proofs.BufferLemmas.{ahead_bound, behind_bound, usual_bound}
use Rattle.mc_net.proofs.buffer_laws.shares_bound_what_is_kept.Goals as goal

pub returns-clause-usual : goal.returns-clause-usual
returns-clause-usual c = λ buffers kept after held fits. usual_bound buffers kept after held fits

pub returns-clause-behind : goal.returns-clause-behind
returns-clause-behind c = λ buffers kept after held fits. behind_bound buffers kept after held fits

pub returns-clause-ahead : goal.returns-clause-ahead
returns-clause-ahead c = λ buffers kept after held fits. ahead_bound buffers kept after held fits
