use Rattle.std.proofs.Common.{◌≡◌}
use Rattle.mc_proxyd.proofs.settings.has_name.Goals as goal

pub returns-in-Err : goal.returns-in-Err
returns-in-Err c = λ spelled text. c.in-Err.ensures spelled (rw c.as_bytes.ensures.bytes text)
