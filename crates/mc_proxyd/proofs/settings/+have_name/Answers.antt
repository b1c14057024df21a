use Rattle.std.proofs.Common.{arith}
use Rattle.mc_proxyd.proofs.NameLemmas.{have_first}
use Rattle.mc_proxyd.proofs.settings.+have_name.Goals as goal

pub returns-then-has_name : goal.returns-then-has_name
returns-then-has_name t c =
    have_first c.args.addresses.now c.address-item.result (omega (arith, c.in-len1-up.len_at_least)) c.address-item.is c.if-has_name.ensures
