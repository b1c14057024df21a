use Rattle.std.proofs.Common.{[]}
use Rattle.mc_pool_laws.proofs.ProxyLemmas.{sent_one}
use Rattle.mc_pool_laws.proofs.requests.sent_commands_are_one.Goals as goal

pub returns : goal.returns
returns c home proxy ring texts log place a b = sent_one home proxy ring texts place [] log a b
