use Rattle.mc_proxy_pump.proofs.LawLemmas.{after_calls}
use Rattle.mc_proxy_pump.proofs.laws.proxies_hold_after_a_client.Goals as goal

pub returns : goal.returns
returns c = after_calls
