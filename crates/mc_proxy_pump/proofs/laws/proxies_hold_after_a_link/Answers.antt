use Rattle.mc_proxy_pump.proofs.LawLemmas.{after_link_calls}
use Rattle.mc_proxy_pump.proofs.laws.proxies_hold_after_a_link.Goals as goal

pub returns : goal.returns
returns c = after_link_calls c.bytes_sent_to_servers_hold.ensures c.server_bytes_hold.ensures
