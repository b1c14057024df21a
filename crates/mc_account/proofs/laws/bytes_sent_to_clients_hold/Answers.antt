use Rattle.mc_account.proofs.HoldsLemmas.{holds-sent}
use Rattle.mc_account.proofs.laws.bytes_sent_to_clients_hold.Goals as goal

pub returns : goal.returns
returns c texts sent order lanes number count old h few = holds-sent texts sent order lanes number count old h
