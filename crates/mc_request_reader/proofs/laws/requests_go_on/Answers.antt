use Rattle.mc_request.proofs.RequestLemmas.{goes_on}
use Rattle.mc_request_reader.proofs.laws.requests_go_on.Goals as goal

pub returns : goal.returns
returns c = goes_on
