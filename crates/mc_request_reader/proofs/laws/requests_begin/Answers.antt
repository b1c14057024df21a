use Rattle.mc_request.proofs.RequestLemmas.{requests-step}
use Rattle.mc_request_reader.proofs.laws.requests_begin.Goals as goal

pub returns : goal.returns
returns c = requests-step
