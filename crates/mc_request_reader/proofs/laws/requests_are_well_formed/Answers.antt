use Rattle.mc_request.proofs.WellFormedLemmas.{requests_good}
use Rattle.mc_request_reader.proofs.laws.requests_are_well_formed.Goals as goal

pub returns : goal.returns
returns c = requests_good
